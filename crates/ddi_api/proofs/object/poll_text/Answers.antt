use Rattle.ddi_api.proofs.Common.{rules, ◌≡◌, sym, ◌∙◌, poll_letters}
use Rattle.ddi_api.proofs.LettersLemmas.{poll_spelled}
use Rattle.ddi_api.proofs.object.poll_text.Goals as goal

pub returns : goal.returns
returns c =
    let written : c.extend_from_slice-2.new.self.items ≡ poll_letters c.args.id.now c.args.offer = search rules in
    written ∙ sym (poll_spelled c.args.id.now c.args.offer)
