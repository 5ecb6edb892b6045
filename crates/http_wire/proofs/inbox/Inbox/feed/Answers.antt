use Rattle.http_wire.proofs.Common.{◌≡◌, ◌++◌, List, ℕ, subst, rules, arith, IsFault}
use Rattle.std.proofs.lemmas.Grind.{common_steps}
use Rattle.http_wire.proofs.MessageLemmas.{fault_append}
use Rattle.http_wire.proofs.inbox.Inbox.feed.Goals as goal

pub returns-clause-fault : goal.returns-clause-fault
returns-clause-fault c fault f =
    let longer : c.args.self.now ++ c.args.piece.now ≡ c.extend_from_slice.new.self.items = first_of (search rules, grind (arith, common_steps)) in
    subst (λ (x : List ℕ). IsFault x fault) longer (fault_append c.args.self.now c.args.piece.now fault f)
