use Rattle.desk_commands.proofs.Answering.{is_none, chosen, sym, ap, ◌∙◌, finds_as, filter_of}
use Rattle.std.specs.Prelude.{Some}
use Rattle.desk_reads.proofs.Matches.{of_tree}
use Rattle.desk_commands.proofs.creation.choose.Goals as goal

pub returns-clause-reads : goal.returns-clause-reads
returns-clause-reads g c =
    let known = c.in-Ok.ensures.profile in
    let tree = (c.computed_filter.ensures.tree c.as_str-words.result.now known.0).1 known.1 in
    finds_as c.in_ok-members.ensures.reads
    (λ r is.
    let its = ap filter_of (sym c.as_str-words.ensures) ∙ tree in
    let members = of_tree _ known.0 c.in_ok-members.members.items (λ f. chosen (Some f) r.targets) is (ap filter_of c.in-Ok.ensures.text ∙ tree) in
    record { bad_filter = sym (ap is_none its); members = members ∙ sym (ap (λ o. chosen o r.targets) its) })
