use Rattle.desk_views.proofs.Answering.{◌≡◌, None, refl, map, ap, ◌∙◌, arith, slice_get, known, found_then, ledger_found, listed_shown, actions_of_target}
use Rattle.desk_views.proofs.Answering.{none_shown, part_shown}
use Rattle.std.proofs.lemmas.Option.{slice_get_past, slice_get_read}
use Rattle.desk_views.proofs.actions.read_actions_on.Goals as goal

pub returns-in_default-clause-reads : goal.returns-in_default-clause-reads
returns-in_default-clause-reads g c =
    let gone : slice_get c.args.numbers.now c.args.page.offset ≡ None = grind (arith, slice_get_past) in
    known (λ r of are. none_shown c.args.page c.args.numbers.now (actions_of_target r c.args.id.now) c.new.result.items are gone c.new.ensures.items)

pub returns-clause-reads : goal.returns-clause-reads
returns-clause-reads g c =
    let at = c.in-Some.ensures.lookup in
    found_then (ledger_found _ c.in_ok-listed.ensures.reads) _ c.read_all_shown.ensures.reads
    (λ r found from each of are. part_shown r c.args.id.now c.args.page c.in-Some.first.now c.args.numbers.now c.in_ok-listed.listed.items found.items are
    (slice_get_read c.args.numbers.now _ _ c.in-Some.first.now refl at.3.0 at.1) from (each of ∙ ap (map (listed_shown r)) c.deref.ensures.value))
