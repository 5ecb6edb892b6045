use Rattle.desk_commands.proofs.Answering.{◌≡◌, true, found_then_makes, makes_then, are_sorted, tags_of, target_of, Retags, in_order, retags_parts}
use Rattle.desk_commands.proofs.Answering.{tags_distinct}
use Rattle.desk_commands.proofs.targets.retag.Goals as goal

pub returns-clause-writes : goal.returns-clause-writes
returns-clause-writes g c =
    in_order _ _ (found_then_makes {D = λ r next. (c.in_ok-had.had.items ≡ tags_of (target_of r c.args.id.now)) × (are_sorted r.targets ≡ true)
    × Retags c.args.id.now c.args.tags.now r next} c.in_ok-had.ensures.reads (λ r next is h. (is, h.0, h.1)) _
    (makes_then (rw (c.deref.ensures.value, c.as_slice.ensures.value) at c.in_ok-drop_tags.ensures.writes)
    (λ r next h. retags_parts _ _ _ (tags_distinct _ _ c.as_slice.ensures.list c.as_slice.ensures.value) r next h.1 h.0 h.2) _
    (rw (c.deref-2.ensures.value, c.as_slice-2.ensures.value) at c.add_tags.ensures.writes)))
