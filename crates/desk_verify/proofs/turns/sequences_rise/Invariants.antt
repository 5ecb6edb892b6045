use Rattle.desk_verify.proofs.Common.{◌≡◌, drop, map, SequencedEntry, rise, sequences_rise}
use Rattle.desk_verify.proofs.turns.sequences_rise.Given as goal

-- the rest rises where all do
abbrev pub invariant-loop-entry : goal.invariant-loop-entry
invariant-loop-entry l = rise l.last (map (λ (e : SequencedEntry). e.sequence) (drop l.entry-index l.entries)) ≡ sequences_rise l.fn.entries
