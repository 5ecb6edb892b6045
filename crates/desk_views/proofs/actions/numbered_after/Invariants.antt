use Rattle.desk_views.proofs.Answering.{◌≡◌, ◌+◌, length, numbered, entry_by}
use Rattle.desk_views.proofs.actions.numbered_after.Given as goal

-- those that were gone through
abbrev pub invariant-loop-entry : goal.invariant-loop-entry
invariant-loop-entry l = record {
  last : l.last ≡ l.before + length l.yielded;
  all : l.all.items ≡ numbered (entry_by l.numbers) (l.before + 1) l.yielded;
}
