-- What a feedback takes: a new report is told, and of another one no more is read than the entry that bears its number.
use Rattle.desk_commands.proofs.Common.{◌≡◌, ◌≤◌, ℕ, ◌+◌, Bool, true, cond, Option, Some, arith, Standing, says_fresh, more_reads, reads_for, if_numbered}
use Rattle.sql_calls.specs.declared.calls.Work.{Work}
use Rattle.desk_store.specs.Counting.{Adds}

more_within : (s : Option Standing) → more_reads s ≤ 1
more_within s = grind arith

-- what is seen, and then written, where it is new
pub taken_within : {a b c : Work} (n : Option ℕ) (s : Standing) (acts : Bool) → (acts ≡ true → says_fresh s ≡ true)
    → Adds (5 + reads_for n (Some s)) (6 + reads_for n (Some s)) a b → Adds (cond acts (7 + if_numbered n 1) 0) (cond acts 1 0) b c
    → Adds (12 + if_numbered n 2) (7 + if_numbered n 1) a c
taken_within n s acts fresh first second = grind (arith, more_within)
