-- Desks that differ by what was counted of them alone.
use Rattle.std.specs.Prelude.{ℕ}
use Rattle.rollout_desk.specs.declared.desk.Desk.{Desk}

-- a desk with these counts of statements, rows and failed calls
abbrev pub counting : {S : Type 0} → Desk S → ℕ → ℕ → ℕ → Desk S
counting desk s r f = record desk { store = record desk.store { calls = record desk.store.calls { work = record { statements = s; rows = r }; failures = f } } }
