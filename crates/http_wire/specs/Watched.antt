-- Readers and writers that remember a failure.
use Rattle.std.specs.Prelude.{ℕ, Bool, true, ◌&&◌, ◌==◌, not, List, length, Result, Ok, Err}
use Rattle.http_wire.specs.declared.watched.Watched.{Watched}

-- the reader or writer itself
abbrev pub inner_of : {T : Type 0} → Watched T → T
inner_of w = w.inner

-- whether a call of it failed
abbrev pub has_failed : {T : Type 0} → Watched T → Bool
has_failed w = w.failed

-- an error, or nothing taken of bytes that aren't none
abbrev pub is_bad_write : {E : Type 0} → Result ℕ E → List ℕ → Bool
is_bad_write (Ok n) bytes = (n == 0) && not (length bytes == 0)
is_bad_write (Err e) bytes = true
