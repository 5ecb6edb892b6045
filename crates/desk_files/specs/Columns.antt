-- Numbers in columns.
use Rattle.std.specs.Prelude.{ℕ, ◌-◌, List, ◌++◌, length, replicate, decimal}

-- a number on the right of so many places; one that has more digits stands whole
abbrev pub right : ℕ → ℕ → List ℕ
right places number = replicate (places - length (decimal number)) 32 ++ decimal number
