-- The texts that begin and end a change.
use Rattle.std.specs.Prelude.{ℕ, List, codes}

abbrev pub begin_text : List ℕ
begin_text = codes "BEGIN"
