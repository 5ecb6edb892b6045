-- What lies at a place of an artifact, whatever rows the table of pieces has.
use Rattle.std.specs.Prelude.{◌&&◌, ℕ, Bool, List}
use Rattle.sqlite_value.specs.Order.{Row}
use Rattle.rollout_machine.specs.Commands.{Bytes}
use Rattle.desk_records.specs.Listings.{AreSaid, has_at}
use Rattle.desk_records.specs.TableRows.{IsPiece}

-- the row is of this artifact and place
abbrev pub lies_at : ℕ → ℕ → Row → Bool
lies_at number place row = has_at 1 number row && has_at 2 place row

-- these pieces, and no other
abbrev pub ArePieces : List Row → ℕ → ℕ → List Bytes → Type 0
ArePieces rows number place pieces = AreSaid rows (lies_at number place) (λ row bytes. IsPiece row number place bytes) pieces
