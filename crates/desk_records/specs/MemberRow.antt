-- What the row of a member is read as.
use Rattle.std.specs.Prelude.{◌≡◌, Bool, true, ◌&&◌, Some}
use Rattle.sqlite_value.specs.declared.value.Value.TheVariants.{Text}
use Rattle.sqlite_value.specs.Order.{Row, column}
use Rattle.desk_records.specs.Columns.{has_size, has_word, small_number}
use Rattle.desk_records.specs.declared.member_row.PlacedMember.{PlacedMember}

-- the row of id and place
pub record IsPlacedRow (row : Row) (m : PlacedMember) : Type 0 where
  pub id : column row 0 ≡ Text m.id
  pub word : has_word (column row 0) ≡ true
  pub place : small_number (column row 1) ≡ Some m.place

-- both columns keep their rules
abbrev pub keeps_member_rules : Row → Bool
keeps_member_rules row = has_word (column row 0) && has_size (column row 1)
