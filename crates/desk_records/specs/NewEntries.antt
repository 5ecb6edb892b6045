-- What is written of feedback: what the row of a history's entry tells, and the number of the entry.
use Rattle.std.specs.Prelude.{◌≡◌, [], ◌∷◌, pos, string_bytes}
use Rattle.sqlite_value.specs.declared.value.Value.TheVariants.{Int, Text}
use Rattle.rollout_machine.specs.Reports.{Reported}
use Rattle.rollout_machine.specs.Verdicts.{says_note}
use Rattle.desk_records.specs.Actions.{told_entry}
use Rattle.desk_records.specs.declared.new_entry.NewEntry.{NewEntry}

pub record TellsEntry (reported : Reported) (told : NewEntry) : Type 0 where
  pub row : told_entry reported.entry ≡ Int (pos told.kind) ∷ Int (pos told.word) ∷ Text (string_bytes told.details) ∷ []
  pub is_note : told.is_note ≡ says_note reported.entry.said
  pub number : told.number ≡ reported.number
