-- Laws of the other files, and the parts of worked texts.
use Rattle.std.specs.Prelude.{◌≡◌, ◌<◌, ◌^◌, true, ℕ, List, [], ◌∷◌, All, codes, decimal, map}
use Rattle.std.specs.List.{flat_map, join_with_byte}
use Rattle.csv.specs.Writing.{default_writer, row_text}
use Rattle.rollout_model.specs.Rules.{is_word}
use Rattle.rollout_model.specs.StateTexts.{action_text}
use Rattle.rollout_model.specs.declared.action_word.ActionWord.{ActionWord}
use Rattle.rollout_model.specs.declared.group_word.GroupWord.{GroupWord}
use Rattle.rollout_model.specs.declared.rollout.Action.{Action}
use Rattle.rollout_model.specs.declared.rollout.Group.{Group}
use Rattle.rollout_model.specs.declared.rollout.Rollout.{Rollout}
use Rattle.rollout_model.specs.declared.rollout_word.RolloutWord.TheVariants.{Running}
use Rattle.desk_files.specs.ActionTables.{table_text}
use Rattle.desk_files.specs.TargetRecords.{Record, field_words}

abbrev pub TagsAreJoined : Type 0
TagsAreJoined = (field : List ℕ) → join_with_byte 32 (field_words field) ≡ field

-- what the type of an action promises
pub record IsActionInRange (a : Action) : Type 0 where
  pub number : a.number < 2 ^ 64
  pub target : is_word a.target ≡ true
  pub group : a.group < 2 ^ 64

abbrev pub table_header : Record
table_header = codes "action" ∷ codes "controllerid" ∷ codes "group" ∷ codes "state" ∷ []

abbrev pub action_record : Action → Record
action_record a = decimal a.number ∷ a.target ∷ decimal a.group ∷ action_text a.word ∷ []

abbrev pub TablesAreCsv : Type 0
TablesAreCsv = (actions : List Action) → All IsActionInRange actions
    → table_text actions ≡ flat_map (row_text default_writer) (table_header ∷ map action_record actions)

-- ---- the parts of worked texts

abbrev pub worked_rollout : Rollout
worked_rollout = record { number = 1; name = codes "spring"; set_number = 1; filter_text = codes "name==*"; word = Running; groups = 3; targets = 10 }

abbrev pub worked_group : ℕ → ℕ → ℕ → GroupWord → Group
worked_group number size ok word = record { number = number; size = size; ok = ok; bad = 0; gone = 0; success = 50; error = 100; word = word }

abbrev pub worked_action : ℕ → List ℕ → ActionWord → Action
worked_action number target word = record { number = number; rollout = 1; group = 1; target = target; word = word }
