-- The table of a rollout's actions, letter by letter.
use Rattle.std.specs.Prelude.{ℕ, List, ◌++◌, codes, decimal}
use Rattle.std.specs.List.{flat_map}
use Rattle.rollout_model.specs.StateTexts.{action_text}
use Rattle.rollout_model.specs.declared.rollout.Action.{Action}

abbrev pub action_line : Action → List ℕ
action_line a = decimal a.number ++ codes "," ++ a.target ++ codes "," ++ decimal a.group ++ codes "," ++ action_text a.word ++ codes "\n"

abbrev pub table_text : List Action → List ℕ
table_text actions = codes "action,controllerid,group,state\n" ++ flat_map action_line actions
