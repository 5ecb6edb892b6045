-- How the outcome of an action fits its history.
use Rattle.std.specs.Prelude.{List, [], ◌∷◌, Option, None}
use Rattle.std.specs.Option.{option_or}
use Rattle.rollout_machine.specs.Actions.{outcome_said}
use Rattle.rollout_machine.specs.Reports.{HistoryEntry}
use Rattle.rollout_machine.specs.Commands.{Outcome}

-- that of the first entry that gives one
abbrev pub first_outcome : List HistoryEntry → Option Outcome
first_outcome [] = None
first_outcome (e ∷ es) = option_or (outcome_said e.said) (first_outcome es)
