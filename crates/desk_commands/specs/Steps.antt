-- A command inside a change, where the records are those of a list of accepted commands.
use Rattle.std.specs.Prelude.{◌≡◌, Some, None, Result, IfOk}
use Rattle.sqlite.specs.State.{State, HasCleanDisk}
use Rattle.sql_calls.specs.Standing.{Wears, Sees}
use Rattle.rollout_machine.specs.Answers.{command_reply}
use Rattle.rollout_machine.specs.CommandList.{CommandList}
use Rattle.rollout_machine.specs.Commands.{Command}
use Rattle.rollout_machine.specs.Records.{records}
use Rattle.rollout_machine.specs.RecordSteps.{step_records}
use Rattle.rollout_machine.specs.Validity.{IsValid}
use Rattle.rollout_machine.specs.Verdicts.{check}
use Rattle.rollout_machine.specs.Views.{reply_of}
use Rattle.desk_records.specs.Holds.{HoldsLedger, ledger_of}
use Rattle.desk_commands.specs.declared.step.Step.{Step}
use Rattle.desk_commands.specs.declared.step.Step.TheVariants as step

-- ---- a command inside a change, at a list of accepted commands

-- It is accepted, its records are written and its reply is made; or it is refused.
abbrev pub StepsTo : State → State → Command → Step → Type 0
StepsTo old new c (step.Accepted reply) = (h : CommandList) → IsValid h → Sees HoldsLedger old (ledger_of (records h))
    → Sees HoldsLedger new (ledger_of (step_records (records h) c))
    × (HasCleanDisk new → (check (records h) c ≡ None) × (reply_of reply ≡ command_reply c (step_records (records h) c)))
StepsTo old new c (step.Refused refusal) = (h : CommandList) → IsValid h → Sees HoldsLedger old (ledger_of (records h)) → HasCleanDisk new
    → check (records h) c ≡ Some refusal

-- What it leaves of the change where it fails, `StaysIn` of `desk_store` says.
pub record Steps {E : Type 0} (old new : State) (c : Command) (result : Result Step E) : Type 0 where
  pub wears : Wears old new
  pub steps : IfOk result (λ it. StepsTo old new c it)
