-- What columns with a code, or with a number of a range, are read as.
use Rattle.std.specs.Prelude.{ℕ, Bool, true, false, not, nat_eq, List, [], ◌∷◌, Option, Some, None, if◌then◌else◌}
use Rattle.std.specs.Option.{option_and_then, option_map}
use Rattle.sqlite_value.specs.declared.value.Value.{Value}
use Rattle.sqlite_value.specs.declared.value.Value.TheVariants.{Null}
use Rattle.rollout_machine.specs.declared.outcome.Outcome.{Outcome}
use Rattle.rollout_machine.specs.declared.outcome.Outcome.TheVariants.{Good, Bad, Gone}
use Rattle.rollout_model.specs.Rules.{kept_if, is_number, is_feedback_number, is_group_count, is_percentage}
use Rattle.rollout_model.specs.declared.approval.Approval.{Approval}
use Rattle.rollout_model.specs.declared.approval.Approval.TheVariants.{Waiting, Denied, Given}
use Rattle.desk_records.specs.Columns.{small_number}
use Rattle.desk_records.specs.declared.table_columns.Column.{Column}

-- ---- the codes

abbrev pub flag_of : ℕ → Option Bool
flag_of n = if nat_eq n 0 then Some false else (if nat_eq n 1 then Some true else None)

abbrev pub approval_from : ℕ → Option Approval
approval_from n = if nat_eq n 0 then Some Waiting else (if nat_eq n 1 then Some Given else (if nat_eq n 2 then Some Denied else None))

abbrev pub flag : Bool → ℕ
flag b = if b then 1 else 0

abbrev pub approval_code : Approval → ℕ
approval_code Waiting = 0
approval_code Given = 1
approval_code Denied = 2

-- 0 while it is open
abbrev pub outcome_code : Option Outcome → ℕ
outcome_code None = 0
outcome_code (Some Good) = 1
outcome_code (Some Bad) = 2
outcome_code (Some Gone) = 3

-- None in Some is open
abbrev pub outcome_from : ℕ → Option (Option Outcome)
outcome_from n = if nat_eq n 0 then Some None else (if nat_eq n 1 then Some (Some Good) else
    (if nat_eq n 2 then Some (Some Bad) else (if nat_eq n 3 then Some (Some Gone) else None)))

-- ---- a column

-- a number of 32 bits that stands for something
abbrev pub coded_in : {A : Type 0} → (ℕ → Option A) → Value → Option A
coded_in meant v = option_and_then meant (small_number v)

abbrev pub flag_in : Value → Option Bool
flag_in = coded_in flag_of

abbrev pub approval_in : Value → Option Approval
approval_in = coded_in approval_from

abbrev pub outcome_in : Value → Option (Option Outcome)
outcome_in = coded_in outcome_from

abbrev pub number_in : Value → Option ℕ
number_in = coded_in (kept_if is_number)

-- a place, counted from 1
abbrev pub place_from : ℕ → Option ℕ
place_from n = if nat_eq n 0 then None else Some n

abbrev pub place_in : Value → Option ℕ
place_in = coded_in place_from

abbrev pub feedback_number_in : Value → Option ℕ
feedback_number_in = coded_in (kept_if is_feedback_number)

abbrev pub group_count_in : Value → Option ℕ
group_count_in = coded_in (kept_if is_group_count)

abbrev pub percentage_in : Value → Option ℕ
percentage_in = coded_in (kept_if is_percentage)

-- None in Some is no value
abbrev pub percentage_or_none_in : Value → Option (Option ℕ)
percentage_or_none_in Null = Some None
percentage_or_none_in v = option_map Some (percentage_in v)

-- ---- a row

-- the first column whose rule isn't kept
abbrev pub first_broken : List (Bool × Column) → Option Column
first_broken [] = None
first_broken ((kept, c) ∷ more) = if not kept then Some c else first_broken more
