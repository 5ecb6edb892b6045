-- The creation of a rollout: what it rests on, and what it writes.
use Rattle.std.specs.Prelude.{◌≡◌, ℕ, ◌+◌, Bool, true, false, not, nat_eq, List, [], ◌∷◌, ◌++◌, length, is_none}
use Rattle.std.specs.List.{list_all}
use Rattle.rollout_machine.specs.Commands.{Bytes, RolloutPlan}
use Rattle.rollout_machine.specs.GroupRules.{GroupRule}
use Rattle.rollout_machine.specs.Ranges.{each_from}
use Rattle.rollout_machine.specs.RecordSteps.{new_group}
use Rattle.rollout_machine.specs.Records.{Records}
use Rattle.rollout_machine.specs.Rollouts.{chosen}
use Rattle.rollout_machine.specs.StateWords.{RolloutWord, word_from}
use Rattle.rollout_machine.specs.declared.records.ActionRecord.{ActionRecord}
use Rattle.rollout_machine.specs.declared.records.RolloutRecord.{RolloutRecord}
use Rattle.rollout_model.specs.declared.approval.Approval.{Approval}
use Rattle.rollout_model.specs.declared.rollout.Rollout.{Rollout}
use Rattle.target_filter.specs.Profile.{filter_of}
use Rattle.campaign_core.specs.declared.rollout_checks.plans.NewRollout.{NewRollout}
use Rattle.desk_records.specs.Holds.{Ledger}
use Rattle.desk_records.specs.LedgerSteps.{with_rollouts, with_rules}
use Rattle.desk_commands.specs.declared.creation.Chosen.{Chosen}

-- ---- the members

-- what the filter of a text chooses of the targets
pub record IsChosen (text : Bytes) (r : Records) (found : Chosen) : Type 0 where
  pub bad_filter : found.bad_filter ≡ is_none (filter_of text)
  pub members : found.members.items ≡ chosen (filter_of text) r.targets

-- ---- the rollout

-- of a rollout that isn't started
abbrev pub IsWordOf : Approval → RolloutWord → Type 0
IsWordOf approval word = (finished paused : Bool) → word ≡ word_from approval false finished paused

abbrev pub shown_new : RolloutPlan → ℕ → RolloutWord → ℕ → Rollout
shown_new plan number word members = record {
  number = number;
  name = plan.name;
  set_number = plan.set_number;
  filter_text = plan.filter_text;
  word = word;
  groups = plan.groups.count;
  targets = members;
}

-- with so many of the groups into which a number of members is cut, and with these of its members
abbrev pub in_part : NewRollout → RolloutPlan → ℕ → ℕ → List Bytes → RolloutRecord
in_part n plan size groups members = record {
  number = n.number;
  plan = plan;
  members = members;
  approval = n.approval;
  started = false;
  paused = false;
  groups = each_from (new_group plan size) 1 groups;
}

-- with one more rollout, and with what is said of its groups
abbrev pub and_rollout : RolloutRecord → List GroupRule → Ledger → Ledger
and_rollout x rules l = with_rules (with_rollouts l (l.records.rollouts ++ x ∷ [])) (l.rules ++ rules ∷ [])

-- the rollout is put behind those that are there, under the next number, and this is said of its groups; no action is its
pub record CreatesRollout (x : RolloutRecord) (rules : List GroupRule) (l next : Ledger) : Type 0 where
  pub number_is : x.number ≡ length l.records.rollouts + 1
  pub ruled : length l.rules ≡ length l.records.rollouts
  pub unacted : list_all (λ (a : ActionRecord). not (nat_eq a.rollout x.number)) l.records.actions ≡ true
  pub next_is : next ≡ and_rollout x rules l
