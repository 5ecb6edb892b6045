-- A change that fills the tables of the newest version.
use Rattle.std.specs.Prelude.{◌≡◌, ℕ, List, [], map, Some}
use Rattle.rollout_model.specs.declared.group_rule.GroupRule.{GroupRule}
use Rattle.rollout_machine.specs.ByteStrings.{item_numbered}
use Rattle.rollout_machine.specs.GroupRules.{even_rules}
use Rattle.rollout_machine.specs.Ranges.{each_from}
use Rattle.rollout_machine.specs.Records.{Records}
use Rattle.rollout_machine.specs.declared.records.RolloutRecord.{RolloutRecord}
use Rattle.desk_records.specs.Holds.{Ledger, ledger_of}
use Rattle.desk_records.specs.LedgerSteps.{set_numbered, with_rules}
use Rattle.desk_records.specs.Schema.{Rollouts}
use Rattle.desk_records.specs.Versions.{IsTellable}
use Rattle.desk_records.specs.declared.version.Version.{Version}
use Rattle.desk_records.specs.declared.version.Version.TheVariants.{One, Two, Three}
use Rattle.desk_store.specs.Readable.{KeepsColumns}
use Rattle.desk_opening.specs.Counting.{AreReadable}

-- ---- what is made

-- the same is said of each of the first so many groups of a rollout of whose groups nothing is said
pub record WritesCopies (number groups : ℕ) (rule : GroupRule) (l next : Ledger) : Type 0 where
  pub none : item_numbered l.rules number ≡ Some []
  pub next_is : next ≡ with_rules l (set_numbered l.rules number (each_from (λ i. rule) 1 groups))

-- of each group of a rollout what the rollout says of all
pub record FillsRollout (number : ℕ) (l next : Ledger) : Type 0 where
  pub rollout : RolloutRecord
  pub is_there : item_numbered l.records.rollouts number ≡ Some rollout
  pub none : item_numbered l.rules number ≡ Some []
  pub next_is : next ≡ with_rules l (set_numbered l.rules number (even_rules rollout.plan))

-- nothing is said of any group
abbrev pub no_rules : List RolloutRecord → List (List GroupRule)
no_rules xs = map (λ (x : RolloutRecord). []) xs

pub record WritesRules (l next : Ledger) : Type 0 where
  pub none : l.rules ≡ no_rules l.records.rollouts
  pub next_is : next ≡ with_rules l (map (λ (x : RolloutRecord). even_rules x.plan) l.records.rollouts)

-- nothing is said of any group yet, and the rollouts can be read
pub record GivenRules (l : Ledger) : Type 0 where
  pub none : l.rules ≡ no_rules l.records.rollouts
  pub keep : KeepsColumns Rollouts l

-- ---- from version to version

-- what a version says of groups
abbrev pub bare_rules : Version → Records → List (List GroupRule)
bare_rules One r = no_rules r.rollouts
bare_rules Two r = (ledger_of r).rules
bare_rules Three r = (ledger_of r).rules

-- What all tables hold where those that the version doesn't have were made with no row. No feedback bears a number where the version has no table of them.
abbrev pub bare_ledger : Version → Records → Ledger
bare_ledger v r = with_rules (ledger_of r) (bare_rules v r)

-- they do, and the rollouts can be read
pub record GivenBare (v : Version) (l : Ledger) : Type 0 where
  pub records : Records
  pub bare : l ≡ bare_ledger v records
  pub readable : AreReadable records

-- they hold what follows from the records
pub record FillsLater (v : Version) (l next : Ledger) : Type 0 where
  pub records : Records
  pub tellable : IsTellable v records
  pub bare : l ≡ bare_ledger v records
  pub next_is : next ≡ ledger_of records
