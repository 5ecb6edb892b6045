-- What is read for the check of the groups of one rollout, and what each rollout is to have.
use Rattle.std.specs.Prelude.{◌≡◌, ◌≤◌, ℕ, List}
use Rattle.rollout_machine.specs.GroupRules.{GroupRule}
use Rattle.rollout_machine.specs.Groupings.{Grouping}
use Rattle.desk_records.specs.FoundPieces.{lies_at}
use Rattle.desk_records.specs.Listings.{IsOnly}
use Rattle.desk_records.specs.Schema.{Rules}
use Rattle.desk_records.specs.Tables.{Tables}
use Rattle.desk_store.specs.RawLists.{SaysRule}
use Rattle.desk_store.specs.RuleTables.{HasGroupCount, HaveRules}
use Rattle.desk_verify.specs.Groups.{HasGroup, IsCutBy}

-- each row of group i says this, and there is one
abbrev pub HasOnlyRule : Tables → ℕ → ℕ → GroupRule → Type 0
HasOnlyRule t rollout i rule = IsOnly (t Rules) (lies_at rollout i) SaysRule rule

-- .. of each group from 1 on
abbrev pub HaveOnlyRules : Tables → ℕ → List GroupRule → Type 0
HaveOnlyRules t rollout rules = HaveRules (HasOnlyRule t rollout) 1 rules

-- the rollout is cut so and in no other way
pub record IsCutOnlyBy (t : Tables) (rollout : ℕ) (groups : Grouping) : Type 0 where
  pub cut : IsCutBy t rollout groups
  pub only : (others : Grouping) → IsCutBy t rollout others → others ≡ groups

-- the rollout has a group of each number
abbrev pub HasEach : Tables → ℕ → Type 0
HasEach t rollout = (n i : ℕ) → HasGroupCount t rollout n → 1 ≤ i → i ≤ n → HasGroup t rollout i
