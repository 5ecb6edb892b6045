-- When the tables of a desk agree, and what a verification says of them.
use Rattle.std.specs.Prelude.{◌≡◌, Bool, true, false, List, [], ◌∷◌, ◌++◌, Option, Some, None}
use Rattle.std.specs.List.{AllByRecursion}
use Rattle.desk_records.specs.Tables.{Tables}
use Rattle.desk_verify.specs.Actions.{AgreesActions, PassesActions}
use Rattle.desk_verify.specs.Artifacts.{AgreesArtifacts}
use Rattle.desk_verify.specs.Groups.{AgreesGroups}
use Rattle.desk_verify.specs.Members.{AgreesMembers}
use Rattle.desk_verify.specs.Offers.{AgreesOffers}
use Rattle.desk_verify.specs.declared.damage.CheckedTable.{CheckedTable}
use Rattle.desk_verify.specs.declared.damage.CheckedTable.TheVariants.{Artifact, Member, RolloutGroup, Action, Offer}

-- the tables in the order in which they are checked
abbrev pub checked : List CheckedTable
checked = Artifact ∷ Member ∷ RolloutGroup ∷ Action ∷ Offer ∷ []

-- it has exactly the rows that its rule gives, each column keeping its rule
abbrev pub Agrees : Tables → CheckedTable → Type 0
Agrees t Artifact = AgreesArtifacts t
Agrees t Member = AgreesMembers t
Agrees t RolloutGroup = AgreesGroups t
Agrees t Action = AgreesActions t
Agrees t Offer = AgreesOffers t

-- it agrees, and what its check reads besides can be read
abbrev pub Passes : Tables → CheckedTable → Type 0
Passes t Action = PassesActions t
Passes t table = Agrees t table

-- those before it pass, and it doesn't agree
pub record NamesFirst (t : Tables) (table : CheckedTable) : Type 0 where
  pub before : List CheckedTable
  pub after : List CheckedTable
  pub order : checked ≡ before ++ table ∷ after
  pub pass : AllByRecursion (Passes t) before
  pub differs : Agrees t table → ⊥

-- the first table that doesn't agree, or all pass
abbrev pub IsDamage : Tables → Option CheckedTable → Type 0
IsDamage t None = AllByRecursion (Passes t) checked
IsDamage t (Some table) = NamesFirst t table

-- the answer of a check: what it found, or what is not so
abbrev pub Settles : Type 0 → Type 0 → Bool → Type 0
Settles P Q true = P
Settles P Q false = Q → ⊥

-- .. of one and the same
abbrev pub SettlesWhether : Type 0 → Bool → Type 0
SettlesWhether P = Settles P P

-- ---- the order of the checks

-- those before it
abbrev pub before : CheckedTable → List CheckedTable
before Artifact = []
before Member = Artifact ∷ []
before RolloutGroup = Artifact ∷ Member ∷ []
before Action = Artifact ∷ Member ∷ RolloutGroup ∷ []
before Offer = Artifact ∷ Member ∷ RolloutGroup ∷ Action ∷ []

-- .. agree
abbrev pub AgreeBefore : CheckedTable → Tables → Type 0
AgreeBefore table t = AllByRecursion (Agrees t) (before table)
