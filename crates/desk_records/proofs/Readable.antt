-- The tables of the newest version hold records as the program keeps them.
use Rattle.desk_records.proofs.Common.{◌≡◌, ◌≤◌, ℕ, List, [], ◌∷◌, Option, Some, if◌then◌else◌, nat_eq, sym, ap, ◌∙◌, arith, AllByRecursion, Database, Records}
use Rattle.desk_records.proofs.Common.{Place, Desk, HoldsRecords, newest, version_number, places_at}
use Rattle.desk_records.specs.Readable.{HoldsAt, HoldsPlace, HoldsReadable}
use Rattle.desk_records.specs.declared.version.Version.{Version}
use Rattle.desk_records.specs.declared.version.Version.TheVariants.{One, Two, Three}
use Rattle.desk_records.proofs.EachPlace.{each_place}

-- what holds of each holds of all in a list
pub of_all : {X : Type 0} (P : X → Type 0) → ((t : X) → P t) → (ts : List X) → AllByRecursion P ts
of_all P each [] = tt
of_all P each (t ∷ ts) = (each t, of_all P each ts)

module _ (db : Database) (r : Records) where
  pub at_newest : HoldsRecords db r → HoldsAt newest db r
  at_newest h = grind (arith, of_all)

  pub from_newest : HoldsAt newest db r → HoldsRecords db r
  from_newest h =
      let each = each_place (λ t. HoldsPlace newest db r (h.spot t) t) h.tables in
      record { sound = h.sound; spot = h.spot; stands = λ t. (each t).0; rows = λ t. (each t).1; sorted = h.sorted; keyed = h.keyed }

  pub newest_is_readable : HoldsRecords db r → HoldsReadable db r
  newest_is_readable h = (newest, at_newest h)

-- ---- of each version

-- the table `desk` is the first
pub has_desk : (v : Version) (P : Place → Type 0) → AllByRecursion P (places_at v) → P Desk
has_desk v h1 all = grind arith

pub is_known : (v : Version) → version_number v ≤ version_number newest
is_known v = grind arith

-- the one of a number
abbrev numbered : ℕ → Option Version
numbered n = if nat_eq n 1 then Some One else (if nat_eq n 2 then Some Two else Some Three)

is_numbered : (v : Version) → numbered (version_number v) ≡ Some v
is_numbered v = grind arith

pub one_numbered : (v w : Version) → version_number v ≡ version_number w → v ≡ w
one_numbered v w same = let both : Some v ≡ Some w = sym (is_numbered v) ∙ ap numbered same ∙ is_numbered w in cc
