-- What is written in a column is what is read of it.
use Rattle.desk_records.proofs.Common.{◌≡◌, ℕ, pos, List, Bool, Option, Some, None, option_map, sym, ◌∙◌, arith, if◌then◌else◌, Value, Int, Text, Blob, Outcome}
use Rattle.desk_records.proofs.Common.{or_null, Approval, outcome_code, approval_code, flag}
use Rattle.desk_records.specs.Codes.{approval_from, approval_in, coded_in, flag_in, flag_of, outcome_from, outcome_in, percentage_or_none_in, place_from}
use Rattle.desk_records.specs.Codes.{place_in}
use Rattle.desk_records.proofs.NumberColumns.{ranged_is}

pub coded : {A : Type 0} (meant : ℕ → Option A) (n : ℕ) (a : A) → coded_in meant (Int (pos n)) ≡ Some a → meant n ≡ Some a
coded meant n a h = grind (arith, h)

pub same_text : (a b : List ℕ) → Text a ≡ Text b → b ≡ a
same_text a b h = cc

pub same_blob : (a b : List ℕ) → Blob a ≡ Blob b → b ≡ a
same_blob a b h = cc

pub same_int : (a b : ℕ) → Int (pos a) ≡ Int (pos b) → b ≡ a
same_int a b h = cc

-- a number of a range is read as itself
pub kept_number : (fits : ℕ → Bool) (n m : ℕ) → coded_in (λ k. if fits k then Some k else None) (Int (pos n)) ≡ Some m → m ≡ n
kept_number fits n m h = same_int n m (ranged_is fits (Int (pos n)) m h)

-- .. and so is a place
pub kept_place : (n m : ℕ) → place_in (Int (pos n)) ≡ Some m → m ≡ n
kept_place n m h = grind (arith, coded place_from n m h)

pub kept_flag : (b c : Bool) → flag_in (Int (pos (flag b))) ≡ Some c → c ≡ b
kept_flag b c h = grind (arith, coded flag_of (flag b) c h)

pub kept_approval : (a c : Approval) → approval_in (Int (pos (approval_code a))) ≡ Some c → c ≡ a
kept_approval a c h = grind (arith, coded approval_from (approval_code a) c h)

pub kept_outcome : (o c : Option Outcome) → outcome_in (Int (pos (outcome_code o))) ≡ Some c → c ≡ o
kept_outcome o c h = grind (arith, coded outcome_from (outcome_code o) c h)

pub kept_percentage_or_none : (o c : Option ℕ) → percentage_or_none_in (or_null (λ n. Int (pos n)) o) ≡ Some c → c ≡ o
kept_percentage_or_none o c h = grind (arith, option_map, kept_number)

-- ---- a value says one thing

pub one_in : {X : Type 0} (read : Option X) (x y : X) → read ≡ Some x → read ≡ Some y → x ≡ y
one_in read x y is other = let same : Some x ≡ Some y = sym is ∙ other in cc

pub one_text : (v : Value) (a b : List ℕ) → v ≡ Text a → v ≡ Text b → a ≡ b
one_text v a b is other = let same : Text a ≡ Text b = sym is ∙ other in cc
