-- The tables of a version, as the code lists them.
use Rattle.desk_opening.proofs.Common.{arith, ◌≡◌, ◌<◌, ◌≤◌, ℕ, Bool, true, false, not, IsTrue, sym, List, map, length, take, get_or, Some, subst}
use Rattle.desk_opening.proofs.Common.{AllByRecursion}
use Rattle.desk_opening.proofs.Common.{list_any, take_all, Schema, table_named, none_from_any, is_used, LeavesFree, Place, name_of, DeskTable, place_of}
use Rattle.sqlite_keyed.proofs.ListLemmas.{all_map, all_unmap, any_from_none}
use Rattle.sqlite_trees.proofs.ListLemmas.{all-get_or}

module _ (ds : List DeskTable) (places : List Place) (same : map place_of ds ≡ places) where
  of_tables : (P : Place → Type 0) → AllByRecursion P places → AllByRecursion (λ d. P (place_of d)) ds
  of_tables P all = all_unmap P place_of ds (subst (AllByRecursion P) (sym same) all)

  of_places : (P : Place → Type 0) → AllByRecursion (λ d. P (place_of d)) ds → AllByRecursion P places
  of_places P all = subst (AllByRecursion P) same (all_map P place_of ds all)

  -- what holds of all that a loop has seen, once it has seen them all
  pub all_seen : (P : Place → Type 0) (n : ℕ) → length ds ≤ n → AllByRecursion (λ d. P (place_of d)) (take n ds) → AllByRecursion P places
  all_seen P n seen all = of_places P (subst (AllByRecursion (λ d. P (place_of d))) (take_all n ds seen) all)

  -- what holds of all holds of each
  pub each_seen : (P : Place → Type 0) → AllByRecursion P places → (n : ℕ) (d : DeskTable) → n < length ds → P (place_of (get_or ds n d))
  each_seen P all n d within = all-get_or (λ d. P (place_of d)) ds n d (of_tables P all) within

  pub some_used : (s : Schema) → LeavesFree s (map name_of places) → list_any (λ d. is_used s (name_of (place_of d))) ds ≡ false
  some_used s free = grind (arith, any_from_none, of_tables, all_unmap)

  pub none_used : (s : Schema) → list_any (λ d. is_used s (name_of (place_of d))) ds ≡ false → LeavesFree s (map name_of places)
  none_used s none = all_map (λ name. is_used s name ≡ false) name_of places
      (of_places (λ t. is_used s (name_of t) ≡ false) (none_from_any (λ d. is_used s (name_of (place_of d))) ds none))

pub not_used : (used : Bool) → IsTrue (not used) → used ≡ false
not_used used h = grind arith

-- a table's name is used
pub used_at : (s : Schema) (name : List ℕ) (at : ℕ) → table_named s name ≡ Some at → is_used s name ≡ true
used_at s name at h = rw h
