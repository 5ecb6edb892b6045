-- Targets as they are listed, and then read by their ids.
use Rattle.desk_reads.proofs.Common.{arith, ◌≡◌, ℕ, true, false, List, [], ◌∷◌, map, find, take, drop, Option, Some, None, refl, sym, ap, ◌∙◌, and_parts}
use Rattle.desk_reads.proofs.Common.{or_parts}
use Rattle.desk_reads.proofs.Common.{contains_word, Records, Target, IsSorted, not_above, are_sorted, ids_of, in_byte_order}
use Rattle.desk_reads.proofs.Common.{sorted_from, has_id, same_refl}
use Rattle.std.proofs.IntoIterSteps.{All-taken}
use Rattle.std.specs.Prelude.{Bool, filter}
use Rattle.std.proofs.lemmas.List.{drop-map, take-map}
use Rattle.std.specs.Iterator.{Yields}
use Rattle.std.specs.Vec.Iter.{into_iter_items, into_iter_steps}
use Rattle.std.specs.declared.vec.IntoIter.{IntoIter}
use Rattle.desk_records.specs.TargetRow.{listed_target}
use Rattle.desk_reads.specs.Targets.{target_listed}
use Rattle.rollout_machine.proofs.Words.{seen}

-- ---- a list that is gone through

-- once nothing is left, all of it was given
pub all_given : {X A : Type 0} (s t u : IntoIter X A) (xs all : List X) → into_iter_items s ≡ all → Yields into_iter_steps s xs t → into_iter_steps t None u
    → xs ≡ all
all_given s t u xs all is given none = All-taken s xs (u, (t, given, none)) ∙ is

-- ---- what is found by its id

abbrev pub found : List Target → Target → Option Target
found all t = find (has_id t.id) all

passes_by : (x : Target) (xs ys : List Target) → contains_word x.id (ids_of ys) ≡ false → map (found (x ∷ xs)) ys ≡ map (found xs) ys
passes_by x xs [] none = refl
passes_by x xs (y ∷ ys) none = grind (arith, passes_by x xs ys, or_parts)

finds_all : (all : List Target) → IsSorted (ids_of all) → map (found all) all ≡ map Some all
finds_all [] sorted = refl
finds_all (x ∷ xs) sorted = grind (arith, finds_all xs sorted.1, same_refl, passes_by, not_above)

module _ (r : Records) where
  one_seen : (t : Target) → found r.targets t ≡ Some t → target_listed r (listed_target t) ≡ seen t
  one_seen t is = rw is refl

  all_seen : (ts : List Target) → map (found r.targets) ts ≡ map Some ts → map (target_listed r) (map listed_target ts) ≡ map seen ts
  all_seen [] is = refl
  all_seen (t ∷ ts) is = grind (arith, all_seen ts, one_seen)

  all_found : are_sorted r.targets ≡ true → map (found r.targets) r.targets ≡ map Some r.targets
  all_found sorted = finds_all r.targets (sorted_from (ids_of r.targets) (and_parts (in_byte_order (ids_of r.targets)) _ sorted).0)

  -- a part of those that are found by their ids
  pub part_found : (n m : ℕ) (ts : List Target) → map (found r.targets) ts ≡ map Some ts → map (found r.targets) (take n (drop m ts))
      ≡ map Some (take n (drop m ts))
  part_found n m ts is =
      sym (take-map (found r.targets) n (drop m ts)) ∙ ap (take n) (sym (drop-map (found r.targets) m ts) ∙ ap (drop m) is ∙ drop-map Some m ts)
      ∙ take-map Some n (drop m ts)

  -- a part of the targets, listed and then read by their ids
  pub part_seen : are_sorted r.targets ≡ true → (n m : ℕ) → map (target_listed r) (map listed_target (take n (drop m r.targets)))
      ≡ map seen (take n (drop m r.targets))
  part_seen sorted n m = all_seen (take n (drop m r.targets)) (part_found n m r.targets (all_found sorted))

  each_found : (p : Target → Bool) (ts : List Target) → map (found r.targets) ts ≡ map Some ts → map (found r.targets) (filter p ts) ≡ map Some (filter p ts)
  each_found p [] is = refl
  each_found p (t ∷ ts) is = grind (arith, each_found p ts)

  -- those that pass a test are found by their ids
  pub passing_found : are_sorted r.targets ≡ true → (p : Target → Bool) → map (found r.targets) (filter p r.targets) ≡ map Some (filter p r.targets)
  passing_found sorted p = each_found p r.targets (all_found sorted)
