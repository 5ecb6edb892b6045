-- A page of targets whose ids are known: those from the first id on it to the last.
use Rattle.desk_views.proofs.Common.{◌≡◌, ℕ, zero, suc, true, false, List, [], ◌∷◌, map, filter, length, take, drop, Some, refl, sym, ap, ◌∙◌, arith}
use Rattle.desk_views.proofs.Common.{Records, Page, Target, Bytes, IsContentOf, ShownTarget, shown_target, target_shown}
use Rattle.std.proofs.Common.{subst}
use Rattle.desk_reads.proofs.Common.{and_parts, sorted_from}
use Rattle.std.specs.Prelude.{◌-◌, slice_get}
use Rattle.std.specs.Option.{IsSomeAnd}
use Rattle.std.proofs.lemmas.List.{drop-map, take-map}
use Rattle.rollout_machine.proofs.Imports.{AllAbove, IsSorted}
use Rattle.rollout_machine.specs.ByteStrings.{bytes_below}
use Rattle.desk_records.specs.Targets.{are_sorted, ids_of, in_byte_order, is_between, targets_between}
use Rattle.desk_reads.proofs.WordOrder.{below_itself, below_through, below_under, not_back}
use Rattle.desk_views.specs.Targets.{AreEnds}
use Rattle.desk_views.proofs.TargetPages.{shown_map}

-- ---- the last of some words

abbrev last_of : Bytes → List Bytes → Bytes
last_of w [] = w
last_of w (v ∷ vs) = last_of v vs

got_last : (w : Bytes) (ws : List Bytes) → slice_get (w ∷ ws) (length ws) ≡ Some (last_of w ws)
got_last w [] = refl
got_last w (v ∷ vs) = grind (arith, got_last v vs)

-- of words above one it isn't below that
last_high : (w : Bytes) (n : ℕ) (ws : List Bytes) → AllAbove w ws → IsSorted ws → bytes_below (last_of w (take n ws)) w ≡ false
last_high w zero ws above sorted = below_itself w
last_high w (suc m) [] above sorted = below_itself w
last_high w (suc m) (v ∷ vs) above sorted =
    not_back w (last_of v (take m vs)) (below_through w v (last_of v (take m vs)) above.0 (last_high v m vs sorted.0 sorted.1))

-- ---- those from one id to another

-- no part of no words begins
starts_none : (first : Bytes) (m l : ℕ) → IsSomeAnd (slice_get (take l (drop m [])) 0) (λ id. first ≡ id) → ⊥
starts_none first zero zero is = is
starts_none first zero (suc l) is = is
starts_none first (suc m) zero is = is
starts_none first (suc m) (suc l) is = is

module _ (first : Bytes) where
  -- those up to the last of the first so many
  up_to : (w : Bytes) → bytes_below w first ≡ false → (n : ℕ) (ts : List Target) → AllAbove w (ids_of ts) → IsSorted (ids_of ts)
      → filter (is_between first (last_of w (take n (ids_of ts)))) ts ≡ take n ts
  up_to w low zero [] above sorted = refl
  up_to w low (suc m) [] above sorted = refl
  up_to w low zero (x ∷ xs) above sorted = grind (arith, up_to w low zero xs above.1 sorted.1, above.0)
  up_to w low (suc m) (x ∷ xs) above sorted =
      let behind : bytes_below x.id first ≡ false = not_back first x.id (below_under w x.id first above.0 low) in
      grind (arith, up_to x.id behind m xs sorted.0 sorted.1, last_high x.id m (ids_of xs) sorted.0 sorted.1, behind)

  -- the first of words above one is above it
  first_above : (w : Bytes) (ws : List Bytes) (m l : ℕ) → AllAbove w ws → IsSomeAnd (slice_get (take l (drop m ws)) 0) (λ id. first ≡ id)
      → bytes_below w first ≡ true
  first_above w [] m l above is = absurd (starts_none first m l is)
  first_above w (v ∷ vs) zero zero above is = absurd is
  first_above w (v ∷ vs) zero (suc l) above is = ap (bytes_below w) is ∙ above.0
  first_above w (v ∷ vs) (suc m) l above is = first_above w vs m l above.1 is

ends_at : (w last : Bytes) (ws : List Bytes) → IsSomeAnd (slice_get (w ∷ ws) (length (w ∷ ws) - 1)) (λ id. last ≡ id) → last ≡ last_of w ws
ends_at w last ws is = grind (arith, got_last w ws)

from_first : (t : Target) (ts : List Target) (n : ℕ) → IsSorted (ids_of (t ∷ ts))
    → filter (is_between t.id (last_of t.id (take n (ids_of ts)))) (t ∷ ts) ≡ t ∷ take n ts
from_first t ts n sorted =
    grind (arith, up_to t.id t.id (below_itself t.id) n ts sorted.0 sorted.1, last_high t.id n (ids_of ts) sorted.0 sorted.1, below_itself t.id)

part_between : (ts : List Target) (m l : ℕ) → IsSorted (ids_of ts) → (first last : Bytes) → AreEnds (take l (drop m (ids_of ts))) first last
    → filter (is_between first last) ts ≡ take l (drop m ts)
part_between [] m l sorted first last ends = absurd (starts_none first m l ends.starts)
part_between (t ∷ ts) zero zero sorted first last ends = absurd ends.starts
part_between (t ∷ ts) zero (suc n) sorted first last ends =
    let starts : first ≡ t.id = ends.starts in
    let is : last ≡ last_of t.id (take n (ids_of ts)) = ends_at t.id last (take n (ids_of ts)) ends.ends in
    (λ i. filter (is_between (starts i) (is i)) (t ∷ ts)) ∙ from_first t ts n sorted
part_between (t ∷ ts) (suc m) l sorted first last ends =
    grind (arith, part_between ts m l sorted.1 first last ends, first_above first t.id (ids_of ts) m l sorted.0 ends.starts)

-- ---- a page

module _ (r : Records) (page : Page) (ids on : List Bytes) (known : ids ≡ ids_of r.targets) (part : on ≡ take page.limit (drop page.offset ids)) where
  on_page : on ≡ map (λ (t : Target). t.id) (take page.limit (drop page.offset r.targets))
  on_page = part ∙ ap (λ ws. take page.limit (drop page.offset ws)) known
      ∙ ap (take page.limit) (drop-map (λ (t : Target). t.id) page.offset r.targets)
      ∙ take-map (λ (t : Target). t.id) page.limit (drop page.offset r.targets)

  pub page_between : are_sorted r.targets ≡ true → (first last : Bytes) → AreEnds on first last
      → targets_between first last r ≡ take page.limit (drop page.offset r.targets)
  page_between sorted first last ends =
      part_between r.targets page.offset page.limit (sorted_from (ids_of r.targets) (and_parts (in_byte_order (ids_of r.targets)) _ sorted).0) first last
      (subst (λ ws. AreEnds ws first last) (part ∙ ap (λ ws. take page.limit (drop page.offset ws)) known) ends)

  -- nothing is on it
  pub page_empty : on ≡ [] → (items : List ShownTarget) → items ≡ [] → IsContentOf page r items
  page_empty none items is =
      let nobody : take page.limit (drop page.offset r.targets) ≡ [] = nothing (take page.limit (drop page.offset r.targets)) (sym on_page ∙ none) in
      ap (map shown_target) is ∙ sym (ap (λ xs. take page.limit (drop page.offset xs)) (shown_map r r.targets)
      ∙ ap (take page.limit) (drop-map (target_shown r) page.offset r.targets) ∙ take-map (target_shown r) page.limit (drop page.offset r.targets)
      ∙ ap (map (target_shown r)) nobody)
    where
      nothing : (ts : List Target) → map (λ (t : Target). t.id) ts ≡ [] → ts ≡ []
      nothing [] is = refl
      nothing (t ∷ ts) is = absurd cc
