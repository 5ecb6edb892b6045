-- Entries of a list by their numbers, and the part of it that is on a page.
use Rattle.desk_views.proofs.Common.{◌≡◌, ℕ, zero, suc, ◌+◌, ◌-◌, min, List, [], ◌∷◌, ◌++◌, length, take, drop, Some, refl, ap, arith, length-drop, slice_get}
use Rattle.desk_views.proofs.Common.{Option, option_map, item_numbered, numbered, page_of, Page, map, take_more, take-map, drop-map, length-map}
use Rattle.std.proofs.lemmas.List.{take_min, get_or-drop}
use Rattle.std.proofs.lemmas.Option.{get_or_from_slice_get, slice_get_within}

pub numbered_length : {X Y : Type 0} (f : ℕ → X → Y) (n : ℕ) (xs : List X) → length (numbered f n xs) ≡ length xs
numbered_length f n [] = refl
numbered_length f n (x ∷ xs) = ap suc (numbered_length f (suc n) xs)

numbered_get : {X Y : Type 0} (f : ℕ → X → Y) (n : ℕ) (xs : List X) (i k : ℕ) → k ≡ n + i → slice_get (numbered f n xs) i ≡ option_map (f k) (slice_get xs i)
numbered_get f n [] i k is = refl
numbered_get f n (x ∷ xs) zero k is = let same : n ≡ k = omega (arith, is) in ap (λ m. Some (f m x)) same
numbered_get f n (x ∷ xs) (suc i) k is = numbered_get f (suc n) xs i k (omega (arith, is))

-- the entry of a number is made of the item of that number, that was found
pub entry_is : {X Y : Type 0} (f : ℕ → X → Y) (xs : List X) (k n : ℕ) (found : Option Y) → k ≡ n → found ≡ option_map (f k) (item_numbered xs k)
    → item_numbered (numbered f 1 xs) n ≡ found
entry_is f xs k n found same is = grind (arith, numbered_get)

-- what is taken grows by the next item
pub one_more : {X : Type 0} (xs : List X) (i : ℕ) (x : X) → slice_get xs i ≡ Some x → take (i + 1) xs ≡ take i xs ++ x ∷ []
one_more xs i x is = rw (get_or_from_slice_get xs i x x is) at (take_more xs i x (slice_get_within xs i x is))

-- the next entry of a page is read
pub page_grows : {X : Type 0} (xs items more : List X) (offset place number : ℕ) (x : X) → items ≡ take place (drop offset xs) → item_numbered xs number
    ≡ Some x → number ≡ offset + place + 1 → more ≡ items ++ x ∷ []
    → more ≡ take (place + 1) (drop offset xs)
page_grows xs items more offset place number x is found at one = grind (
  arith,
  take_more (drop offset xs) place x,
  get_or-drop offset xs place x,
  get_or_from_slice_get xs (offset + place) x x,
  slice_get_within xs (offset + place) x,
  length-drop offset xs,
)

-- as many entries as are on the page are all of them
pub page_ends : {X : Type 0} (xs : List X) (page : Page) (items : List X) (total place : ℕ) → place ≡ min page.limit (total - page.offset)
    → items ≡ take place (drop page.offset xs) → total ≡ length xs
    → record { content = items; total = total } ≡ page_of page xs
page_ends xs page items total place end is count = grind (arith, take_min, length-drop)

-- a page of what is shown of each
pub page_mapped : {X Y : Type 0} (f : X → Y) (page : Page) (xs part : List X) (all content : List Y) (total : ℕ) → map f xs ≡ all
    → part ≡ take page.limit (drop page.offset xs) → content ≡ map f part → total ≡ length xs
    → record { content = content; total = total } ≡ page_of page all
page_mapped f page xs part all content total are is shown count = grind (arith, take-map, drop-map, length-map)
