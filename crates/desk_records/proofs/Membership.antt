-- Membership in lists that are mapped, zipped or put in another order, and how many pass a test.
use Rattle.desk_records.proofs.Common.{◌≡◌, inl, inr, ◌≤◌, ℕ, zero, suc, ◌<◌, ◌&&◌, Option, Some, None, filter_map, List, [], ◌∷◌, map, filter, length, Bool}
use Rattle.desk_records.proofs.Common.{true, false, cond, refl, sym, ap, subst, ◌∙◌, arith, IsPermutation, get_or, AllZip, Contains-permutation}
use Rattle.desk_records.proofs.Common.{sum_by-IsPermutation, Has, has_contained, contains_had, has_either, flat_map}
use Rattle.std.proofs.lemmas.List.Sums.{length-filter}

pub has_permuted : {X : Type 0} (xs ys : List X) (x : X) → IsPermutation xs ys → Has xs x → Has ys x
has_permuted xs ys x same among = has_contained ys x (Contains-permutation xs ys x same (contains_had xs x among))

pub has_mapped : {X Y : Type 0} (f : X → Y) (xs : List X) (y : Y) → Has (map f xs) y → (x : X) × Has xs x × (y ≡ f x)
has_mapped f [] y among = absurd among
has_mapped f (x ∷ xs) y (inl same) = (x, inl refl, same)
has_mapped f (x ∷ xs) y (inr among) = let it = has_mapped f xs y among in (it.0, inr it.1, it.2)

pub map_has : {X Y : Type 0} (f : X → Y) (xs : List X) (x : X) → Has xs x → Has (map f xs) (f x)
map_has f [] x among = absurd among
map_has f (y ∷ xs) x (inl same) = inl (ap f same)
map_has f (y ∷ xs) x (inr among) = inr (map_has f xs x among)

pub has_alone : {X : Type 0} (x y : X) → Has (x ∷ []) y → y ≡ x
has_alone x y h2 = grind arith

pub zip_left : {A B : Type 0} (R : A → B → Type 0) (xs : List A) (ys : List B) (x : A) → AllZip R xs ys → Has xs x → (y : B) × Has ys y × R x y
zip_left R [] [] x all among = absurd among
zip_left R [] (y ∷ ys) x all among = absurd all
zip_left R (z ∷ xs) [] x all among = absurd all
zip_left R (z ∷ xs) (y ∷ ys) x all (inl same) = (y, inl refl, subst (λ a. R a y) (sym same) all.0)
zip_left R (z ∷ xs) (y ∷ ys) x all (inr among) = let it = zip_left R xs ys x all.1 among in (it.0, inr it.1, it.2)

pub zip_right : {A B : Type 0} (R : A → B → Type 0) (xs : List A) (ys : List B) (y : B) → AllZip R xs ys → Has ys y → (x : A) × Has xs x × R x y
zip_right R [] [] y all among = absurd among
zip_right R [] (z ∷ ys) y all among = absurd all
zip_right R (x ∷ xs) [] y all among = absurd all
zip_right R (x ∷ xs) (z ∷ ys) y all (inl same) = (x, inl refl, subst (λ b. R x b) (sym same) all.0)
zip_right R (x ∷ xs) (z ∷ ys) y all (inr among) = let it = zip_right R xs ys y all.1 among in (it.0, inr it.1, it.2)

pub zip_length : {A B : Type 0} (R : A → B → Type 0) (xs : List A) (ys : List B) → AllZip R xs ys → length ys ≡ length xs
zip_length R [] ys all = grind arith
zip_length R (x ∷ xs) ys all = grind (arith, zip_length R xs)

-- two tests that agree on the elements keep the same
pub same_kept : {X : Type 0} (p q : X → Bool) (xs : List X) → ((x : X) → Has xs x → p x ≡ q x) → filter p xs ≡ filter q xs
same_kept p q [] agree = refl
same_kept p q (x ∷ xs) agree = grind (arith, same_kept p q xs, agree)

-- ---- how many pass

pub few_pass : {X : Type 0} (p : X → Bool) (xs : List X) → length (filter p xs) ≤ length xs
few_pass p [] = omega arith
few_pass p (x ∷ xs) = grind (arith, few_pass p xs)

pub all_pass : {X : Type 0} (p : X → Bool) (xs : List X) → length (filter p xs) ≡ length xs → (x : X) → Has xs x → p x ≡ true
all_pass p [] same x among = absurd among
all_pass p (y ∷ xs) same x among = grind (arith, all_pass p xs, few_pass p xs)

pub each_passes : {X : Type 0} (p : X → Bool) (xs : List X) → ((x : X) → Has xs x → p x ≡ true) → length (filter p xs) ≡ length xs
each_passes p [] each = refl
each_passes p (x ∷ xs) each = grind (arith, each_passes p xs, each)

-- of mapped ones
pub mapped_pass : {X Y : Type 0} (f : X → Y) (p : Y → Bool) (xs : List X) → length (filter p (map f xs)) ≡ length (filter (λ x. p (f x)) xs)
mapped_pass f p [] = refl
mapped_pass f p (x ∷ xs) = grind (arith, mapped_pass f p xs)

-- of those that passed another test
pub both_pass : {X : Type 0} (p q : X → Bool) (xs : List X) → length (filter q (filter p xs)) ≡ length (filter (λ x. p x && q x) xs)
both_pass p q [] = refl
both_pass p q (x ∷ xs) = grind (arith, both_pass p q xs)

-- of what is found in them
pub picked_pass : {X Y : Type 0} (f : X → Option Y) (p : Y → Bool) (q : X → Bool) → ((x : X) (y : Y) → f x ≡ Some y → q x ≡ p y)
    → ((x : X) → f x ≡ None → q x ≡ false)
    → (xs : List X) → length (filter p (filter_map f xs)) ≡ length (filter q xs)
picked_pass f p q some none [] = refl
picked_pass f p q some none (x ∷ xs) = grind (arith, picked_pass f p q some none xs, some x, none x)

-- in another order
pub permuted_pass : {X : Type 0} (p : X → Bool) (xs ys : List X) → IsPermutation xs ys → length (filter p ys) ≡ length (filter p xs)
permuted_pass p xs ys same = length-filter p ys ∙ sum_by-IsPermutation (λ x. cond (p x) 1 0) xs ys same ∙ sym (length-filter p xs)

-- ---- by places

pub zip_at : {A B : Type 0} (R : A → B → Type 0) (xs : List A) (ys : List B) (k : ℕ) (d : A) (e : B) → AllZip R xs ys → k < length xs
    → R (get_or xs k d) (get_or ys k e)
zip_at R [] [] k d e all within = absurd (omega (arith, within))
zip_at R [] (y ∷ ys) k d e all within = absurd all
zip_at R (x ∷ xs) [] k d e all within = absurd all
zip_at R (x ∷ xs) (y ∷ ys) zero d e all within = all.0
zip_at R (x ∷ xs) (y ∷ ys) (suc k) d e all within = zip_at R xs ys k d e all.1 (omega (arith, within))

pub mapped_at : {X Y : Type 0} (f : X → Y) (xs : List X) (k : ℕ) (d : X) → get_or (map f xs) k (f d) ≡ f (get_or xs k d)
mapped_at f [] k d = refl
mapped_at f (x ∷ xs) k d = grind (arith, mapped_at f xs)

-- what is in lists one after the other is in one of them
pub has_flat : {X Y : Type 0} (f : X → List Y) (xs : List X) (y : Y) → Has (flat_map f xs) y → (x : X) × Has xs x × Has (f x) y
has_flat f [] y among = absurd among
has_flat f (x ∷ xs) y among = elim (has_either (f x) (flat_map f xs) y among) [
  | inl here ↦ (x, inl refl, here)
  | inr later ↦ (let it = has_flat f xs y later in (it.0, inr it.1, it.2))
]
