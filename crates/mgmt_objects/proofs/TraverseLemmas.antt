-- A reading of each item of a list, in a loop.
use Rattle.mgmt_objects.proofs.Common.{◌≡◌, ◌<◌, ◌+◌, ◌++◌, ℕ, zero, suc, List, [], ◌∷◌, length, get_or, take, map, Option, Some, None, option_map}
use Rattle.mgmt_objects.proofs.Common.{option_and_then, refl, arith, ap, sym, ◌∙◌, ◌⊎◌, inl, inr, Data, items_of, as_array, view, items_view, Value, array_of}
use Rattle.mgmt_objects.proofs.Common.{list_of, traverse}
use Rattle.rollout_model.specs.declared.refusal.Refusal.{Refusal}
use Rattle.rollout_model.specs.declared.refusal.Refusal.TheVariants.{BadRequest, NoMemory}
use Rattle.std.proofs.lemmas.List.{map_more}

after_none : {A B : Type 0} (y : Option A) → option_and_then {T = A} {U = B} (λ _. None) y ≡ None
after_none (Some y) = refl
after_none None = refl

-- what two parts give
abbrev joined : {B : Type 0} → Option (List B) → Option (List B) → Option (List B)
joined v (Some ys) = option_map (λ zs. ys ++ zs) v
joined v None = None

onto_joined : {B : Type 0} (o : Option B) (u v : Option (List B)) → option_and_then (λ y. option_map (λ zs. y ∷ zs) (joined v u)) o
    ≡ joined v (option_and_then (λ y. option_map (λ zs. y ∷ zs) u) o)
onto_joined None u v = refl
onto_joined (Some y) None v = refl
onto_joined (Some y) (Some ys) None = refl
onto_joined (Some y) (Some ys) (Some zs) = refl

joined_first : {B : Type 0} (v : Option (List B)) → v ≡ joined v (Some [])
joined_first None = refl
joined_first (Some zs) = refl

traverse-append : {A B : Type 0} (f : A → Option B) (xs ys : List A) → traverse f (xs ++ ys) ≡ joined (traverse f ys) (traverse f xs)
traverse-append f [] ys = joined_first (traverse f ys)
traverse-append f (x ∷ xs) ys = rw (traverse-append f xs ys) (onto_joined (f x) (traverse f xs) (traverse f ys))

pub traverse-push : {A B : Type 0} (f : A → Option B) (xs : List A) (ys : List B) (x : A) (y : B) → traverse f xs ≡ Some ys → f x ≡ Some y
    → traverse f (xs ++ x ∷ []) ≡ Some (ys ++ y ∷ [])
traverse-push f xs ys x y all one = traverse-append f xs (x ∷ []) ∙ rw (all, one) refl

-- a loop's step
pub traverse_more : {A B X : Type 0} (f : A → Option B) (h : X → A) (xs : List X) (i : ℕ) (x : X) (ys : List B) (y : B) → i < length xs → x ≡ get_or xs i x
    → traverse f (map h (take i xs)) ≡ Some ys → f (h x) ≡ Some y → traverse f (map h (take (i + 1) xs)) ≡ Some (ys ++ y ∷ [])
traverse_more f h xs i x ys y below is all one =
    rw (map_more h xs i x below, ← is) (traverse-push f (map h (take i xs)) ys (h x) y all one)

-- an item that can't be read
pub traverse_fails : {A B X : Type 0} (f : A → Option B) (h : X → A) (xs : List X) (i : ℕ) (x : X) → i < length xs → x ≡ get_or xs i x → f (h x) ≡ None
    → traverse f (map h xs) ≡ None
traverse_fails f h [] i x below is none = absurd (omega arith)
traverse_fails f h (w ∷ xs) zero x below is none = rw (← is, none) refl
traverse_fails f h (w ∷ xs) (suc i) x below is none = rw (traverse_fails f h xs i x (omega arith) is none) (after_none (f (h w)))

pub list_of_items : (ds : List Data) → list_of (items_of ds) ≡ ds
list_of_items [] = refl
list_of_items (d ∷ ds) = rw (list_of_items ds) refl

-- the items of an array
pub array_listed : {B : Type 0} (f : Data → Option B) (d : Data) (vs : List Value) → Some (items_view vs) ≡ as_array d → traverse f (map view vs) ≡ array_of f d
array_listed f d vs listed = rw (← listed) (ap (traverse f) (sym (list_of_items (map view vs))))

-- the same, as the refusal of an item
pub traverse_refuses : {A B X : Type 0} (f : A → Option B) (h : X → A) (xs : List X) (i : ℕ) (x : X) (e : Refusal) → i < length xs → x ≡ get_or xs i x
    → (e ≡ NoMemory) ⊎ ((e ≡ BadRequest) × (f (h x) ≡ None)) → (e ≡ NoMemory) ⊎ ((e ≡ BadRequest) × (traverse f (map h xs) ≡ None))
traverse_refuses f h xs i x e below is why = elim why [ inl memory ↦ inl memory | inr bad ↦ inr (bad.0, traverse_fails f h xs i x below is bad.1) ]

-- what comes before an item that can't be read was read
pub traverse_stops : {A B : Type 0} (f : A → Option B) (xs rest : List A) (ys : List B) (x : A) → traverse f xs ≡ Some ys → f x ≡ None
    → traverse f (xs ++ x ∷ rest) ≡ None
traverse_stops f xs rest ys x all none = traverse-append f xs (x ∷ rest) ∙ rw (all, none) refl

pub traverse_stops_by : {A B : Type 0} (f : A → Option B) (xs rest : List A) (ys : List B) (x : A) (e : Refusal) → traverse f xs ≡ Some ys → (e ≡ NoMemory)
    ⊎ ((e ≡ BadRequest) × (f x ≡ None)) → (e ≡ NoMemory) ⊎ ((e ≡ BadRequest) × (traverse f (xs ++ x ∷ rest) ≡ None))
traverse_stops_by f xs rest ys x e all why = elim why [ inl memory ↦ inl memory | inr bad ↦ inr (bad.0, traverse_stops f xs rest ys x all bad.1) ]
