-- What is known of every place at once.
use Rattle.desk_records.proofs.Common.{◌≡◌, ◌≢◌, ◌⊎◌, ℕ, Bool, true, false, cond, List, [], ◌∷◌, map, Option, Some, find, bytes_eq, refl, sym, ◌∙◌, arith}
use Rattle.desk_records.proofs.Common.{AllByRecursion, list_any, or_cases, cases_Bool, true≢false, Place, places, name_of}
use Rattle.std.proofs.lemmas.Slice.Eq.{bytes_eq-Decides}
use Rattle.desk_records.proofs.EachPlace.{each_place}

each_same : {X : Type 0} (f g : Place → X) (ts : List Place) → map f ts ≡ map g ts → AllByRecursion (λ t. f t ≡ g t) ts
each_same f g [] same = tt
each_same f g (t ∷ ts) same = (cc, each_same f g ts cc)

-- what computes to the same at each place is the same at every place
pub same_places : {X : Type 0} (f g : Place → X) → map f places ≡ map g places → (t : Place) → f t ≡ g t
same_places f g same = each_place (λ t. f t ≡ g t) (each_same f g places same)

-- ---- a place is known by its name

pub place_named : List ℕ → Option Place
place_named name = find (λ t. bytes_eq name (name_of t)) places

pub is_named : (t : Place) → place_named (name_of t) ≡ Some t
unfolding place_named
is_named = same_places (λ t. place_named (name_of t)) Some refl

one_named : (t k : Place) → bytes_eq (name_of t) (name_of k) ≡ true → t ≡ k
one_named t k same = grind (arith, is_named, place_named, bytes_eq-Decides)

pub place_or_other : (t k : Place) → (t ≡ k) ⊎ (t ≢ k)
place_or_other t k = grind (arith, cases_Bool, one_named, bytes_eq-Decides)

-- ---- what is the same at all places but some

abbrev pub is_among : List Place → Place → Bool
is_among ks t = list_any (λ k. bytes_eq (name_of t) (name_of k)) ks

pub among : (Q : Place → Type 0) (ks : List Place) (t : Place) → AllByRecursion Q ks → is_among ks t ≡ true → Q t
among Q [] t all here = absurd (true≢false (sym here))
among Q (k ∷ ks) t all there = grind (arith, or_cases (bytes_eq (name_of t) (name_of k)) (is_among ks t) there, one_named t k, among Q ks t all.1, all.0)

-- What computes to the same at each place but some, and is proved to be the same at those, is the same at every place.
pub same_elsewhere : {X : Type 0} (f g : Place → X) (P : Place → Type 0) (some : List Place) → map f places
    ≡ map (λ t. cond (is_among some t) (f t) (g t)) places → AllByRecursion (λ t. P t → f t ≡ g t) some → (t : Place) → P t → f t ≡ g t
same_elsewhere f g P some same proved t holds = same_places f (λ t. cond (is_among some t) (f t) (g t)) same t ∙ go (is_among some t) refl
  where
    go : (b : Bool) → is_among some t ≡ b → cond b (f t) (g t) ≡ g t
    go true there = among (λ t. P t → f t ≡ g t) some t proved there holds
    go false elsewhere = refl
