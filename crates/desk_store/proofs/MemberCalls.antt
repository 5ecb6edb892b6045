-- What the statement on sixteen members is given.
use Rattle.desk_store.proofs.Common.{◌≡◌, ap₂, ◌∷◌, ◌++◌, [], List, pos, take, ℕ, ◌+◌, length, refl, ap, ◌∙◌, get_or, ◌<◌, arith, sym, Int, Text, Bytes}
use Rattle.std.proofs.lemmas.List.{append_assoc, length-take-le, map-append, take_more}
use Rattle.sqlite.specs.Values.{bound, bound_value}
use Rattle.sqlite_value.specs.Value.{owned}
use Rattle.sqlite_value.specs.declared.value.ValueRef.{ValueRef}
use Rattle.desk_records.specs.Rollouts.{members_given, placed}

-- one more behind those
placed_next : (place : ℕ) (ids : List Bytes) (id : Bytes) → placed place (ids ++ id ∷ []) ≡ placed place ids ++ Int (pos (place + length ids)) ∷ Text id ∷ []
placed_next place [] id = let same : place ≡ place + 0 = omega arith in ap (λ p. Int (pos p) ∷ Text id ∷ []) same
placed_next place (x ∷ ids) id =
    let same : place + 1 + length ids ≡ place + length (x ∷ ids) = omega arith in
    ap (λ l. Int (pos place) ∷ Text x ∷ l) (placed_next (place + 1) ids id ∙ ap (λ p. placed (place + 1) ids ++ Int (pos p) ∷ Text id ∷ []) same)

-- a place and an id are pushed
pub pushed : (number place : ℕ) (all : List Bytes) (i : ℕ) (id : Bytes) → i < length all → id ≡ get_or all i id → (was now : List ValueRef) (p t : ValueRef)
    → now ≡ (was ++ p ∷ []) ++ t ∷ [] → owned p ≡ Int (pos (place + i)) → owned t ≡ Text id
    → bound was ≡ members_given number place (take i all) → bound now ≡ members_given number place (take (i + 1) all)
pushed number place all i id below is was now p t grown at text had =
    let size : length (take i all) ≡ i = length-take-le i all (omega (arith, below)) in
    let more : take (i + 1) all ≡ take i all ++ id ∷ [] = take_more all i id below ∙ ap (λ y. take i all ++ y ∷ []) (sym is) in
    let next : placed place (take (i + 1) all) ≡ placed place (take i all) ++ Int (pos (place + i)) ∷ Text id ∷ [] =
    ap (placed place) more ∙ placed_next place (take i all) id ∙ ap (λ n. placed place (take i all) ++ Int (pos (place + n)) ∷ Text id ∷ []) size in
    let two : bound (p ∷ t ∷ []) ≡ Int (pos (place + i)) ∷ Text id ∷ [] = rw (at, text) refl in
    ap bound (grown ∙ append_assoc was (p ∷ []) (t ∷ [])) ∙ map-append (λ v. bound_value (owned v)) was (p ∷ t ∷ []) ∙ ap₂ ◌++◌ had two
    ∙ ap (λ l. Int (pos number) ∷ l) (sym next)
