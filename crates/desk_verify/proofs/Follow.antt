-- Places that rise by at most one.
use Rattle.desk_verify.proofs.Common.{◌≡◌, ◌⊎◌, inl, inr, ◌≤◌, ℕ, suc, ◌+◌, true, false, List, [], ◌∷◌, map, nat_le, refl, ap, ◌∙◌, arith, pos, and_from}
use Rattle.desk_verify.proofs.Common.{and_parts, nat_tests, Int, Row, column, Has, contains_had, AreBroken, AreMembers, SaysMember, is_of, Members, Tables}
use Rattle.desk_verify.proofs.Common.{PlacedMember, is_at, number_in_is, number_is, one_number, follow, count_on, rise, AgreesMembers, IsInPlace, IsThere}
use Rattle.std.specs.List.Sorted.{IsNonDecreasingBy}
use Rattle.std.proofs.lemmas.List.Sorted.{IsNonDecreasingBy-drop}
use Rattle.desk_records.proofs.KeptColumns.{one_in}

-- it is at most one more than this, or one more than that of another one
record IsNear (last : ℕ) (place : ℕ) : Type 0 where
  low : 1 ≤ place
  high : place ≤ last + 1

record IsBehind (members : List PlacedMember) (place : ℕ) : Type 0 where
  other : PlacedMember
  among : Has members other
  is : place ≡ other.place + 1

abbrev Fits : ℕ → List PlacedMember → ℕ → Type 0
Fits last members place = IsNear last place ⊎ IsBehind members place

each_fits : (last : ℕ) (members : List PlacedMember) → follow last members ≡ true → (m : PlacedMember) → Has members m → Fits last members m.place
each_fits last [] h m among = absurd among
each_fits last (x ∷ members) h m (inl same) = grind (arith, nat_tests, same)
each_fits last (x ∷ members) h m (inr among) =
    elim (each_fits x.place members (and_parts _ _ (and_parts _ _ h).1).1 m among) [
      | inl near ↦ elim (nat_le m.place x.place) as (λ b. nat_le m.place x.place ≡ b → Fits last (x ∷ members) m.place) [
        | true ↦ λ below. inl (record { low = near.low; high = grind (arith, nat_tests, below) })
        | false ↦ λ over. inr (record { other = x; among = inl refl; is = grind (arith, nat_tests, over, near.high) })
      ] refl
      | inr it ↦ inr (record { other = it.other; among = inr it.among; is = it.is })
    ]

all_follow : (last : ℕ) (members : List PlacedMember) → ((m : PlacedMember) → Has members m → last ≤ m.place)
    → IsNonDecreasingBy (λ (m : PlacedMember). m.place) members → ((m : PlacedMember) → Has members m → Fits last members m.place)
    → follow last members ≡ true
all_follow last [] least order fits = refl
all_follow last (x ∷ members) least order fits = and_from _ _ (grind (arith, nat_tests, near.low)) (and_from _ _ (grind (arith, nat_tests, near.high))
    (all_follow x.place members higher (IsNonDecreasingBy-drop (λ (m : PlacedMember). m.place) 1 (x ∷ members) order)
    (λ m among. grind (arith, fits m (inr among), least x (inl refl)))))
  where
    higher : (m : PlacedMember) → Has members m → x.place ≤ m.place
    higher m among = let at = contains_had members m among in grind (arith, order 0 (suc at.0) m)

    near : IsNear last x.place
    near = grind (arith, fits x (inl refl), higher)

-- places that follow and rise count on
pub counts : (last : ℕ) (members : List PlacedMember) → follow last members ≡ true → rise last (map (λ (m : PlacedMember). m.place) members) ≡ true
    → count_on last members ≡ true
counts last [] h k = refl
counts last (m ∷ members) h k = grind (arith, nat_tests, counts m.place members)

-- ---- in the table

module _ (t : Tables) (r : ℕ) (members : List PlacedMember) (are : AreMembers (t Members) r members) where
  -- each row of the rollout is in its place
  pub in_place : IsThere t r → follow 0 members ≡ true → (row : Row) → Has (t Members) row → is_of r row ≡ true → IsInPlace t row
  in_place there h row among of =
      let it = are.said.complete row among of in
      record {
        rollout = r;
        place = it.one.place;
        id = it.one.id;
        is = it.is;
        there = there;
        follows = elim (each_fits 0 members h it.one it.among) [
          | inl near ↦ inl (omega (arith, near.low, near.high))
          | inr behind ↦ let found = are.said.sound behind.other behind.among in
              inr (behind.other.place, behind.is, record { row = found.row; among = found.among; id = behind.other.id; is = found.is })
        ];
      }

  -- a table that agrees has places that follow
  pub agreeing : AgreesMembers t → follow 0 members ≡ true
  agreeing agree = all_follow 0 members (λ m among. omega arith) are.rise (λ m among.
      let found = are.said.sound m among in
      let it = agree found.row found.among in
      let place = one_in _ it.place m.place it.is.place_is found.is.place_is in
      let rollout = one_number (column found.row 1) it.rollout r (number_in_is _ _ it.is.rollout_is) (number_in_is _ _ found.is.rollout_is) in
      elim it.follows [
        | inl first ↦ grind (arith, first, place)
        | inr behind ↦
            let before = behind.2 in
            let listed = are.said.complete before.row before.among
            (is_at before.row 1 r (number_in_is _ _ before.is.rollout_is ∙ ap (λ n. Int (pos n)) rollout)) in
            let at = one_in _ listed.one.place behind.0 listed.is.place_is before.is.place_is in
            grind (arith, listed.among, behind.1, place, at)
      ])

-- a row that breaks a rule
pub breaks : (t : Tables) (r : ℕ) → AreBroken (t Members) (is_of r) (SaysMember r) → AgreesMembers t → ⊥
breaks t r broken agree = let it = agree broken.row broken.among in
    grind (arith, one_number, number_in_is, number_is, broken.breaks (record { id = it.id; place = it.place }))
