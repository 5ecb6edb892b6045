-- Members and actions, each in its turn.
use Rattle.desk_verify.proofs.Common.{◌≡◌, ◌<◌, ℕ, true, List, [], ◌∷◌, map, refl, sym, arith, pointwise, and_from, and_parts, nat_tests}
use Rattle.desk_verify.proofs.Common.{slice_eq-Decides, Has, PlacedMember, ListedAction, rise, are_for, count_on, is_for_member, numbers_rise}
use Rattle.std.specs.List.{AllZip}
use Rattle.desk_verify.proofs.Rising.{in_step, only_one, rise_both}

-- ---- a member and its action

pub is_own : (m : PlacedMember) (a : ListedAction) → is_for_member m a ≡ true → (a.action.position ≡ m.place) × (a.action.target ≡ m.id)
is_own m a h = grind (arith, and_parts, pointwise, nat_tests, slice_eq-Decides)

pub own_is : (m : PlacedMember) (a : ListedAction) → a.action.position ≡ m.place → a.action.target ≡ m.id → is_for_member m a ≡ true
own_is m a place id = grind (arith, and_from, nat_tests, slice_eq-Decides, pointwise)

-- ---- lists of them

abbrev pub IsFor : PlacedMember → ListedAction → Type 0
IsFor m a = is_for_member m a ≡ true

abbrev place_of : PlacedMember → ℕ
place_of m = m.place

abbrev position_of : ListedAction → ℕ
position_of a = a.action.position

abbrev number_of : ListedAction → ℕ
number_of a = a.number

places_rise : (last : ℕ) (ms : List PlacedMember) → count_on last ms ≡ true → rise last (map place_of ms) ≡ true
places_rise last [] h = refl
places_rise last (m ∷ ms) h = grind (arith, nat_tests, places_rise m.place ms)

pub paired : (ms : List PlacedMember) (as' : List ListedAction) → are_for ms as' ≡ true → AllZip IsFor ms as'
paired [] [] h = tt
paired [] (a ∷ as') h = grind (arith, nat_tests)
paired (m ∷ ms) [] h = grind (arith, nat_tests)
paired (m ∷ ms) (a ∷ as') h = grind (arith, nat_tests, paired ms as')

are_paired : (ms : List PlacedMember) (as' : List ListedAction) → AllZip IsFor ms as' → are_for ms as' ≡ true
are_paired [] [] h = refl
are_paired [] (a ∷ as') h = absurd h
are_paired (m ∷ ms) [] h = absurd h
are_paired (m ∷ ms) (a ∷ as') h = grind (arith, nat_tests, are_paired ms as')

positions_rise : (last : ℕ) (ms : List PlacedMember) (as' : List ListedAction) → rise last (map place_of ms) ≡ true → AllZip IsFor ms as'
    → rise last (map position_of as') ≡ true
positions_rise last [] [] h all = refl
positions_rise last [] (a ∷ as') h all = absurd all
positions_rise last (m ∷ ms) [] h all = absurd all
positions_rise last (m ∷ ms) (a ∷ as') h all = grind (arith, positions_rise m.place ms as', is_own, and_parts, and_from)

-- no two members are at one place
pub one_place : (ms : List PlacedMember) → count_on 0 ms ≡ true → (m n : PlacedMember) → Has ms m → Has ms n → m.place ≡ n.place → m ≡ n
one_place ms counts = only_one place_of 0 ms (places_rise 0 ms counts)

-- none but the same is at the same place, and the one at the later place has the greater number
abbrev pub AreOrdered : ListedAction → ListedAction → Type 0
AreOrdered a b = (a.action.position ≡ b.action.position → a.number ≡ b.number) × (a.action.position < b.action.position → a.number < b.number)

module _ (ms : List PlacedMember) (as' : List ListedAction) (counts : count_on 0 ms ≡ true) (rises : numbers_rise as' ≡ true) where
  pub ordered : AllZip IsFor ms as' → (a b : ListedAction) → Has as' a → Has as' b → AreOrdered a b
  ordered all a b at_a at_b = let places = positions_rise 0 ms as' (places_rise 0 ms counts) all in
      grind (arith, only_one position_of 0 as' places a b at_a at_b, rise_both position_of number_of 0 0 as' places rises a b at_a at_b)

  pub following : ((m : PlacedMember) → Has ms m → (a : ListedAction) × Has as' a × IsFor m a)
      → ((a : ListedAction) → Has as' a → (m : PlacedMember) × Has ms m × IsFor m a)
      → ((a b : ListedAction) → Has as' a → Has as' b → AreOrdered a b) → are_for ms as' ≡ true
  following there back order = are_paired ms as' (in_step place_of position_of number_of IsFor (λ m a is. sym (is_own m a is).0) 0 0 ms as'
      (places_rise 0 ms counts) rises (λ a b at_a at_b less. grind (arith, order b a at_b at_a)) there back)
