-- The numbers of a history, one more, and the last of them.
use Rattle.desk_records.proofs.Common.{◌≡◌, ◌++◌, ℕ, suc, ◌+◌, List, [], ◌∷◌, length, slice_get, Option, Some, None, refl, arith, append_assoc, append-nil}
use Rattle.desk_records.proofs.Common.{last_or, option_or, Reported, bearing, borne_at, numbers_from, PlacedNumber}
use Rattle.desk_records.proofs.NumberRecords.{last_joined}

-- one more entry
pub numbers_more : (sequence : ℕ) (history : List Reported) (r : Reported) → numbers_from sequence (history ++ r ∷ [])
    ≡ numbers_from sequence history ++ borne_at (sequence + length history) r.number
numbers_more sequence [] r = grind (arith, append-nil (borne_at sequence r.number))
numbers_more sequence (x ∷ history) r = grind (arith, numbers_more (sequence + 1) history r, append_assoc)

-- ---- the last that bears one

-- the entry that bears this number, the last of the history's
pub record IsBearer (sequence : ℕ) (history : List Reported) (it : PlacedNumber) : Type 0 where
  pub index : ℕ
  pub reported : Reported
  pub sequence_is : it.sequence ≡ sequence + index
  pub got : slice_get history index ≡ Some reported
  pub number_is : reported.number ≡ Some it.number
  pub bears : bearing history ≡ Some (record { entry = reported.entry; number = it.number })

abbrev pub BearsLast : ℕ → List Reported → Option PlacedNumber → Type 0
BearsLast sequence history None = bearing history ≡ None
BearsLast sequence history (Some it) = IsBearer sequence history it

last_append : {X : Type 0} (xs ys : List X) (o : Option X) → last_or o (xs ++ ys) ≡ last_or (last_or o xs) ys
last_append [] ys o = refl
last_append (x ∷ xs) ys o = last_append xs ys (Some x)

pub bears_last : (sequence : ℕ) (history : List Reported) → BearsLast sequence history (last_or None (numbers_from sequence history))
bears_last sequence [] = refl
bears_last sequence (r ∷ history) =
    let later = go r.number refl (last_or None (numbers_from (sequence + 1) history)) (bears_last (sequence + 1) history) in
    grind (arith, later, last_append, last_joined)
  where
    go : (n : Option ℕ) → r.number ≡ n → (last : Option PlacedNumber) → BearsLast (sequence + 1) history last
        → BearsLast sequence (r ∷ history) (option_or last (last_or None (borne_at sequence n)))
    go n is (Some it) later = record {
      index = suc later.index;
      reported = later.reported;
      sequence_is = omega (arith, later.sequence_is);
      got = later.got;
      number_is = later.number_is;
      bears = rw later.bears refl;
    }
    go None is None none = rw (none, is) refl
    go (Some n) is None none = record { index = 0; reported = r; sequence_is = omega arith; got = refl; number_is = is; bears = rw (none, is) refl }
