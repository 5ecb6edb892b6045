-- What is found at the places of an artifact, one after the other.
use Rattle.desk_records.proofs.Membership.{has_alone}
use Rattle.desk_verify.proofs.Common.{◌≡◌, ◌<◌, ◌⊎◌, inl, inr, ◌++◌, ℕ, zero, suc, ◌+◌, ◌-◌, ◌*◌, List, [], ◌∷◌, length, map, slice_get, get_or, min}
use Rattle.desk_verify.proofs.Common.{drop, Vec, vec_items, Some, None, refl, sym, ap, ap₂, subst, ◌∙◌, arith, length-append, Global, Row}
use Rattle.desk_verify.proofs.Common.{piece_count, Bytes, ArePieces, pieces_in, Pieces, Tables, count_pieces, nth_piece, one_more, same_contents, HashesPieces}
use Rattle.desk_verify.proofs.Common.{IsHashed, HasPieces, length-drop, length-take, limits}
use Rattle.std.proofs.lemmas.Grind.{div_ceil_times}
use Rattle.std.proofs.lemmas.Option.{slice_get_cases}
use Rattle.sha2.specs.Hashers.{Holds256}
use Rattle.sha2.specs.declared.Sha256.{Sha256}

-- ---- what lies at one place

-- where a piece lies alone, it is all that is found
pub alone : (rows : List Row) (number place : ℕ) (piece : Bytes) (found : List Bytes) → ArePieces rows number place (piece ∷ [])
    → ArePieces rows number place found → found ≡ piece ∷ []
alone rows number place piece [] one all = absurd (omega (arith, all.count, one.count))
alone rows number place piece (x ∷ []) one all = let it = all.sound x (inl refl) in grind (arith, one.complete it.row it.among it.passes, has_alone piece)
alone rows number place piece (x ∷ y ∷ found) one all = absurd (omega (arith, all.count, one.count))

-- where none lies, none is found
pub none_found : (rows : List Row) (number place : ℕ) (found : List Bytes) → ArePieces rows number place [] → ArePieces rows number place found → length found
    ≡ 0
none_found rows number place found none all = all.count ∙ sym none.count

-- one of another length is none of this length
pub other_length : (t : Tables) (number place size : ℕ) (found : List (Vec ℕ Global)) (one : Vec ℕ Global) → length found ≡ 1 → one ≡ get_or found 0 one
    → (length one.items ≡ size → ⊥) → ArePieces (t Pieces) number place (map vec_items found)
    → (piece : Bytes) → length piece ≡ size → ArePieces (t Pieces) number place (piece ∷ []) → ⊥
other_length t number place size [] one single is other all piece long lies = absurd (omega (arith, single))
other_length t number place size (x ∷ found) one single is other all piece long lies =
    grind (arith, alone (t Pieces) number place piece (x.items ∷ map vec_items found) lies all)

-- ---- one place after the other

-- the first pieces of contents of this size were hashed
pub record IsHashedTo (t : Tables) (number size k : ℕ) (hasher : Sha256) : Type 0 where
  pub contents : Bytes
  pub holds : Holds256 hasher contents
  pub long : length contents ≡ min (k * limits.piece_length) size
  pub count : length (pieces_in contents) ≡ k
  pub pieces : HasPieces t number contents

pushed : {X : Type 0} (xs : List X) (x : X) (k : ℕ) (y : X) → slice_get (xs ++ x ∷ []) k ≡ Some y → (slice_get xs k ≡ Some y) ⊎ ((k ≡ length xs) × (y ≡ x))
pushed [] x zero y is = let same : x ≡ y = cc in inr (refl, sym same)
pushed [] x (suc k) y is = absurd cc
pushed (z ∷ xs) x k y is = grind (arith, pushed xs x)

-- a place before the last is within the contents
within_size : (size k : ℕ) → k < piece_count size → k * limits.piece_length < size
within_size size k few = let bounds = div_ceil_times size limits.piece_length (omega arith) in omega (arith, few, bounds.0, bounds.1)

pub more_hashed : (t : Tables) (number size k asked : ℕ) (old new : Sha256) → k < piece_count size
    → asked ≡ min (size - k * limits.piece_length) limits.piece_length
    → IsHashedTo t number size k old → IsHashed t number (k + 1) asked old new → IsHashedTo t number size (k + 1) new
more_hashed t number size k asked old new few is so_far next = record {
  contents = so_far.contents ++ next.piece;
  holds = next.hashed so_far.contents so_far.holds;
  long = let sum = length-append so_far.contents next.piece in omega (arith, sum, whole, next.long, is, within);
  count = let sum = length-append (pieces_in so_far.contents) (next.piece ∷ []) in ap length grown ∙ omega (arith, sum, so_far.count);
  pieces = λ at piece is. (let it = pushed (pieces_in so_far.contents) next.piece at piece (subst (λ l. slice_get l at ≡ Some piece) grown is) in
      grind (arith, so_far.pieces at piece, next.lies, so_far.count));
}
  where
    within : k * limits.piece_length < size
    within = within_size size k few

    whole : length so_far.contents ≡ k * limits.piece_length
    whole = omega (arith, so_far.long, within)

    grown : pieces_in (so_far.contents ++ next.piece) ≡ pieces_in so_far.contents ++ next.piece ∷ []
    grown = one_more so_far.contents next.piece k whole (omega (arith, next.long, is, within)) (omega (arith, next.long, is))

-- contents of this size have a piece at each place, of the length that is asked for
pub none_fits : (t : Tables) (number size k asked : ℕ) → k < piece_count size → asked ≡ min (size - k * limits.piece_length) limits.piece_length
    → ((piece : Bytes) → length piece ≡ asked → ArePieces (t Pieces) number (k + 1) (piece ∷ []) → ⊥)
    → HashesPieces t number size None
none_fits t number size k asked few is fails contents long has =
    let many = count_pieces contents ∙ ap piece_count long in
    elim (slice_get_cases (pieces_in contents) k).1 [
      | inl it ↦ (let taken = length-take limits.piece_length (drop (k * limits.piece_length) contents) in
          grind (arith, nth_piece contents it.0 k it.2, taken, length-drop (k * limits.piece_length) contents, fails it.0, has k it.0 it.2))
      | inr past ↦ omega (arith, past.0, many, few)
    ]

-- ---- the artifact as a whole

same_lists : {X : Type 0} (xs ys : List X) → length xs ≡ length ys → ((k : ℕ) (x y : X) → slice_get xs k ≡ Some x → slice_get ys k ≡ Some y → x ≡ y) → xs ≡ ys
same_lists [] [] long same = refl
same_lists [] (y ∷ ys) long same = absurd (omega (arith, long))
same_lists (x ∷ xs) [] long same = absurd (omega (arith, long))
same_lists (x ∷ xs) (y ∷ ys) long same = ap₂ ◌∷◌ (same 0 x y refl refl) (same_lists xs ys (omega (arith, long)) (λ k a b. same (suc k) a b))

-- contents of one size whose pieces an artifact has are the same
pub one_whole : (t : Tables) (number : ℕ) (a b : Bytes) → length a ≡ length b → HasPieces t number a → HasPieces t number b → a ≡ b
one_whole t number a b long has_a has_b =
    same_contents a b (same_lists (pieces_in a) (pieces_in b) (count_pieces a ∙ ap piece_count long ∙ sym (count_pieces b)) (λ k x y is_x is_y.
    let both : x ∷ [] ≡ y ∷ [] = alone (t Pieces) number (k + 1) y (x ∷ []) (has_b k y is_y) (has_a k x is_x) in cc))
