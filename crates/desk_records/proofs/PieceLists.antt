-- Contents in pieces, and what one more piece makes of them.
use Rattle.desk_records.proofs.Common.{◌≡◌, ◌≤◌, ◌++◌, ℕ, zero, suc, ◌+◌, ◌*◌, List, [], ◌∷◌, map, take, drop, length, Some, refl, sym, ap, ◌∙◌, arith}
use Rattle.desk_records.proofs.Common.{slice_get-map, length-append, slice_get, flat_map, range_with_len, div_ceil_times, length-drop, take_all, take-append-le}
use Rattle.desk_records.proofs.Common.{drop-append-le, map-map, map_same, Bytes, limits, pieces_in}
use Rattle.std.proofs.Math.Nat.{sub-zero}
use Rattle.std.proofs.Math.Seq.{drop-append_seam}
use Rattle.std.proofs.lemmas.List.FromFn.{length-map-range_with_len, map-range_with_len_more}
use Rattle.artifact_pieces.specs.Pieces.{piece_bytes, piece_count, pieces_of}
use Rattle.artifact_pieces.proofs.PieceLemmas.{one_piece, pieces_make_the_whole}

-- how many pieces contents have whose last piece has so many bytes
whole_count : (total k : ℕ) → total ≡ k * limits.piece_length → piece_count total ≡ k
whole_count total k is = let bounds = div_ceil_times total limits.piece_length (omega arith) in omega (arith, bounds.0, bounds.1, is)

next_count : (total k last : ℕ) → total ≡ k * limits.piece_length + last → 1 ≤ last → last ≤ limits.piece_length → piece_count total ≡ k + 1
next_count total k last is least limit = let bounds = div_ceil_times total limits.piece_length (omega arith) in
    omega (arith, bounds.0, bounds.1, is, least, limit)

-- the piece at a place, counted from 0
abbrev pub piece : Bytes → ℕ → Bytes
piece contents k = take limits.piece_length (drop (k * limits.piece_length) contents)

by_place : (contents : Bytes) (n : ℕ) → piece_count (length contents) ≡ n → pieces_in contents ≡ map (piece contents) (range_with_len 0 n)
by_place contents n count = grind (arith, map-map, map_same, one_piece, sub-zero)

-- further bytes leave whole pieces as they are
same_piece : (contents bytes : Bytes) (k : ℕ) → (k + 1) * limits.piece_length ≤ length contents → piece (contents ++ bytes) k ≡ piece contents k
same_piece contents bytes k within =
    ap (take limits.piece_length) (drop-append-le (k * limits.piece_length) contents bytes (omega (arith, within)))
    ∙ take-append-le limits.piece_length (drop (k * limits.piece_length) contents) bytes (omega (arith, length-drop (k * limits.piece_length) contents, within))

same_pieces : (contents bytes : Bytes) (from n : ℕ) → (from + n) * limits.piece_length ≤ length contents
    → map (piece (contents ++ bytes)) (range_with_len from n)
    ≡ map (piece contents) (range_with_len from n)
same_pieces contents bytes from zero within = refl
same_pieces contents bytes from (suc n) within = grind (arith, same_pieces contents bytes (from + 1) n (omega (arith, within)), same_piece)

last_piece : (contents bytes : Bytes) (k : ℕ) → length contents ≡ k * limits.piece_length → length bytes ≤ limits.piece_length → piece (contents ++ bytes) k
    ≡ bytes
last_piece contents bytes k whole limit = ap (λ n. take limits.piece_length (drop n (contents ++ bytes))) (sym whole)
    ∙ ap (take limits.piece_length) (drop-append_seam contents bytes) ∙ take_all limits.piece_length bytes limit

-- how many there are
pub count_pieces : (contents : Bytes) → length (pieces_in contents) ≡ piece_count (length contents)
count_pieces contents = grind (arith, by_place contents (piece_count (length contents)) refl, length-map-range_with_len)

nth_in_row : (a n k x : ℕ) → slice_get (range_with_len a n) k ≡ Some x → x ≡ a + k
nth_in_row a zero k x is = absurd cc
nth_in_row a (suc n) zero x is = grind arith
nth_in_row a (suc n) (suc k) x is = omega (arith, nth_in_row (a + 1) n k x is)

-- the piece at a place
pub nth_piece : (contents bytes : Bytes) (k : ℕ) → slice_get (pieces_in contents) k ≡ Some bytes → bytes ≡ piece contents k
nth_piece contents bytes k is =
    grind (arith, is, by_place contents (piece_count (length contents)) refl, slice_get-map, nth_in_row 0 (piece_count (length contents)) k)

-- contents of the same pieces are the same
joined : {X : Type 0} (f : X → Bytes) (xs : List X) → flat_map (λ (b : Bytes). b) (map f xs) ≡ flat_map f xs
joined f [] = refl
joined f (x ∷ xs) = ap (λ l. f x ++ l) (joined f xs)

pub same_contents : (a b : Bytes) → pieces_in a ≡ pieces_in b → a ≡ b
same_contents a b same = sym (whole a) ∙ ap (flat_map (λ (bytes : Bytes). bytes)) same ∙ whole b
  where
    whole : (c : Bytes) → flat_map (λ (bytes : Bytes). bytes) (pieces_in c) ≡ c
    whole c = joined (piece_bytes c) (pieces_of (length c)) ∙ pieces_make_the_whole c

-- how many there are of contents in whole pieces
pub count_whole : (contents : Bytes) (k : ℕ) → length contents ≡ k * limits.piece_length → length (pieces_in contents) ≡ k
count_whole contents k whole = ap length (by_place contents k (whole_count (length contents) k whole)) ∙ length-map-range_with_len (piece contents) 0 k

-- one more piece after whole ones
pub one_more : (contents bytes : Bytes) (k : ℕ) → length contents ≡ k * limits.piece_length → 1 ≤ length bytes → length bytes ≤ limits.piece_length
    → pieces_in (contents ++ bytes) ≡ pieces_in contents ++ bytes ∷ []
one_more contents bytes k whole least limit =
    let total : length (contents ++ bytes) ≡ k * limits.piece_length + length bytes = omega (arith, length-append contents bytes, whole) in
    let all = by_place (contents ++ bytes) (k + 1) (next_count (length (contents ++ bytes)) k (length bytes) total least limit) in
    let had = by_place contents k (whole_count (length contents) k whole) in
    grind (
      arith,
      all,
      had,
      map-range_with_len_more (piece (contents ++ bytes)) 0 k k,
      same_pieces contents bytes 0 k,
      last_piece contents bytes k,
      whole,
      limit,
    )
