-- Pieces, put together, are the contents.
use Rattle.std.proofs.Common.{◌≡◌, ◌≤◌, ◌<◌, ◌∷◌, ◌+◌, ◌-◌, ◌*◌, ◌++◌, ℕ, List, length, take, drop, refl, arith, ◌∙◌, sym, zero, suc}
use Rattle.std.specs.Prelude.{map, All}
use Rattle.std.proofs.lemmas.List.Elements.{All-nil, All-cons}
use Rattle.artifact_pieces.specs.declared.pieces.Piece.{Piece}
use Rattle.std.specs.List.{flat_map, range_with_len}
use Rattle.std.proofs.Math.Seq.{take-add}
use Rattle.std.proofs.Math.Nat.{suc-mul, sub-zero}
use Rattle.std.proofs.lemmas.List.{take_min, take_all, drop-drop, length-drop}
use Rattle.std.proofs.lemmas.Grind.{div_ceil_times}
use Rattle.artifact_pieces.specs.Pieces.{piece_at, piece_bytes, piece_count, pieces_from, PiecesFit, PiecesMakeTheWhole}
use Rattle.rollout_model.specs.Limits.{limits}

-- a piece is the next bytes, as many as there are
pub one_piece : (bs : List ℕ) (k : ℕ) → piece_bytes bs (piece_at (length bs) k) ≡ take limits.piece_length (drop (k * limits.piece_length) bs)
one_piece bs k = rw (← length-drop (k * limits.piece_length) bs) (take_min limits.piece_length (drop (k * limits.piece_length) bs))

more_pieces : (n p : ℕ) (bs : List ℕ) → take p bs ++ take (n * p) (drop p bs) ≡ take (suc n * p) bs
more_pieces n p bs = rw (suc-mul n p) (let e : n * p + p ≡ p + n * p = omega arith in rw e (sym (take-add p (n * p) bs)))

-- the pieces from the k-th on are the bytes from its first on
first_pieces : (bs : List ℕ) (n k : ℕ) → flat_map (piece_bytes bs) (map (piece_at (length bs)) (range_with_len k n))
    ≡ take (n * limits.piece_length) (drop (k * limits.piece_length) bs)
first_pieces bs zero k = refl
first_pieces bs (suc n) k =
    let next : k * limits.piece_length + limits.piece_length ≡ (k + 1) * limits.piece_length = omega arith in
    let after : drop limits.piece_length (drop (k * limits.piece_length) bs) ≡ drop ((k + 1) * limits.piece_length) bs =
    drop-drop limits.piece_length (k * limits.piece_length) bs
    ∙ (rw next refl) in
    rw (one_piece bs k, first_pieces bs n (k + 1), ← after) (more_pieces n limits.piece_length (drop (k * limits.piece_length) bs))

-- a place before the last has its piece in front of the others
pub next_piece : (total place : ℕ) → place < piece_count total → pieces_from total place ≡ piece_at total place ∷ pieces_from total (place + 1)
next_piece total place before =
    let more : piece_count total - place ≡ suc (piece_count total - (place + 1)) = omega (arith, before) in
    rw more refl

pub pieces_make_the_whole : PiecesMakeTheWhole
pieces_make_the_whole bs =
    let whole : piece_count (length bs) - 0 ≡ piece_count (length bs) = sub-zero (piece_count (length bs)) in
    rw whole (first_pieces bs (piece_count (length bs)) 0
    ∙ take_all (piece_count (length bs) * limits.piece_length) bs (div_ceil_times (length bs) limits.piece_length (omega arith)).0)

-- it has a byte, and ends within the contents
abbrev Fits : ℕ → Piece → Type 0
Fits total piece = (1 ≤ piece.len) × (piece.from + piece.len ≤ total)

piece_fits : (total place : ℕ) → place < piece_count total → Fits total (piece_at total place)
piece_fits total place before =
    let bounds = div_ceil_times total limits.piece_length (omega arith) in
    (omega (arith, before, bounds.0, bounds.1), omega (arith, before, bounds.0, bounds.1))

pieces_fit_from : (total n place : ℕ) → place + n ≤ piece_count total → All (Fits total) (map (piece_at total) (range_with_len place n))
pieces_fit_from total zero place within = All-nil (Fits total)
pieces_fit_from total (suc n) place within =
    All-cons (Fits total) (piece_at total place) (map (piece_at total) (range_with_len (place + 1) n)) (piece_fits total place (omega (arith, within)))
    (pieces_fit_from total n (place + 1) (omega (arith, within)))

pub pieces_fit : PiecesFit
pieces_fit total = pieces_fit_from total (piece_count total - 0) 0 (omega arith)
