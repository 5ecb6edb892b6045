-- How contents are cut into pieces.
use Rattle.std.specs.Prelude.{ℕ, All, ◌≤◌, ◌+◌, ◌-◌, ◌*◌, ◌≡◌, min, map, List, length, take, drop}
use Rattle.std.specs.List.{flat_map, range_with_len}
use Rattle.std.specs.Int.{div_ceil}
use Rattle.artifact_pieces.specs.declared.pieces.Piece.{Piece}
use Rattle.rollout_model.specs.Limits.{limits}

-- how many pieces contents of this length have: none has no byte
abbrev pub piece_count : ℕ → ℕ
piece_count total = div_ceil total limits.piece_length

-- a piece by its place, counted from 0: all have the same length, but the last one may be shorter
abbrev pub piece_at : ℕ → ℕ → Piece
piece_at total place = record { from = place * limits.piece_length; len = min limits.piece_length (total - place * limits.piece_length) }

-- the pieces of contents of this length, but the first few
abbrev pub pieces_from : ℕ → ℕ → List Piece
pieces_from total place = map (piece_at total) (range_with_len place (piece_count total - place))

abbrev pub pieces_of : ℕ → List Piece
pieces_of total = pieces_from total 0

-- the bytes of a piece
abbrev pub piece_bytes : List ℕ → Piece → List ℕ
piece_bytes contents piece = take piece.len (drop piece.from contents)

-- the pieces of some contents, one after the other, are the contents
abbrev pub PiecesMakeTheWhole : Type 0
PiecesMakeTheWhole = (contents : List ℕ) → flat_map (piece_bytes contents) (pieces_of (length contents)) ≡ contents

-- each piece has a byte, and ends within the contents
abbrev pub PiecesFit : Type 0
PiecesFit = (total : ℕ) → All (λ piece. (1 ≤ piece.len) × (piece.from + piece.len ≤ total)) (pieces_of total)
