-- When a pattern matches a text: the text is the pattern's pieces in order, with some text in each place of a `*`.
use Rattle.std.specs.Prelude.{◌≡◌, ℕ, List, [], ◌∷◌, ◌++◌, Bool, true, false, cond, ◌==◌, ◌&&◌, ◌||◌}

-- the byte in front of the first piece
abbrev pub with_first_byte : ℕ → List (List ℕ) → List (List ℕ)
with_first_byte b [] = (b ∷ []) ∷ []
with_first_byte b (piece ∷ pieces) = (b ∷ piece) ∷ pieces

-- what stands between the stars, one piece more than there are stars; 42 is `*`
abbrev pub pieces : List ℕ → List (List ℕ)
pieces [] = [] ∷ []
pieces (b ∷ bs) = cond (b == 42) ([] ∷ pieces bs) (with_first_byte b (pieces bs))

-- the text is these pieces, with some text before each
abbrev pub IsJoinedAfterStar : List (List ℕ) → List ℕ → Type 0
IsJoinedAfterStar [] text = text ≡ []
IsJoinedAfterStar (piece ∷ more) text = (gap : List ℕ) × (rest : List ℕ) × (text ≡ gap ++ (piece ++ rest)) × IsJoinedAfterStar more rest

-- the text is these pieces, with some text between them
abbrev pub IsJoined : List (List ℕ) → List ℕ → Type 0
IsJoined [] text = ⊥
IsJoined (piece ∷ more) text = (rest : List ℕ) × (text ≡ piece ++ rest) × IsJoinedAfterStar more rest

abbrev pub Matches : List ℕ → List ℕ → Type 0
Matches pattern text = IsJoined (pieces pattern) text

-- ---- the same as a test

-- a star takes nothing, or a byte and goes on
abbrev pub star_takes : (List ℕ → Bool) → List ℕ → Bool
star_takes rest [] = rest []
star_takes rest (b ∷ bs) = rest (b ∷ bs) || star_takes rest bs

abbrev pub byte_then : ℕ → (List ℕ → Bool) → List ℕ → Bool
byte_then a rest [] = false
byte_then a rest (b ∷ bs) = a == b && rest bs

abbrev pub is_empty : List ℕ → Bool
is_empty [] = true
is_empty (b ∷ bs) = false

abbrev pub matches : List ℕ → List ℕ → Bool
matches [] text = is_empty text
matches (a ∷ pattern) text = cond (a == 42) (star_takes (matches pattern) text) (byte_then a (matches pattern) text)
