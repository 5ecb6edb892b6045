-- The id of a target that matches begins as the filter says.
use Rattle.target_filter.proofs.Common.{◌≡◌, ℕ, Bool, true, ◌&&◌, List, [], ◌∷◌, refl, arith, Target}
use Rattle.target_filter.proofs.Common.{Field, Id, Name, Tag, Attribute, Operator, Equal, NotEqual, Tree, Or, And, Group, Comparison, holds, IsJoined, pieces}
use Rattle.target_filter.proofs.Common.{matches}
use Rattle.target_filter.proofs.GreedyMatching.{matches_joins}
use Rattle.target_filter.specs.Meaning.{field_matches, compared, pattern_of}
use Rattle.target_filter.specs.Names.{BeginsWith, before_star, compared_start, first_piece, first_told, id_start}

and_left : (a b : Bool) → a && b ≡ true → a ≡ true
and_left a b h = grind arith

and_right : (a b : Bool) → a && b ≡ true → b ≡ true
and_right a b h = grind arith

begins_empty : (text : List ℕ) → BeginsWith [] text
begins_empty text = (text, refl)

joined_begins : (ps : List (List ℕ)) (text : List ℕ) → IsJoined ps text → BeginsWith (first_piece ps) text
joined_begins [] text h = absurd h
joined_begins (p ∷ ps) text (rest, e, g) = (rest, e)

begins_first : (first other text : List ℕ) → BeginsWith first text → BeginsWith other text → BeginsWith (first_told first other) text
begins_first [] other text h k = k
begins_first (b ∷ bs) other text h k = h

id_begins : (o : Operator) (pattern : List ℕ) (t : Target) → compared o (matches pattern t.id) ≡ true
    → BeginsWith (compared_start Id o (before_star pattern)) t.id
id_begins Equal pattern t h = joined_begins (pieces pattern) t.id (matches_joins pattern t.id h)
id_begins NotEqual pattern t h = begins_empty t.id

compared_begins : (f : Field) (o : Operator) (pattern : List ℕ) (t : Target) → compared o (field_matches f pattern t) ≡ true
    → BeginsWith (compared_start f o (before_star pattern)) t.id
compared_begins Id o pattern t h = id_begins o pattern t h
compared_begins Name o pattern t h = begins_empty t.id
compared_begins Tag o pattern t h = begins_empty t.id
compared_begins (Attribute key) o pattern t h = begins_empty t.id

pub begins_so : (tree : Tree) (t : Target) → holds tree t ≡ true → BeginsWith (id_start tree) t.id
begins_so (Or l r) t h = begins_empty t.id
begins_so (And l r) t h = begins_first (id_start l) (id_start r) t.id (begins_so l t (and_left _ _ h)) (begins_so r t (and_right _ _ h))
begins_so (Group tree) t h = begins_so tree t h
begins_so (Comparison f o v) t h = compared_begins f o (pattern_of v) t h
