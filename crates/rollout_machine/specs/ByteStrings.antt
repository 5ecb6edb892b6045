-- Byte strings: equality, byte order, and sorted lists of them without repetition.
use Rattle.std.specs.Prelude.{Bool, true, false, ◌&&◌, ◌||◌, cond, nat_eq, nat_lt, List, [], ◌∷◌}
pub use Rattle.rollout_model.specs.Rules.{item_numbered}
use Rattle.rollout_machine.specs.Commands.{Bytes}

abbrev pub same_bytes : Bytes → Bytes → Bool
same_bytes [] [] = true
same_bytes [] (y ∷ ys) = false
same_bytes (x ∷ xs) [] = false
same_bytes (x ∷ xs) (y ∷ ys) = nat_eq x y && same_bytes xs ys

abbrev pub bytes_below : Bytes → Bytes → Bool
bytes_below xs [] = false
bytes_below [] (y ∷ ys) = true
bytes_below (x ∷ xs) (y ∷ ys) = nat_lt x y || (nat_eq x y && bytes_below xs ys)

abbrev pub contains_word : Bytes → List Bytes → Bool
contains_word w [] = false
contains_word w (v ∷ vs) = same_bytes w v || contains_word w vs

-- the word among words in byte order, once
abbrev pub with_word : Bytes → List Bytes → List Bytes
with_word w [] = w ∷ []
with_word w (v ∷ vs) = cond (same_bytes w v) (v ∷ vs) (cond (bytes_below w v) (w ∷ v ∷ vs) (v ∷ with_word w vs))

abbrev pub with_words : List Bytes → List Bytes → List Bytes
with_words [] vs = vs
with_words (w ∷ ws) vs = with_words ws (with_word w vs)

abbrev pub sorted_words : List Bytes → List Bytes
sorted_words [] = []
sorted_words (w ∷ ws) = with_word w (sorted_words ws)

abbrev pub without_word : Bytes → List Bytes → List Bytes
without_word w [] = []
without_word w (v ∷ vs) = cond (same_bytes w v) (without_word w vs) (v ∷ without_word w vs)
