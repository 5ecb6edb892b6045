-- From pieces in the records to pieces that are handed out.
use Rattle.rollout_desk.proofs.Common.{◌≡◌, ◌<◌, ◌+◌, ◌*◌, ◌++◌, ℕ, zero, suc, List, take, drop, length, min, Option, Some, All, sym, subst, ap, ◌∙◌}
use Rattle.rollout_desk.proofs.Common.{arith, add-one, slice_get, option_map, pieces_in, pieces_of_artifact, piece_numbered, IsWhole, all_whole, item_numbered}
use Rattle.rollout_desk.proofs.Common.{CommandList, Bytes, ArtifactRecord, Records, records, limits, get_or, []}
use Rattle.std.proofs.lemmas.Grind.{div_ceil_times}
use Rattle.std.proofs.Math.Seq.{take-add}
use Rattle.std.proofs.lemmas.List.{take_min}
use Rattle.std.proofs.lemmas.List.Elements.{All-get_or}
use Rattle.std.proofs.lemmas.Option.{slice_get-get_or, slice_get_within, get_or_from_slice_get}
use Rattle.desk_records.proofs.PieceLists.{count_pieces, nth_piece}

-- ---- an artifact's size and digest are those of its contents

one_of : {X : Type 0} (P : X → Type 0) (xs : List X) (k : ℕ) (x : X) → All P xs → slice_get xs k ≡ Some x → P x
one_of P xs k x all is = subst P (get_or_from_slice_get xs k x x is) (All-get_or P xs k x (slice_get_within xs k x is) all)

pub is_whole : (h : CommandList) (number : ℕ) (a : ArtifactRecord) → item_numbered (records h).artifacts number ≡ Some a → IsWhole a
is_whole h zero a is = absurd cc
is_whole h (suc k) a is = one_of IsWhole (records h).artifacts k a (all_whole h) is

pub size_is : (h : CommandList) (number : ℕ) (a : ArtifactRecord) → item_numbered (records h).artifacts number ≡ Some a → a.size ≡ length a.contents
size_is h number a is = (is_whole h number a is).0

-- ---- the piece at a place

pieces_are : (found : Option ArtifactRecord) (contents : Bytes) → option_map (λ (a : ArtifactRecord). a.contents) found ≡ Some contents
    → pieces_of_artifact found ≡ pieces_in contents
pieces_are found contents is = grind arith

pub piece_is : (r : Records) (number k : ℕ) (contents piece : Bytes) → option_map (λ (a : ArtifactRecord). a.contents) (item_numbered r.artifacts number)
    ≡ Some contents → Some piece ≡ piece_numbered r.artifacts number (k + 1)
    → piece ≡ take limits.piece_length (drop (k * limits.piece_length) contents)
piece_is r number k contents piece has is = grind (arith, nth_piece, pieces_are, add-one)

-- .. is there, where the contents reach so far
nth_there : (contents : Bytes) (k : ℕ) → k * limits.piece_length < length contents → slice_get (pieces_in contents) k
    ≡ Some (take limits.piece_length (drop (k * limits.piece_length) contents))
nth_there contents k within =
    let ends = div_ceil_times (length contents) limits.piece_length (omega arith) in
    let few : k < length (pieces_in contents) = omega (arith, count_pieces contents, ends.0, within) in
    let there = slice_get-get_or (pieces_in contents) k [] few in
    there ∙ ap Some (nth_piece contents (get_or (pieces_in contents) k []) k there)

pub piece_there : (r : Records) (number k : ℕ) (contents : Bytes) → option_map (λ (a : ArtifactRecord). a.contents) (item_numbered r.artifacts number)
    ≡ Some contents → k * limits.piece_length < length contents
    → piece_numbered r.artifacts number (k + 1) ≡ Some (take limits.piece_length (drop (k * limits.piece_length) contents))
piece_there r number k contents has within = grind (arith, add-one, pieces_are, nth_there)

-- ---- what was handed out so far

module _ (contents : Bytes) (size k : ℕ) (is : size ≡ length contents) (more : k * limits.piece_length < size) where
  pub so_far : min (k * limits.piece_length) size ≡ k * limits.piece_length
  so_far = omega (arith, more)

  pub joins : take (min ((k + 1) * limits.piece_length) size) contents ≡ take (min (k * limits.piece_length) size) contents ++ take limits.piece_length
      (drop (k * limits.piece_length) contents)
  joins =
      let next : (k + 1) * limits.piece_length ≡ k * limits.piece_length + limits.piece_length = omega arith in
      ap (λ n. take (min ((k + 1) * limits.piece_length) n) contents) is ∙ take_min ((k + 1) * limits.piece_length) contents ∙ ap (λ n. take n contents) next
      ∙ take-add (k * limits.piece_length) limits.piece_length contents
      ∙ ap (λ n. take n contents ++ take limits.piece_length (drop (k * limits.piece_length) contents)) (sym so_far)
