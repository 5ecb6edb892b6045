-- A digest's digits name it.
use Rattle.std.proofs.Common.{◌≡◌, ◌<◌, ◌&&◌, ℕ, zero, suc, List, [], ◌∷◌, length, Bool, true, false, arith, refl}
use Rattle.std.specs.List.{list_all}
use Rattle.std.specs.Prelude.{slice_index, nat_eq}
use Rattle.std.proofs.lemmas.Bool.{and_parts, eqb-true, leb-true}
use Rattle.hex.proofs.HexLemmas.{decode_sized-encode_lower}
use Rattle.hex.specs.Hex.{IsBytes}
use Rattle.artifact_pieces.specs.Digests.{DigestsAreReadBack, decoded}
use Rattle.rollout_model.specs.Rules.{is_byte}

bytes_are_below : (bs : List ℕ) → list_all is_byte bs ≡ true → IsBytes bs
bytes_are_below [] h i = omega arith
bytes_are_below (b ∷ bs) h zero = omega (arith, leb-true b 255 (and_parts _ _ h).0)
bytes_are_below (b ∷ bs) h (suc i) = bytes_are_below bs (and_parts _ _ h).1 i

pub digests_are_read_back : DigestsAreReadBack
digests_are_read_back digest h =
    let parts = and_parts (nat_eq (length digest) 32) (list_all is_byte digest) h in
    rw (decode_sized-encode_lower digest 32 (eqb-true (length digest) 32 parts.0) (bytes_are_below digest parts.1)) refl
