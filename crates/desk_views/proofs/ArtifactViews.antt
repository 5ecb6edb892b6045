-- From typed reads of artifacts to what is shown.
use Rattle.desk_views.proofs.Common.{◌≡◌, ℕ, ◌+◌, true, List, [], ◌∷◌, ◌++◌, map, length, take, drop, Option, Some, None, refl, ap, append-nil, arith}
use Rattle.desk_views.proofs.Common.{slice_get, flat_map, is_some, pieces_of_artifact, if_found, item_numbered, Bytes, ModuleLabel, page_of, ArtifactRecord}
use Rattle.desk_views.proofs.Common.{Artifact, ArtifactsShown, Page, listed, contents_found, flat_map-append, take_all}
use Rattle.artifact_pieces.proofs.PieceLemmas.{pieces_make_the_whole}
use Rattle.std.proofs.lemmas.Option.{slice_get_cases}
use Rattle.rollout_model.specs.declared.page.PageOf.{PageOf}
use Rattle.desk_views.proofs.PageLemmas.{one_more}

-- ---- pieces

-- the pieces, one after the other
abbrev pub together : List Bytes → Bytes
together pieces = flat_map (λ piece. piece) pieces

together_map : {X : Type 0} (f : X → Bytes) (xs : List X) → together (map f xs) ≡ flat_map f xs
together_map f [] = refl
together_map f (x ∷ xs) = ap (λ bs. f x ++ bs) (together_map f xs)

pub together_is : (found : Option ArtifactRecord) → together (pieces_of_artifact found) ≡ contents_found found
together_is found = grind (arith, together_map, pieces_make_the_whole)

-- the next piece is read
pub pieces_grow : (pieces : List Bytes) (bytes more : Bytes) (place number : ℕ) (piece : Bytes) → bytes ≡ together (take place pieces) → Some piece
    ≡ item_numbered pieces number → number ≡ place + 1 → more ≡ bytes ++ piece
    → more ≡ together (take (place + 1) pieces)
pieces_grow pieces bytes more place number piece is found at one =
    let here : slice_get pieces place ≡ Some piece = grind arith in
    grind (arith, append-nil piece, flat_map-append (λ (p : Bytes). p) (take place pieces) (piece ∷ []), ap together (one_more pieces place piece here))

pub all_taken : (pieces : List Bytes) (place : ℕ) → slice_get pieces place ≡ None → take place pieces ≡ pieces
all_taken pieces place is = grind (arith, slice_get_cases pieces place, take_all)

-- ---- the replies

pub page_shown : (found : Option ModuleLabel) (page : Page) (all : List Artifact) (part : PageOf Artifact) (is_there : is_some found ≡ true)
    → part.content.items ≡ take page.limit (drop page.offset all) → part.total ≡ length all
    → ArtifactsShown (listed part) ≡ if_found (λ (label : ModuleLabel). ArtifactsShown (page_of page all)) found
page_shown found page all part is_there content total = grind arith
