-- What the reads of the tables of artifacts and pieces come to.
use Rattle.desk_verify.proofs.Common.{◌≡◌, ℕ, suc, ◌+◌, Bool, true, false, not, true≢false, List, [], ◌∷◌, map, length, nat_eq, Vec, vec_items, Some, None}
use Rattle.desk_verify.proofs.Common.{refl, sym, ap, subst, ◌∙◌, arith, AllByRecursion, pointwise, Global, Decides-eqb, nat_tests, slice_eq-Decides, Row}
use Rattle.desk_verify.proofs.Common.{column, all_from, all_has, piece_count, Bytes, ArePieces, pieces_in, Artifacts, Pieces, Tables, number_in_is}
use Rattle.desk_verify.proofs.Common.{one_number, count_pieces, ListsRows, SaysArtifact, any_row, SettlesWhether, HashesPieces, AgreesArtifacts, not-false}
use Rattle.desk_verify.specs.Artifacts.{IsWhole}
use Rattle.desk_records.specs.declared.checked_rows.CheckedArtifact.{CheckedArtifact}
use Rattle.desk_verify.proofs.PieceChecks.{none_found, one_whole}

-- ---- one artifact

pub are_other : (xs ys : Bytes) (r : Bool) → r ≡ not (pointwise nat_eq xs ys) → r ≡ true → xs ≡ ys → ⊥
are_other xs ys r is told same = true≢false (sym told ∙ is ∙ ap not ((slice_eq-Decides Decides-eqb xs ys (pointwise nat_eq xs ys) refl).1 same))

pub are_same : (xs ys : Bytes) (r : Bool) → r ≡ not (pointwise nat_eq xs ys) → r ≡ false → xs ≡ ys
are_same xs ys r is told = (slice_eq-Decides Decides-eqb xs ys (pointwise nat_eq xs ys) refl).0 (not-false (pointwise nat_eq xs ys) (sym is ∙ told))

pub other_digest : (t : Tables) (a : CheckedArtifact) (digest : Bytes) → HashesPieces t a.number a.artifact.size (Some digest)
    → (digest ≡ a.artifact.digest → ⊥) → SettlesWhether (IsWhole t a) false
other_digest t a digest has other whole = grind (arith, one_whole t a.number has.contents whole.contents)

-- what lies behind the last piece decides
pub by_end : (t : Tables) (a : CheckedArtifact) (digest : Bytes) (behind : List (Vec ℕ Global)) (count place : ℕ) (none : Bool)
    → HashesPieces t a.number a.artifact.size (Some digest) → digest ≡ a.artifact.digest → count ≡ piece_count a.artifact.size
    → place ≡ count + 1 → ArePieces (t Pieces) a.number place (map vec_items behind) → none ≡ nat_eq (length behind) 0 → SettlesWhether (IsWhole t a) none
by_end t a digest behind count place none has is so_many at lies is_none = subst (SettlesWhether (IsWhole t a)) (sym is_none) (go behind lies)
  where
    here : (contents : Bytes) → length contents ≡ a.artifact.size → place ≡ length (pieces_in contents) + 1
    here contents long = let many = count_pieces contents ∙ ap piece_count long in omega (arith, at, so_many, many)

    some : (n : ℕ) → nat_eq (suc n) 0 ≡ false
    some n = grind (arith, nat_tests)

    go : (behind : List (Vec ℕ Global)) → ArePieces (t Pieces) a.number place (map vec_items behind) → SettlesWhether (IsWhole t a) (nat_eq (length behind) 0)
    go [] lies = grind (arith, here has.contents has.long, has.is, is)
    go (piece ∷ more) lies = grind (arith, some (length more), here, none_found (t Pieces) a.number place (piece.items ∷ map vec_items more))

-- ---- all of them

-- a row says one artifact
same_whole : (t : Tables) (row : Row) (a b : CheckedArtifact) → SaysArtifact row a → SaysArtifact row b → IsWhole t a → IsWhole t b
same_whole t row a b says_a says_b whole = grind (arith, one_number, column, number_in_is)

pub row_broken : (t : Tables) → ListsRows (t Artifacts) any_row SaysArtifact None → SettlesWhether (AgreesArtifacts t) false
row_broken t broken agree = let it = agree broken.row broken.among in broken.breaks it.artifact it.is

pub by_each : (t : Tables) (artifacts : List CheckedArtifact) (whole : Bool) → ListsRows (t Artifacts) any_row SaysArtifact (Some artifacts)
    → SettlesWhether (AllByRecursion (IsWhole t) artifacts) whole → SettlesWhether (AgreesArtifacts t) whole
by_each t artifacts true are each = λ row among. let it = are.complete row among refl in
    grind (arith, it.is, all_has (IsWhole t) artifacts it.one each it.among)
by_each t artifacts false are other = λ agree. other (all_from (IsWhole t) artifacts (λ a among.
    let said = are.sound a among in
    let it = agree said.row said.among in
    same_whole t said.row it.artifact a it.is said.is it.whole))
