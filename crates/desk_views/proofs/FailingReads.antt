-- Why reads of sets, artifacts and targets of a list of accepted commands are no failed stores by themselves.
use Rattle.desk_views.proofs.Common.{◌≡◌, ◌≤◌, ◌<◌, ◌^◌, ◌≢◌, ◌⊎◌, ℕ, suc, false, List, [], ◌∷◌, length, Some, sym, ap, ◌∙◌, arith}
use Rattle.desk_views.proofs.Common.{artifacts_shown, item_numbered, ArtifactRecord, Records, Artifact, AreOfList}
use Rattle.desk_views.proofs.Common.{contents_found, is_contents}
use Rattle.std.specs.Iterator.{Yields}
use Rattle.std.specs.Vec.Iter.{into_iter_items, into_iter_steps}
use Rattle.std.specs.declared.vec.IntoIter.{IntoIter}
use Rattle.desk_views.proofs.ListRules.{few_artifacts, keeps_contents, keeps_size}

-- ---- sets

-- ---- artifacts

pub shown_few : (m n : ℕ) (xs : List ArtifactRecord) → length (artifacts_shown m n xs) ≤ length xs
shown_few m n [] = omega arith
shown_few m n (a ∷ xs) = grind (arith, shown_few m (suc n) xs)

-- a module's artifacts are counted
pub artifacts_counted : (r : Records) → AreOfList r → (m : ℕ) (all : List Artifact) → all ≡ artifacts_shown m 1 r.artifacts → 2 ^ 32 ≤ length all → ⊥
artifacts_counted r of m all is large = omega (arith, ap length is, large, shown_few m 1 r.artifacts, few_artifacts r of)

-- the bytes that are found are contents
pub contents_read : (r : Records) → AreOfList r → (k size : ℕ) (bytes : List ℕ) → bytes ≡ contents_found (item_numbered r.artifacts k)
    → size ≡ length (contents_found (item_numbered r.artifacts k)) → (length bytes ≢ size) ⊎ (is_contents bytes ≡ false) → ⊥
contents_read r of k size bytes is sized h7 = grind (arith, keeps_contents)

pub size_of_numbered : (r : Records) → AreOfList r → (k size : ℕ) (a : ArtifactRecord) → item_numbered r.artifacts k ≡ Some a → size ≡ a.size
    → size ≡ length (contents_found (item_numbered r.artifacts k))
size_of_numbered r of k size a there sized = grind (arith, keeps_size r of k a)

-- ---- pages of targets

-- what was given before another is not yet all
pub some_left : {X A : Type 0} (s t u : IntoIter X A) (xs all : List X) (x : X) → into_iter_items s ≡ all → Yields into_iter_steps s xs t
    → into_iter_steps t (Some x) u → length xs < length all
some_left s t u [] all x is given next = omega (arith, ap length (sym is ∙ ap into_iter_items given ∙ next.0))
some_left s t u (y ∷ ys) all x is given next = grind (arith, some_left given.0 t u ys (into_iter_items given.0) x)
