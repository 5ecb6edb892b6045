-- The first table that doesn't agree is named.
use Rattle.desk_verify.proofs.Common.{arith, ◌<◌, ◌≤◌, ℕ, take, slice_index_or, AllByRecursion, Tables, Agrees, NamesFirst, Passes, checked, Artifact, subst}
use Rattle.std.proofs.Common.{drop-cons}
use Rattle.std.proofs.lemmas.List.{take-append-drop, take_all}

pub first_named : (t : Tables) (i : ℕ) → i < 5 → AllByRecursion (Passes t) (take i checked) → (Agrees t (slice_index_or checked i Artifact) → ⊥)
    → NamesFirst t (slice_index_or checked i Artifact)
first_named t i few pass differs = grind (arith, take-append-drop i checked, drop-cons checked i Artifact few, pass, differs)

-- all were checked
pub all_named : (t : Tables) (i : ℕ) → 5 ≤ i → AllByRecursion (Passes t) (take i checked) → AllByRecursion (Passes t) checked
all_named t i all pass = subst (AllByRecursion (Passes t)) (take_all i checked all) pass
