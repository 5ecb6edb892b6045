-- From typed reads to what a device is shown.
use Rattle.desk_views.proofs.Common.{◌≡◌, IfOk, ℕ, suc, ◌+◌, Bool, List, [], ◌∷◌, ◌++◌, find, Option, Some, None, Result, Ok, Err, refl, sym, ap, ◌∙◌, arith}
use Rattle.desk_views.proofs.Common.{append_assoc, slice_get, option_map, stored_rollout, artifact_named, if_found, query_reply, item_numbered, same_bytes}
use Rattle.desk_views.proofs.Common.{Bytes, Credential, artifacts_shown, chunks_of, ArtifactRecord, Records, RolloutRecord, Artifact, ContentsShown, Refused}
use Rattle.desk_views.proofs.Common.{Download, same_true, contents_found, downloadable, named, or_not_found, IsOfName, Has}
use Rattle.desk_records.specs.Tables.{Tables}
use Rattle.desk_records.specs.declared.rollout_row.StoredRollout.{StoredRollout}
use Rattle.rollout_machine.specs.Replies as shown
use Rattle.rollout_model.specs.declared.refusal.Refusal.{Refusal}
use Rattle.desk_store.specs.RawLists.{HasListed}

-- ---- chunks

module _ (r : Records) where
  pub chunks_join : (ms ns : List ℕ) → chunks_of r (ms ++ ns) ≡ chunks_of r ms ++ chunks_of r ns
  chunks_join [] ns = refl
  chunks_join (m ∷ ms) ns = grind (arith, chunks_join ms ns, append_assoc)

-- ---- modules of an action

module _ (r : Records) where
  -- the set of a rollout as it is kept
  pub set_named : (k : ℕ) (found : Option StoredRollout) → found ≡ option_map stored_rollout (item_numbered r.rollouts k)
      → option_map (λ (x : StoredRollout). x.plan.set_number) found ≡ option_map (λ (x : RolloutRecord). x.plan.set_number) (item_numbered r.rollouts k)
  set_named k found is = grind (arith, option_map)

-- ---- downloads

module _ (m : ℕ) (filename : Bytes) where
  abbrev has_name : Artifact → Bool
  has_name a = same_bytes a.filename filename

  -- what has the name among what the module's rows say
  pub named_said : (t : Tables) (artifacts : List Artifact) → ((a : Artifact) → Has artifacts a → HasListed t m a)
      → IfOk (named filename artifacts) (IsOfName t m filename)
  named_said t [] said = tt
  named_said t (a ∷ more) said = grind (arith, named_said t more, same_true)

  -- the first of these artifacts that has the name is shown by its number among all
  abbrev IsShown : List ArtifactRecord → Option Artifact → Option ArtifactRecord → Type 0
  IsShown all None x = x ≡ None
  IsShown all (Some s) x = (a : ArtifactRecord) × (x ≡ Some a) × (item_numbered all s.number ≡ Some a) × (s.size ≡ a.size)

  first_shown : (all : List ArtifactRecord) (n : ℕ) (xs : List ArtifactRecord) → ((k : ℕ) → item_numbered all (n + k) ≡ slice_get xs k)
      → IsShown all (find has_name (artifacts_shown m n xs)) (artifact_named m filename xs)
  first_shown all n [] at = refl
  first_shown all n (a ∷ xs) at =
      let here : item_numbered all n ≡ Some a = ap (item_numbered all) (omega arith) ∙ at 0 in
      grind (arith, first_shown all (suc n) xs (λ k. ap (item_numbered all) (omega arith) ∙ at (suc k)))

  -- the reply to a query for the contents, where this was found
  abbrev pub IsAnswered : Records → Result Artifact Refusal → shown.Reply → Type 0
  IsAnswered r (Ok s) reply = (a : ArtifactRecord) × (reply ≡ ContentsShown a.contents) × (item_numbered r.artifacts s.number ≡ Some a) × (s.size ≡ a.size)
  IsAnswered r (Err refusal) reply = reply ≡ Refused refusal

  module _ (r : Records) (device : Credential) where
    by_name : (x : Option Artifact) (y : Option ArtifactRecord) → IsShown r.artifacts x y
        → IsAnswered r (or_not_found x) (if_found (λ (a : ArtifactRecord). ContentsShown a.contents) y)
    by_name x y is = grind arith

    pub answered_by : (found : Result Artifact Refusal) → found ≡ downloadable r device m filename
        → IsAnswered r found (query_reply r (Download device m filename))
    answered_by found is = grind (arith, by_name, first_shown r.artifacts 1 r.artifacts (λ k. ap (item_numbered r.artifacts) {y = suc k} (omega arith)))

    -- with the contents of the artifact that was found
    pub downloaded : (s : Artifact) (contents : Bytes) → Ok s ≡ downloadable r device m filename → contents
        ≡ contents_found (item_numbered r.artifacts s.number) → ContentsShown contents ≡ query_reply r (Download device m filename)
    downloaded s contents is read = let it = answered_by (Ok s) is in ap ContentsShown (read ∙ ap contents_found it.2) ∙ sym it.1
