-- What the reads of an artifact's addition say, and what its writes come to.
use Rattle.desk_commands.proofs.Common.{◌≡◌, ◌≤◌, ℕ, suc, ◌+◌, ◌-◌, ◌*◌, min, nat_eq, not, List, [], ◌∷◌, ◌++◌, length, filter, take}
use Rattle.desk_commands.proofs.Common.{drop, Some, refl, sym, ap, ◌∙◌, arith, subst, append_assoc, append-nil, slice_get, pointwise, length-append}
use Rattle.desk_commands.proofs.Common.{length-take, length-drop, take-append-drop, command_reply, added_artifact, item_numbered, same_bytes, Bytes, Upload}
use Rattle.desk_commands.proofs.Common.{AddArtifact, ArtifactRecord, Records, artifact_from, step_records, ArtifactAdded, wrong_digest, reply_of, Artifact}
use Rattle.desk_commands.proofs.Common.{AddsArtifact, AddsContents, same_pointwise}
use Rattle.desk_records.specs.Artifacts.{with_artifact, and_piece, AddsPiece}
use Rattle.rollout_machine.specs.Digests.{digest_of}
use Rattle.rollout_machine.specs.Objects.{artifact_shown, artifacts_shown}
use Rattle.rollout_model.specs.Limits.{limits}
use Rattle.rollout_model.specs.declared.request.Reply.TheVariants as reply
use Rattle.campaign_core.specs.Checks.{IsArtifactView}
use Rattle.campaign_core.specs.declared.checks.artifacts.ArtifactView.{ArtifactView}
use Rattle.campaign_core.specs.declared.checks.artifacts.NewArtifact.{NewArtifact}

-- ---- the view

-- as many artifacts of a module are shown as there are
pub shown_count : (m k : ℕ) (artifacts : List ArtifactRecord) → length (artifacts_shown m k artifacts)
    ≡ length (filter (λ (a : ArtifactRecord). nat_eq a.module_number m) artifacts)
shown_count m k [] = refl
shown_count m k (a ∷ artifacts) = grind (arith, shown_count m (suc k) artifacts)

pub is_another : (u : Upload) (named digest : Bytes) → u.expected ≡ Some named → digest ≡ digest_of u.contents → not (pointwise nat_eq named digest)
    ≡ wrong_digest u
is_another u named digest is same = rw is (ap not (same_pointwise named digest) ∙ ap (λ d. not (same_bytes named d)) same)

-- ---- the contents, piece by piece

abbrev with_artifacts : Records → List ArtifactRecord → Records
with_artifacts r artifacts = record r { artifacts = artifacts }

pub adds_no_bytes : (number before : ℕ) (bytes : Bytes) → length bytes ≡ 0 → (r next : Records) → AddsContents number before bytes r next → next ≡ r
adds_no_bytes number before [] none r next h = grind (arith, append-nil)
adds_no_bytes number before (b ∷ bytes) none r next h = absurd (omega (arith, none))

pub adds_first_piece : (number before n : ℕ) (bytes : Bytes) → 1 ≤ length bytes → n ≡ min 65536 (length bytes) → (r next : Records)
    → AddsContents number before bytes r next
    → (mid : Records) × AddsPiece number (before + 1) (take n bytes) r mid × AddsContents number (before + 1) (drop n bytes) mid next
adds_first_piece number before n bytes some is r next h =
    let front = length-take n bytes in
    let back = length-drop n bytes in
    let place : before ≡ (before + 1) - 1 = omega arith in
    let mid = with_artifacts r (h.others ++ and_piece h.artifact (take n bytes) ∷ []) in (
      mid,
      record {
        before = h.others;
        artifact = h.artifact;
        last = h.last;
        number_is = h.number_is;
        sequence_least = omega arith;
        so_far = h.so_far some ∙ ap (λ k. k * limits.piece_length) place;
        bytes_least = omega (arith, front, is, some);
        bytes_limit = omega (arith, front, is);
        next_is = refl;
      },
      record {
        others = h.others;
        artifact = and_piece h.artifact (take n bytes);
        last = refl;
        number_is = h.number_is;
        so_far = λ more. (let whole = h.so_far some in let long = length-append h.artifact.contents (take n bytes) in
            omega (arith, long, whole, front, back, is, more));
        next_is = h.next_is
            ∙ ap (λ (c : Bytes). with_artifacts r (h.others ++ (record h.artifact { contents = c }) ∷ []))
            (ap (λ b. h.artifact.contents ++ b) (sym (take-append-drop n bytes)) ∙ sym (append_assoc h.artifact.contents (take n bytes) (drop n bytes)));
      },
    )

-- ---- the whole artifact

pub adds_parts : (m : ℕ) (artifact : Artifact) (contents : Bytes) (r next : Records) → AddsArtifact m artifact contents r next
    → (mid : Records) × ((artifact.number ≡ length r.artifacts + 1) × (mid ≡ with_artifact r m artifact.filename artifact.size artifact.digest))
    × AddsContents artifact.number 0 contents mid next
adds_parts m artifact contents r next h = grind arith

abbrev pub uploaded : Upload → NewArtifact → Artifact
uploaded u added = record { number = added.number; filename = u.filename; size = added.size; digest = added.digest }

-- the new artifact is that of the upload, with the next number
pub is_of_upload : (r : Records) (u : Upload) (view : ArtifactView) (added : NewArtifact) → IsArtifactView view u r
    → added ≡ record { number = view.count + 1; size = view.size; digest = view.digest }
    → uploaded u added ≡ artifact_shown (length r.artifacts + 1) (artifact_from u)
is_of_upload r u view added is new = grind arith

pub artifact_is_step : (u : Upload) (artifact : Artifact) (r : Records) → artifact ≡ artifact_shown (length r.artifacts + 1) (artifact_from u)
    → AddsArtifact u.module_number artifact u.contents r (step_records r (AddArtifact u))
artifact_is_step u artifact r is = subst (λ (a : Artifact). AddsArtifact u.module_number a u.contents r (step_records r (AddArtifact u))) (sym is) (refl, refl)

pub last_there : {X : Type 0} (xs : List X) (x : X) → slice_get (xs ++ x ∷ []) (length xs) ≡ Some x
last_there [] x = refl
last_there (y ∷ xs) x = last_there xs x

-- the artifact that a command adds is shown with the next number
pub artifact_added : (r : Records) (u : Upload) (artifact : Artifact) → artifact ≡ artifact_shown (length r.artifacts + 1) (artifact_from u)
    → reply_of (reply.ArtifactAdded artifact) ≡ command_reply (AddArtifact u) (step_records r (AddArtifact u))
artifact_added r u artifact is =
    let xs = r.artifacts ++ artifact_from u ∷ [] in
    let long = length-append r.artifacts (artifact_from u ∷ []) in
    let count : length xs ≡ suc (length r.artifacts) = omega (arith, long) in
    let next : length r.artifacts + 1 ≡ suc (length r.artifacts) = omega arith in
    let shown : added_artifact (length xs) (item_numbered xs (length xs)) ≡ ArtifactAdded (artifact_shown (suc (length r.artifacts)) (artifact_from u)) =
    ap (λ n. added_artifact n (item_numbered xs n)) count ∙ ap (added_artifact (suc (length r.artifacts))) (last_there r.artifacts (artifact_from u)) in
    ap ArtifactAdded (is ∙ ap (λ n. artifact_shown n (artifact_from u)) next) ∙ sym shown
