-- The texts that devices are shown, letter by letter.
use Rattle.ddi_api.proofs.Common.{◌≡◌, ℕ, List, [], ◌∷◌, ◌++◌, Bool, true, false, Option, Some, None, codes, decimal, map, refl, append_assoc, quoted}
use Rattle.ddi_api.proofs.Common.{items_of, Artifact, Chunk, Deployment, action_path, device_artifact_data, cancel_data, chunk_data}
use Rattle.ddi_api.proofs.Common.{deployment_data}
use Rattle.ddi_api.proofs.Common.{download_path, link_data, offer_kind, poll_data, artifact_letters, behind_commas, cancel_letters, chunk_letters}
use Rattle.ddi_api.proofs.Common.{deployment_letters, poll_letters, separated}
use Rattle.std.specs.List.{concat}
use Rattle.serde_json.specs.Data.{Data, object, member, no_members, string}
use Rattle.serde_json.specs.Written.{compact_text, items_text}
use Rattle.serde_json.proofs.OnLiterals.{serde_json_on_literals}
use Rattle.artifact_pieces.specs.Digests.{digest_digits}
use Rattle.rollout_machine.specs.Offers.{Offer}
use Rattle.mgmt_objects.specs.Pages.{whole}

-- the items of an array behind its bracket
behind_bracket : {A : Type 0} (shows : A → Data) (letters : A → List ℕ) → ((x : A) → compact_text (shows x) ≡ letters x) → (xs : List A)
    → items_text true (items_of (map shows xs)) ≡ behind_commas (map letters xs) ++ codes "]"
behind_bracket shows letters same [] = refl
behind_bracket shows letters same (x ∷ xs) = rw (same x, behind_bracket shows letters same xs) (simp append_assoc)

items_spelled : {A : Type 0} (shows : A → Data) (letters : A → List ℕ) → ((x : A) → compact_text (shows x) ≡ letters x) → (xs : List A)
    → items_text false (items_of (map shows xs)) ≡ separated (map letters xs) ++ codes "]"
items_spelled shows letters same [] = refl
items_spelled shows letters same (x ∷ xs) = rw (same x, behind_bracket shows letters same xs) (simp append_assoc)

-- by the path of what is offered
offered_at : (canceling : Bool) (path : List ℕ)
    → compact_text (object (member (codes "_links") (object (member (offer_kind canceling) (link_data path) no_members))
    (member (codes "config") (object (member (codes "polling") (object (member (codes "sleep") (string (codes "00:05:00")) no_members)) no_members))
    no_members)))
    ≡ concat (codes "{\"_links\":{" ∷ concat (codes "\"" ∷ offer_kind canceling ∷ codes "\":{\"href\":" ∷ quoted path ∷ codes "}" ∷ [])
    ∷ codes "},\"config\":{\"polling\":{\"sleep\":\"00:05:00\"}}}" ∷ [])
unfolding serde_json_on_literals
offered_at true path = simp append_assoc
offered_at false path = simp append_assoc

pub poll_spelled : (id : List ℕ) (offer : Option Offer) → compact_text (poll_data id offer) ≡ poll_letters id offer
unfolding serde_json_on_literals
poll_spelled id None = refl
poll_spelled id (Some offer) = offered_at offer.canceling (action_path id (offer_kind offer.canceling) offer.action)

pub cancel_spelled : (action : ℕ) → compact_text (cancel_data action) ≡ cancel_letters action
unfolding serde_json_on_literals
cancel_spelled action = simp append_assoc

-- by the texts of an artifact
artifact_at : (path filename digest : List ℕ) (size : ℕ)
    → compact_text (object (member (codes "_links") (object (member (codes "download-http") (link_data path) no_members))
    (member (codes "filename") (string filename)
    (member (codes "hashes") (object (member (codes "sha256") (string digest) no_members)) (member (codes "size") (whole size) no_members)))))
    ≡ concat (codes "{\"_links\":{\"download-http\":{\"href\":" ∷ quoted path ∷ codes "}},\"filename\":" ∷ quoted filename ∷ codes ",\"hashes\":{\"sha256\":"
    ∷ quoted digest ∷ codes "},\"size\":" ∷ decimal size ∷ codes "}" ∷ [])
unfolding serde_json_on_literals
artifact_at path filename digest size = simp append_assoc

artifact_spelled : (id : List ℕ) (module_number : ℕ) (a : Artifact) → compact_text (device_artifact_data id module_number a)
    ≡ artifact_letters id module_number a
artifact_spelled id module_number a = artifact_at (download_path id module_number a.filename) a.filename (digest_digits a.digest) a.size

chunk_spelled : (id : List ℕ) (c : Chunk) → compact_text (chunk_data id c) ≡ chunk_letters id c
unfolding serde_json_on_literals
chunk_spelled id c = rw (items_spelled (device_artifact_data id c.module_number) (artifact_letters id c.module_number) (artifact_spelled id c.module_number)
    c.artifacts) (simp append_assoc)

pub deployment_spelled : (d : Deployment) → compact_text (deployment_data d) ≡ deployment_letters d
unfolding serde_json_on_literals
deployment_spelled d = rw (items_spelled (chunk_data d.target) (chunk_letters d.target) (chunk_spelled d.target) d.chunks) (simp append_assoc)
