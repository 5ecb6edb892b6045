-- The texts that devices are shown, letter by letter.
use Rattle.std.specs.Prelude.{ℕ, List, [], ◌∷◌, ◌++◌, codes, decimal, map, Option, Some, None}
use Rattle.std.specs.List.{concat}
use Rattle.json.specs.Print.{quoted}
use Rattle.artifact_pieces.specs.Digests.{digest_digits}
use Rattle.rollout_machine.specs.Offers.{Offer}
use Rattle.rollout_machine.specs.Replies.{Artifact, Chunk, Deployment}
use Rattle.ddi_api.specs.Objects.{action_path, download_path, offer_kind}

-- a link to what is offered, if anything is
abbrev pub offer_letters : List ℕ → Option Offer → List ℕ
offer_letters id None = []
offer_letters id (Some offer) = concat (codes "\"" ∷ offer_kind offer.canceling ∷ codes "\":{\"href\":"
    ∷ quoted (action_path id (offer_kind offer.canceling) offer.action) ∷ codes "}" ∷ [])

abbrev pub poll_letters : List ℕ → Option Offer → List ℕ
poll_letters id offer = concat (codes "{\"_links\":{" ∷ offer_letters id offer ∷ codes "},\"config\":{\"polling\":{\"sleep\":\"00:05:00\"}}}" ∷ [])

abbrev pub cancel_letters : ℕ → List ℕ
cancel_letters action = concat (codes "{\"cancelAction\":{\"stopId\":" ∷ quoted (decimal action) ∷ codes "},\"id\":" ∷ quoted (decimal action) ∷ codes "}" ∷ [])

-- texts with a comma between two
abbrev pub behind_commas : List (List ℕ) → List ℕ
behind_commas [] = []
behind_commas (text ∷ texts) = codes "," ++ text ++ behind_commas texts

abbrev pub separated : List (List ℕ) → List ℕ
separated [] = []
separated (text ∷ texts) = text ++ behind_commas texts

abbrev pub artifact_letters : List ℕ → ℕ → Artifact → List ℕ
artifact_letters id module_number a =
    concat (codes "{\"_links\":{\"download-http\":{\"href\":" ∷ quoted (download_path id module_number a.filename) ∷ codes "}},\"filename\":"
    ∷ quoted a.filename ∷ codes ",\"hashes\":{\"sha256\":" ∷ quoted (digest_digits a.digest) ∷ codes "},\"size\":" ∷ decimal a.size ∷ codes "}" ∷ [])

abbrev pub chunk_letters : List ℕ → Chunk → List ℕ
chunk_letters id c =
    concat (codes "{\"artifacts\":[" ∷ separated (map (artifact_letters id c.module_number) c.artifacts) ∷ codes "],\"name\":" ∷ quoted c.label.name
    ∷ codes ",\"part\":" ∷ quoted c.label.kind ∷ codes ",\"version\":" ∷ quoted c.label.version ∷ codes "}" ∷ [])

abbrev pub deployment_letters : Deployment → List ℕ
deployment_letters d =
    concat (codes "{\"deployment\":{\"chunks\":[" ∷ separated (map (chunk_letters d.target) d.chunks)
    ∷ codes "],\"download\":\"forced\",\"update\":\"forced\"},\"id\":" ∷ quoted (decimal d.action) ∷ codes "}" ∷ [])
