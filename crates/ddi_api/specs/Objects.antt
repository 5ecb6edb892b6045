-- The objects that devices are shown.
use Rattle.std.specs.Prelude.{ℕ, Bool, List, ◌++◌, codes, decimal, map, Option, Some, None, if◌then◌else◌}
use Rattle.serde_json.specs.Data.{Data, Members, array, string, object, member, no_members}
use Rattle.serde_json.specs.View.{items_of}
use Rattle.rollout_machine.specs.Replies.{Artifact, Chunk, Deployment}
use Rattle.rollout_machine.specs.Offers.{Offer}
use Rattle.rollout_machine.specs.Views.{chunk}
use Rattle.rollout_model.specs.declared.rollout.Chunk.{Chunk as RustChunk}
use Rattle.mgmt_objects.specs.ArtifactObjects.{hashes_data}
use Rattle.mgmt_objects.specs.Pages.{whole}

-- the path of a device
abbrev pub device_path : List ℕ → List ℕ
device_path id = codes "/DEFAULT/controller/v1/" ++ id

-- the path of an action of the device, as a deployment or as a cancel
abbrev pub action_path : List ℕ → List ℕ → ℕ → List ℕ
action_path id kind action = device_path id ++ codes "/" ++ kind ++ codes "/" ++ decimal action

-- the path of an artifact of a module
abbrev pub download_path : List ℕ → ℕ → List ℕ → List ℕ
download_path id module_number filename = device_path id ++ codes "/softwaremodules/" ++ decimal module_number ++ codes "/artifacts/" ++ filename

abbrev pub link_data : List ℕ → Data
link_data path = object (member (codes "href") (string path) no_members)

-- an offer's kind, as its link and its path name it
abbrev pub offer_kind : Bool → List ℕ
offer_kind canceling = if canceling then codes "cancelAction" else codes "deploymentBase"

-- a link to what is offered, if anything is
abbrev pub offer_links : List ℕ → Option Offer → Members
offer_links id None = no_members
offer_links id (Some offer) = member (offer_kind offer.canceling) (link_data (action_path id (offer_kind offer.canceling) offer.action)) no_members

-- what a device polls, and how long it sleeps until it polls again
abbrev pub poll_data : List ℕ → Option Offer → Data
poll_data id offer =
    object (member (codes "_links") (object (offer_links id offer))
    (member (codes "config") (object (member (codes "polling") (object (member (codes "sleep") (string (codes "00:05:00")) no_members)) no_members))
    no_members))

-- the action that is to be canceled, its number as a text
abbrev pub cancel_data : ℕ → Data
cancel_data action = object (member (codes "cancelAction") (object (member (codes "stopId") (string (decimal action)) no_members))
    (member (codes "id") (string (decimal action)) no_members))

-- an artifact of a module, as the device of this id downloads it
abbrev pub device_artifact_data : List ℕ → ℕ → Artifact → Data
device_artifact_data id module_number a =
    object (member (codes "_links") (object (member (codes "download-http") (link_data (download_path id module_number a.filename)) no_members))
    (member (codes "filename") (string a.filename) (member (codes "hashes") (hashes_data a) (member (codes "size") (whole a.size) no_members))))

abbrev pub chunk_data : List ℕ → Chunk → Data
chunk_data id c =
    object (member (codes "artifacts") (array (items_of (map (device_artifact_data id c.module_number) c.artifacts)))
    (member (codes "name") (string c.label.name) (member (codes "part") (string c.label.kind)
    (member (codes "version") (string c.label.version) no_members))))

-- what a device is to install, the action's number as a text
abbrev pub deployment_object : ℕ → List Data → Data
deployment_object action chunks =
    object (member (codes "deployment") (object (member (codes "chunks") (array (items_of chunks))
    (member (codes "download") (string (codes "forced")) (member (codes "update") (string (codes "forced")) no_members))))
    (member (codes "id") (string (decimal action)) no_members))

-- the object of a module as the types of replies hold it
abbrev pub shown_chunk : List ℕ → RustChunk → Data
shown_chunk id c = chunk_data id (chunk c)

abbrev pub deployment_data : Deployment → Data
deployment_data d = deployment_object d.action (map (chunk_data d.target) d.chunks)
