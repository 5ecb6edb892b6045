-- The objects of actions and of the entries of their histories.
use Rattle.std.specs.Prelude.{ℕ, List, [], ◌∷◌, codes, decimal, map, Option, Some, None}
use Rattle.std.specs.List.{concat}
use Rattle.json.specs.Print.{quoted}
use Rattle.serde_json.specs.Data.{Data, array, string, object, member, no_members, put}
use Rattle.serde_json.specs.View.{items_of}
use Rattle.rollout_model.specs.StateTexts.{action_text}
use Rattle.rollout_model.specs.declared.feedback.NoteWord.{NoteWord}
use Rattle.rollout_model.specs.declared.feedback.NoteWord.TheVariants as note
use Rattle.rollout_model.specs.declared.feedback.DeploymentWord.TheVariants as deployment
use Rattle.rollout_model.specs.declared.feedback.CancelWord.TheVariants as cancel
use Rattle.rollout_model.specs.declared.feedback.HistoryEntry.{HistoryEntry}
use Rattle.rollout_model.specs.declared.feedback.Said.{Said}
use Rattle.rollout_model.specs.declared.feedback.Said.TheVariants.{Deployment, Cancel}
use Rattle.rollout_model.specs.declared.rollout.Action.{Action}
use Rattle.rollout_model.specs.declared.rollout.NumberedEntry.{NumberedEntry}
use Rattle.mgmt_objects.specs.Pages.{whole}

-- an action, its members in byte order
abbrev pub action_data : Action → Data
action_data a = object (member (codes "group") (whole a.group)
    (member (codes "id") (whole a.number) (member (codes "rollout") (whole a.rollout)
    (member (codes "status") (string (action_text a.word)) (member (codes "target") (string a.target) no_members)))))

-- its text, letter by letter
abbrev pub action_letters : Action → List ℕ
action_letters a =
    concat (codes "{\"group\":" ∷ decimal a.group ∷ codes ",\"id\":" ∷ decimal a.number ∷ codes ",\"rollout\":" ∷ decimal a.rollout
    ∷ codes ",\"status\":" ∷ quoted (action_text a.word) ∷ codes ",\"target\":" ∷ quoted a.target ∷ codes "}" ∷ [])

-- ---- `execution` and `finished` of what a device said

abbrev pub note_text : NoteWord → List ℕ
note_text note.Proceeding = codes "proceeding"
note_text note.Scheduled = codes "scheduled"
note_text note.Resumed = codes "resumed"

abbrev pub said_texts : Said → List ℕ × List ℕ
said_texts (Deployment deployment.Succeeded) = (codes "closed", codes "success")
said_texts (Deployment deployment.Failed) = (codes "closed", codes "failure")
said_texts (Deployment deployment.Rejected) = (codes "rejected", codes "none")
said_texts (Deployment (deployment.Noted note)) = (note_text note, codes "none")
said_texts (Cancel cancel.Closed) = (codes "closed", codes "success")
said_texts (Cancel cancel.Canceled) = (codes "canceled", codes "success")
said_texts (Cancel cancel.Rejected) = (codes "rejected", codes "none")
said_texts (Cancel (cancel.Noted note)) = (note_text note, codes "none")

-- ---- entries

abbrev pub kind_text : Said → List ℕ
kind_text (Deployment word) = codes "deployment"
kind_text (Cancel word) = codes "cancel"

-- an entry of this number in the history of its action, its members in byte order
abbrev pub entry_members : ℕ → HistoryEntry → Data
entry_members number e =
    object (member (codes "details") (array (items_of (map string e.details)))
    (member (codes "execution") (string (said_texts e.said).0) (member (codes "finished") (string (said_texts e.said).1)
    (member (codes "id") (whole number) (member (codes "kind") (string (kind_text e.said)) no_members)))))

-- an object, and the number that the device gave as one more member, if it gave one
abbrev pub with_number_member : Option ℕ → Data → Data
with_number_member None d = d
with_number_member (Some n) (object members) = object (put (codes "number") (whole n) members)
with_number_member (Some n) d = d

-- an entry, and the number that the device gave it
abbrev pub entry_data : NumberedEntry → Data
entry_data e = with_number_member e.reported.number (entry_members e.number e.reported.entry)
