-- Feedback in a body.
use Rattle.std.specs.Prelude.{ℕ, List, [], ◌∷◌, codes, bytes_eq, ◌&&◌, Option, Some, None, option_and_then, option_map, if◌then◌else◌}
use Rattle.std.specs.Option.{option_map_or}
use Rattle.serde_json.specs.Data.{Data}
use Rattle.serde_json.specs.Find.{get}
use Rattle.rollout_model.specs.Rules.{kept_if, is_detail, are_details, is_feedback_number}
use Rattle.rollout_model.specs.declared.feedback.DeviceFeedback.{DeviceFeedback}
use Rattle.rollout_machine.specs.Commands.{Credential, Proceeding, Scheduled, Resumed, DeploymentWord, Succeeded, Failed, Rejected, Noted, CancelWord}
use Rattle.rollout_machine.specs.Commands.{ClosedCancel, CanceledCancel, RejectedCancel, NotedCancel}
use Rattle.mgmt_objects.specs.Bodies.{if_given, string_member, text_in, whole_of}
use Rattle.mgmt_objects.specs.Traverse.{array_of}

-- the word of a pair of `execution` and `finished`, if it has a row
abbrev pub word_by_rows : {W : Type 0} → List (List ℕ × List ℕ × W) → List ℕ → List ℕ → Option W
word_by_rows [] execution finished = None
word_by_rows (row ∷ rows) execution finished = if bytes_eq execution row.0 && bytes_eq finished row.1 then Some row.2 else word_by_rows rows execution finished

abbrev pub deployment_word : List ℕ → List ℕ → Option DeploymentWord
deployment_word execution finished = word_by_rows (
    (codes "closed", codes "success", Succeeded)
    ∷ (codes "closed", codes "failure", Failed)
    ∷ (codes "proceeding", codes "none", Noted Proceeding)
    ∷ (codes "scheduled", codes "none", Noted Scheduled)
    ∷ (codes "resumed", codes "none", Noted Resumed)
    ∷ (codes "rejected", codes "none", Rejected) ∷ []) execution finished

abbrev pub cancel_word : List ℕ → List ℕ → Option CancelWord
cancel_word execution finished = word_by_rows (
    (codes "closed", codes "success", ClosedCancel)
    ∷ (codes "canceled", codes "success", CanceledCancel)
    ∷ (codes "rejected", codes "none", RejectedCancel)
    ∷ (codes "proceeding", codes "none", NotedCancel Proceeding)
    ∷ (codes "scheduled", codes "none", NotedCancel Scheduled)
    ∷ (codes "resumed", codes "none", NotedCancel Resumed) ∷ []) execution finished

-- `execution` stands in `status`, and `finished` in its object `result`
abbrev pub status_word : {W : Type 0} → (List ℕ → List ℕ → Option W) → Data → Option W
status_word words status =
    option_and_then (λ execution. option_and_then (words execution)
    (option_and_then (string_member (codes "finished")) (get (codes "result") status))) (string_member (codes "execution") status)

-- the number that the device gave, which stands beside `status`, and none where it is missing
abbrev pub number_given : Data → Option (Option ℕ)
number_given d = if_given (λ d. option_and_then (kept_if is_feedback_number) (whole_of d)) (get (codes "number") d)

-- an object with `status`, which says a word and perhaps at most 8 lines, and perhaps `number`
abbrev pub feedback_in : {W : Type 0} → (List ℕ → List ℕ → Option W) → Credential → ℕ → Data → Option (DeviceFeedback W)
feedback_in words device action d =
    option_and_then (λ number. option_and_then (λ status. option_and_then (λ word. option_map
    (λ details. record { credential = device; action = action; word = word; details = details; number = number })
    (option_and_then (kept_if are_details) (option_map_or (array_of (text_in is_detail)) (get (codes "details") status) (Some []))))
    (status_word words status)) (get (codes "status") d)) (number_given d)
