-- What a message of the device interface asks.
use Rattle.std.specs.Prelude.{◌≡◌, ◌⊎◌, bytes_eq, if◌then◌else◌, Result, MatchResult, option_and_then, slice_get}
use Rattle.http_wire.specs.Messages.{WireMessage}
use Rattle.http_wire.specs.Targets.{path_of}
use Rattle.rollout_model.specs.declared.refusal.Refusal.{Refusal}
use Rattle.rollout_model.specs.declared.refusal.Refusal.TheVariants.{BadRequest, Unauthorized, NotFound, BadMethod, NoMemory}
use Rattle.rollout_model.specs.declared.credential.Credential.{Credential}
use Rattle.rollout_model.specs.Rules.{kept_if, is_filename}
use Rattle.rollout_machine.specs.Commands.{PutAttributes, Feedback, CancelFeedback}
use Rattle.rollout_machine.specs.Requests.{Ask, Query, Poll, ShowDeployment, ShowCancel, Download, Asked, Rejected, Asks}
use Rattle.rollout_machine.specs.Views.{request_of}
use Rattle.rollout_model.specs.declared.request.Request.{Request as RustRequest}
use Rattle.request_target.specs.Routes.{route_of, segments}
use Rattle.mgmt_api.specs.Reading.{added_by, of_item, or_rejected, without_query}
use Rattle.mgmt_objects.specs.Bodies.{body_data}
use Rattle.ddi_api.specs.Routes.{device_table, method_of}
use Rattle.ddi_api.specs.Credentials.{credential_of}
use Rattle.ddi_api.specs.FeedbackBodies.{cancel_word, deployment_word, feedback_in}
use Rattle.ddi_api.specs.ConfigBodies.{config_of}
use Rattle.ddi_api.specs.declared.call.DeviceCall.{DeviceCall}
use Rattle.ddi_api.specs.declared.call.DeviceCall.TheVariants as call

-- no query
abbrev pub shown_to_device : Query → WireMessage → Asked
shown_to_device query m = without_query m (Asks (Ask query))

-- what a device asks once it has said who it is: an action, or a module and a filename, are found in the path, no query is
-- taken, and the body is looked at last
abbrev pub asked_by_device : DeviceCall → Credential → WireMessage → Asked
asked_by_device call.Poll device m = shown_to_device (Poll device) m
asked_by_device call.ShowDeployment device m = of_item 6 (λ action. shown_to_device (ShowDeployment device action) m) m
asked_by_device call.Feedback device m =
    of_item 6 (λ action. added_by (option_and_then (feedback_in deployment_word device action) (body_data m.body)) Feedback m) m
asked_by_device call.ShowCancel device m = of_item 6 (λ action. shown_to_device (ShowCancel device action) m) m
asked_by_device call.CancelFeedback device m =
    of_item 6 (λ action. added_by (option_and_then (feedback_in cancel_word device action) (body_data m.body)) CancelFeedback m) m
asked_by_device call.PutAttributes device m = added_by (option_and_then config_of (body_data m.body)) (PutAttributes device) m
asked_by_device call.Download device m =
    of_item 6 (λ number. or_rejected NotFound (λ filename. shown_to_device (Download device number filename) m)
    (option_and_then (kept_if is_filename) (slice_get (segments (path_of m.target)) 8))) m

-- the first refusal that applies: the route, its call's one method, who the device says it is, and then the call's own
abbrev pub device_reading : WireMessage → Asked
device_reading m =
    or_rejected NotFound (λ called.
    if bytes_eq m.method (method_of called)
    then or_rejected Unauthorized (λ device. asked_by_device called device m) (credential_of m)
    else Rejected BadMethod)
    (route_of device_table (path_of m.target))

-- what a reader refuses by, beside want of memory
abbrev pub IsDeviceReadersOwn : Refusal → Type 0
IsDeviceReadersOwn refusal = (refusal ≡ NotFound) ⊎ (refusal ≡ BadMethod) ⊎ (refusal ≡ Unauthorized) ⊎ (refusal ≡ BadRequest)

-- the request that is asked, or the refusal that it is rejected by; in place of either, want of memory
abbrev pub ReadsRequest : Asked → Result RustRequest Refusal → Type 0
ReadsRequest asked result = MatchResult result (λ request. asked ≡ Asks (request_of request))
    (λ refusal. (refusal ≡ NoMemory) ⊎ ((asked ≡ Rejected refusal) × IsDeviceReadersOwn refusal))
