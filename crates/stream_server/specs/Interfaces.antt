-- What the messages of an interface ask, and the bytes of the replies.
use Rattle.std.specs.Prelude.{ℕ, Bool, true, false, if◌then◌else◌, List, []}
use Rattle.std.specs.Option.{is_some}
use Rattle.http_wire.specs.declared.stream.End.{End}
use Rattle.http_wire.specs.declared.stream.End.TheVariants.{Input, Cut, Fault}
use Rattle.http_wire.specs.Faults.{refusal_of}
use Rattle.http_wire.specs.Messages.{WireMessage}
use Rattle.http_wire.specs.Replies.{refusal_text}
use Rattle.rollout_machine.specs.Requests.{Asked}
use Rattle.rollout_machine.specs.Replies.{Reply, PollShown, DeploymentShown, CancelShown}
use Rattle.http_wire.specs.Targets.{path_of}
use Rattle.ddi_api.specs.Reading.{device_reading}
use Rattle.ddi_api.specs.Replies.{parts_of as device_parts}
use Rattle.ddi_api.specs.Routes.{device_table}
use Rattle.mgmt_api.specs.Reading.{manage_reading}
use Rattle.mgmt_api.specs.Replies.{parts_to as manage_parts, text_of}
use Rattle.stream_server.specs.declared.interface.Interface.{Interface}
use Rattle.stream_server.specs.declared.interface.Interface.TheVariants.{Devices, Management, Both}
use Rattle.request_target.specs.Routes.{route_of}

-- what a message asks, by the routes of the interface: of both interfaces a device's call where the path is one's
unfoldable pub reading : Interface → WireMessage → Asked
reading Devices message = device_reading message
reading Management message = manage_reading message
reading Both message = if is_some (route_of device_table (path_of message.target)) then device_reading message else manage_reading message

-- what devices alone are shown
abbrev pub is_for_devices : Reply → Bool
is_for_devices (PollShown target offer) = true
is_for_devices (DeploymentShown d) = true
is_for_devices (CancelShown action) = true
is_for_devices reply = false

-- the bytes of the reply to a message: what devices alone are shown as their interface has it, and all else as that of management has it
unfoldable pub reply_text : WireMessage → Reply → List ℕ
reply_text message reply = text_of (if is_for_devices reply then device_parts reply else manage_parts message reply)

-- what is written for the end of a stream: the refusal of a fault
abbrev pub end_text : End → List ℕ
end_text Input = []
end_text Cut = []
end_text (Fault fault) = refusal_text (refusal_of fault)
