-- The text of each reply.
use Rattle.std.specs.Prelude.{[]}
use Rattle.serde_json.specs.Written.{compact_text}
use Rattle.http_wire.specs.declared.reply.ContentType.TheVariants.{Octets}
use Rattle.rollout_machine.specs.Replies.{Reply, Refused, Done, ContentsShown, PollShown, DeploymentShown, CancelShown}
use Rattle.mgmt_api.specs.Replies.{ReplyParts, file_reply, json_reply, parts_of as manage_parts_of}
use Rattle.ddi_api.specs.Objects.{cancel_data, deployment_data, poll_data}

-- a refusal and a command that has nothing to show as the management interface has them; the kinds that no request of this
-- interface is answered by have no body
abbrev pub parts_of : Reply → ReplyParts
parts_of (Refused refusal) = manage_parts_of (Refused refusal)
parts_of Done = manage_parts_of Done
parts_of (ContentsShown contents) = file_reply Octets contents
parts_of (PollShown target offer) = json_reply 200 (compact_text (poll_data target offer))
parts_of (DeploymentShown d) = json_reply 200 (compact_text (deployment_data d))
parts_of (CancelShown action) = json_reply 200 (compact_text (cancel_data action))
parts_of _ = json_reply 200 []
