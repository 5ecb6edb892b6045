use Rattle.stream_server.proofs.Common.{◌≡◌, ◌≢◌, ℕ, List, true, false, Result, IfOk, refl, sym, ◌∙◌, Refusal, Reply, Refused}
use Rattle.stream_server.proofs.Common.{message_of, WireMessage, is_for_devices, IsToldWhole}
use Rattle.stream_server.proofs.Common.{arith}
use Rattle.rollout_machine.specs.Views.{reply_of}
use Rattle.http_wire.specs.Replies.{answer_text}
use Rattle.http_wire.specs.declared.reply.Answer.{Answer}
use Rattle.ddi_api.specs.Replies.{parts_of as device_parts}
use Rattle.mgmt_api.specs.Replies.{parts_to, text_of}
use Rattle.stream_server.specs.Interfaces.{reply_text}
use Rattle.stream_server.proofs.bytes.answer_to.Goals as goal

-- the connection goes on after a reply that is no refusal
manage_goes_on : (m : WireMessage) (reply : Reply) → ((refusal : Refusal) → reply ≢ Refused refusal) → (parts_to m reply).ends ≡ false
manage_goes_on m reply success = grind arith

-- and after what devices alone are shown
device_goes_on : (reply : Reply) → is_for_devices reply ≡ true → (device_parts reply).ends ≡ false
device_goes_on reply is = grind arith

by_device : (m : WireMessage) (reply : Reply) → is_for_devices reply ≡ true → text_of (device_parts reply) ≡ reply_text m reply
unfolding reply_text
by_device m reply is = rw is refl

by_manage : (m : WireMessage) (reply : Reply) → is_for_devices reply ≡ false → text_of (parts_to m reply) ≡ reply_text m reply
unfolding reply_text
by_manage m reply is = rw is refl

told : (m : WireMessage) (reply : Reply) (r : Result Answer Refusal) (text : List ℕ) (P : Type 0) → (((refusal : Refusal) → reply ≢ Refused refusal) → P)
    → text ≡ reply_text m reply → IfOk r (λ answer. P → answer_text answer ≡ text)
    → IfOk r (λ answer. IsToldWhole m reply (answer_text answer))
told m reply r text P goes same is = grind arith

pub returns-then-is_for_devices : goal.returns-then-is_for_devices
returns-then-is_for_devices c =
    let reply = reply_of c.args.reply.now in
    let is : is_for_devices reply ≡ true = sym c.is_for_devices.ensures ∙ c.if-is_for_devices.true in
    told (message_of c.args.message.now) reply c.device_reply.result (text_of (device_parts reply)) _ (λ success. device_goes_on reply is)
    (by_device (message_of c.args.message.now) reply is) c.device_reply.ensures.text

pub returns-else-is_for_devices : goal.returns-else-is_for_devices
returns-else-is_for_devices c =
    let reply = reply_of c.args.reply.now in
    let m = message_of c.args.message.now in
    let is : is_for_devices reply ≡ false = sym c.is_for_devices.ensures ∙ c.if-is_for_devices.false in
    told m reply c.manage_reply_to.result (text_of (parts_to m reply)) _ (manage_goes_on m reply) (by_manage m reply is) c.manage_reply_to.ensures.text
