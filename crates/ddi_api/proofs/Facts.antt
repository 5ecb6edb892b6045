-- What the contracts rest on beside their callees.
use Rattle.ddi_api.proofs.Common.{◌≡◌, ℕ, List, Bool, true, false, cond, Some, None, bytes_eq, refl, Refusal, Refused, device_table, method_of}
use Rattle.std.specs.Str.{IsUtf8}
use Rattle.matchit.proofs.OnLiterals.{matchit_on_literals}
use Rattle.rollout_model.specs.Rules.{is_spelled, is_word_letter}
use Rattle.rollout_model.proofs.RuleLemmas.{spelled_is_utf8}
use Rattle.request_target.specs.Rows.{are_routes}
use Rattle.http_wire.specs.Messages.{WireMessage}
use Rattle.http_wire.specs.Targets.{path_of}
use Rattle.http_wire.specs.Replies.{refusal_text}
use Rattle.rollout_model.specs.declared.refusal.Refusal.TheVariants.{Unauthorized}
use Rattle.rollout_machine.specs.Requests.{Rejected}
use Rattle.ddi_api.specs.declared.call.DeviceCall.{DeviceCall}
use Rattle.ddi_api.specs.Credentials.{credential_of}
use Rattle.ddi_api.specs.Reading.{device_reading}
use Rattle.mgmt_api.specs.Replies.{text_of}
use Rattle.ddi_api.specs.Replies.{parts_of}
use Rattle.request_target.specs.Routes.{route_of}

pub device_table_is_good : are_routes device_table ≡ true
unfolding matchit_on_literals
device_table_is_good = refl

-- what is spelled in the letters of words is a text
pub spelled-no_text : (low high : ℕ) (bs : List ℕ) → (IsUtf8 bs → ⊥) → None ≡ cond (is_spelled is_word_letter low high bs) (Some bs) None
spelled-no_text low high bs unread = by (is_spelled is_word_letter low high bs) refl
  where
    by : (v : Bool) → is_spelled is_word_letter low high bs ≡ v → None ≡ cond v (Some bs) None
    by true is = absurd (unread (spelled_is_utf8 low high bs is))
    by false is = refl

pub unauthorized_first : (m : WireMessage) (call : DeviceCall) → route_of device_table (path_of m.target) ≡ Some call → bytes_eq m.method (method_of call)
    ≡ true
    → credential_of m ≡ None → device_reading m ≡ Rejected Unauthorized
unauthorized_first m call route method nobody = rw (route, method, nobody) refl

pub text_of-Refused : (refusal : Refusal) → text_of (parts_of (Refused refusal)) ≡ refusal_text refusal
unfolding refusal_text
text_of-Refused refusal = refl
