use Rattle.std.proofs.Common.{◌≡◌, Some, slice_get, option_and_then, sym, ap, ◌∙◌}
use Rattle.http_wire.specs.Inbox.{message_of}
use Rattle.http_wire.specs.Targets.{path_of}
use Rattle.request_target.specs.Routes.{segments}
use Rattle.rollout_model.specs.Rules.{kept_if, is_word}
use Rattle.mgmt_api.proofs.Facts.{is_word-no_text}
use Rattle.mgmt_api.proofs.path.text_in.Goals as goal

-- a segment that isn't UTF-8 is no word
pub returns-in_default : goal.returns-in_default
returns-in_default c =
    let at : Some c.in_ok-segment.segment.now ≡ slice_get (segments (path_of (message_of c.args.message.now).target)) c.args.place =
    rw c.path.ensures at c.in_ok-segment.ensures in
    sym (is_word-no_text c.in_ok-segment.segment.now c.in_default.ensures.cases.0) ∙ ap (option_and_then (kept_if is_word)) at
