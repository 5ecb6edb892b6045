-- What the contracts rest on beside their callees.
use Rattle.std.proofs.Common.{◌≡◌, ◌≢◌, ◌⊎◌, inl, inr, ℕ, List, [], ◌∷◌, Bool, true, false, cond, map, Some, None, Result, Ok, Err, IfOk, IfErr, refl, ap}
use Rattle.std.proofs.Common.{arith, rules}
use Rattle.std.specs.Str.{IsUtf8}
use Rattle.matchit.proofs.OnLiterals.{matchit_on_literals}
use Rattle.http_wire.specs.Messages.{WireMessage}
use Rattle.http_wire.specs.Replies.{refusal_text}
use Rattle.rollout_model.specs.declared.refusal.Refusal.{Refusal}
use Rattle.rollout_model.specs.declared.refusal.Refusal.TheVariants.{NoMemory, StoreFailed, Stopped}
use Rattle.rollout_model.specs.declared.request.Request.{Request as RustRequest}
use Rattle.rollout_model.specs.declared.page.PageOf.{PageOf}
use Rattle.rollout_model.specs.declared.shown_target.ShownTarget.{ShownTarget}
use Rattle.rollout_machine.specs.Replies.{Refused}
use Rattle.rollout_model.specs.Rules.{is_word, kept_if}
use Rattle.rollout_model.proofs.RuleLemmas.{spelled_is_utf8}
use Rattle.rollout_machine.specs.Requests.{Asked, Asks, Rejected}
use Rattle.rollout_machine.specs.Views.{listed, listed_targets, request_of, shown_target}
use Rattle.request_target.specs.Rows.{are_routes}
use Rattle.mgmt_api.specs.Routes.{manage_table}
use Rattle.serde_json.specs.Written.{compact_text}
use Rattle.mgmt_objects.specs.Pages.{page_data}
use Rattle.mgmt_objects.specs.TargetObjects.{target_data}
use Rattle.mgmt_api.specs.Reading.{IsReadersOwn, ReadsRequest}
use Rattle.mgmt_api.specs.Replies.{json_reply, page_reply, parts_to, shown_target_data, text_of}

pub manage_table_is_good : are_routes manage_table ≡ true
unfolding matchit_on_literals
manage_table_is_good = refl

pub text_of-Refused : (m : WireMessage) (refusal : Refusal) → text_of (parts_to m (Refused refusal)) ≡ refusal_text refusal
unfolding refusal_text
text_of-Refused m refusal = refl

map-shown_target : (targets : List ShownTarget) → map shown_target_data (map shown_target targets) ≡ map target_data targets
map-shown_target [] = refl
map-shown_target (t ∷ targets) = ap (λ rest. target_data t ∷ rest) (map-shown_target targets)

-- a page of targets shows the objects of its targets
pub page_reply-targets : (page : PageOf ShownTarget) → page_reply shown_target_data (listed_targets page) ≡ page_reply target_data (listed page)
page_reply-targets page = ap (λ shown. json_reply 200 (compact_text (page_data shown page.total))) (map-shown_target page.content.items)

-- a word is a text
pub is_word-no_text : (bs : List ℕ) → (IsUtf8 bs → ⊥) → kept_if is_word bs ≡ None
is_word-no_text bs unread = by (is_word bs) refl
  where
    by : (v : Bool) → is_word bs ≡ v → cond v (Some bs) None ≡ None
    by true is = absurd (unread (spelled_is_utf8 1 64 bs is))
    by false is = refl

-- what a reader refuses by is nothing that the desk alone answers
reader_refuses : (refusal : Refusal) → IsReadersOwn refusal → (refusal ≢ StoreFailed) × (refusal ≢ Stopped)
reader_refuses refusal own = (λ is. grind arith, λ is. grind arith)

-- a reader's answer, clause by clause
pub told_apart : (asked : Asked) (result : Result RustRequest Refusal) → ReadsRequest asked result
    → IfOk result (λ r. asked ≡ Asks (request_of r)) × IfErr result (λ e. (e ≡ NoMemory) ⊎ (asked ≡ Rejected e))
    × IfErr result (λ e. e ≢ StoreFailed) × IfErr result (λ e. e ≢ Stopped)
told_apart asked (Ok r) reads = (reads, search rules, search rules, search rules)
told_apart asked (Err e) (inl memory) = (search rules, inl memory, λ is. grind arith, λ is. grind arith)
told_apart asked (Err e) (inr refused) = (search rules, inr refused.0, (reader_refuses e refused.1).0, (reader_refuses e refused.1).1)
