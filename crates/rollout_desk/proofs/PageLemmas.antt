-- A page of all targets, by the ids that are known of them and the targets that were read.
use Rattle.rollout_desk.proofs.Common.{◌≡◌, inl, inr, ℕ, length, false, None, Ok, Err, Vec, refl, sym, ap, ◌∙◌, arith, Global, State}
use Rattle.rollout_desk.proofs.Common.{HasCleanDisk}
use Rattle.rollout_desk.proofs.Common.{HoldsRecords, Looks, query_reply, CommandList, Records, records, Reply, Refused, Ask, Asks, Page, AppliesAt}
use Rattle.rollout_desk.proofs.Common.{IsValid, StandsFor, query_answer, reply_of, Refusal, desk_state_at, is_store, is_failed_store}
use Rattle.std.specs.Prelude.{◌^◌, ◌<◌, List, Some}
use Rattle.std.proofs.lemmas.List.{length-map}
use Rattle.desk_records.specs.Targets.{ids_of}
use Rattle.desk_views.specs.Targets.{IsContentOf}
use Rattle.rollout_machine.proofs.WithinLimits.{limits_hold}
use Rattle.rollout_machine.specs.Commands.{Bytes}
use Rattle.rollout_machine.specs.Requests.{ShowTargets}
use Rattle.rollout_machine.specs.Targets.{Target}
use Rattle.rollout_model.specs.declared.request.Reply.TheVariants as reply
use Rattle.rollout_model.specs.declared.shown_target.ShownTarget.{ShownTarget}
use Rattle.rollout_desk.specs.Desks.{AreIdsOf, Known, desk_state_knowing}
use Rattle.rollout_desk.specs.Looks.{HasPage}
use Rattle.rollout_desk.proofs.ApplyLemmas.{answered, stands}
use Rattle.rollout_desk.proofs.KnowingLemmas.{shown_length, unknowing}
use Rattle.rollout_desk.proofs.LookLemmas.{interrupted, query_refused}

page_shown : (r : Records) (page : Page) (content : Vec ShownTarget Global) (total : ℕ) → total ≡ length r.targets → IsContentOf page r content.items
    → reply_of (reply.Targets (record { content = content; total = total })) ≡ query_reply r (ShowTargets None page)
page_shown r page content total count is = grind (arith, shown_length)

-- as many as have ids
counted : (h : CommandList) → IsValid h → (ids : List Bytes) (total : ℕ) → ids ≡ ids_of (records h).targets
    → (length ids < 2 ^ 32 → total ≡ length ids) → total ≡ length (records h).targets
counted h valid ids total are is =
    let same : length ids ≡ length (records h).targets = ap length are ∙ length-map (records h).targets (λ (t : Target). t.id) in
    is (omega (arith, same, (limits_hold h valid).targets)) ∙ same

module _ (a b : State) (page : Page) (known : Known) {A : Type 0} (Answer : Records → A → Type 0) where
  abbrev Answered : Reply → Type 0
  Answered made = (h : CommandList) → HasCleanDisk b → StandsFor (desk_state_knowing HoldsRecords known false a) h
      → AppliesAt h (desk_state_at HoldsRecords (is_failed_store made) b) (Asks (Ask (ShowTargets None page))) made

  pub page_answered : (found : A) (content : Vec ShownTarget Global) (ids : List Bytes) (total : ℕ) → (length ids < 2 ^ 32 → total ≡ length ids)
      → Looks HoldsRecords a b (Ok found) Answer
      → ((r : Records) → AreIdsOf known r → Answer r found → HasPage page r content.items ids)
      → Answered (reply_of (reply.Targets (record { content = content; total = total })))
  page_answered found content ids total count look has h clean standing =
      let it = look.looks (records h) (λ _. standing.shows.0) in
      let is = has (records h) standing.shows.1 (it.1 clean) in
      answered h standing.valid b (Ask (ShowTargets None page)) (reply_of (reply.Targets (record { content = content; total = total }))) None
      (ap (λ (x : Reply). record { reply = x; accepted = None })
      (page_shown (records h) page content total (counted h standing.valid ids total is.0 count) is.1)
      ∙ sym (query_answer h (ShowTargets None page))) (stands b h standing.valid (it.0 clean))

  pub page_refused : (refusal : Refusal) → Looks HoldsRecords a b (Err refusal) Answer → Answered (Refused refusal)
  page_refused refusal look h clean standing = query_refused (desk_state_at HoldsRecords (is_store refusal) b) h (ShowTargets None page) refusal
      (elim (interrupted known false a b Answer (Err refusal) look refusal {Other = Unit {0}} (inl refl)
      (is_store refusal) refl h clean standing) [
        | inl none ↦ inl (none.0, unknowing HoldsRecords known (is_store refusal) b h none.1)
        | inr lost ↦ inr (lost.0, record { stopped = lost.1.stopped; crash = lost.1.crash })
      ])

-- ids that were read are those of the records
pub learnt : (a b : State) (page : Page) (content : Vec ShownTarget Global) (ids : Vec Bytes Global)
    → Looks HoldsRecords {A = Vec ShownTarget Global × Vec Bytes Global} a b (Ok (content, ids)) (λ r found. HasPage page r found.0.items found.1.items)
    → (h : CommandList) → HasCleanDisk b → StandsFor (desk_state_knowing HoldsRecords None false a) h → AreIdsOf (Some ids) (records h)
learnt a b page content ids look h clean standing = ((look.looks (records h) (λ _. standing.shows.0)).1 clean).0
