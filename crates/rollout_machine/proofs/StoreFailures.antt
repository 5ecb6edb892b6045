-- No answer is a failed store: verdicts and queries have other refusals.
use native.Mathlib.Omega.{arith}
use Rattle.rollout_machine.proofs.Common.{◌≡◌, ◌≢◌, Bool, true, false, List, [], ◌∷◌, Option, Some, None, refl, ap, sym, subst, ◌∙◌, cond, not}
use Rattle.rollout_machine.proofs.Common.{◌&&◌, query_reply, command_reply, command_answer, if_found, for_device, targets_reply}
use Rattle.rollout_machine.proofs.Common.{targets_matching, action_of_target}
use Rattle.rollout_machine.proofs.Common.{artifact_of_module, item_numbered, CommandList, Bytes, Credential, Command}
use Rattle.rollout_machine.proofs.Common.{filter_of, Tree, offer, records, Records}
use Rattle.rollout_machine.proofs.Common.{Reply, Refused, PollShown, Page, Query, Poll, ShowDeployment}
use Rattle.rollout_machine.proofs.Common.{ShowCancel, Download, ShowTargets, ShowTarget, ShowTargetActions, ShowAction, ShowHistory, ShowModules, ShowModule}
use Rattle.rollout_machine.proofs.Common.{ShowArtifacts, ShowArtifact, ShowContents, ShowSets, ShowSet, ShowRollouts, ShowRollout, ShowGroups, ShowGroup}
use Rattle.rollout_machine.proofs.Common.{ShowGroupTargets, ShowReport, ShowActionsTable, Request, Do, Ask, Asks, group_numbered, verdict, check, verdict_row}
use Rattle.rollout_machine.proofs.Common.{first_refusal, is_known, target_of, Refusal, StoreFailed, Unauthorized, false≢true, and_parts}
use Rattle.rollout_machine.specs.Answers.{answer}
use Rattle.rollout_machine.specs.StoreFailures.{is_failed_store, is_store}

pub failed_true : (reply : Reply) → is_failed_store reply ≡ true → reply ≡ Refused StoreFailed
failed_true reply e = grind arith

-- a reply by the test
pub no_store_reply : (reply : Reply) → is_failed_store reply ≡ false → reply ≢ Refused StoreFailed
no_store_reply reply never e = false≢true (sym never ∙ ap is_failed_store e)

-- ---- verdicts

abbrev never_stores : List (Bool × Refusal) → Bool
never_stores [] = true
never_stores ((t, refusal) ∷ row) = not (is_store refusal) && never_stores row

rows_never_store : (rs : Records) (c : Command) → never_stores (verdict_row rs c) ≡ true
rows_never_store rs c = grind arith

not_true : (b : Bool) → not b ≡ true → b ≡ false
not_true b e = grind arith

first_never_stores : (row : List (Bool × Refusal)) (refusal : Refusal) → never_stores row ≡ true → first_refusal row ≡ Some refusal → is_store refusal ≡ false
first_never_stores [] refusal never e = absurd (cc)
first_never_stores ((t, other) ∷ row) refusal never e = go t e (first_never_stores row refusal (and_parts _ _ never).1) where
  go : (b : Bool) → cond b (Some other) (first_refusal row) ≡ Some refusal → (first_refusal row ≡ Some refusal → is_store refusal ≡ false) → is_store refusal
      ≡ false
  go true f later = let same : other ≡ refusal = cc in subst (λ (r : Refusal). is_store r ≡ false) same (not_true _ (and_parts _ _ never).0)
  go false f later = later f

pub check_never_stores : (rs : Records) (c : Command) (refusal : Refusal) → check rs c ≡ Some refusal → is_store refusal ≡ false
check_never_stores rs c refusal e = first_never_stores (verdict_row rs c) refusal (rows_never_store rs c) e

-- ---- queries

found_never : {X : Type 0} (reply : X → Reply) (o : Option X) → ((x : X) → is_failed_store (reply x) ≡ false) → is_failed_store (if_found reply o) ≡ false
found_never reply o never = grind arith

one_of_two : (b : Bool) (x y : Reply) → is_failed_store x ≡ false → is_failed_store y ≡ false → is_failed_store (cond b x y) ≡ false
one_of_two b x y ex ey = grind arith

device_never : (rs : Records) (device : Credential) (reply : Reply) → is_failed_store reply ≡ false → is_failed_store (for_device rs device reply) ≡ false
device_never rs device reply never = one_of_two (is_known rs device) reply (Refused Unauthorized) never refl

targets_never : (rs : Records) (page : Page) (o : Option Bytes) → is_failed_store (targets_reply rs page o) ≡ false
targets_never rs page None = refl
targets_never rs page (Some text) = go (filter_of text) where
  go : (o : Option Tree) → is_failed_store (targets_matching rs page o) ≡ false
  go None = refl
  go (Some f) = refl

query_never_stores : (rs : Records) (query : Query) → is_failed_store (query_reply rs query) ≡ false
query_never_stores rs (Poll device) = device_never rs device (PollShown device.id (offer rs device.id)) refl
query_never_stores rs (ShowDeployment device k) = grind (arith, device_never, one_of_two)
query_never_stores rs (ShowCancel device k) = grind (arith, device_never, one_of_two)
query_never_stores rs (Download device m filename) = grind (arith, device_never, one_of_two, found_never)
query_never_stores rs (ShowTargets filter_text page) = targets_never rs page filter_text
query_never_stores rs (ShowTarget t) = found_never _ (target_of rs t) (λ x. refl)
query_never_stores rs (ShowTargetActions t page) = found_never _ (target_of rs t) (λ x. refl)
query_never_stores rs (ShowAction t k) = found_never _ (action_of_target rs t k) (λ a. refl)
query_never_stores rs (ShowHistory t k page) = found_never _ (action_of_target rs t k) (λ a. refl)
query_never_stores rs (ShowModules page) = refl
query_never_stores rs (ShowModule k) = found_never _ (item_numbered rs.modules k) (λ label. refl)
query_never_stores rs (ShowArtifacts m page) = found_never _ (item_numbered rs.modules m) (λ label. refl)
query_never_stores rs (ShowArtifact m k) = found_never _ (artifact_of_module rs m k) (λ a. refl)
query_never_stores rs (ShowContents m k) = found_never _ (artifact_of_module rs m k) (λ a. refl)
query_never_stores rs (ShowSets page) = refl
query_never_stores rs (ShowSet k) = found_never _ (item_numbered rs.sets k) (λ label. refl)
query_never_stores rs (ShowRollouts page) = refl
query_never_stores rs (ShowRollout r) = found_never _ (item_numbered rs.rollouts r) (λ x. refl)
query_never_stores rs (ShowGroups r page) = found_never _ (item_numbered rs.rollouts r) (λ x. refl)
query_never_stores rs (ShowGroup r i) = found_never _ (item_numbered rs.rollouts r) (λ x. found_never _ (group_numbered i x.groups) (λ g. refl))
query_never_stores rs (ShowGroupTargets r i page) = found_never _ (item_numbered rs.rollouts r) (λ x. found_never _ (group_numbered i x.groups) (λ g. refl))
query_never_stores rs (ShowReport r) = found_never _ (item_numbered rs.rollouts r) (λ x. refl)
query_never_stores rs (ShowActionsTable r) = found_never _ (item_numbered rs.rollouts r) (λ x. refl)

-- ---- commands

done_never_stores : (c : Command) (rs : Records) → is_failed_store (command_reply c rs) ≡ false
done_never_stores c rs = grind arith

command_never_stores : (h : CommandList) (c : Command) (o : Option Refusal) → verdict h c ≡ o → is_failed_store (command_answer h c o).reply ≡ false
command_never_stores h c o e = grind (arith, done_never_stores, check_never_stores)

-- a desk's own answer to a request is no failed store
pub answer_never_stores : (h : CommandList) (request : Request) → (answer h (Asks request)).reply ≢ Refused StoreFailed
unfolding answer
answer_never_stores h (Do c) = no_store_reply _ (command_never_stores h c (verdict h c) refl)
answer_never_stores h (Ask query) = no_store_reply _ (query_never_stores (records h) query)
