-- What answers to devices name and give is offered.
use native.Mathlib.Omega.{arith}
use Rattle.rollout_machine.proofs.Common.{◌≡◌, ℕ, Bool, true, false, cond, not, ◌&&◌, [], Option, Some, None, refl, subst, ◌∙◌, nat_eq, ActionPlace}
use Rattle.rollout_machine.proofs.Common.{query_reply, if_found, for_device, download, targets_reply, targets_matching, is_offer_of, modules_offered}
use Rattle.rollout_machine.proofs.Common.{artifact_named, action_of_target, artifact_of_module, item_numbered, CommandList, Bytes, Credential, IsOfferable}
use Rattle.rollout_machine.proofs.Common.{IsLeastOffer, deployment_shown, modules_of_action, Offer, offer, records, Records, ArtifactRecord, Reply, Refused}
use Rattle.rollout_machine.proofs.Common.{PollShown, DeploymentShown, CancelShown, ContentsShown, Page, Query, Poll, ShowDeployment, ShowCancel, Download}
use Rattle.rollout_machine.proofs.Common.{ShowTargets, ShowTarget, ShowTargetActions, ShowAction, ShowHistory, ShowModules, ShowModule, ShowArtifacts}
use Rattle.rollout_machine.proofs.Common.{ShowArtifact, ShowContents, ShowSets, ShowSet, ShowRollouts, ShowRollout, ShowGroups, ShowGroup, ShowGroupTargets}
use Rattle.rollout_machine.proofs.Common.{ShowReport, ShowActionsTable, IsValid, is_known, target_of, NotFound, Unauthorized, Tree, filter_of}
use Rattle.rollout_machine.proofs.Common.{list_any, option_map, and_parts, eqb-true}
use Rattle.rollout_machine.specs.Answers.{answer}
use Rattle.rollout_machine.specs.Promises.{named_action, NamedIsOfferable, IsDownloadable, DownloadsAreOffered}
use Rattle.rollout_machine.proofs.Offers.{offer_is_least}

-- ---- replies that name no action

names_none : {X : Type 0} (reply : X → Reply) (o : Option X) → ((x : X) → named_action (reply x) ≡ None) → named_action (if_found reply o) ≡ None
names_none reply o none = grind arith

either_none : (b : Bool) (x y : Reply) → named_action x ≡ None → named_action y ≡ None → named_action (cond b x y) ≡ None
either_none b x y ex ey = grind arith

targets_none : (rs : Records) (page : Page) (o : Option Bytes) → named_action (targets_reply rs page o) ≡ None
targets_none rs page None = refl
targets_none rs page (Some text) = go (filter_of text) where
  go : (o : Option Tree) → named_action (targets_matching rs page o) ≡ None
  go None = refl
  go (Some f) = refl

never : {k : ℕ} {o : Option ℕ} → o ≡ None → o ≡ Some k → ⊥
never none some = cc

-- ---- what a device is told

-- an offer of this number
record HasOffer (rs : Records) (t : Bytes) (k : ℕ) : Type 0 where
  pub offered : Offer
  pub there : offer rs t ≡ Some offered
  pub number : offered.action ≡ k

if_known : (rs : Records) (device : Credential) (reply : Reply) (k : ℕ) → named_action (for_device rs device reply) ≡ Some k → named_action reply ≡ Some k
if_known rs device reply k e = go (is_known rs device) e where
  go : (b : Bool) → named_action (cond b reply (Refused Unauthorized)) ≡ Some k → named_action reply ≡ Some k
  go true f = f
  go false f = cc

polled : (rs : Records) (t : Bytes) (k : ℕ) → option_map (λ (x : Offer). x.action) (offer rs t) ≡ Some k → HasOffer rs t k
polled rs t k e = go (offer rs t) refl e where
  go : (o : Option Offer) → offer rs t ≡ o → option_map (λ (x : Offer). x.action) o ≡ Some k → HasOffer rs t k
  go None d f = cc
  go (Some x) d f = record { offered = x; there = d; number = cc }

-- an answer that comes only where the action is offered
where_offered : (rs : Records) (t : Bytes) (kind : Bool) (n k : ℕ) (reply : Reply) → named_action reply ≡ Some n
    → named_action (cond (is_offer_of n kind (offer rs t)) reply (Refused NotFound)) ≡ Some k → HasOffer rs t k
where_offered rs t kind n k reply names e = go (offer rs t) refl e where
  by : (x : Offer) (b : Bool) → offer rs t ≡ Some x → (nat_eq x.action n && cond kind x.canceling (not x.canceling)) ≡ b
      → named_action (cond b reply (Refused NotFound)) ≡ Some k → HasOffer rs t k
  by x true d f g = let same : n ≡ k = cc in record { offered = x; there = d; number = eqb-true _ _ (and_parts _ _ f).0 ∙ same }
  by x false d f g = cc

  go : (o : Option Offer) → offer rs t ≡ o → named_action (cond (is_offer_of n kind o) reply (Refused NotFound)) ≡ Some k → HasOffer rs t k
  go None d f = cc
  go (Some x) d f = by x _ d refl f

offerable_by : (h : CommandList) (t : Bytes) (k : ℕ) → IsValid h → HasOffer (records h) t k → (u : Bytes) × (p : ActionPlace) × IsOfferable h u k p
offerable_by h t k v w =
    let least : IsLeastOffer h t w.offered = (offer_is_least h t v).0 w.offered w.there in
    (t, least.place, subst (λ (n : ℕ). IsOfferable h t n least.place) w.number least.offerable)

named_is : (h : CommandList) (query : Query) (k : ℕ) → IsValid h → named_action (query_reply (records h) query) ≡ Some k → (t : Bytes) × (p : ActionPlace)
    × IsOfferable h t k p
named_is h (Poll device) k v e =
    offerable_by h device.id k v (polled (records h) device.id k (if_known (records h) device (PollShown device.id (offer (records h) device.id)) k e))
named_is h (ShowDeployment device n) k v e =
    offerable_by h device.id k v (where_offered (records h) device.id false n k (DeploymentShown (deployment_shown (records h) device.id n)) refl
    (if_known (records h) device _ k e))
named_is h (ShowCancel device n) k v e =
    offerable_by h device.id k v (where_offered (records h) device.id true n k (CancelShown n) refl (if_known (records h) device _ k e))
named_is h (Download device m filename) k v e = grind (arith, either_none, names_none, if_known)
named_is h (ShowTargets filter_text page) k v e = absurd (never (targets_none (records h) page filter_text) e)
named_is h (ShowTarget t) k v e = absurd (never (names_none _ (target_of (records h) t) (λ x. refl)) e)
named_is h (ShowTargetActions t page) k v e = absurd (never (names_none _ (target_of (records h) t) (λ x. refl)) e)
named_is h (ShowAction t n) k v e = absurd (never (names_none _ (action_of_target (records h) t n) (λ a. refl)) e)
named_is h (ShowHistory t n page) k v e = absurd (never (names_none _ (action_of_target (records h) t n) (λ a. refl)) e)
named_is h (ShowModules page) k v e = cc
named_is h (ShowModule n) k v e = absurd (never (names_none _ (item_numbered (records h).modules n) (λ label. refl)) e)
named_is h (ShowArtifacts m page) k v e = absurd (never (names_none _ (item_numbered (records h).modules m) (λ label. refl)) e)
named_is h (ShowArtifact m n) k v e = absurd (never (names_none _ (artifact_of_module (records h) m n) (λ a. refl)) e)
named_is h (ShowContents m n) k v e = absurd (never (names_none _ (artifact_of_module (records h) m n) (λ a. refl)) e)
named_is h (ShowSets page) k v e = cc
named_is h (ShowSet n) k v e = absurd (never (names_none _ (item_numbered (records h).sets n) (λ label. refl)) e)
named_is h (ShowRollouts page) k v e = cc
named_is h (ShowRollout r) k v e = absurd (never (names_none _ (item_numbered (records h).rollouts r) (λ x. refl)) e)
named_is h (ShowGroups r page) k v e = absurd (never (names_none _ (item_numbered (records h).rollouts r) (λ x. refl)) e)
named_is h (ShowGroup r i) k v e = grind (arith, never, names_none)
named_is h (ShowGroupTargets r i page) k v e = grind (arith, never, names_none)
named_is h (ShowReport r) k v e = absurd (never (names_none _ (item_numbered (records h).rollouts r) (λ x. refl)) e)
named_is h (ShowActionsTable r) k v e = absurd (never (names_none _ (item_numbered (records h).rollouts r) (λ x. refl)) e)

pub named_is_offerable : NamedIsOfferable
unfolding answer
named_is_offerable h query k v e = named_is h query k v e

-- ---- downloads

shown_is : (rs : Records) (t : Bytes) (m : ℕ) (filename contents : Bytes) → download rs t m filename ≡ ContentsShown contents
    → (list_any (λ n. nat_eq n m) (modules_offered rs (offer rs t)) ≡ true)
    × ((a : ArtifactRecord) × (artifact_named m filename rs.artifacts ≡ Some a) × (a.contents ≡ contents))
shown_is rs t m filename contents e = go (list_any (λ n. nat_eq n m) (modules_offered rs (offer rs t))) (artifact_named m filename rs.artifacts) refl refl
    e where
      go : (b : Bool) (o : Option ArtifactRecord) → list_any (λ n. nat_eq n m) (modules_offered rs (offer rs t)) ≡ b → artifact_named m filename rs.artifacts
          ≡ o
          → cond b (if_found (λ (a : ArtifactRecord). ContentsShown a.contents) o) (Refused NotFound) ≡ ContentsShown contents
          → (list_any (λ n. nat_eq n m) (modules_offered rs (offer rs t)) ≡ true)
          × ((a : ArtifactRecord) × (artifact_named m filename rs.artifacts ≡ Some a) × (a.contents ≡ contents))
      go true (Some a) d f g = (d, (a, f, cc))
      go true None d f g = cc
      go false o d f g = cc

known_device : (rs : Records) (device : Credential) (reply : Reply) (contents : Bytes) → for_device rs device reply ≡ ContentsShown contents
    → reply ≡ ContentsShown contents
known_device rs device reply contents e = go (is_known rs device) e where
  go : (b : Bool) → cond b reply (Refused Unauthorized) ≡ ContentsShown contents → reply ≡ ContentsShown contents
  go true f = f
  go false f = cc

pub downloads_are_offered : DownloadsAreOffered
unfolding answer
downloads_are_offered h device m filename contents e = go (offer (records h) device.id) refl w.0 where
  w : (list_any (λ n. nat_eq n m) (modules_offered (records h) (offer (records h) device.id)) ≡ true)
      × ((a : ArtifactRecord) × (artifact_named m filename (records h).artifacts ≡ Some a) × (a.contents ≡ contents))
  w = shown_is (records h) device.id m filename contents (known_device (records h) device (download (records h) device.id m filename) contents e)

  by : (o : Offer) (b : Bool) → o.canceling ≡ b → offer (records h) device.id ≡ Some o
      → list_any (λ n. nat_eq n m) (cond b [] (modules_of_action (records h) (item_numbered (records h).actions o.action))) ≡ true
      → IsDownloadable h device.id m filename contents
  by o true f d g = cc
  by o false f d g = record { offered = o; is_offered = d; as_deployment = f; installs = g; artifact = w.1.0; is_stored = w.1.1; contents_are = w.1.2 }

  go : (o : Option Offer) → offer (records h) device.id ≡ o → list_any (λ n. nat_eq n m) (modules_offered (records h) o) ≡ true
      → IsDownloadable h device.id m filename contents
  go None d g = cc
  go (Some o) d g = by o o.canceling refl d g
