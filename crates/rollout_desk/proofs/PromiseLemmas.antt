-- What is promised of an answer follows from the answer itself.
use Rattle.rollout_desk.proofs.Common.{arith, ◌≡◌, ℕ, Bool, true, false, cond, ◌&&◌, ◌||◌, List, [], ◌∷◌, map, Option, Some, None, refl, sym, subst, ap, ◌∙◌}
use Rattle.rollout_desk.proofs.Common.{is_some, query_reply, if_found, for_device, targets_reply, is_offer_of, artifact_named, artifact_of_module}
use Rattle.rollout_desk.proofs.Common.{contains_word, item_numbered, same_bytes, CommandList, Bytes, Credential, TargetRow, ArtifactRecord, Records, Reply}
use Rattle.rollout_desk.proofs.Common.{Refused, PollShown, ContentsShown, Page, Query, Ask, Asks, Poll, Download, ShowContents, Applies, DeskState, IsValid}
use Rattle.rollout_desk.proofs.Common.{query_answer, Refusal, NotFound, unwrap_or, and_parts, eqb-true, false≢true, IsWhole, all_whole, Describes}
use Rattle.rollout_desk.proofs.Common.{DownloadsItsOffer, IsPromised, IsTarget, KeepsToOffers, NamesItsOffer, ShowsWhole, asker, offer_named, not-true}
use Rattle.rollout_desk.proofs.Common.{or_right}
use Rattle.rollout_machine.specs.Offers.{Offer, offer}
use Rattle.rollout_machine.specs.Records.{records}
use Rattle.rollout_machine.specs.Targets.{Target, last_row_of, target_ids, target_in}
use Rattle.rollout_machine.specs.Verdicts.{is_known}
use Rattle.rollout_machine.proofs.Offering.{downloads_are_offered}
use Rattle.rollout_machine.proofs.Offers.{offer_is_least}
use Rattle.rollout_machine.proofs.TargetMeanings.{targets_are_named}
use Rattle.rollout_machine.proofs.TargetTies.{same_true, same_refl}
use Rattle.std.specs.List.{list_any}
use Rattle.sqlite_keyed.proofs.SliceLemmas.{All-find}
use Rattle.rollout_desk.proofs.PieceLemmas.{is_whole}

-- ---- the device is a target

abbrev is_device : Credential → Target → Bool
is_device device x = same_bytes x.id device.id && same_bytes x.digest device.digest

-- a target that passes the test of a device is the one of its id
abbrev Passes : CommandList → Credential → List Bytes → Type 0
Passes h device ids = (contains_word device.id ids ≡ true) × ((target_in h device.id).digest ≡ device.digest)

passes : (h : CommandList) (device : Credential) (ids : List Bytes) → list_any (is_device device) (map (target_in h) ids) ≡ true → Passes h device ids
passes h device [] e = absurd (false≢true e)
passes h device (t ∷ ts) e = go (is_device device (target_in h t)) refl e (passes h device ts) where
  go : (b : Bool) → is_device device (target_in h t) ≡ b → (b || list_any (is_device device) (map (target_in h) ts)) ≡ true
      → (list_any (is_device device) (map (target_in h) ts) ≡ true → Passes h device ts) → Passes h device (t ∷ ts)
  go true d f rest =
      let both : (same_bytes t device.id ≡ true) × (same_bytes (target_in h t).digest device.digest ≡ true) = and_parts _ _ d in
      let same : t ≡ device.id = same_true _ _ both.0 in (
        ap (λ (b : Bool). b || contains_word device.id ts) (subst (λ (x : Bytes). same_bytes device.id x ≡ true) (sym same) (same_refl device.id)),
        subst (λ (x : Bytes). (target_in h x).digest ≡ device.digest) same (same_true _ _ both.1),
      )
  go false d f rest = let found = rest f in (or_right (same_bytes device.id t) _ found.0, found.1)

is_target : (h : CommandList) (device : Credential) → is_known (records h) device ≡ true → IsTarget h device
unfolding records
is_target h device e = go (last_row_of device.id h) refl (sym (targets_are_named device.id h) ∙ found.0) where
  found : Passes h device (target_ids h)
  found = passes h device (target_ids h) e

  go : (o : Option TargetRow) → last_row_of device.id h ≡ o → is_some o ≡ true → IsTarget h device
  go None d f = absurd (false≢true f)
  go (Some row) d f = record { row = row; is_last = d; token = sym (ap digest_by d) ∙ found.1 } where
    digest_by : Option TargetRow → Bytes
    digest_by o = unwrap_or (elim o [ None ↦ None | Some row ↦ Some row.digest ]) []

-- ---- replies that name no offer

names_none : {X : Type 0} (reply : X → Reply) (o : Option X) → ((x : X) → offer_named (reply x) ≡ None) → offer_named (if_found reply o) ≡ None
names_none reply o none = grind arith

either_none : (b : Bool) (x y : Reply) → offer_named x ≡ None → offer_named y ≡ None → offer_named (cond b x y) ≡ None
either_none b x y ex ey = grind arith

targets_none : (rs : Records) (page : Page) (o : Option Bytes) → offer_named (targets_reply rs page o) ≡ None
targets_none rs page o = grind arith

never : {o : Offer} {x : Option Offer} → x ≡ None → x ≡ Some o → ⊥
never none some = cc

-- ---- what a device is told

-- a reply to a device that isn't refused comes to one that is known
if_known : (rs : Records) (device : Credential) (reply : Reply) (o : Offer) → offer_named (for_device rs device reply) ≡ Some o → (is_known rs device ≡ true)
    × (offer_named reply ≡ Some o)
if_known rs device reply o e = grind arith

-- an answer that names an action of a kind comes only where it is offered so
where_offered : (rs : Records) (t : Bytes) (kind : Bool) (n : ℕ) (o : Offer) (reply : Reply) → offer_named reply
    ≡ Some (record { action = n; canceling = kind })
    → offer_named (cond (is_offer_of n kind (offer rs t)) reply (Refused NotFound)) ≡ Some o → offer rs t ≡ Some o
where_offered rs t kind n o reply names e = grind (arith, not-true, and_parts, eqb-true, names)

offered_to : (h : CommandList) (query : Query) (device : Credential) (o : Offer) → IsValid h → asker query ≡ Some device → is_known (records h) device ≡ true
    → offer (records h) device.id ≡ Some o → NamesItsOffer h query o
offered_to h query device o v asks known e = grind (arith, is_target, offer_is_least)

names : (h : CommandList) (query : Query) (o : Offer) → IsValid h → offer_named (query_reply (records h) query) ≡ Some o → NamesItsOffer h query o
names h query o v e = grind (arith, if_known, offered_to, where_offered, either_none, names_none, never, targets_none)

-- a device that polls and is told of nothing is offered nothing
polled_none : (h : CommandList) (device : Credential) → query_reply (records h) (Poll device) ≡ PollShown device.id None → offer (records h) device.id ≡ None
polled_none h device e = grind arith

-- ---- what a device gets

pub downloaded : (h : CommandList) (device : Credential) (m : ℕ) (filename contents : Bytes) → query_reply (records h) (Download device m filename)
    ≡ ContentsShown contents → DownloadsItsOffer h device m filename contents
downloaded h device m filename contents e = grind (arith, is_target, downloads_are_offered, query_answer)

keeps_to_offers : (h : CommandList) (query : Query) → IsValid h → KeepsToOffers h query (query_reply (records h) query)
keeps_to_offers h query v = record {
  names = λ o e. names h query o v e;
  withholds_none = λ device is e. (offer_is_least h device.id v).1 (polled_none h device (ap (query_reply (records h)) (sym is) ∙ e));
  hands_out = λ device m filename contents is e. downloaded h device m filename contents (ap (query_reply (records h)) (sym is) ∙ e);
}

refusals_keep : (h : CommandList) (query : Query) (refusal : Refusal) → KeepsToOffers h query (Refused refusal)
refusals_keep h query refusal = grind (arith, names)

-- ---- contents

describes : (a : ArtifactRecord) → IsWhole a → Describes a a.contents
describes a whole = record { contents_are = refl; size = whole.0; digest = whole.1 }

of_module : (h : CommandList) (m k : ℕ) (a : ArtifactRecord) → artifact_of_module (records h) m k ≡ Some a → item_numbered (records h).artifacts k ≡ Some a
    → ShowsWhole h (ShowContents m k) (ContentsShown a.contents)
of_module h m k a is at = (a, is, describes a (is_whole h k a at))

contents_shown : (h : CommandList) (m k : ℕ) → ShowsWhole h (ShowContents m k) (query_reply (records h) (ShowContents m k))
contents_shown h m k = grind (arith, of_module)

of_name : (h : CommandList) (device : Credential) (m : ℕ) (filename : Bytes) (a : ArtifactRecord) → artifact_named m filename (records h).artifacts ≡ Some a
    → ShowsWhole h (Download device m filename) (ContentsShown a.contents)
of_name h device m filename a at = (a, at, describes a (All-find IsWhole _ (records h).artifacts a (all_whole h) at))

downloaded_whole : (h : CommandList) (device : Credential) (m : ℕ) (filename : Bytes) → ShowsWhole h (Download device m filename)
    (query_reply (records h) (Download device m filename))
downloaded_whole h device m filename = grind (arith, of_name)

shows_whole : (h : CommandList) (query : Query) → ShowsWhole h query (query_reply (records h) query)
shows_whole h (ShowContents m k) = contents_shown h m k
shows_whole h (Download device m filename) = downloaded_whole h device m filename
shows_whole h query = tt

refusals_show_none : (h : CommandList) (query : Query) (refusal : Refusal) → ShowsWhole h query (Refused refusal)
refusals_show_none h query refusal = grind arith

-- ---- from the answer of a desk

module _ {File : Type 0} (old new : DeskState File) (query : Query) (reply : Reply) where
  -- what holds of the answer at each list, and of refusals, holds of a reply
  promised : (Holds : CommandList → Reply → Type 0) → ((h : CommandList) (refusal : Refusal) → Holds h (Refused refusal))
      → ((h : CommandList) → IsValid h → Holds h (query_reply (records h) query))
      → Applies old new (Asks (Ask query)) reply → IsPromised old new (λ h. Holds h reply)
  promised h0 refusals answers applies h clean standing = grind (arith, query_answer)

  pub offers_kept : Applies old new (Asks (Ask query)) reply → IsPromised old new (λ h. KeepsToOffers h query reply)
  offers_kept applies = promised (λ h r. KeepsToOffers h query r) (λ h refusal. refusals_keep h query refusal) (λ h v. keeps_to_offers h query v) applies

  pub contents_whole : Applies old new (Asks (Ask query)) reply → IsPromised old new (λ h. ShowsWhole h query reply)
  contents_whole applies = promised (λ h r. ShowsWhole h query r) (λ h refusal. refusals_show_none h query refusal) (λ h v. shows_whole h query) applies
