-- A command on an action, to its end: what is written makes the ledger of the records after it.
use Rattle.desk_commands.proofs.Common.{◌≡◌, ℕ, ◌+◌, Bool, true, cond, List, [], ◌∷◌, ◌++◌, map, filter, length, Option, Some, None}
use Rattle.desk_commands.proofs.Common.{option_map, refl, sym, ap, ◌∙◌, arith, inl, inr, and_parts, cases_Bool, eq-eqb, append-nil, not-true, length-append}
use Rattle.desk_commands.proofs.Common.{length-map, map-append, HistoryEntry, Reported, entries_in, item_numbered, same_bytes, CommandList, IsWellFormed, Bytes}
use Rattle.desk_commands.proofs.Common.{Command, Offer, offer, is_none, counted, start_group, step_records, Records, records, IsValid, check, is_note, Outcome}
use Rattle.desk_commands.proofs.Common.{ActionRecord, GroupRecord, RolloutRecord, numbered_map, records_step, same_refl, same_true, effects_by, stays_offered}
use Rattle.desk_commands.proofs.Common.{following, waits, ChangesAction, action_with, change_by, ended_by, moved_by, rollout_with, ActionChange}
use Rattle.desk_commands.proofs.Common.{StaysOpen, Ends, Tally, tally_of, numbers_from, numbers_of, Ledger, ledger_of, set_numbered, with_groups}
use Rattle.desk_commands.proofs.Common.{in_place_of, reoffered, subst, with_rollouts, next_offer, actor, offers_before_start, with_actor, Acts, FollowsChange}
use Rattle.desk_commands.proofs.Common.{FollowsSo, StartsIf, change_numbered, with_outcome, Reoffers, with_rollout, started, MayReoffer, action_view_seen}
use Rattle.desk_commands.proofs.Common.{CountsNumbers, TellsReports, entries_by, numbers_by, tally_by, with_reports, Told, SeenAction, Following}
use Rattle.desk_commands.specs.private.ActionSteps.{with_changed_action}
use Rattle.std.proofs.lemmas.List.Elements.{filter-append}
use Rattle.campaign_core.specs.declared.own_group.Following.TheVariants as so
use Rattle.rollout_machine.specs.GroupOffers.{acted as acted_records}
use Rattle.desk_records.proofs.NumberLists.{numbers_more}
use Rattle.desk_commands.proofs.GroupNumbers.{Numbered, numbered_groups, only_at, set_numbered_still, started_one, starts_none}
use Rattle.desk_commands.proofs.ItemSteps.{map_set, same_but_for, set_elsewhere, set_is_change, set_is_there, set_twice, zip_map}
use Rattle.rollout_machine.specs.Verdicts.{says_note}
use Rattle.desk_commands.proofs.KnownActions.{IsPlaced, seen_at, started_is}
use Rattle.desk_commands.proofs.OfferingLemmas.{AllTell, all_tell, is_offerable, offer_moves, offer_stays}
use Rattle.desk_commands.proofs.LedgerEnds.{FollowsRecords, ends_with_none, sets_alone, starts_last, starts_of, then_started}

-- ---- the action and its tally

same_history : (after : ActionChange) (a : ActionRecord) → (action_with after a).history ≡ a.history
same_history after a = grind arith

notes_grow : (entry : HistoryEntry) (b : Bool) → b ≡ is_note entry → length (filter (λ (entry : HistoryEntry). says_note entry.said) (entry ∷ [])) ≡ cond b 1 0
notes_grow entry b is = elim (cases_Bool (is_note entry)) [ inl note ↦ rw (is, note) refl | inr other ↦ rw (is, other) refl ]

-- of a history
abbrev tally_in : List Reported → Tally
tally_in hs = record { notes = length (filter (λ (entry : HistoryEntry). says_note entry.said) (entries_in hs)); entries = length hs }

tally_grows : (reports : List Reported) (told : Option Told) (hs : List Reported) → TellsReports reports told → tally_in (hs ++ reports)
    ≡ tally_by told (tally_in hs)
tally_grows reports told hs tells = grind (arith, append-nil, map-append, filter-append, length-append, notes_grow)

numbers_grow : (reports : List Reported) (told : Option Told) (hs : List Reported) → TellsReports reports told → numbers_from 1 (hs ++ reports)
    ≡ numbers_by (entries_by told (length hs)) told (numbers_from 1 hs)
numbers_grow reports told hs tells = grind (arith, append-nil, numbers_more)

-- ---- of a list of accepted commands

module _ (h : CommandList) (c : Command) (valid : IsValid h) (formed : IsWellFormed c) (accepted : check (records h) c ≡ None) (k : ℕ)
    (w : IsPlaced (records h) k) (told : Option Told) (reports : List Reported) (tells : TellsReports reports told)
    (counts : CountsNumbers told (numbers_of w.action)) (by : actor c ≡ Some (seen_at (records h) k w).action.target)
    (open_still : is_none w.action.outcome ≡ true) (begun : w.own.started ≡ true) where
  abbrev rs : Records
  rs = records h

  abbrev s : SeenAction
  s = seen_at (records h) k w

  abbrev id : Bytes
  id = s.action.target

  abbrev r : ℕ
  r = w.action.rollout

  -- it is offered, or one in front of it
  can_be : is_offerable rs id w.action ≡ true
  can_be = rw (open_still, same_refl id, started_is rs k w, begun) refl

  -- where that is what the machine offers it then, all is
  before_start : (o : Option Offer) → o ≡ offer (acted_records h c) id → (t : Bytes) → cond (same_bytes id t) o (offer rs t) ≡ offers_before_start h c t
  before_start o is t = ap (λ p. cond (same_bytes id t) p (offer rs t)) is ∙ sym (ap (λ a. with_actor a (offer rs) (offer (acted_records h c)) t) by)

  module _ (after : ActionChange) (leads : ChangesAction after reports k rs (step_records rs c)) where
    abbrev acted : Ledger
    acted = with_changed_action s after told reports (w.action, tally_of w.action) (numbers_of w.action) (ledger_of rs)

    abbrev mid : Ledger
    mid = reoffered acted id k (next_offer acted.records id k)

    actions_are : change_numbered k (λ (a : ActionRecord). record (action_with after a) { history = a.history ++ reports }) rs.actions
        ≡ set_numbered rs.actions k (with_reports reports (action_with after w.action))
    actions_are =
        set_is_change (λ (a : ActionRecord). record (action_with after a) { history = a.history ++ reports }) k rs.actions w.action w.at
        ∙ ap (λ (hs : List Reported). set_numbered rs.actions k (record (action_with after w.action) { history = hs ++ reports }))
        (sym (same_history after w.action))

    acted_are : acted.records ≡ acted_records h c
    acted_are = grind (arith, records_step, actions_are)

    -- whatever is offered
    follows_with : (offers : Bytes → Option Offer) → FollowsRecords (record acted { offers = offers })
    follows_with offers = grind (arith, map_set, same_history, tally_grows, numbers_grow)

    offers_are : (t : Bytes) → mid.offers t ≡ offers_before_start h c t
    offers_are =
        before_start (in_place_of k (next_offer acted.records id k) (offer rs id))
        (offer_moves rs id k w.action (with_reports reports (action_with after w.action)) w.at can_be
        (subst (λ (q : Records). AllTell q q.actions) (sym acted_are) (all_tell h c (valid, formed, accepted)))
        ∙ ap (λ q. offer q id) acted_are)

    acts_so : (offers : Ledger) → MayReoffer (stays_offered w.action.canceling after) id k acted offers
        → FollowsChange s after offers (ledger_of (step_records rs c)) → Acts s after told (ledger_of rs) (ledger_of (step_records rs c))
    acts_so offers may follows = record {
      acted = acted;
      tells = record {
        reports = reports;
        tells = tells;
        action = (w.action, tally_of w.action);
        is_there = zip_map tally_of k rs.actions ∙ ap (option_map (λ (a : ActionRecord). (a, tally_of a))) w.at;
        seen_as = refl;
        tallied = refl;
        numbers = numbers_of w.action;
        are_its = numbered_map numbers_of rs.actions k ∙ ap (option_map numbers_of) w.at;
        counted = counts;
        next_is = refl;
      };
      offered = offers;
      offers = may;
      follows = follows;
    }

    reoffers : Reoffers id k acted mid
    reoffers = record {
      tallied = ap length (follows_with (offer rs)).tallies ∙ length-map acted.records.actions tally_of;
      next_is = refl;
    }

  -- it stays open
  module _ (canceling : Bool) (leads : ChangesAction (StaysOpen canceling) reports k rs (step_records rs c)) where
    still : (offers : Bytes → Option Offer) → ((t : Bytes) → offers t ≡ offers_before_start h c t)
        → ledger_of (step_records rs c) ≡ record (acted (StaysOpen canceling) leads) { offers = offers }
    still offers are = ends_with_none h c valid formed accepted (record (acted (StaysOpen canceling) leads) { offers = offers })
        (leads ∙ ap (λ (as' : List ActionRecord). record rs { actions = as' }) (actions_are (StaysOpen canceling) leads))
        (follows_with (StaysOpen canceling) leads offers) are (ap (λ (q : Records). map starts_of q.rollouts) leads)

    -- canceling or not as it was
    offers_stay : stays_offered w.action.canceling (StaysOpen canceling) ≡ true → (t : Bytes) → offer rs t ≡ offers_before_start h c t
    offers_stay same t =
        let as_it_was : w.action.canceling ≡ canceling = grind (arith, not-true, same) in
        let its = sym (offer_stays rs k w.action (w.action.history ++ reports) id w.at)
        ∙ ap (λ b. offer (record rs { actions = set_numbered rs.actions k (record w.action { canceling = b; history = w.action.history ++ reports }) }) id)
        as_it_was
        ∙ ap (λ q. offer q id) (acted_are (StaysOpen canceling) leads) in
        grind (arith, same_true id t, before_start (offer rs id) its t)

    stays_open : Acts s (StaysOpen canceling) told (ledger_of rs) (ledger_of (step_records rs c))
    stays_open = elim (cases_Bool (stays_offered w.action.canceling (StaysOpen canceling))) [
      | inl same ↦ acts_so (StaysOpen canceling) leads (acted (StaysOpen canceling) leads) (rw same refl) (still (offer rs) (offers_stay same))
      | inr changes ↦ acts_so (StaysOpen canceling) leads (mid (StaysOpen canceling) leads) (rw changes (reoffers (StaysOpen canceling) leads))
          (still (mid (StaysOpen canceling) leads).offers (offers_are (StaysOpen canceling) leads))
    ]

  -- it ends
  module _ (o : Outcome) (leads : ChangesAction (Ends (ended_by (action_view_seen s) o)) reports k rs (step_records rs c)) where
    abbrev e : ActionChange
    e = Ends (ended_by (action_view_seen s) o)

    abbrev then_offered : Ledger
    then_offered = mid e leads

    abbrev own : GroupRecord
    own = counted o w.own.number w.own

    -- its rollout once the outcome is counted
    abbrev x2 : RolloutRecord
    x2 = with_outcome s o w.rollout

    -- what an outcome in a group leaves of it
    own_stays : (own.number ≡ w.own.number) × (own.started ≡ w.own.started)
    own_stays = rw (eq-eqb w.own.number w.own.number refl) (refl, refl)

    numbered : Numbered w.rollout.groups
    numbered = numbered_groups h r w.rollout w.its

    -- with what follows
    steps : (f : Following) → following s.rollout o ≡ f → (y : RolloutRecord) → moved_by (effects_by w.own.number f) x2 ≡ y → step_records rs c
        ≡ record rs { rollouts = set_numbered rs.rollouts r y; actions = set_numbered rs.actions k (with_reports reports (action_with e w.action)) }
    steps f is y moved =
        let rollouts_are = set_is_change (rollout_with (ended_by (action_view_seen s) o)) r rs.rollouts w.rollout w.its
        ∙ ap (λ (gs : List GroupRecord). set_numbered rs.rollouts r (moved_by (effects_by w.own.number (following s.rollout o)) (with_groups w.rollout gs)))
        (only_at (counted o w.own.number) w.own.number w.rollout.groups w.own numbered w.own_at (λ g other. rw other refl))
        ∙ ap (λ f. set_numbered rs.rollouts r (moved_by (effects_by w.own.number f) x2)) is ∙ ap (set_numbered rs.rollouts r) moved in
        leads ∙ (λ i. record rs { rollouts = rollouts_are i; actions = actions_are e leads i })

    -- no group starts
    alone : (f : Following) → following s.rollout o ≡ f → (y : RolloutRecord) → moved_by (effects_by w.own.number f) x2 ≡ y → y.plan ≡ w.rollout.plan
        → starts_of y ≡ starts_of x2 → ledger_of (step_records rs c) ≡ with_rollout then_offered r y
    alone f is y moved planned same = sets_alone h c valid formed accepted then_offered (follows_with e leads then_offered.offers) (offers_are e leads) refl r
        w.rollout y w.its (steps f is y moved) planned
        (same ∙ same_but_for (λ (g : GroupRecord). g.started) w.rollout.groups w.own.number w.own own w.own_at own_stays.1)

    pausing : (b : Bool) → record x2 { paused = b; groups = map (start_group None) x2.groups } ≡ record x2 { paused = b }
    pausing b = ap (λ gs. record x2 { paused = b; groups = gs }) (starts_none x2.groups)

    ends_by : (f : Following) → following s.rollout o ≡ f → FollowsSo s f (with_rollout then_offered r x2) (ledger_of (step_records rs c))
    ends_by so.Nothing is = alone so.Nothing is x2 (pausing x2.paused) refl refl
    ends_by so.Pauses is = record {
      rollout = x2;
      is_its = set_is_there rs.rollouts r w.rollout x2 w.its;
      approval = refl;
      started = refl;
      next_is = alone so.Pauses is (record x2 { paused = true }) (pausing true) refl refl
          ∙ ap (with_rollouts then_offered) (sym (set_twice r rs.rollouts x2 (record x2 { paused = true })));
    }
    ends_by so.StartsNext is = starts (item_numbered w.rollout.groups (w.own.number + 1)) refl (grind (arith, is, and_parts))
      where
        -- the group behind it
        starts : (next : Option GroupRecord) → item_numbered w.rollout.groups (w.own.number + 1) ≡ next → waits next ≡ true
            → StartsIf r next (with_rollout then_offered r x2) (ledger_of (step_records rs c))
        starts None its waiting = cc
        starts (Some g) its waiting =
            let number = numbered (w.own.number + 1) g its in
            let still = set_numbered_still w.rollout.groups w.own.number w.own own numbered w.own_at own_stays.0 in
            let its2 = set_elsewhere w.own.number (w.own.number + 1) w.rollout.groups own (λ same. absurd (omega (arith, same))) ∙ its in
            starts_last h c valid formed accepted then_offered (follows_with e leads then_offered.offers) (offers_are e leads) refl r w.rollout
            (then_started x2 g) w.its
            (steps so.StartsNext is (then_started x2 g)
            (ap (with_groups x2) (started_one (w.own.number + 1) x2.groups g still its2 ∙ ap (λ m. set_numbered x2.groups m (started g)) (sym number)))) refl x2
            g
            (ap (item_numbered w.rollout.groups) number ∙ its) (not-true _ waiting) (ap (item_numbered x2.groups) number ∙ its2) refl

    ends : Acts s e told (ledger_of rs) (ledger_of (step_records rs c))
    ends = acts_so e leads then_offered (reoffers e leads)
        (record { rollout = w.rollout; is_its = w.its; own = w.own_at; follows = ends_by (following s.rollout o) refl })

  -- whichever it does
  pub acts : (gives : Option Outcome) (canceling : Bool) → ChangesAction (change_by (action_view_seen s) gives canceling) reports k rs (step_records rs c)
      → Acts s (change_by (action_view_seen s) gives canceling) told (ledger_of rs) (ledger_of (step_records rs c))
  acts gives canceling leads = grind (arith, stays_open, ends)
