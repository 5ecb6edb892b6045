-- An action that was seen in the tables of a list of accepted commands, and the views of it.
use Rattle.desk_commands.proofs.Common.{arith, ◌≡◌, ◌+◌, ℕ, Bool, true, cond, List, Option, Some, None, option_map, sym, ap, ◌∙◌, refl, subst, is_some, is_none}
use Rattle.desk_commands.proofs.Common.{item_numbered, CommandList, Bytes, Credential, rule_at, Records, action_in, records, rollout_in, Reported, standing_of}
use Rattle.desk_commands.proofs.Common.{Standing, group_holding, group_is_started, group_number_of, group_numbered, has_started, is_started_in, number_of_group}
use Rattle.desk_commands.proofs.Common.{IsValid, target_of, ActionRecord, GroupRecord, RolloutRecord, BothOrNone, IsActionView, IsCancelView, IsFeedbackView}
use Rattle.desk_commands.proofs.Common.{IsDeviceAction, action_for, device_action, only_if, Tally, tally_of, ledger_of, said_of, group_and_next, GroupAndNext}
use Rattle.desk_commands.proofs.Common.{stored_action, stored_rollout, IsSeen, MaySee, SeesIn, SeesFeedback, SeesTarget, action_seen, action_view_seen}
use Rattle.desk_commands.proofs.Common.{cancel_view_seen, only_of, only_started, device_action_seen, seen_if, StandsAt, asked, with_number}
use Rattle.desk_commands.proofs.Common.{SeenAction, SeenFeedback}
use Rattle.campaign_core.proofs.PlacedActions.{is_members}
use Rattle.desk_store.proofs.GroupPlaces.{group_and_next_at}
use Rattle.desk_commands.proofs.GroupNumbers.{Numbered, held_stands, numbered_groups, same_groups}
use Rattle.desk_commands.proofs.ItemSteps.{none_shown, own_pair, zip_map}
use Rattle.desk_commands.proofs.LedgerEnds.{groups_stand}
use Rattle.campaign_core.specs.declared.rollout_checks.of_devices.FeedbackView.{FeedbackView}

-- the action of a number, with its rollout and its group
pub record IsPlaced (rs : Records) (k : ℕ) : Type 0 where
  pub action : ActionRecord
  pub at : item_numbered rs.actions k ≡ Some action
  pub rollout : RolloutRecord
  pub its : item_numbered rs.rollouts action.rollout ≡ Some rollout
  pub own : GroupRecord
  pub held : group_holding action.position rollout.groups ≡ Some own
  pub own_at : item_numbered rollout.groups own.number ≡ Some own
  pub found : group_numbered own.number rollout.groups ≡ Some own
  pub next : group_numbered (own.number + 1) rollout.groups ≡ item_numbered rollout.groups (own.number + 1)

-- what a report is judged by, of what was seen
abbrev feedback_view_seen : SeenFeedback → FeedbackView
feedback_view_seen seen = record {
  misses_device = seen.misses_device;
  own_action = option_map (device_action_seen seen.report.standing) seen.action;
}

-- as it is seen then
abbrev pub seen_at : (rs : Records) (k : ℕ) → IsPlaced rs k → SeenAction
seen_at rs k w = action_seen k (stored_action rs.rollouts (w.action, tally_of w.action)) (stored_rollout w.rollout) (rule_at w.rollout.plan w.own.number) w.own
    (item_numbered w.rollout.groups (w.own.number + 1))

pub record IsKnown (rs : Records) (k : ℕ) (s : SeenAction) : Type 0 where
  pub placed : IsPlaced rs k
  pub is : s ≡ seen_at rs k placed

-- the first group of two that are read is the one that holds the place
own_held : (gs : List GroupRecord) → Numbered gs → (j : ℕ) (own : GroupRecord) → item_numbered gs (number_of_group (group_holding j gs)) ≡ Some own
    → group_holding j gs ≡ Some own
own_held gs numbered j own = grind (arith, held_stands)

-- of an action's place the group that holds it is read, and the group of the next number
pub both_read : (h : CommandList) → IsValid h → (k : ℕ) (a : ActionRecord) (x : RolloutRecord) → item_numbered (records h).actions k ≡ Some a
    → item_numbered (records h).rollouts a.rollout ≡ Some x
    → group_and_next a.position x.groups
    ≡ record { group = item_numbered x.groups (group_number_of x a); next = item_numbered x.groups (group_number_of x a + 1) }
both_read h valid k a x at there =
    let it = is_members h valid k a x at there in
    let Read : ActionRecord → RolloutRecord → Type 0 = λ b y. group_and_next b.position y.groups
    ≡ record { group = item_numbered y.groups (group_number_of y b); next = item_numbered y.groups (group_number_of y b + 1) } in
    let here : Read (action_in h it.place) (rollout_in h it.place.rollout it.placed.rollout) =
    group_and_next_at it.placed.rollout it.place.rollout h it.placed.sound it.place.position it.placed.low it.placed.high in
    subst (λ b. Read b x) (sym it.is) (subst (λ y. Read (action_in h it.place) y) it.same here)

module _ (h : CommandList) (valid : IsValid h) where
  pub known : (k : ℕ) (s : SeenAction) → IsSeen (ledger_of (records h)) k s → IsKnown (records h) k s
  known k s w =
      let it = own_pair tally_of k (records h).actions w.action w.is_there in
      let a = it.0 in
      let v : SeesIn (ledger_of (records h)) k (stored_action (records h).rollouts (a, tally_of a)) s =
      subst (λ (p : ActionRecord × Tally). SeesIn (ledger_of (records h)) k (stored_action (records h).rollouts p) s) it.2 w.sees in
      let numbered = numbered_groups h a.rollout v.rollout v.is_its in
      let gs = v.rollout.groups in
      let both : record { group = Some v.own; next = v.next }
      ≡ record { group = item_numbered gs (group_number_of v.rollout a); next = item_numbered gs (group_number_of v.rollout a + 1) } =
      sym v.holds ∙ ap (group_and_next a.position) (same_groups gs numbered) ∙ both_read h valid k a v.rollout it.1 v.is_its in
      let holds : group_holding a.position gs ≡ Some v.own = own_held gs numbered a.position v.own (sym (ap (λ (b : GroupAndNext). b.group) both)) in
      let stood = held_stands gs numbered a.position v.own holds in
      record {
        placed = record {
          action = a;
          at = it.1;
          rollout = v.rollout;
          its = v.is_its;
          own = v.own;
          held = holds;
          own_at = stood;
          found = groups_stand h a.rollout v.rollout v.is_its v.own.number ∙ stood;
          next = groups_stand h a.rollout v.rollout v.is_its (v.own.number + 1);
        };
        is = v.seen_is ∙ (λ i. action_seen k (stored_action (records h).rollouts (a, tally_of a)) (stored_rollout v.rollout)
            (said_of (records h) a.rollout v.own.number v.rollout v.rule v.is_its (sym v.is_said) i) v.own v.next)
            ∙ ap (action_seen k (stored_action (records h).rollouts (a, tally_of a)) (stored_rollout v.rollout) (rule_at v.rollout.plan v.own.number) v.own)
            (ap (λ (b : GroupAndNext). b.next) both ∙ ap (λ o. item_numbered gs (number_of_group o + 1)) holds);
      }

  pub none_known : (k : ℕ) → MaySee k (ledger_of (records h)) None → item_numbered (records h).actions k ≡ None
  none_known k none = none_shown (λ a. (a, tally_of a)) (item_numbered (records h).actions k) (sym (zip_map tally_of k (records h).actions) ∙ none)

-- ---- what rules ask of it

module _ (rs : Records) (k : ℕ) (w : IsPlaced rs k) where
  pub view_is : IsActionView (action_view_seen (seen_at rs k w)) w.action rs
  view_is = grind (arith, option_map)

  pub started_is : has_started rs w.action ≡ w.own.started
  started_is = ap (λ o. is_started_in o w.action) w.its ∙ ap group_is_started w.held

  -- where both are there by the same test, the fact holds
  both_if : {V : Type 0} (P : V → ActionRecord → Type 0) (f : SeenAction → V) (b : Bool) → (b ≡ true → P (f (seen_at rs k w)) w.action)
      → BothOrNone P (option_map f (seen_if b (seen_at rs k w))) (only_if b (Some w.action))
  both_if h0 f b holds = grind arith

  pub its_action : (new : Reported) (standing : Standing) (t : Bytes)
      → (only_started (only_of t (Some (seen_at rs k w))) ≡ Some (seen_at rs k w) → w.action.outcome ≡ None → standing ≡ standing_of w.action.history new)
      → BothOrNone (λ v a. IsDeviceAction v a new rs) (option_map (device_action_seen standing) (only_started (only_of t (Some (seen_at rs k w)))))
      (device_action rs t k)
  its_action new standing t = grind (arith, started_is, option_map, both_if, view_is)

  pub its_cancel : (t : Bytes)
      → BothOrNone (λ v a. IsCancelView v a rs) (option_map cancel_view_seen (cond (is_none (target_of rs t)) None (only_of t (Some (seen_at rs k w)))))
      (action_for rs t k)
  its_cancel t = grind (arith, option_map, is_none, is_some, both_if, started_is, view_is)

-- on an open action the number is asked for
asked_whole : (new : Reported) (seen : Option SeenAction) (s : SeenAction) → seen ≡ Some s → s.action.outcome ≡ None → asked seen new ≡ new
asked_whole new seen s is open_still = ap (λ o. asked o new) is ∙ ap (λ o. with_number new (cond (is_none o) new.number None)) open_still

module _ (h : CommandList) (valid : IsValid h) (k : ℕ) where
  module _ (device : Credential) (new : Reported) (seen : SeenFeedback) (w : SeesFeedback device k new (records h) seen) where
    -- what an open action has heard, all of the report is seen among
    pub heard_whole : (s : SeenAction) → seen.action ≡ Some s → s.action.outcome ≡ None → StandsAt k new (records h) seen.report
    heard_whole s is open_still =
        subst (λ n. StandsAt k n (records h) seen.report) (asked_whole new seen.action s is open_still)
        (w.report (record { list = h; valid = valid; are = refl }))

    abbrev Viewed : Option SeenAction → Type 0
    Viewed action = BothOrNone (λ v a. IsDeviceAction v a new (records h)) (option_map (device_action_seen seen.report.standing) action)
        (device_action (records h) device.id k)

    pub feedback_viewed : IsFeedbackView (feedback_view_seen seen) device k new (records h)
    feedback_viewed = record {
      misses_device = w.misses_device;
      own_action = subst Viewed (sym w.action) (go w.found w.sees (λ s is. heard_whole s (w.action ∙ is)));
    }
      where
        go : (found : Option SeenAction) → MaySee k (ledger_of (records h)) found
            → ((s : SeenAction) → only_started (only_of device.id found) ≡ Some s → s.action.outcome ≡ None → StandsAt k new (records h) seen.report)
            → Viewed (only_started (only_of device.id found))
        go None none heard = rw (none_known h valid k none) tt
        go (Some s) sees heard =
            let it = known h valid k s sees in
            let t = seen_at (records h) k it.placed in
            subst (λ (u : SeenAction). Viewed (only_started (only_of device.id (Some u)))) (sym it.is)
            (its_action (records h) k it.placed new seen.report.standing device.id
            (λ own open_still. (heard t (ap (λ (u : SeenAction). only_started (only_of device.id (Some u))) it.is ∙ own) open_still it.placed.action
            it.placed.at).standing))

  pub cancel_viewed : (id : Bytes) (seen : Option SeenAction) → SeesTarget id k (records h) seen
      → BothOrNone (λ v a. IsCancelView v a (records h)) (option_map cancel_view_seen seen) (action_for (records h) id k)
  cancel_viewed id seen w = subst (λ o. BothOrNone (λ v a. IsCancelView v a (records h)) (option_map cancel_view_seen o) (action_for (records h) id k))
      (sym w.action) (go w.found w.sees)
    where
      go : (found : Option SeenAction) → MaySee k (ledger_of (records h)) found
          → BothOrNone (λ v a. IsCancelView v a (records h)) (option_map cancel_view_seen (cond (is_none (target_of (records h) id)) None (only_of id found)))
          (action_for (records h) id k)
      go None none = rw (none_known h valid k none) (grind (arith, is_none, is_some, option_map))
      go (Some s) sees = let it = known h valid k s sees in rw it.is (its_cancel (records h) k it.placed id)
