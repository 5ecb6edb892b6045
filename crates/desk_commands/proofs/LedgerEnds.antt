-- The ledger at the end of a command on rollouts is that of the records after it.
use Rattle.desk_commands.proofs.Common.{◌≡◌, ◌≤◌, ℕ, zero, suc, ◌+◌, Bool, true, false, List, map, length, Option, Some, None, option_map, refl, sym, ap, ◌∙◌}
use Rattle.desk_commands.proofs.Common.{subst, arith, slice_get, eq-eqb, nat_tests, length-map, item_numbered, CommandList, ◌▸◌, IsWellFormed, Bytes}
use Rattle.desk_commands.proofs.Common.{Command, GroupRule, Offer, rules_of, offer, each_from, Records, group_in, rollout_in, change_rollout, step_records}
use Rattle.desk_commands.proofs.Common.{Rollout, group_numbered, IsValid, check, Bounds, GroupRecord, RolloutRecord, numbered_map, records_step}
use Rattle.desk_commands.proofs.Common.{records_are_sound, GroupStarts, group_offers, put_offers, offers_before_start, tally_of, numbers_of, Ledger, ledger_of}
use Rattle.desk_commands.proofs.Common.{set_numbered, with_groups, with_rollouts, StartsAndOffers, started, of_rollout}
use Rattle.rollout_machine.specs.Records.{records}
use Rattle.campaign_core.proofs.RolloutLemmas.{rollouts_changed}
use Rattle.rollout_machine.proofs.OfferStarts.{offers_after_group, offers_after_no_group}
use Rattle.desk_commands.specs.private.GroupStarts.{with_offers}
use Rattle.desk_commands.proofs.ItemSteps.{same_but_for, set_is_change, set_is_there, set_twice}

-- ---- the groups of a list stand at their numbers

module _ (y : Rollout) (r : ℕ) (h : CommandList) where
  group_at : (a n j i : ℕ) → i ≡ a + j → group_numbered i (each_from (group_in y r h) a n) ≡ slice_get (each_from (group_in y r h) a n) j
  group_at a zero j i is = refl
  group_at a (suc n) zero i is = rw (eq-eqb a i (omega (arith, is))) refl
  group_at a (suc n) (suc j) i is = grind (arith, group_at (suc a) n j i (omega (arith, is)), nat_tests)

  none_at : (a n : ℕ) → 1 ≤ a → group_numbered 0 (each_from (group_in y r h) a n) ≡ None
  none_at a zero one = refl
  none_at a (suc n) one = grind (arith, none_at (suc a) n (omega arith), nat_tests)

pub groups_stand : (h : CommandList) (r : ℕ) (x : RolloutRecord) → item_numbered (records h).rollouts r ≡ Some x → (i : ℕ) → group_numbered i x.groups
    ≡ item_numbered x.groups i
groups_stand h r x at i = let of = of_rollout h r x at in
    subst (λ (z : RolloutRecord). group_numbered i z.groups ≡ item_numbered z.groups i) (sym of.is) (go of.rollout i) where
      go : (y : Rollout) (i : ℕ) → group_numbered i (rollout_in h r y).groups ≡ item_numbered (rollout_in h r y).groups i
      go y zero = none_at y r h 1 y.plan.groups.count (omega arith)
      go y (suc j) = group_at y r h 1 y.plan.groups.count j (suc j) (omega arith)

-- ---- the end

-- what their plans say of the groups of each of these
abbrev pub said_in : List RolloutRecord → List (List GroupRule)
said_in xs = map (λ (x : RolloutRecord). rules_of x.plan) xs

-- .. which stays where a rollout of the same plan is put in place of one
pub said_stays : (xs : List RolloutRecord) (r : ℕ) (x y : RolloutRecord) → item_numbered xs r ≡ Some x → y.plan ≡ x.plan → said_in (set_numbered xs r y)
    ≡ said_in xs
said_stays xs r x y there same = same_but_for (λ (z : RolloutRecord). rules_of z.plan) xs r x y there (ap rules_of same)

-- what follows from the records of a ledger, but its offers
pub record FollowsRecords (l : Ledger) : Type 0 where
  pub tallies : l.tallies ≡ map tally_of l.records.actions
  pub rules : l.rules ≡ said_in l.records.rollouts
  pub numbers : l.numbers ≡ map numbers_of l.records.actions

pub as_listed : (rs : Records) → FollowsRecords (ledger_of rs)
as_listed rs = record { tallies = refl; rules = refl; numbers = refl }

abbrev pub then_started : RolloutRecord → GroupRecord → RolloutRecord
then_started x g = with_groups x (set_numbered x.groups g.number (started g))

-- which groups of a rollout are started
abbrev pub starts_of : RolloutRecord → List Bool
starts_of x = map (λ (g : GroupRecord). g.started) x.groups

-- An accepted command. Before its last write the records lack the start of a group alone, each action has its numbers, and of all targets but
-- the one whose action it is the offers are as they were. Of all groups is said what their plans say.
module _ (h : CommandList) (c : Command) (valid : IsValid h) (formed : IsWellFormed c) (accepted : check (records h) c ≡ None) where
  abbrev after : Records
  after = step_records (records h) c

  is_step : records (h ▸ c) ≡ after
  is_step = records_step h c valid accepted

  is_ledger : (l : Ledger) → after ≡ l.records → FollowsRecords l → ((t : Bytes) → offer (records (h ▸ c)) t ≡ l.offers t) → ledger_of after ≡ l
  is_ledger l is follows offers = grind (arith, is_step)

  -- no group starts where the same ones are started
  none_starts : map starts_of after.rollouts ≡ map starts_of (records h).rollouts → (r i : ℕ) (b : Bounds)
      → GroupStarts (records h) (records (h ▸ c)) r i b → ⊥
  none_starts same r i b s =
      let both : Some (Some false) ≡ Some (Some true) =
      sym (flag h s.rollout s.there s.group s.numbered false s.waits)
      ∙ ap flag_in (sym same ∙ ap (λ (rs : Records). map starts_of rs.rollouts) (sym is_step))
      ∙ flag (h ▸ c) s.next_rollout s.still_there s.next_group s.still_numbered true s.starts in
      cc
    where
      flag_in : List (List Bool) → Option (Option Bool)
      flag_in fs = option_map (λ (bs : List Bool). item_numbered bs i) (item_numbered fs r)

      flag : (h : CommandList) (x : RolloutRecord) → item_numbered (records h).rollouts r ≡ Some x → (g : GroupRecord) → group_numbered i x.groups ≡ Some g
          → (b : Bool) → g.started ≡ b → flag_in (map starts_of (records h).rollouts) ≡ Some (Some b)
      flag h x at g its b is = ap (option_map (λ (bs : List Bool). item_numbered bs i))
          (numbered_map starts_of (records h).rollouts r ∙ ap (option_map starts_of) at)
          ∙ ap (λ o. Some o) (numbered_map (λ (g : GroupRecord). g.started) x.groups i
          ∙ ap (option_map (λ (g : GroupRecord). g.started)) (sym (groups_stand h r x at i) ∙ its) ∙ ap (λ d. Some d) is)

  -- none is started
  pub ends_with_none : (l : Ledger) → after ≡ l.records → FollowsRecords l → ((t : Bytes) → l.offers t ≡ offers_before_start h c t)
      → map starts_of after.rollouts ≡ map starts_of (records h).rollouts → ledger_of after ≡ l
  ends_with_none l is follows offers same =
      is_ledger l is follows (λ t. offers_after_no_group h c t (valid, formed, accepted) (none_starts same) ∙ sym (offers t))

  -- It makes y of rollout r alone, by the same plan, where its actions and its offers are those of this ledger.
  module _ (l : Ledger) (follows : FollowsRecords l) (offers : (t : Bytes) → l.offers t ≡ offers_before_start h c t)
      (same : l.records.rollouts ≡ (records h).rollouts) (r : ℕ) (x y : RolloutRecord) (there : item_numbered l.records.rollouts r ≡ Some x)
      (step : after ≡ record l.records { rollouts = set_numbered l.records.rollouts r y }) (planned : y.plan ≡ x.plan) where
    abbrev made : Ledger
    made = with_rollouts l (set_numbered l.records.rollouts r y)

    follows_so : (offers : Bytes → Option Offer) → FollowsRecords (record made { offers = offers })
    follows_so offers = grind (arith, said_stays)

    -- it starts no group
    pub sets_alone : starts_of y ≡ starts_of x → ledger_of after ≡ with_rollouts l (set_numbered l.records.rollouts r y)
    sets_alone flags = ends_with_none made step (follows_so l.offers) offers
        (ap (λ (rs : Records). map starts_of rs.rollouts) step ∙ same_but_for starts_of l.records.rollouts r x y there flags ∙ ap (map starts_of) same)

    -- it makes z of the rollout, and then starts a group that waits
    pub starts_last : (z : RolloutRecord) (g : GroupRecord) → item_numbered x.groups g.number ≡ Some g → g.started ≡ false
        → item_numbered z.groups g.number ≡ Some g → y ≡ then_started z g
        → StartsAndOffers r g (with_rollouts l (set_numbered l.records.rollouts r z)) (ledger_of after)
    starts_last z g was waits its is =
        let first = ap (λ (xs : List RolloutRecord). item_numbered xs r) (sym same) ∙ there in
        let still = ap (λ (rs : Records). item_numbered rs.rollouts r) (is_step ∙ step) ∙ set_is_there l.records.rollouts r x y there in
        let starts : GroupStarts (records h) (records (h ▸ c)) r g.number g.bounds = record {
          rollout = x;
          there = first;
          group = g;
          numbered = groups_stand h r x first g.number ∙ was;
          bounds = refl;
          waits = waits;
          next_rollout = y;
          still_there = still;
          next_group = started g;
          still_numbered = groups_stand (h ▸ c) r y still g.number ∙ ap (λ (w : RolloutRecord). item_numbered w.groups g.number) is
              ∙ set_is_there z.groups g.number g (started g) its;
          starts = refl;
        } in
        record {
          tallied = ap length follows.tallies ∙ length-map l.records.actions tally_of;
          rollout = z;
          is_there = set_is_there l.records.rollouts r x z there;
          is_its = its;
          next_is =
              is_ledger (with_offers made r g) step (follows_so (with_offers made r g).offers)
              (λ t. offers_after_group h c r g.number g.bounds t (valid, formed, accepted) starts
              ∙ (λ i. put_offers (λ u. sym (offers u) i) (group_offers ((is_step ∙ step) i) r g.bounds) t))
              ∙ ap (λ xs. with_offers (with_rollouts l xs) r g)
              (ap (set_numbered l.records.rollouts r) is ∙ sym (set_twice r l.records.rollouts z (then_started z g)));
        }

-- what is done to the rollout of a number is done where it stands
pub changed_at : (h : CommandList) → IsValid h → (r : ℕ) (f : RolloutRecord → RolloutRecord) (x y : RolloutRecord) → item_numbered (records h).rollouts r
    ≡ Some x → f x ≡ y → change_rollout r f (records h).rollouts ≡ set_numbered (records h).rollouts r y
changed_at h valid r f x y there is = grind (arith, rollouts_changed, records_are_sound, set_is_change)
