-- The start of a rollout, from what is read to what is written.
use Rattle.desk_commands.proofs.Common.{◌≡◌, ℕ, zero, suc, true, false, ◌∷◌, ◌++◌, map, length, slice_get, Some, None, refl, sym}
use Rattle.desk_commands.proofs.Common.{ap, ◌∙◌, arith, zip, length-map, map-append, item_numbered, CommandList, Start}
use Rattle.desk_commands.proofs.Common.{each_from, Records, records, begin_rollout, new_action, new_actions, step_records, IsValid, check, ActionRecord}
use Rattle.desk_commands.proofs.Common.{GroupRecord, RolloutRecord, records_are_sound, tally_of, numbers_of}
use Rattle.desk_commands.proofs.Common.{ledger_of, scheduled, set_numbered, turned, with_rollouts, SeenRollout, started}
use Rattle.desk_commands.proofs.Common.{StartsWhole, and_actions, new_for, never_started, of_rollout}
use Rattle.desk_commands.proofs.GroupNumbers.{group_there, numbered_groups, started_one}
use Rattle.desk_commands.proofs.ItemSteps.{set_is_there, zip_own}
use Rattle.desk_commands.proofs.LedgerEnds.{changed_at, starts_last, then_started}
use Rattle.desk_commands.proofs.StandingLemmas.{Found, is_numbered}
use Rattle.rollout_machine.proofs.Words.{places_from}

-- ---- the first group

-- it waits where its rollout isn't started
first_waits : (h : CommandList) (r : ℕ) (x : RolloutRecord) → item_numbered (records h).rollouts r ≡ Some x → x.started ≡ false → (g : GroupRecord)
    → item_numbered x.groups 1 ≡ Some g → g.started ≡ false
first_waits h r x there off g its =
    let of = of_rollout h r x there in
    ap (λ (b : GroupRecord). b.started) (group_there h r x there 1 g its).is
    ∙ never_started of.rollout r 1 h (ap (λ (z : RolloutRecord). z.started) (sym of.is) ∙ off)

-- ---- the command

unstarted : (rs : Records) (r : ℕ) (x : RolloutRecord) → item_numbered rs.rollouts r ≡ Some x → check rs (Start r) ≡ None → x.started ≡ false
unstarted rs r x there accepted = grind arith

new_placed : (r a n : ℕ) → map new_action (places_from r a n) ≡ each_from (scheduled r) a n
new_placed r a zero = refl
new_placed r a (suc n) = ap (λ l. scheduled r a ∷ l) (new_placed r (suc a) n)

pub all_pairs : (rs : Records) → length (zip rs.actions (map tally_of rs.actions)) ≡ length rs.actions
all_pairs rs = ap length (zip_own tally_of rs.actions) ∙ length-map rs.actions (λ (a : ActionRecord). (a, tally_of a))

-- what was read of a rollout that is ready is written as the step
pub starts_whole : (h : CommandList) → IsValid h → (r : ℕ) (seen : SeenRollout) (g : GroupRecord) (found : Found h r seen) → check (records h) (Start r) ≡ None
    → slice_get seen.groups.items 0 ≡ Some g
    → StartsWhole r seen g (ledger_of (records h)) (ledger_of (step_records (records h) (Start r)))
starts_whole h valid r seen g found accepted first =
    let rs = records h in
    let x = found.rollout in
    let there = found.at.is_there in
    let y = turned seen.approval true seen.paused x in
    let its : item_numbered x.groups 1 ≡ Some g = ap (λ gs. slice_get gs 0) (sym found.at.is_seen.groups) ∙ first in
    let named = numbered_groups h r x there 1 g its in
    let own : item_numbered x.groups g.number ≡ Some g = ap (item_numbered x.groups) named ∙ its in
    let new = new_for r (length x.members) in
    let begun = with_rollouts (ledger_of rs) (set_numbered rs.rollouts r y) in
    let groups = started_one 1 x.groups g (numbered_groups h r x there) its ∙ ap (λ k. set_numbered x.groups k (started g)) (sym named) in
    let begins : begin_rollout x ≡ then_started y g =
    λ i. record x { approval = sym found.at.is_seen.approval i; started = true; paused = sym found.at.is_seen.paused i; groups = groups i } in
    let rolls = changed_at h valid r begin_rollout x (then_started y g) there begins in
    let number : x.number ≡ r = (records_are_sound h valid).numbered r x there in
    let acts : rs.actions ++ new_actions (item_numbered rs.rollouts r) ≡ rs.actions ++ new = ap (λ l. rs.actions ++ l)
    (ap new_actions there ∙ new_placed x.number 1 (length x.members) ∙ (λ i. each_from (scheduled (number i)) 1 (length x.members))) in
    record {
      begun = begun;
      sets = record { rollout = x; is_there = there; next_is = refl };
      acting = and_actions begun new;
      adds = record {
        tallied = length-map rs.actions tally_of;
        rollout = y;
        is_there = set_is_there rs.rollouts r x y there;
        next_is = refl;
      };
      starts =
          starts_last h (Start r) valid (is_numbered h r seen found) accepted (and_actions (ledger_of rs) new)
          (record {
            tallies = sym (map-append tally_of rs.actions new);
            rules = refl;
            numbers = sym (map-append numbers_of rs.actions new);
          }) (λ t. refl) refl r x (then_started y g) there (λ i. record rs { rollouts = rolls i; actions = acts i }) refl y g own
          (first_waits h r x there (unstarted rs r x there accepted) g its) own refl;
    }
