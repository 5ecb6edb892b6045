-- What a step on a rollout that is seen rests on is there.
use Rattle.desk_commands.proofs.Common.{◌≡◌, ◌≤◌, ◌≢◌, ℕ, ◌+◌, Option, Some, length, slice_get, sym, ap, ◌∙◌, arith, zip}
use Rattle.desk_commands.proofs.Common.{item_numbered, CommandList, IsValid, GroupRule, rule_at, records, last_started, GroupRecord, RolloutRecord}
use Rattle.desk_commands.proofs.Common.{Ledger, ledger_of, SeenRollout, of_rollout, limits_hold, at_place}
use Rattle.desk_commands.proofs.Common.{rule_numbered, rule_there, rules_there, IsSeenFrom, IsSeenIn, EndsBeyond}
use Rattle.desk_commands.proofs.ActionGroups.{group_ends}
use Rattle.desk_commands.proofs.ProgressLemmas.{groups_count, last_at}
use Rattle.desk_commands.proofs.StandingLemmas.{Found}
use Rattle.desk_commands.proofs.StartLemmas.{all_pairs}

pub found_in : (h : CommandList) (r : ℕ) (seen : SeenRollout) → Found h r seen → IsSeenIn r seen (ledger_of (records h))
found_in h r seen w = grind arith

-- where it was seen, at the list
there_in : (r : ℕ) (seen : SeenRollout) (l : Ledger) → (w : IsSeenIn r seen l) → item_numbered (records w.of_list.list).rollouts r ≡ Some w.rollout
there_in r seen l w = ap (λ (m : Ledger). item_numbered m.records.rollouts r) (sym w.of_list.is) ∙ w.is_there

-- ---- going on

-- something is said of the last started group
pub last_said : (r : ℕ) (seen : SeenRollout) (last : ℕ) (l : Ledger) → IsSeenFrom r seen last l → last ≢ 0 → (rule : GroupRule)
    × (rule_numbered l.rules r last ≡ Some rule)
last_said r seen last l w some =
    let y = w.sees.rollout in
    let h = w.sees.of_list.list in
    let at = there_in r seen l w.sees in
    let number : last ≡ last_started y.groups = w.last_is ∙ ap last_started w.sees.is_seen.groups in
    let of = of_rollout h r y at in
    let count : y.plan.groups.count ≡ of.rollout.plan.groups.count = ap (λ (z : RolloutRecord). z.plan.groups.count) of.is in (
      rule_at y.plan (last_started y.groups),
      ap (λ n. rule_numbered l.rules r n) number ∙ ap (λ (m : Ledger). rule_numbered m.rules r (last_started y.groups)) w.sees.of_list.is
          ∙ ap (λ rules. item_numbered rules (last_started y.groups)) (rules_there (records h) r y at)
          ∙ rule_there y.plan (last_started y.groups) (omega (arith, some, number)) (omega (arith, count, (last_at h w.sees.of_list.valid r y at).within)),
    )

-- no group that is seen ends beyond 32 bits
pub ends_in : (r : ℕ) (seen : SeenRollout) (l : Ledger) → IsSeenIn r seen l → (i : ℕ) (o : Option GroupRecord) → o ≡ item_numbered seen.groups.items i
    → EndsBeyond o → ⊥
ends_in r seen l w i o is beyond = grind (arith, group_ends, there_in)

-- ---- a start

pub first_there : (r : ℕ) (seen : SeenRollout) (l : Ledger) → IsSeenIn r seen l → (g : GroupRecord) × (slice_get seen.groups.items 0 ≡ Some g)
first_there r seen l w =
    let h = w.of_list.list in
    let there = there_in r seen l w in
    let it = at_place w.rollout.groups 0
    (omega (arith, groups_count h r w.rollout there, ((limits_hold h w.of_list.valid).each r w.rollout there).some_groups)) in
    (it.0, ap (λ gs. slice_get gs 0) w.is_seen.groups ∙ it.1)

-- there are numbers for an action of each member
pub numbers_left : (h : CommandList) → IsValid h → (r : ℕ) (seen : SeenRollout) (w : Found h r seen) (last more : ℕ)
    → last ≡ length (zip (records h).actions (ledger_of (records h)).tallies) → more ≡ length w.rollout.members → last + more ≤ 2147483647
numbers_left h valid r seen w last more size many =
    let limits = limits_hold h valid in
    omega (arith, size, many, all_pairs (records h), limits.actions, (limits.each r w.rollout w.at.is_there).members)
