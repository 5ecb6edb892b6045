-- How a rollout goes on.
use Rattle.desk_commands.proofs.Common.{◌≡◌, ◌<◌, ℕ, suc, ◌+◌, Bool, false, cond, List, [], ◌∷◌, ◌++◌, map, length, get_or, Option, Some, None, refl, sym, ap}
use Rattle.desk_commands.proofs.Common.{◌∙◌, subst, arith, nat_eq, take, ltb-true, take_more, item_numbered, IsValid, CommandList, RolloutPlan, GroupRule}
use Rattle.desk_commands.proofs.Common.{rule_at, group_in, records, last_started, resumed, start_group, step_records, triggered, view_of, check, GroupRecord}
use Rattle.desk_commands.proofs.Common.{RolloutRecord, length_each, ledger_of, set_numbered, turned, with_groups, with_rollouts, told_plan, SeenRollout}
use Rattle.desk_commands.proofs.Common.{started, GoesOn, IsSeenAt, StartsIf, Result, Ok, Err, Fault, ok_or, option_map, gone_by, pause_left, starts_by}
use Rattle.desk_commands.proofs.Common.{view_by, at_place, and_parts}
use Rattle.desk_commands.proofs.Common.{invariant_of, of_rollout}
use Rattle.std.proofs.Math.Dec.{eqb-suc-zero}
use Rattle.std.specs.Prelude.{IsOkAnd}
use Rattle.sql_calls.specs.declared.fault.Fault.TheVariants.{Broken}
use Rattle.desk_commands.specs.private.Standings.{group_if}
use Rattle.rollout_machine.proofs.Ties.{last_is}
use Rattle.rollout_machine.specs.Effects.{IsLast}
use Rattle.rollout_machine.specs.declared.view.GroupView.{GroupView}
use Rattle.rollout_machine.specs.declared.view.RolloutView.{RolloutView}
use Rattle.campaign_core.proofs.RolloutLemmas.{number_is}
use Rattle.desk_records.specs.declared.rollout_row.ToldPlan.{ToldPlan}
use Rattle.desk_commands.specs.declared.progress.Going.{Going}
use Rattle.desk_commands.specs.declared.progress.Going.TheVariants.{Resumed, Triggered}
use Rattle.desk_commands.proofs.GroupNumbers.{group_there, numbered_groups, started_one, starts_none}
use Rattle.desk_commands.proofs.LedgerEnds.{groups_stand, then_started}
use Rattle.desk_commands.proofs.StandingLemmas.{Found, IsOnRollout, set_so, started_so}

-- ---- the last one that is started

-- that of the last ones, or else of those before
last_joined : (gs more : List GroupRecord) → last_started (gs ++ more) ≡ cond (nat_eq (last_started more) 0) (last_started gs) (last_started more)
last_joined [] more = grind (arith, eqb-suc-zero)
last_joined (x ∷ gs) more = grind (arith, last_joined gs more, eqb-suc-zero)

-- it is the last one of the history
pub last_at : (h : CommandList) → IsValid h → (r : ℕ) (x : RolloutRecord) (at : item_numbered (records h).rollouts r ≡ Some x)
    → IsLast (of_rollout h r x at).rollout r h (last_started x.groups)
last_at h valid r x at =
    let of = of_rollout h r x at in
    let inv = invariant_of h valid in
    let its = (inv.follows r of.rollout of.there).is_last in
    subst (IsLast of.rollout r h) (sym (ap (λ (z : RolloutRecord). last_started z.groups) of.is ∙ last_is of.rollout r (inv.last r) h its)) its

-- no group after it is started
waits_after : (h : CommandList) → IsValid h → (r : ℕ) (x : RolloutRecord) → item_numbered (records h).rollouts r ≡ Some x → (i : ℕ) (g : GroupRecord)
    → item_numbered x.groups i ≡ Some g → last_started x.groups < i → g.started ≡ false
waits_after h valid r x at i g its past =
    ap (λ (b : GroupRecord). b.started) (group_there h r x at i g its).is ∙ (last_at h valid r x at).beyond i past

-- ---- what is seen from the last one

pub groups_count : (h : CommandList) (r : ℕ) (x : RolloutRecord) → item_numbered (records h).rollouts r ≡ Some x → length x.groups ≡ x.plan.groups.count
groups_count h r x there = let of = of_rollout h r x there in subst (λ (z : RolloutRecord). length z.groups ≡ z.plan.groups.count) (sym of.is)
    (length_each (group_in of.rollout r h) 1 of.rollout.plan.groups.count)

-- a group that starts is the one after the last, and there is one
next_group : (going : Going) (v : RolloutView) (i : ℕ) → starts_by going v ≡ Some i → (i ≡ v.last.number + 1) × (v.last.number < v.groups)
next_group going v i is = grind (arith, ltb-true, and_parts)

-- ---- the step

abbrev gone : Going → RolloutRecord → RolloutRecord
gone Resumed x = resumed x
gone Triggered x = triggered x

pub is_gone : (going : Going) → IsOnRollout (gone_by going) (gone going)
is_gone going = grind arith

gone_is : (going : Going) (x : RolloutRecord) → gone going x
    ≡ record x { paused = pause_left going x.paused; groups = map (start_group (starts_by going (view_of x (last_started x.groups)))) x.groups }
gone_is going x = grind (arith, number_is)

module _ (going : Going) (h : CommandList) (r : ℕ) (seen : SeenRollout) (found : Found h r seen)
    (accepted : check (records h) (gone_by going r) ≡ None) where
  abbrev x : RolloutRecord
  x = found.rollout

  abbrev between : RolloutRecord
  between = turned seen.approval seen.started (pause_left going seen.paused) found.rollout

  -- it is turned, and a group of it starts
  gone_so : (starts : Option ℕ) → starts_by going (view_of x (last_started x.groups)) ≡ starts → gone going x
      ≡ with_groups between (map (start_group starts) x.groups)
  gone_so starts is = grind (arith, gone_is)

  -- that group is there
  abbrev Starts : Result (Option GroupRecord) Fault → Type 0
  Starts found = IsOkAnd found (λ g. StartsIf r g (with_rollouts (ledger_of (records h)) (set_numbered (records h).rollouts r between))
      (ledger_of (step_records (records h) (gone_by going r))))

  ends : (starts : Option ℕ) → starts_by going (view_of x (last_started x.groups)) ≡ starts → Starts (group_if seen.groups.items starts)
  ends None is = set_so (is_gone going) h r seen found accepted between (gone_so None is ∙ ap (with_groups between) (starts_none x.groups)) refl refl
  ends (Some i) is =
      let there = found.at.is_there in
      let next : (i ≡ (view_of x (last_started x.groups)).last.number + 1) × ((view_of x (last_started x.groups)).last.number < x.plan.groups.count) =
      next_group going (view_of x (last_started x.groups)) i is in
      let last : (view_of x (last_started x.groups)).last.number ≡ last_started x.groups = number_is x (last_started x.groups) in
      let it = at_place x.groups (last_started x.groups) (omega (arith, next.1, last, groups_count h r x there)) in
      let at : i ≡ suc (last_started x.groups) = omega (arith, next.0, last) in
      let its : item_numbered x.groups i ≡ Some it.0 = ap (item_numbered x.groups) at ∙ it.1 in
      let numbered = numbered_groups h r x there in
      let own : item_numbered x.groups it.0.number ≡ Some it.0 = ap (item_numbered x.groups) (numbered i it.0 its) ∙ its in
      let starts : map (start_group (Some i)) x.groups ≡ set_numbered x.groups it.0.number (started it.0) =
      started_one i x.groups it.0 numbered its ∙ ap (λ n. set_numbered x.groups n (started it.0)) (sym (numbered i it.0 its)) in
      subst (λ (o : Option GroupRecord). Starts (ok_or (option_map Some o) Broken)) (sym (ap (λ gs. item_numbered gs i) found.at.is_seen.groups ∙ its))
      (started_so (is_gone going) h r seen found accepted (then_started between it.0) (gone_so (Some i) is ∙ ap (with_groups between) starts) refl between it.0
      own (waits_after h found.at.valid r x there i it.0 its (omega (arith, at))) own refl)

  -- what is written of the group that was looked for
  pub went_on : (starts : Option ℕ) → starts_by going (view_of x (last_started x.groups)) ≡ starts → (out : Result (Option GroupRecord) Fault)
      → out ≡ group_if seen.groups.items starts
      → IsOkAnd out (λ g. GoesOn r seen (pause_left going seen.paused) g (ledger_of (records h)) (ledger_of (step_records (records h) (gone_by going r))))
  went_on starts is (Ok g) looked = record {
    between = with_rollouts (ledger_of (records h)) (set_numbered (records h).rollouts r between);
    sets = record { rollout = x; is_there = found.at.is_there; next_is = refl };
    starts_if = subst Starts (sym looked) (ends starts is);
  }
  went_on starts is (Err fault) looked = subst Starts (sym looked) (ends starts is)

-- ---- the view

-- after one more group
pub last_step : (gs : List GroupRecord) (d : GroupRecord) (i last next : ℕ) → i < length gs → last ≡ last_started (take i gs)
    → next ≡ cond (nat_eq (last_started (get_or gs i d ∷ [])) 0) last (last_started (get_or gs i d ∷ [])) → next ≡ last_started (take (i + 1) gs)
last_step gs d i last next below so_far then = grind (arith, last_joined (take i gs) (get_or gs i d ∷ []), take_more gs i d)

-- where no group is started
pub none_said : (told : ToldPlan) (plan : RolloutPlan) (rule : GroupRule) → rule ≡ record { percentage = None; success = told.success; error = told.error }
    → told ≡ told_plan plan → rule ≡ rule_at plan 0
none_said told plan rule is seen = is ∙ (λ i. record { percentage = None; success = (seen i).success; error = (seen i).error })

pub seen_view : (h : CommandList) (r : ℕ) (seen : SeenRollout) (x : RolloutRecord) → IsSeenAt h r seen x
    → (n groups : ℕ) (rule : GroupRule) (found : Option GroupRecord) (v : GroupView) → n ≡ last_started seen.groups.items → rule ≡ rule_at x.plan n
    → found ≡ item_numbered seen.groups.items n → v ≡ view_by rule n found → groups ≡ seen.plan.groups
    → record { paused = seen.paused; groups = groups; own = v; last = v } ≡ view_of x (last_started x.groups)
seen_view h r seen x at n groups rule found v last said is view count = grind (arith, groups_stand)

-- what is written is the step
pub gone_on : (going : Going) (h : CommandList) (r : ℕ) (seen : SeenRollout) (found : Found h r seen) → (v : RolloutView)
    → v ≡ view_of found.rollout (last_started found.rollout.groups) → (paused : Bool) → paused ≡ pause_left going seen.paused
    → (starts : Option ℕ) → starts ≡ starts_by going v → check (records h) (gone_by going r) ≡ None → (out : Result (Option GroupRecord) Fault)
    → out ≡ group_if seen.groups.items starts
    → IsOkAnd out (λ g. GoesOn r seen paused g (ledger_of (records h)) (ledger_of (step_records (records h) (gone_by going r))))
gone_on going h r seen found v view paused left starts is accepted out looked =
    rw left (went_on going h r seen found accepted starts (ap (starts_by going) (sym view) ∙ sym is) out looked)
