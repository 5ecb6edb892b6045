-- At most one group starts in a command, and none is left to start after it.
use Rattle.rollout_machine.proofs.Common.{◌≡◌, ℕ, Some, zero, suc, ◌≤◌, ◌<◌, Bool, true, false, cond, ◌&&◌, ◌||◌, not, refl, sym, ◌∙◌, arith}
use Rattle.rollout_machine.proofs.Common.{nat_lt, CommandList, Make, ◌▸◌, Command, success_holds, IsLast, is_group_started, is_paused, next_started}
use Rattle.rollout_machine.proofs.Common.{is_trigger_of, Rollout, rollout_at, false≢true, lt-ltb}
use Rattle.rollout_machine.specs.Promises.{StartsGroup, NoGroupIsLeft}
use Rattle.rollout_machine.proofs.EffectLaws.{no_further}
use Rattle.rollout_machine.proofs.Starts.{starts_one_more, last_made}
use Rattle.rollout_machine.proofs.Ties.{IsCalm, IsFollowed, calm_last, follow_on}
use Rattle.rollout_machine.proofs.Whole.{IsAccepted}

-- a group is behind the last started one, or not
behind : (x : Rollout) (r i l : ℕ) (h : CommandList) → IsLast x r h l → is_group_started x r i h ≡ false → 1 ≤ i → l < i
behind x r i l h last e low = grind arith

pub positive : (x : Rollout) (r i : ℕ) (h : CommandList) → is_group_started x r i h ≡ true → 1 ≤ i
positive x r i h e = grind arith

-- the group that starts is the one behind the last
pub next_starts : (x : Rollout) (r i l : ℕ) (h : CommandList) (c : Command) (b : Bool) → IsLast x r h l → IsLast x r (h ▸ c) (cond b (suc l) l)
    → StartsGroup x r i h c → i ≡ suc l
next_starts x r i l h c b last next s = grind (arith, behind, positive, no_further)

-- of one rollout at most one group starts
pub one_of_rollout : (h : CommandList) (c : Command) (r i j : ℕ) (x : Rollout) → IsAccepted h c → rollout_at h r ≡ Some x → StartsGroup x r i h c
    → StartsGroup x r j h c → i ≡ j
one_of_rollout h c r i j x w d s t =
    let f : IsFollowed x r h (w.last r) = w.follows r x d in
    let b : Bool = starts_one_more x r h c (w.last r) in
    let g : IsFollowed x r (h ▸ c) (cond b (suc (w.last r)) (w.last r)) = follow_on x r (w.last r) h c f (w.started r x d) in
    next_starts x r i (w.last r) h c b f.is_last g.is_last s ∙ sym (next_starts x r j (w.last r) h c b f.is_last g.is_last t)

-- a command that changes nothing of a rollout starts none of its groups
pub none_starts : (h : CommandList) (c : Command) (r i : ℕ) (x : Rollout) → IsAccepted h c → rollout_at h r ≡ Some x → IsCalm r h c → StartsGroup x r i h c → ⊥
none_starts h c r i x w d calm s =
    let f : IsFollowed x r h (w.last r) = w.follows r x d in
    let after : IsLast x r (h ▸ c) (w.last r) = calm_last x r (w.last r) h c f (w.started r x d) calm in
    false≢true (sym (after.beyond i (behind x r i (w.last r) h f.is_last s.before (positive x r i (h ▸ c) s.now))) ∙ s.now)

pub no_group_is_left : NoGroupIsLeft
no_group_is_left (Make approval) r i x low high e p s = absurd (false≢true (sym ((last_made x r approval).beyond i (omega (arith, low))) ∙ e))
no_group_is_left (h ▸ c) r zero x low high e p s = absurd (omega (arith, low))
no_group_is_left (h ▸ c) r (suc i) x low high e p s =
    all (nat_lt (suc i) x.plan.groups.count) (next_started x r (suc i) (is_group_started x r (suc i)) h) (is_group_started x r (suc i) (h ▸ c))
    (is_paused x r (h ▸ c)) (success_holds x r (suc i) (h ▸ c))
    (is_trigger_of r c && (is_group_started x r (suc i) h && not (next_started x r (suc i) (is_group_started x r (suc i)) h))) (lt-ltb _ _ high) e p s where
      all : (l a e p s t : Bool) → l ≡ true → e ≡ true → p ≡ false → s ≡ true → (l && (a || (e && ((not p && s) || t)))) ≡ true
      all l true e p s t u v w z = rw u refl
      all l false e p s t u v w z = rw (u, v, w, z) refl
