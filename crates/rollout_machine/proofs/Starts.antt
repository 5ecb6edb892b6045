-- Which groups are started after one more command: those that were, and at most the next one.
use Rattle.rollout_machine.proofs.Common.{◌≡◌, ℕ, zero, suc, ◌<◌, ◌≤◌, Bool, true, false, cond, ◌||◌, ◌&&◌, not, refl, sym, subst, ◌∙◌, arith, inl, inr, ◌⊎◌}
use Rattle.rollout_machine.proofs.Common.{nat_lt}
use Rattle.rollout_machine.proofs.Common.{cases_eq, cases_Bool, ltb-true, false≢true, CommandList, Make, ◌▸◌, Command, success_holds, IsLast, is_group_started}
use Rattle.rollout_machine.proofs.Common.{next_started, is_paused, is_trigger_of, is_start_of, is_rollout_started, Rollout}

-- whether the command starts a group, where l is the last one before it
abbrev pub starts_one_more : Rollout → ℕ → CommandList → Command → ℕ → Bool
starts_one_more x r h c zero = is_start_of r c
starts_one_more x r h c (suc k) = nat_lt (suc k) x.plan.groups.count
    && ((not (is_paused x r (h ▸ c)) && success_holds x r (suc k) (h ▸ c)) || is_trigger_of r c)

stays : (lt nx b : Bool) → (lt && nx) ≡ true → (lt && (nx || b)) ≡ true
stays lt nx b e = grind arith

pub kept_started : (x : Rollout) (r i : ℕ) (h : CommandList) (c : Command) → is_group_started x r i h ≡ true → is_group_started x r i (h ▸ c) ≡ true
kept_started x r zero h c e = e
kept_started x r (suc zero) h c e = rw e refl
kept_started x r (suc (suc k)) h c e = stays (nat_lt (suc k) x.plan.groups.count) (next_started x r (suc k) (is_group_started x r (suc k)) h) _ e

at_next : (lt nx e_now e_before calm trig : Bool) → (lt && nx) ≡ false → e_now ≡ true → e_before ≡ true
    → (lt && (nx || (e_now && (calm || (trig && (e_before && not nx)))))) ≡ (lt && (calm || trig))
at_next lt nx e_now e_before calm trig a b c = grind arith

past_next : (lt nx e_now e_before quiet succeeds trig : Bool) → (lt && nx) ≡ false → e_before ≡ false → (e_now ≡ false) ⊎ (succeeds ≡ false)
    → (lt && (nx || (e_now && ((quiet && succeeds) || (trig && (e_before && not nx)))))) ≡ false
past_next lt nx e_now e_before quiet succeeds trig a b c = grind arith

next_is : (x : Rollout) (r : ℕ) (h : CommandList) (c : Command) (l : ℕ) → IsLast x r h l → is_group_started x r (suc l) (h ▸ c) ≡ starts_one_more x r h c l
next_is x r h c zero w = let b : is_rollout_started r h ≡ false = w.beyond 1 (omega arith) in rw b refl
next_is x r h c (suc k) w =
    let was : is_group_started x r (suc k) h ≡ true = w.up_to (suc k) (omega arith) (omega arith) in
    at_next (nat_lt (suc k) x.plan.groups.count) (next_started x r (suc k) (is_group_started x r (suc k)) h) (is_group_started x r (suc k) (h ▸ c))
    (is_group_started x r (suc k) h) _ (is_trigger_of r c)
    (w.beyond (suc (suc k)) (omega arith)) (kept_started x r (suc k) h c was) was

no_further : (x : Rollout) (r : ℕ) (h : CommandList) (c : Command) (l : ℕ) → IsLast x r h l
    → (suc l ≤ x.plan.groups.count → success_holds x r (suc l) (h ▸ c) ≡ false) → (i : ℕ) → suc l < i → is_group_started x r i (h ▸ c) ≡ false
no_further x r h c l w fresh zero u = refl
no_further x r h c l w fresh (suc zero) u = absurd (omega arith)
no_further x r h c l w fresh (suc (suc k)) u = elim (cases_Bool (nat_lt (suc k) x.plan.groups.count)) [
  | inr above ↦ rw above refl
  | inl more ↦ past_next (nat_lt (suc k) x.plan.groups.count) (next_started x r (suc k) (is_group_started x r (suc k)) h) (is_group_started x r (suc k) (h ▸ c))
      (is_group_started x r (suc k) h) (not (is_paused x r (h ▸ c))) (success_holds x r (suc k) (h ▸ c)) (is_trigger_of r c)
      (w.beyond (suc (suc k)) (omega arith)) (w.beyond (suc k) (omega arith))
      (elim (cases_eq (suc k) (suc l)) [
        | inl same ↦ inr (subst (λ i. success_holds x r i (h ▸ c) ≡ false) (sym same) (fresh (omega (arith, same, ltb-true _ _ more))))
        | inr other ↦ inl (no_further x r h c l w fresh (suc k) (omega arith))
      ])
]

within_next : (x : Rollout) (r : ℕ) (h : CommandList) (c : Command) (l : ℕ) → 1 ≤ x.plan.groups.count → l ≤ x.plan.groups.count → starts_one_more x r h c l
    ≡ true → suc l ≤ x.plan.groups.count
within_next x r h c zero g w e = g
within_next x r h c (suc k) g w e = elim (cases_Bool (nat_lt (suc k) x.plan.groups.count)) [ inl t ↦ ltb-true _ _ t | inr f ↦ absurd (false≢true (rw f at e)) ]

last_by : (x : Rollout) (r : ℕ) (h : CommandList) (c : Command) (l : ℕ) → 1 ≤ x.plan.groups.count → IsLast x r h l
    → (suc l ≤ x.plan.groups.count → success_holds x r (suc l) (h ▸ c) ≡ false) → (b : Bool) → starts_one_more x r h c l ≡ b
    → IsLast x r (h ▸ c) (cond b (suc l) l)
last_by x r h c l g w fresh true e = record {
  within = within_next x r h c l g w.within e;
  up_to = λ i a u. elim (cases_eq i (suc l)) [ inl same ↦ rw same (next_is x r h c l w ∙ e) | inr other ↦ kept_started x r i h c (w.up_to i a (omega arith)) ];
  beyond = λ i u. no_further x r h c l w fresh i u;
}
last_by x r h c l g w fresh false e = record {
  within = w.within;
  up_to = λ i a u. kept_started x r i h c (w.up_to i a u);
  beyond = λ i u. elim (cases_eq i (suc l)) [ inl same ↦ rw same (next_is x r h c l w ∙ e) | inr other ↦ no_further x r h c l w fresh i (omega arith) ];
}

-- At most one group starts in a command: the last started group moves by one where `opens` says so.
pub last_after : (x : Rollout) (r : ℕ) (h : CommandList) (c : Command) (l : ℕ) → 1 ≤ x.plan.groups.count → IsLast x r h l
    → (suc l ≤ x.plan.groups.count → success_holds x r (suc l) (h ▸ c) ≡ false) → IsLast x r (h ▸ c) (cond (starts_one_more x r h c l) (suc l) l)
last_after x r h c l g w fresh = last_by x r h c l g w fresh (starts_one_more x r h c l) refl

pub last_made : (x : Rollout) (r : ℕ) (approval : Bool) → IsLast x r (Make approval) 0
last_made x r approval = record { within = omega arith; up_to = λ i a u. absurd (omega arith); beyond = none }
  where
    none : (i : ℕ) → 0 < i → is_group_started x r i (Make approval) ≡ false
    none zero u = refl
    none (suc zero) u = refl
    none (suc (suc k)) u = elim (cases_Bool (nat_lt (suc k) x.plan.groups.count)) [ inl t ↦ rw t refl | inr f ↦ rw f refl ]
