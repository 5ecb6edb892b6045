-- A command changes one rollout at most: the one that it is on.
use Rattle.rollout_machine.proofs.Common.{◌≡◌, ◌⊎◌, ℕ, false, ◌&&◌, Option, Some, None, inl, inr, refl, sym, ap, ◌∙◌, ◌≢◌, nat_eq, ActionPlace, action_of}
use Rattle.rollout_machine.proofs.Common.{is_action_place, CommandList, Command, Approve, Deny, Start, Pause, Resume, TriggerNext, Cancel, Feedback}
use Rattle.rollout_machine.proofs.Common.{CancelFeedback, is_pause_of, is_resume_of, is_start_of, is_trigger_of, approval_of, decision_on, rollout_at}
use Rattle.rollout_machine.proofs.Common.{option_map, cases_eq, ne_eqb}
use Rattle.rollout_machine.specs.Promises.{OneGroupStarts, OthersStay, rollout_of}
use Rattle.rollout_machine.proofs.Induction.{accepted}
use Rattle.rollout_machine.proofs.Progressing.{none_starts, one_of_rollout}
use Rattle.rollout_machine.proofs.Tallies.{untouched}
use Rattle.rollout_machine.proofs.Ties.{IsCalm, calm_rollout, same_approval}
use Rattle.rollout_machine.proofs.Whole.{IsAccepted}

abbrev rollout_at_place : Option ActionPlace → Option ℕ
rollout_at_place o = option_map (λ (p : ActionPlace). p.rollout) o

-- an action of another rollout
off_place : (o : Option ActionPlace) (r j : ℕ) → rollout_at_place o ≢ Some r → is_action_place o r j ≡ false
off_place None r j ne = refl
off_place (Some p) r j ne = ap (λ b. b && nat_eq p.position j) (ne_eqb p.rollout r (λ e. ne (ap Some e)))

abbrev on_rollout : ℕ → Option ℕ
on_rollout q = Some q

other : (q r : ℕ) → on_rollout q ≢ Some r → nat_eq q r ≡ false
other q r ne = ne_eqb q r (λ e. ne (ap Some e))

-- the command says nothing of this rollout
record IsSilent (r : ℕ) (h : CommandList) (c : Command) : Type 0 where
  acts : (j : ℕ) → is_action_place (action_of h c) r j ≡ false
  pauses : is_pause_of r c ≡ false
  resumes : is_resume_of r c ≡ false
  triggers : is_trigger_of r c ≡ false
  starts : is_start_of r c ≡ false
  decides : decision_on r c ≡ None

silent : (h : CommandList) (c : Command) (r : ℕ) → rollout_of h c ≢ Some r → IsSilent r h c
silent h (Approve q) r ne = record { acts = λ j. refl; pauses = refl; resumes = refl; triggers = refl; starts = refl; decides = rw (other q r ne) refl }
silent h (Deny q) r ne = record { acts = λ j. refl; pauses = refl; resumes = refl; triggers = refl; starts = refl; decides = rw (other q r ne) refl }
silent h (Start q) r ne = record { acts = λ j. refl; pauses = refl; resumes = refl; triggers = refl; starts = other q r ne; decides = refl }
silent h (Pause q) r ne = record { acts = λ j. refl; pauses = other q r ne; resumes = refl; triggers = refl; starts = refl; decides = refl }
silent h (Resume q) r ne = record { acts = λ j. refl; pauses = refl; resumes = other q r ne; triggers = refl; starts = refl; decides = refl }
silent h (TriggerNext q) r ne = record { acts = λ j. refl; pauses = refl; resumes = refl; triggers = other q r ne; starts = refl; decides = refl }
silent h (Cancel t k force) r ne = record {
  acts = λ j. off_place (action_of h (Cancel t k force)) r j ne;
  pauses = refl;
  resumes = refl;
  triggers = refl;
  starts = refl;
  decides = refl;
}
silent h (Feedback feedback) r ne = record {
  acts = λ j. off_place (action_of h (Feedback feedback)) r j ne;
  pauses = refl;
  resumes = refl;
  triggers = refl;
  starts = refl;
  decides = refl;
}
silent h (CancelFeedback feedback) r ne = record {
  acts = λ j. off_place (action_of h (CancelFeedback feedback)) r j ne;
  pauses = refl;
  resumes = refl;
  triggers = refl;
  starts = refl;
  decides = refl;
}
silent h _ r ne = record { acts = λ j. refl; pauses = refl; resumes = refl; triggers = refl; starts = refl; decides = refl }

calm_elsewhere : (h : CommandList) (c : Command) (r : ℕ) → IsSilent r h c → IsCalm r h c
calm_elsewhere h c r s = record {
  outcomes = λ j. untouched h c r j (s.acts j);
  pauses = s.pauses;
  resumes = s.resumes;
  triggers = s.triggers;
  starts =
      s.starts;
}

pub others_stay : OthersStay
others_stay h c r x v d ne =
    let w : IsAccepted h c = accepted h c v.0 v.2 in
    let s : IsSilent r h c = silent h c r ne in
    calm_rollout x r (w.last r) h c (approval_of r h) (w.follows r x d) (w.started r x d) (calm_elsewhere h c r s) (same_approval r h c s.decides)

-- ---- starts

-- two numbers of rollouts are equal, or the command is on neither or on one of them alone
on_one : (h : CommandList) (c : Command) (r q : ℕ) → (r ≡ q) ⊎ ((rollout_of h c ≢ Some r) ⊎ (rollout_of h c ≢ Some q))
on_one h c r q = elim (cases_eq r q) [ inl same ↦ inl same | inr apart ↦ go (rollout_of h c) apart ]
  where
    differ : (a b : ℕ) → (a ≡ b → ⊥) → on_rollout a ≢ Some b
    differ a b ne e = ne cc

    go : (o : Option ℕ) → (r ≡ q → ⊥) → (r ≡ q) ⊎ ((o ≢ Some r) ⊎ (o ≢ Some q))
    go None apart = inr (inl (λ e. cc))
    go (Some n) apart = elim (cases_eq n r) [ inl own ↦ inr (inr (differ n q (λ e. apart (sym own ∙ e)))) | inr not_own ↦ inr (inl (differ n r not_own)) ]

pub one_group_starts : OneGroupStarts
one_group_starts h c r i q j x y v d e s t = go (on_one h c r q)
  where
    w : IsAccepted h c
    w = accepted h c v.0 v.2

    of_one : r ≡ q → i ≡ j
    of_one same =
        let there : rollout_at h r ≡ Some y = rw same e in
        let rollout : x ≡ y = (let both : Some x ≡ Some y = sym d ∙ there in cc) in
        one_of_rollout h c r i j x w d s (rw (same, rollout) t)

    go : (r ≡ q) ⊎ ((rollout_of h c ≢ Some r) ⊎ (rollout_of h c ≢ Some q)) → (r ≡ q) × (i ≡ j)
    go (inl same) = (same, of_one same)
    go (inr (inl apart)) = absurd (none_starts h c r i x w d (calm_elsewhere h c r (silent h c r apart)) s)
    go (inr (inr apart)) = absurd (none_starts h c q j y w e (calm_elsewhere h c q (silent h c q apart)) t)
