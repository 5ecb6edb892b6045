-- The numbers of feedback in histories: each is in its range, and they are no more than the entries.
use Rattle.std.proofs.lemmas.Bool.Decides.{nat_tests}
use Rattle.desk_verify.proofs.Common.{◌≡◌, inl, inr, ◌≤◌, ◌<◌, ℕ, ◌+◌, Bool, true, List, [], ◌∷◌, ◌++◌, length, Option, Some, None, refl}
use Rattle.desk_verify.proofs.Common.{sym, ap, subst, ◌∙◌, arith, and_parts, item_numbered, CommandList, Make, ◌▸◌, IsValid, list_all, Has, history}
use Rattle.desk_verify.proofs.Common.{IsWellFormed, is_device_feedback, is_feedback_number_or_none, Command, DeviceFeedback}
use Rattle.desk_verify.proofs.Common.{records, Reported, reported_by, ActionRecord, PlacedNumber}
use Rattle.std.proofs.lemmas.List.Folds.{list_all-append}
use Rattle.rollout_machine.proofs.AtNumbers.{has_place}
use Rattle.desk_records.specs.FeedbackNumbers.{borne_at, numbers_from}

-- ---- the numbers of accepted feedback

abbrev pub keeps_number : Reported → Bool
keeps_number it = is_feedback_number_or_none it.number

of_feedback : {W : Type 0} (feedback : DeviceFeedback W) → is_device_feedback feedback ≡ true → is_feedback_number_or_none feedback.number ≡ true
of_feedback feedback formed = grind (arith, and_parts)

one_keeps : (c : Command) → IsWellFormed c → list_all keeps_number (reported_by c) ≡ true
one_keeps c formed = grind (arith, of_feedback)

history_keeps : (h : CommandList) → IsValid h → (r j : ℕ) → list_all keeps_number (history h r j) ≡ true
history_keeps (Make approval) valid r j = refl
history_keeps (h ▸ c) valid r j = grind (arith, nat_tests, history_keeps h valid.0 r j, list_all-append, one_keeps)

pub numbers_kept : (h : CommandList) → IsValid h → (k : ℕ) (a : ActionRecord) → item_numbered (records h).actions k ≡ Some a → list_all keeps_number a.history
    ≡ true
numbers_kept h valid k a at = let of = has_place h k a at in subst (λ (b : ActionRecord). list_all keeps_number b.history ≡ true) (sym of.is)
    (history_keeps h valid of.place.rollout of.place.position)

-- ---- where they stand

pub few_numbers : (sequence : ℕ) (reports : List Reported) → length (numbers_from sequence reports) ≤ length reports
few_numbers sequence [] = omega arith
few_numbers sequence (r ∷ more) = grind (arith, few_numbers (sequence + 1) more)

-- what bears a number
pub record IsBorne (sequence : ℕ) (reports : List Reported) (it : PlacedNumber) : Type 0 where
  pub low : sequence ≤ it.sequence
  pub high : it.sequence < sequence + length reports
  pub report : Reported
  pub among : Has reports report
  pub number : report.number ≡ Some it.number

pub is_borne : (sequence : ℕ) (reports : List Reported) (it : PlacedNumber) → Has (numbers_from sequence reports) it → IsBorne sequence reports it
is_borne sequence [] it among = absurd among
is_borne sequence (r ∷ more) it among = go r.number refl among (is_borne (sequence + 1) more it)
  where
    behind : IsBorne (sequence + 1) more it → IsBorne sequence (r ∷ more) it
    behind borne = grind (arith, borne.low, borne.high, borne.number)

    go : (number : Option ℕ) → r.number ≡ number → Has (borne_at sequence number ++ numbers_from (sequence + 1) more) it
        → (Has (numbers_from (sequence + 1) more) it → IsBorne (sequence + 1) more it) → IsBorne sequence (r ∷ more) it
    go None is later rest = behind (rest later)
    go (Some n) is (inr later) rest = behind (rest later)
    go (Some n) is (inl same) rest =
        let at : it.sequence ≡ sequence = ap (λ (x : PlacedNumber). x.sequence) same in
        let own : it.number ≡ n = ap (λ (x : PlacedNumber). x.number) same in
        record { low = omega (arith, at); high = omega (arith, at); report = r; among = inl refl; number = is ∙ ap (λ k. Some k) (sym own) }
