-- No action has more notes than the limit.
use Rattle.std.proofs.lemmas.Bool.Decides.{nat_tests}
use Rattle.std.proofs.lemmas.List.{length-append}
use Rattle.std.proofs.lemmas.List.Elements.{filter-append}
use Rattle.rollout_machine.proofs.Common.{◌≡◌, ℕ, ◌≤◌, true, false, ◌&&◌, List, [], ◌∷◌, ◌++◌, length, refl, sym, ap, ◌∙◌, subst, arith, Some, None, nat_le}
use Rattle.rollout_machine.proofs.Common.{leb-false, filter, action_in, action_place, history, is_heard, outcome, reports, CommandList, Make, ◌▸◌}
use Rattle.rollout_machine.proofs.Common.{CancelFeedback, Command}
use Rattle.rollout_machine.proofs.Common.{Feedback, HistoryEntry, Reported, OfCancel, OfDeployment, records, item_numbered, reported, reported_by, entries_in}
use Rattle.rollout_machine.proofs.Common.{says_again, standing_of, IsValid, is_some_and, verdict, verdict_row, notes_of}
use Rattle.rollout_machine.specs.Verdicts.{is_beyond, is_new}
use Rattle.rollout_machine.specs.declared.records.ActionRecord.{ActionRecord}
use Rattle.rollout_model.specs.Limits.{limits}
use Rattle.rollout_machine.proofs.Actions.{append_none, entries_both, open_reports}
use Rattle.rollout_machine.proofs.AtNumbers.{has_place}
use Rattle.rollout_machine.specs.Verdicts.{says_note}
use Rattle.rollout_machine.proofs.Meanings.{placed}
use Rattle.rollout_machine.proofs.Valid.{found_action, none_holds}

abbrev notes_in : List Reported → ℕ
notes_in heard = length (filter (λ (entry : HistoryEntry). says_note entry.said) (entries_in heard))

-- one more entry, which is a note only where there is room
one_more : (es : List HistoryEntry) (e : HistoryEntry)
    → (says_note e.said && nat_le limits.notes (length (filter (λ (entry : HistoryEntry). says_note entry.said) es))) ≡ false
    → length (filter (λ (entry : HistoryEntry). says_note entry.said) es) ≤ limits.notes
    → length (filter (λ (entry : HistoryEntry). says_note entry.said) (es ++ e ∷ [])) ≤ limits.notes
one_more es e room few = grind (arith, filter-append, length-append, leb-false)

has_room : (a : ActionRecord) (new : Reported) → a.outcome ≡ None → says_again (standing_of a.history new) ≡ false → (is_new new a && is_beyond new a) ≡ false
    → is_beyond new a ≡ false
has_room a new open' fresh e = sym (rw (open', fresh) refl) ∙ e

-- of what is heard on an open action
by_report : (h : CommandList) (r j k : ℕ) (new : Reported) → outcome h r j ≡ None → notes_in (history h r j) ≤ limits.notes
    → action_place h k ≡ Some (record { rollout = r; position = j }) → says_again (standing_of (reports h r j) new) ≡ false
    → is_some_and (λ a. is_new new a && is_beyond new a) (item_numbered (records h).actions k) ≡ false → notes_in (history h r j ++ new ∷ []) ≤ limits.notes
by_report h r j k new open' few at fresh row =
    let heard : says_again (standing_of (history h r j) new) ≡ false =
    subst (λ before. says_again (standing_of before new) ≡ false) (open_reports h r j open') fresh in
    let a : ActionRecord = action_in h (record { rollout = r; position = j }) in
    let taken : (is_new new a && is_beyond new a) ≡ false =
    sym (ap (is_some_and (λ (b : ActionRecord). is_new new b && is_beyond new b)) (found_action h k (Some (record { rollout = r; position = j })) at)) ∙ row in
    subst (λ (es : List HistoryEntry). length (filter (λ (entry : HistoryEntry). says_note entry.said) es) ≤ limits.notes)
    (sym (entries_both (history h r j) (new ∷ []))) (one_more (entries_in (history h r j)) new.entry (has_room a new open' heard taken) few)

heard_few : (h : CommandList) (c : Command) (r j : ℕ) → verdict h c ≡ None → is_heard h c r j ≡ true → outcome h r j ≡ None
    → notes_in (history h r j) ≤ limits.notes → notes_in (history h r j ++ reported_by c) ≤ limits.notes
heard_few h (Feedback feedback) r j v d e few = let p = placed h (Feedback feedback) r j d in
    by_report h r j feedback.action (reported OfDeployment feedback) e few p.0 p.1 (none_holds (verdict_row (records h) (Feedback feedback)) v).1.1.1.1.0
heard_few h (CancelFeedback feedback) r j v d e few = let p = placed h (CancelFeedback feedback) r j d in
    by_report h r j feedback.action (reported OfCancel feedback) e few p.0 p.1
    (none_holds (verdict_row (records h) (CancelFeedback feedback)) v).1.1.1.1.1.0
heard_few h _ r j v d e few = subst (λ heard. notes_in heard ≤ limits.notes) (sym (append_none (history h r j))) few

few_at : (h : CommandList) (r j : ℕ) → IsValid h → notes_in (history h r j) ≤ limits.notes
few_at (Make approval) r j v = omega arith
few_at (h ▸ c) r j v = grind (arith, nat_tests, few_at h r j v.0, heard_few h c r j v.2, append_none)

pub few_notes : (h : CommandList) → IsValid h → (k : ℕ) (a : ActionRecord) → item_numbered (records h).actions k ≡ Some a → notes_of a ≤ limits.notes
few_notes h valid k a e =
    let at = has_place h k a e in
    subst (λ (b : ActionRecord). notes_of b ≤ limits.notes) (sym at.is) (few_at h at.place.rollout at.place.position valid)
