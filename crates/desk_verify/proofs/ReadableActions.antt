-- The tables of actions, histories, offers and numbers can be read where records of accepted commands are held that can be counted.
use Rattle.desk_verify.proofs.Common.{IsHeldBy, ◌≡◌, ◌<◌, ◌^◌, ℕ, suc, pos, true, ◌∷◌, length, map, slice_get, zip, Some, refl, subst, arith, CommandList}
use Rattle.desk_verify.proofs.Common.{IsValid, has_got, test_has, Int, records, HistoryEntry, ActionRecord, place_within, action_row, entries_of, entry_row}
use Rattle.desk_verify.proofs.Common.{tally_of, told_entry, BreaksEntry, keeps_details, offer_row, Actions, Feedbacks, Numbers, Offers, columns_of_offer}
use Rattle.desk_verify.proofs.Common.{Column, BreaksColumn, AreCounted}
use Rattle.desk_verify.proofs.HeldRows.{parts_mapped}
use Rattle.desk_records.proofs.RowsTold.{whole_offer, whole_stored_action, whole_listed_action}
use Rattle.desk_verify.proofs.RecordRows.{few_actions, is_action, is_offer, is_offered, its_tally}
use Rattle.desk_records.specs.FeedbackNumbers.{number_row, numbers_of}
use Rattle.desk_verify.proofs.CodeLemmas.{feedback_number_is, is_sized, kind_is, place_is, said_is}
use Rattle.desk_reads.proofs.HistoryKept.{details_kept}
use Rattle.desk_verify.proofs.HistoryRules.{few_numbers, is_borne, keeps_number, numbers_kept}
use Rattle.desk_verify.proofs.ReadableRows.{Keeps, fails_not, of_mapped, of_ordered, of_parts, unbroken}

-- ---- actions

one_action : (h : CommandList) (valid : IsValid h) (d : ℕ) (a : ActionRecord) → slice_get (records h).actions d ≡ Some a → length a.history < 2 ^ 32
    → BreaksColumn Actions (action_row (records h).rollouts (suc d) (a, tally_of a)) → ⊥
one_action h valid d a at counted bad =
    let says = is_action h valid d at in
    let whole = whole_stored_action _ _ says.shows says.place says.word says.notes (is_sized (length a.history) counted) in
    grind (arith, fails_not, is_sized, few_actions h valid d at, unbroken, whole, whole_listed_action)

pub keeps_actions : (h : CommandList) → IsValid h → AreCounted (records h) → Keeps (records h) Actions
keeps_actions h valid counted rows are = of_ordered (λ row. BreaksColumn Actions row → ⊥) (action_row (records h).rollouts)
    (zip (records h).actions (map tally_of (records h).actions)) rows are (λ d it at bad. let own = its_tally (records h).actions d it at in
    grind (arith, one_action h valid d own.0 own.1, counted.few own.0 (has_got (records h).actions d own.0 own.1)))

-- ---- histories

unbroken_entry : (entry : HistoryEntry) → keeps_details entry ≡ true → (c : Column) → BreaksEntry (told_entry entry) c → ⊥
unbroken_entry entry keeps c bad = grind (arith, kind_is entry.said, said_is entry.said)

pub keeps_feedbacks : (h : CommandList) → IsValid h → Keeps (records h) Feedbacks
keeps_feedbacks h valid rows held = of_parts (λ row. BreaksColumn Feedbacks row → ⊥) entry_row entries_of (records h).actions rows held
    (λ n d k a entry at lies breaks. let kept = details_kept (records h) (record { list = h; valid = valid; are = refl }) (suc d) in
    grind (arith, kept, unbroken_entry entry, test_has keeps_details (entries_of a) entry, has_got (entries_of a) k entry lies))

-- ---- offers

pub keeps_offers : (h : CommandList) → IsValid h → Keeps (records h) Offers
keeps_offers h valid rows held = of_mapped (λ row. BreaksColumn Offers row → ⊥) offer_row held.listed rows held.held
    (λ n o among. unbroken _ (whole_offer (columns_of_offer (Int (pos n) ∷ offer_row o)) o.offer
    (is_offer h valid n o (is_offered h valid held o among)).shows))

-- ---- numbers of feedback

pub keeps_numbers : (h : CommandList) → IsValid h → AreCounted (records h) → Keeps (records h) Numbers
keeps_numbers h valid counted rows held = of_parts (λ row. BreaksColumn Numbers row → ⊥) number_row numbers_of (records h).actions rows
    (subst (IsHeldBy rows) (parts_mapped number_row numbers_of 1 (records h).actions) held) (λ n d k a it at lies bad.
    let borne = is_borne 1 a.history it (has_got (numbers_of a) k it lies) in
    let kept : keeps_number borne.report ≡ true = test_has keeps_number a.history borne.report (numbers_kept h valid (suc d) a at) borne.among in
    let few : length a.history < 2 ^ 32 = omega (arith, counted.few a (has_got (records h).actions d a at)) in
    let less = place_within (numbers_of a) k it lies in
    grind (arith, unbroken, place_is it.sequence, place_is (suc k), feedback_number_is it.number, less, few_numbers 1 a.history))

pub ruleset actions_readable = (keeps_actions, keeps_feedbacks, keeps_offers, keeps_numbers)
