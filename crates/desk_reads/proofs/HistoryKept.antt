-- The details in the histories of accepted commands keep their rule.
use Rattle.std.proofs.lemmas.Bool.Decides.{nat_tests}
use Rattle.desk_reads.proofs.Common.{arith, ◌≡◌, ℕ, true, refl, list_all, option_map, and_parts, item_numbered, CommandList, Make, ◌▸◌, Records, IsValid}
use Rattle.desk_reads.proofs.Common.{AreOfList}
use Rattle.desk_reads.proofs.Common.{IsWellFormed, is_credential, is_device_feedback, Command, DeviceFeedback, are_details, is_number}
use Rattle.rollout_machine.specs.Records.{records}
use Rattle.std.proofs.lemmas.List.Folds.{list_all-append}
use Rattle.rollout_machine.specs.Actions.{history}
use Rattle.rollout_machine.specs.Reports.{entries_in, reported_by}
use Rattle.rollout_machine.proofs.Actions.{entries_both, numbered_map}
use Rattle.desk_records.specs.Actions.{history_of}
use Rattle.desk_records.specs.EntryRow.{keeps_details}

-- of one command
of_feedback : {W : Type 0} (feedback : DeviceFeedback W) → is_device_feedback feedback ≡ true → are_details feedback.details ≡ true
of_feedback feedback formed = (and_parts _ _ (and_parts (is_number feedback.action) _ (and_parts (is_credential feedback.credential) _ formed).1).1).0

one_keeps : (c : Command) → IsWellFormed c → list_all keeps_details (entries_in (reported_by c)) ≡ true
one_keeps c formed = grind (arith, of_feedback)

history_keeps : (h : CommandList) → IsValid h → (r j : ℕ) → list_all keeps_details (entries_in (history h r j)) ≡ true
history_keeps (Make approval) valid r j = refl
history_keeps (h ▸ c) valid r j = grind (arith, nat_tests, history_keeps h valid.0 r j, entries_both, list_all-append, one_keeps)

pub details_kept : (r : Records) → AreOfList r → (k : ℕ) → list_all keeps_details (history_of (item_numbered r.actions k)) ≡ true
unfolding records
details_kept r of k = grind (arith, of.are, numbered_map, option_map, history_keeps of.list of.valid)
