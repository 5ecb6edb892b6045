-- The modules and sets of accepted commands keep their rules, and are no more than their limits.
use Rattle.desk_reads.proofs.Common.{◌≡◌, ◌≤◌, Bool, true, ◌&&◌, length, arith, CommandList, Make, ◌▸◌, IsValid, leb-false, has_either, Has, none_holds}
use Rattle.desk_reads.proofs.Common.{is_set_label, ModuleLabel, SetLabel, added_modules, added_sets, modules, sets, is_text}
use Rattle.std.proofs.lemmas.List.{length-append}
use Rattle.rollout_machine.specs.Records.{records}
use Rattle.rollout_model.specs.Limits.{limits}

-- ---- modules

abbrev pub is_label : ModuleLabel → Bool
is_label m = is_text m.name && (is_text m.kind && is_text m.version)

pub labels_keep : (h : CommandList) → IsValid h → (m : ModuleLabel) → Has (records h).modules m → is_label m ≡ true
unfolding records
labels_keep (Make approval) valid m among = absurd among
labels_keep (h ▸ c) valid m among = grind (arith, labels_keep h valid.0 m, has_either (modules h) (added_modules c) m among)

pub few_modules : (h : CommandList) → IsValid h → length (records h).modules ≤ limits.modules
unfolding records
few_modules (Make approval) valid = omega arith
few_modules (h ▸ c) valid = grind (arith, few_modules h valid.0, length-append, none_holds, leb-false)

-- ---- sets

pub sets_keep : (h : CommandList) → IsValid h → (s : SetLabel) → Has (records h).sets s → is_set_label s ≡ true
unfolding records
sets_keep (Make approval) valid s among = absurd among
sets_keep (h ▸ c) valid s among = grind (arith, sets_keep h valid.0 s, has_either (sets h) (added_sets c) s among)

pub few_sets : (h : CommandList) → IsValid h → length (records h).sets ≤ limits.sets
unfolding records
few_sets (Make approval) valid = omega arith
few_sets (h ▸ c) valid = grind (arith, few_sets h valid.0, length-append, none_holds, leb-false)
