-- What the reads of an addition say, and what its writes come to.
use Rattle.desk_commands.proofs.Common.{◌≡◌, ◌≤◌, ℕ, ◌+◌, nat_lt, Bool, true, List, [], ◌∷◌, ◌++◌, length, refl, sym, ap, ◌∙◌, arith}
use Rattle.desk_commands.proofs.Common.{append_assoc, append-nil, nat_tests, length-append, list_any, list_all, is_none, command_reply, item_numbered}
use Rattle.desk_commands.proofs.Common.{ModuleLabel, SetLabel, AddModule, AddSet, Records, step_records, is_named_by_set, reply_of, is_module_list, is_number}
use Rattle.desk_commands.proofs.Common.{AddsModules, AddsWhole, LacksModule, and_parts}
use Rattle.std.proofs.lemmas.Option.{slice_get_cases}
use Rattle.desk_records.specs.Sets.{with_set, and_module, AddsSetModule}
use Rattle.rollout_model.specs.declared.request.Reply.TheVariants as reply

-- ---- modules

-- the module that a command adds is shown with the next number
pub module_added : (r : Records) (label shown : ModuleLabel) (number : ℕ) (locked : Bool) → number ≡ length r.modules + 1 → locked
    ≡ is_named_by_set r.sets number → shown ≡ label
    → reply_of (reply.ModuleAdded (record { number = number; locked = locked; label = shown }))
    ≡ command_reply (AddModule label) (step_records r (AddModule label))
module_added r label shown number locked next named same =
    let count : number ≡ length (r.modules ++ label ∷ []) = next ∙ sym (length-append r.modules (label ∷ [])) in
    let lock : locked ≡ is_named_by_set r.sets (length (r.modules ++ label ∷ [])) = named ∙ ap (is_named_by_set r.sets) count in
    λ i. reply_of (reply.ModuleAdded (record { number = count i; locked = lock i; label = same i }))

-- ---- sets

-- a number from 1 on isn't there where it is past the last one
pub missing : {X : Type 0} (ms : List X) (m last : ℕ) → 1 ≤ m → last ≡ length ms → nat_lt last m ≡ is_none (item_numbered ms m)
missing ms m last least size = grind (arith, nat_tests, slice_get_cases)

past_are_missing : (ms : List ModuleLabel) (numbers : List ℕ) → list_all is_number numbers ≡ true → list_any (λ m. nat_lt (length ms) m) numbers
    ≡ list_any (λ m. is_none (item_numbered ms m)) numbers
past_are_missing ms [] good = refl
past_are_missing ms (m ∷ numbers) good = grind (arith, past_are_missing ms numbers, and_parts, missing, nat_tests)

pub set_added : (r : Records) (label shown : SetLabel) (number : ℕ) → number ≡ length r.sets + 1 → shown ≡ label
    → reply_of (reply.SetAdded (record { number = number; label = shown })) ≡ command_reply (AddSet label) (step_records r (AddSet label))
set_added r label shown number next same = grind (arith, length-append)

-- ---- the modules of a set, one by one

abbrev with_sets : Records → List SetLabel → Records
with_sets r sets = record r { sets = sets }

pub adds_none : (number before : ℕ) (r next : Records) → AddsModules number before [] r next → next ≡ r
adds_none number before r next h = grind (arith, append-nil)

pub adds_first : (number before m : ℕ) (ms : List ℕ) (r next : Records) → AddsModules number before (m ∷ ms) r next
    → (mid : Records) × AddsSetModule number (before + 1) m r mid × AddsModules number (before + 1) ms mid next
adds_first number before m ms r next h =
    let mid = with_sets r (h.others ++ and_module h.set m ∷ []) in (
      mid,
      record { before = h.others; set = h.set; last = h.last; number_is = h.number_is; place_is = ap (λ n. n + 1) h.before_is; next_is = refl },
      record {
        others = h.others;
        set = and_module h.set m;
        last = refl;
        number_is = h.number_is;
        before_is = ap (λ n. n + 1) h.before_is ∙ sym (length-append h.set.modules (m ∷ []));
        next_is = h.next_is ∙ ap (λ (ns : List ℕ). with_sets r (h.others ++ (record h.set { modules = ns }) ∷ []))
            (sym (append_assoc h.set.modules (m ∷ []) ms));
      },
    )

pub adds_whole : (number : ℕ) (label : SetLabel) (r next : Records) → AddsWhole number label r next
    → (mid : Records) × ((number ≡ length r.sets + 1) × (mid ≡ with_set r label.name label.version)) × AddsModules number 0 label.modules mid next
adds_whole number label r next h = grind arith

pub lacks : (r : Records) (numbers : List ℕ) (last : ℕ) (found : Bool) → is_module_list numbers ≡ true → found ≡ list_any (λ m. nat_lt last m) numbers
    → last ≡ length r.modules → LacksModule numbers r found
lacks r numbers last found good is size =
    is ∙ ap (λ n. list_any (λ m. nat_lt n m) numbers) size ∙ past_are_missing r.modules numbers (and_parts _ _ (and_parts _ _ good).1).0
