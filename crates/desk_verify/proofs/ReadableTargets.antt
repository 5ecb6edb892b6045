-- The tables of targets and members can be read where records of accepted commands are held.
use Rattle.desk_verify.proofs.RecordRows.{is_member}
use Rattle.desk_verify.proofs.Common.{◌<◌, ◌^◌, List, [], ◌∷◌, length, arith, and_parts, CommandList, IsValid}
use Rattle.desk_verify.proofs.Common.{RolloutRecord, ledger_of, IsHeld, length-map, test_has, Row, Text, limits_hold, Attribute, Bytes}
use Rattle.desk_verify.proofs.Common.{records, is_word, member_row, Members, TargetAttributes, TargetTags, Targets, BreaksColumn}
use Rattle.rollout_machine.specs.Targets.{Target}
use Rattle.sql_calls.proofs.Counts.{length_held}
use Rattle.rollout_model.specs.Pairs.{is_attribute}
use Rattle.desk_records.specs.Targets.{target_row}
use Rattle.desk_verify.proofs.ReadableRows.{Keeps, fails_not, of_lists, of_mapped, of_parts, unbroken}
use Rattle.desk_reads.proofs.TargetRules.{targets_keep}

-- ---- targets

pub keeps_targets : (h : CommandList) → IsValid h → Keeps (records h) Targets
keeps_targets h valid rows held = of_mapped (λ row. BreaksColumn Targets row → ⊥) target_row (records h).targets rows held
    (λ n x among bad. grind (arith, unbroken, targets_keep h valid x among))

-- they are no more than 32 bits count
pub few_targets : (h : CommandList) → IsValid h → (rows : List Row) → IsHeld (ledger_of (records h)) Targets rows → length rows < 2 ^ 32
few_targets h valid rows held = grind (arith, length_held rows, length-map (records h).targets target_row, limits_hold h valid)

-- ---- tags

pub keeps_target_tags : (h : CommandList) → IsValid h → Keeps (records h) TargetTags
keeps_target_tags h valid rows held =
    of_lists (λ row. BreaksColumn TargetTags row → ⊥) (λ (x : Target) (w : Bytes). Text x.id ∷ Text w ∷ []) (λ (x : Target). x.tags) (records h).targets rows
    held
    (λ n x w among its bad. grind (arith, unbroken, test_has is_word x.tags w, targets_keep h valid x among))

-- ---- attributes

abbrev attribute_row : Target → Attribute → Row
attribute_row x a = Text x.id ∷ Text a.key ∷ Text a.value ∷ []

pub keeps_target_attributes : (h : CommandList) → IsValid h → Keeps (records h) TargetAttributes
keeps_target_attributes h valid rows held =
    of_lists (λ row. BreaksColumn TargetAttributes row → ⊥) attribute_row (λ (x : Target). x.attributes) (records h).targets rows held
    (λ n x a among its bad. grind (arith, unbroken, and_parts, test_has is_attribute x.attributes a, targets_keep h valid x among))

-- ---- members

pub keeps_members : (h : CommandList) → IsValid h → Keeps (records h) Members
keeps_members h valid rows held =
    of_parts (λ row. BreaksColumn Members row → ⊥) member_row (λ (x : RolloutRecord). x.members) (records h).rollouts rows held
    (λ n d k x id at its. fails_not (is_word id) (is_member h valid d at n k its).word)

pub ruleset targets_readable = (keeps_targets, keeps_target_tags, keeps_target_attributes, keeps_members)
