-- The tables of modules, sets and artifacts can be read where records of accepted commands are held.
use Rattle.desk_verify.proofs.ArtifactLaw.{is_artifact, its_digest, keeps_rules, small_size}
use Rattle.desk_records.proofs.Membership.{has_alone}
use Rattle.desk_verify.proofs.Common.{◌<◌, suc, true≢false, arith, and_parts, CommandList, IsValid, has_got, test_has, limits_hold, SetLabel, ArtifactRecord}
use Rattle.desk_verify.proofs.Common.{records, is_number, place_within, is_in_range, is_small, artifact_row, piece_row, pieces_in, module_row, Artifacts, Desk}
use Rattle.desk_verify.proofs.Common.{Modules, Pieces, SetModules, Sets, BreaksColumn}
use Rattle.desk_records.specs.Sets.{place_row, set_row}
use Rattle.desk_verify.proofs.CodeLemmas.{flag_is, is_sized}
use Rattle.desk_reads.proofs.LabelRules.{few_modules, few_sets, labels_keep, sets_keep}
use Rattle.desk_verify.proofs.ReadableRows.{Keeps, fails_not, of_ordered, of_parts, unbroken}

-- ---- the desk

pub keeps_desk : (h : CommandList) → Keeps (records h) Desk
keeps_desk h rows are row among breaks = grind (arith, flag_is, has_alone)

-- ---- modules

pub keeps_modules : (h : CommandList) → IsValid h → Keeps (records h) Modules
keeps_modules h valid rows are = of_ordered (λ row. BreaksColumn Modules row → ⊥) module_row (records h).modules rows are (λ d m at bad.
    let keeps = labels_keep h valid m (has_got (records h).modules d m at) in
    grind (arith, fails_not, unbroken, and_parts, keeps, is_sized, place_within (records h).modules d m at, few_modules h valid))

-- ---- sets

pub keeps_sets : (h : CommandList) → IsValid h → Keeps (records h) Sets
keeps_sets h valid rows are = of_ordered (λ row. BreaksColumn Sets row → ⊥) set_row (records h).sets rows are (λ d s at bad.
    let keeps = sets_keep h valid s (has_got (records h).sets d s at) in
    grind (arith, fails_not, unbroken, and_parts, keeps, is_sized, place_within (records h).sets d s at, few_sets h valid))

pub keeps_set_modules : (h : CommandList) → IsValid h → Keeps (records h) SetModules
keeps_set_modules h valid rows held =
    of_parts (λ row. BreaksColumn SetModules row → ⊥) place_row (λ (s : SetLabel). s.modules) (records h).sets rows held (λ n d k s m at its bad.
    grind (arith, fails_not, and_parts, sets_keep h valid s (has_got (records h).sets d s at), test_has is_number s.modules m, has_got s.modules k m its))

-- ---- artifacts

pub keeps_artifacts : (h : CommandList) → IsValid h → Keeps (records h) Artifacts
keeps_artifacts h valid rows are = of_ordered (λ row. BreaksColumn Artifacts row → ⊥) artifact_row (records h).artifacts rows are (λ d a at bad.
    let few : d < 256 = omega (arith, place_within (records h).artifacts d a at, (limits_hold h valid).artifacts) in
    let number = is_in_range (suc d) (omega arith) (omega (arith, few)) in
    let size = is_small a.size (small_size h valid d at) in
    let digest = its_digest h d at in
    grind (arith, fails_not, is_sized, unbroken, (is_artifact h valid d at).kept, number, (keeps_rules h valid d at).filename, size, digest))

pub keeps_pieces : (h : CommandList) → Keeps (records h) Pieces
keeps_pieces h rows held =
    of_parts (λ row. BreaksColumn Pieces row → ⊥) piece_row (λ (a : ArtifactRecord). pieces_in a.contents) (records h).artifacts rows held
    (λ n d k a piece at its bad. true≢false bad)

pub ruleset artifacts_readable = (keeps_desk, keeps_modules, keeps_sets, keeps_set_modules, keeps_artifacts, keeps_pieces)
