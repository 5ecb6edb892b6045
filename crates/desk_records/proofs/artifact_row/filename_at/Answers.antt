use Rattle.desk_records.proofs.Common.{arith, common_steps, spelled_is_utf8}
use Rattle.desk_records.proofs.artifact_row.filename_at.Goals as goal

-- a text that isn't UTF-8 is no filename
pub returns-in_default-from_utf8-clause-err : goal.returns-in_default-from_utf8-clause-err
returns-in_default-from_utf8-clause-err c = grind (arith, common_steps, spelled_is_utf8 1 128, c.from_utf8.ensures.cases, c.get_ref.ensures.ok)
