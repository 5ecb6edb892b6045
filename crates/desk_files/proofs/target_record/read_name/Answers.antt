use Rattle.desk_files.proofs.Common.{sym}
use Rattle.desk_files.proofs.FieldFacts.{is_text-no_text}
use Rattle.desk_files.proofs.target_record.read_name.Goals as goal

pub returns-in_default : goal.returns-in_default
returns-in_default c = sym (is_text-no_text c.args.field.now c.in_default.ensures.cases.0)
