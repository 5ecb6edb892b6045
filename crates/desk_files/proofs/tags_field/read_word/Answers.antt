use Rattle.desk_files.proofs.Common.{sym}
use Rattle.desk_files.proofs.FieldFacts.{is_word-no_text}
use Rattle.desk_files.proofs.tags_field.read_word.Goals as goal

pub returns-in_default : goal.returns-in_default
returns-in_default c = sym (is_word-no_text c.args.field.now c.in_default.ensures.cases.0)
