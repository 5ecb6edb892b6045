use Rattle.desk_files.proofs.Common.{option_map, ap, sym}
use Rattle.artifact_pieces.specs.Digests.{digest_of}
use Rattle.desk_files.proofs.FieldFacts.{is_token-no_text}
use Rattle.desk_files.proofs.target_record.read_token_digest.Goals as goal

pub returns-in_default : goal.returns-in_default
returns-in_default c = sym (ap (option_map digest_of) (is_token-no_text c.args.field.now c.in_default.ensures.cases.0))
