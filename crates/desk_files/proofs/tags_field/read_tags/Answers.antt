use Rattle.desk_files.proofs.Common.{◌≤◌, ◌==◌, arith, count_by, sym}
use Rattle.desk_files.proofs.FieldFacts.{tags_of-many}
use Rattle.desk_files.proofs.tags_field.read_tags.Goals as goal

pub returns-then-spaces-ge-TOO_MANY_SPACES : goal.returns-then-spaces-ge-TOO_MANY_SPACES
returns-then-spaces-ge-TOO_MANY_SPACES c =
    let many : 16 ≤ count_by (λ b. b == 32) c.args.field.now = omega arith in
    sym (tags_of-many c.args.field.now many)
