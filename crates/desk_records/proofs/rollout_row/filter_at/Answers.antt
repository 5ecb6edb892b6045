use Rattle.desk_records.proofs.Common.{◌≡◌, true, ap, ◌∙◌, subst, is_utf8, is_utf8-from_IsUtf8, IsUtf8-from_is_utf8, has_filter}
use Rattle.desk_records.proofs.RowLemmas.{fails_at}
use Rattle.desk_records.proofs.rollout_row.filter_at.Goals as goal

pub returns-in-Err-clause-err : goal.returns-in-Err-clause-err
returns-in-Err-clause-err c = rw c.row_fault.ensures (fails_at is_utf8 IsUtf8-from_is_utf8 c.args.row.now c.args.at c.in-Err.error _ c.in-Err.ensures.kind)

-- a String is UTF-8
pub returns-in-Ok-from_text-clause-kept : goal.returns-in-Ok-from_text-clause-kept
returns-in-Ok-from_text-clause-kept c = ap has_filter c.in-Ok.ensures.ok.1
    ∙ subst (λ s. is_utf8 s ≡ true) c.as_str.ensures.value (is_utf8-from_IsUtf8 _ c.as_str.utf8)
