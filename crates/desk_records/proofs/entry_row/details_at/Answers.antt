use Rattle.desk_records.proofs.Common.{inr, refl, sym, ap, ◌∙◌}
use Rattle.sqlite_value.specs.Value.{owned}
use Rattle.desk_records.proofs.DetailLines.{unread_details}
use Rattle.desk_records.proofs.entry_row.details_at.Goals as goal

-- a text that isn't UTF-8 holds no details
pub returns-in_default-from_utf8-clause-err : goal.returns-in_default-from_utf8-clause-err
returns-in_default-from_utf8-clause-err c =
    inr (refl, unread_details _ c.in-Ok-Text.text.now (sym c.in-Ok-Text.ensures.ok.1 ∙ ap owned c.in-Ok-Text.field-0-is) c.in_default-from_utf8.ensures.cases.0)
