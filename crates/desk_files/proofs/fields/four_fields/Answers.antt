use Rattle.desk_files.proofs.Common.{arith, sym, fields_of}
use Rattle.csv.proofs.RecordFacts.{field-there}
use Rattle.desk_files.proofs.FieldFacts.{four_are}
use Rattle.desk_files.proofs.fields.four_fields.Goals as goal

pub returns-in_err-id : goal.returns-in_err-id
returns-in_err-id c = absurd (field-there (fields_of c.args.record.now) 0 (omega arith) (sym c.in_err-id.ensures.value))

pub returns-in_err-name : goal.returns-in_err-name
returns-in_err-name c = absurd (field-there (fields_of c.args.record.now) 1 (omega arith) (sym c.in_err-name.ensures.value))

pub returns-in_err-token : goal.returns-in_err-token
returns-in_err-token c = absurd (field-there (fields_of c.args.record.now) 2 (omega arith) (sym c.in_err-token.ensures.value))

pub returns-in_err-tags : goal.returns-in_err-tags
returns-in_err-tags c = absurd (field-there (fields_of c.args.record.now) 3 (omega arith) (sym c.in_err-tags.ensures.value))

pub returns : goal.returns
returns c =
    four_are (fields_of c.args.record.now) c.in_ok-id.id.now c.in_ok-name.name.now c.in_ok-token.token.now c.in_ok-tags.tags.now (omega arith)
    c.in_ok-id.ensures.value c.in_ok-name.ensures.value c.in_ok-token.ensures.value c.in_ok-tags.ensures.value
