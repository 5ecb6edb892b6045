use Rattle.desk_files.proofs.Common.{Ok, ap, sym, ◌∙◌, fields_of, records_of}
use Rattle.desk_files.proofs.ImportFacts.{begins, ends, faults, goes_on, no_header, no_record, says}
use Rattle.desk_files.proofs.StepFacts.{not_taken, taken}
use Rattle.desk_files.proofs.import.read_targets.Goals as goal

pub returns-then-not-branch : goal.returns-then-not-branch
returns-then-not-branch c =
    let records = records_of c.args.bytes.now in
    let given = rw c.if-not-branch.true at (c.in_ok-next_record.ensures.gives records c.records-reader.ensures) in
    says c.args.bytes.now _ c.ends_with.ensures.value c.if-not-ends_with.false ∙ no_record records c.next_record.new.reader (fields_of c.next_record.new.record)
    given

pub returns-then-not-is_header : goal.returns-then-not-is_header
returns-then-not-is_header c =
    let records = records_of c.args.bytes.now in
    let given = rw c.if-not-branch.false at (c.in_ok-next_record.ensures.gives records c.records-reader.ensures) in
    says c.args.bytes.now _ c.ends_with.ensures.value c.if-not-ends_with.false
    ∙ no_header records c.next_record.new.reader (fields_of c.next_record.new.record) given (sym c.is_header.ensures ∙ c.if-not-is_header.true)

pub loop-line-init : goal.loop-line-init
loop-line-init c =
    let records = records_of c.args.bytes.now in
    let given = rw c.if-not-branch.false at (c.in_ok-next_record.ensures.gives records c.records-reader.ensures) in
    begins records c.next_record.new.reader (fields_of c.next_record.new.record) c.new-rows.result given (sym c.is_header.ensures ∙ c.if-not-is_header.false)
    c.new-rows.ensures.rows c.new-rows.ensures.ids

pub returns-then-not-branch-2 : goal.returns-then-not-branch-2
returns-then-not-branch-2 c =
    let i = c.loop-line.invariant in
    let r = fields_of c.next_record-in-loop-line.new.record in
    let given = rw c.if-not-branch-2.true at (c.in_ok-next_record-2.ensures.gives i.more i.gives) in
    says c.args.bytes.now _ c.ends_with.ensures.value c.if-not-ends_with.false
    ∙ ends (records_of c.args.bytes.now) c.loop-line.rows c.loop-line.line c.loop-line.reader c.next_record-in-loop-line.new.reader r i given
    ∙ ap Ok (sym c.into_rows.ensures)

pub returns-then-not-branch-3 : goal.returns-then-not-branch-3
returns-then-not-branch-3 c =
    let i = c.loop-line.invariant in
    let r = fields_of c.next_record-in-loop-line.new.record in
    let given = rw c.if-not-branch-2.false at (c.in_ok-next_record-2.ensures.gives i.more i.gives) in
    let none = not_taken c.loop-line.rows c.take.new.self r (rw c.if-not-branch-3.true at (c.in_ok-take.ensures i.ids)) in
    says c.args.bytes.now _ c.ends_with.ensures.value c.if-not-ends_with.false
    ∙ faults (records_of c.args.bytes.now) c.loop-line.rows c.loop-line.line c.loop-line.reader c.next_record-in-loop-line.new.reader r i given none

pub loop-line-preserved : goal.loop-line-preserved
loop-line-preserved c =
    let i = c.loop-line.invariant in
    let r = fields_of c.next_record-in-loop-line.new.record in
    let given = rw c.if-not-branch-2.false at (c.in_ok-next_record-2.ensures.gives i.more i.gives) in
    let (row, next, pushes) = taken c.loop-line.rows c.take.new.self r (rw c.if-not-branch-3.false at (c.in_ok-take.ensures i.ids)) in
    goes_on (records_of c.args.bytes.now) c.loop-line.rows c.take.new.self c.loop-line.line c.loop-line.reader c.next_record-in-loop-line.new.reader r i row
    given next pushes
