use Rattle.desk_views.proofs.Common.{nil_from_length}
use Rattle.desk_views.proofs.HistoryViews.{numbers_read, part_numbered, entries_read, all_shown}
use Rattle.desk_views.proofs.Answering.{◌≡◌, ◌≤◌, arith, length, nat_tests, both_found, finds_as, ledger_found, places_few, never_fails, page_numbered}
use Rattle.desk_views.proofs.actions.read_numbered.Goals as goal

pub returns-then-is_empty-clause-reads : goal.returns-then-is_empty-clause-reads
returns-then-is_empty-clause-reads g c = let none : length c.in_ok-entries.entries.items ≡ 0 =
    grind (arith, nat_tests, c.if-is_empty.true, c.is_empty.ensures, c.in_ok-entries.entries.ok.0) in
    finds_as c.in_ok-entries.ensures.reads (λ r is of. grind (arith, page_numbered, nil_from_length, c.new.ensures.items))

pub returns-clause-reads : goal.returns-clause-reads
returns-clause-reads g c = finds_as (both_found c.in_ok-entries.ensures.reads (ledger_found _ c.in_ok-numbers.ensures.reads))
    (λ r is of. grind (arith, numbers_read, part_numbered, entries_read, all_shown, rw c.deref.ensures.value at c.in_ok-shown.ensures.ok))

pub returns-in_err-shown-clause-fails : goal.returns-in_err-shown-clause-fails
returns-in_err-shown-clause-fails g c =
    let some : 1 ≤ length c.in_ok-entries.entries.items = grind (arith, nat_tests, c.if-is_empty.false, c.is_empty.ensures, c.in_ok-entries.entries.ok.0) in
    never_fails (λ l it. it) (both_found c.in_ok-entries.ensures.reads (ledger_found _ c.in_ok-numbers.ensures.reads)) _ c.in_err-shown.ensures.err
    (λ r is of _ readable many. places_few r readable c.args.number c.args.page.limit c.args.page.offset c.in_ok-entries.entries.items (is.0 of) some many) _
    c.from_residual-in_err-shown.ensures.1
