use Rattle.desk_commands.proofs.Answering.{true, false, sym, ◌∙◌, finds_as, ledger_found, details_kept, entry_kept, stands_equal, ok_or_some, never}
use Rattle.desk_commands.proofs.Answering.{never_missing, reads_end}
use Rattle.desk_commands.proofs.reports.stand_against.Goals as goal

pub returns-then-same_entry-clause-reads : goal.returns-then-same_entry-clause-reads
returns-then-same_entry-clause-reads g c =
    finds_as (ledger_found _ c.in_ok-read_entry.ensures.reads)
    (λ r is of. stands_equal _ _ _ r _ _ true
    (rw (c.get.ensures.value, c.get-2.ensures.value) at c.if-get.false) (rw (c.get-3.ensures.value, c.get-4.ensures.value) at c.if-get-2.false)
    (sym c.if-same_entry.true ∙ c.same_entry.ensures) (sym (is (details_kept r of _)) ∙ ok_or_some _ c.in_ok-entry.ensures.value))

pub returns-clause-reads : goal.returns-clause-reads
returns-clause-reads g c =
    finds_as (ledger_found _ c.in_ok-read_entry.ensures.reads)
    (λ r is of. stands_equal _ _ _ r _ _ false
    (rw (c.get.ensures.value, c.get-2.ensures.value) at c.if-get.false) (rw (c.get-3.ensures.value, c.get-4.ensures.value) at c.if-get-2.false)
    (sym c.if-same_entry.false ∙ c.same_entry.ensures) (sym (is (details_kept r of _)) ∙ ok_or_some _ c.in_ok-entry.ensures.value))

pub returns-in_err-entry-clause-fails : goal.returns-in_err-entry-clause-fails
returns-in_err-entry-clause-fails g c =
    reads_end (never c.in_ok-read_entry.ensures.reads
    (λ l is given. let it = entry_kept _ _ l given in never_missing _ c.in_err-entry.ensures.value (is it.keeps ∙ it.is_there)))
    c.from_residual-in_err-entry.ensures.1
