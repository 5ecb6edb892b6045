use Rattle.desk_commands.proofs.Answering.{Some, refl, makes_then, records, ledger_of, renamed, with_changed, PutsOver, in_order, writes_behind}
use Rattle.desk_commands.proofs.Answering.{renamed_readable, changes_row_parts}
use Rattle.desk_commands.proofs.targets.change_row.Goals as goal

pub returns-clause-writes : goal.returns-clause-writes
returns-clause-writes g c =
    let row = c.args.row.now in
    in_order (PutsOver (Some c.args.stored.now) row) _
    (makes_then c.in_ok-rename.ensures.writes (λ r next h. changes_row_parts row c.args.stored.now r next h.0 h.1.0 h.1.1) _ c.retag.ensures.writes)

pub returns-clause-fails : goal.returns-clause-fails
returns-clause-fails g c =
    let row = c.args.row.now in
    writes_behind (λ l sees it.
    let of = it.given.takes.of_list in (
      ledger_of (with_changed (records of.list) row.id (renamed row.name row.digest)),
      renamed_readable of.list of.valid row it.given.takes.row_keeps (rw of.is at it.readable),
      c.in_ok-rename.ensures.writes.makes (records of.list) _ (rw of.is at sees) (λ clean. (rw of.is at it.given.stored_is, refl)),
    )) _ c.retag.ensures.fails
