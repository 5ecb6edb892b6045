use Rattle.desk_store.proofs.Answering.{Int, Ok, TakesFirst, [], arith, entry_read, first_fails, list_entries_is, nat_tests, pos, state, suc, ◌-◌, ◌∷◌, ◌≡◌}
use Rattle.desk_records.specs.declared.action_texts.TheConstants.{LIST_ENTRIES}
use Rattle.desk_store.proofs.entries.read_entry.Goals as goal

pub returns-clause-reads : goal.returns-clause-reads
returns-clause-reads g c =
    let behind : c.args.sequence ≡ suc (c.args.sequence - 1) = grind (arith, nat_tests, c.if-sequence-eq0.false) in
    let it : TakesFirst (state g.S.Store c.args.calls.now.conn) (state g.S.Store c.first.new.calls.conn) LIST_ENTRIES.now
    (Int (pos c.args.number) ∷ Int (pos 1) ∷ Int (pos (c.args.sequence - 1)) ∷ []) (Ok c.in_ok-row.row) =
    rw (c.params-to_sql.ensures, c.params-to_sql-2.ensures, c.params-to_sql-3.ensures, c.get.ensures.value) at c.in_ok-row.ensures.takes in
    entry_read c.args.number c.args.sequence (c.args.sequence - 1) (omega arith) behind it _ c.read_optional.ensures.ok

pub returns-clause-fails : goal.returns-clause-fails
returns-clause-fails g c = first_fails list_entries_is _ (λ row is. is) c.in_ok-row.ensures.takes _ c.read_optional.ensures.err
