use Rattle.desk_store.proofs.Answering.{StoredBytes, [], all_at, all_blamed, all_tell, arith, broken_piece, column, get_piece_is, known, lists_pieces, map}
use Rattle.desk_store.proofs.Answering.{read_mapped, unread, vec_items, ◌≡◌}
use Rattle.desk_store.proofs.artifacts.find_pieces.Goals as goal

pub returns-clause-reads : goal.returns-clause-reads
returns-clause-reads g c = all_tell (known get_piece_is) (λ db t holds shown pieces read. lists_pieces db t holds [] c.args.number c.args.place
    c.in_ok-rows.rows.items shown (map vec_items pieces.items) (read_mapped vec_items (λ row bytes. column row 0 ≡ StoredBytes bytes) c.in_ok-rows.rows.items
    pieces.items read)) (all_at c.in_ok-rows.ensures.asks (grind arith)) _ (rw c.deref.ensures.value at c.read_all.ensures.ok)

pub returns-clause-blames : goal.returns-clause-blames
returns-clause-blames g c = all_blamed get_piece_is _ c.in_ok-rows.ensures.asks _ (rw c.deref.ensures.value at c.read_all.ensures.err)
    (λ reading row among is given. unread reading (broken_piece row among is) given)
