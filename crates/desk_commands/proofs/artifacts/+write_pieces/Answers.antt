use Rattle.desk_commands.proofs.Answering.{◌≡◌, ◌≤◌, length, arith, makes_nothing, makes_then, nat_tests, adds_first_piece, adds_no_bytes}
use Rattle.desk_commands.proofs.artifacts.+write_pieces.Goals as goal

pub returns-then-is_empty-clause-writes : goal.returns-then-is_empty-clause-writes
returns-then-is_empty-clause-writes g t c =
    let none : length c.args.bytes.now ≡ 0 = grind (arith, nat_tests, c.if-is_empty.true, c.is_empty.ensures) in
    makes_nothing (λ r next h. adds_no_bytes c.args.number c.args.before c.args.bytes.now none r next h)

pub returns-clause-writes : goal.returns-clause-writes
returns-clause-writes g t c =
    let some : 1 ≤ length c.args.bytes.now = grind (arith, nat_tests, c.if-is_empty.false, c.is_empty.ensures) in
    makes_then (rw c.split_at.ensures.front at c.in_ok-write_piece.ensures.writes)
    (adds_first_piece c.args.number c.args.before c.min.result c.args.bytes.now some c.min.ensures) _
    (rw c.split_at.ensures.back at c.write_pieces.ensures.writes)
