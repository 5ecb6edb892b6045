use Rattle.target_filter.proofs.Common.{sym, ap, ◌∙◌, arith, list_all, take_all, take-length, drop-length, is_byte_of}
use Rattle.target_filter.proofs.ByteRuns.{front_to, behind_to, front_all, behind_all}
use Rattle.target_filter.proofs.byte_kind.run_length.Goals as goal

pub returns-then-not-contains-clause-front : goal.returns-then-not-contains-clause-front
returns-then-not-contains-clause-front c = front_to (is_byte_of c.args.kind) c.args.text.now c.loop-at.at (omega arith) c.loop-at.invariant
    (sym c.contains.ensures ∙ c.if-not-contains.true)

pub returns-then-not-contains-clause-behind : goal.returns-then-not-contains-clause-behind
returns-then-not-contains-clause-behind c = behind_to (is_byte_of c.args.kind) c.args.text.now c.loop-at.at (omega arith) c.loop-at.invariant
    (sym c.contains.ensures ∙ c.if-not-contains.true)

pub returns-clause-front : goal.returns-clause-front
returns-clause-front c = take-length c.args.text.now
    ∙ front_all (is_byte_of c.args.kind) c.args.text.now (ap (list_all (is_byte_of c.args.kind)) (sym (take_all c.loop-at.at c.args.text.now (omega arith)))
    ∙ c.loop-at.invariant)

pub returns-clause-behind : goal.returns-clause-behind
returns-clause-behind c = drop-length c.args.text.now
    ∙ behind_all (is_byte_of c.args.kind) c.args.text.now (ap (list_all (is_byte_of c.args.kind)) (sym (take_all c.loop-at.at c.args.text.now (omega arith)))
    ∙ c.loop-at.invariant)
