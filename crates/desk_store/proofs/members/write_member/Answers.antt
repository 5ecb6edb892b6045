use Rattle.desk_store.proofs.Answering.{adds_member, arith, put_member_is, puts, writes}
use Rattle.desk_store.proofs.members.write_member.Goals as goal

pub returns-clause-writes : goal.returns-clause-writes
returns-clause-writes g c = writes (puts put_member_is) (adds_member c.args.number c.args.place c.args.id.now _ _ _) c.run.ensures.runs (grind arith)
