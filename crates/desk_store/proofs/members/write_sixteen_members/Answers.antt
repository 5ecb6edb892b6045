use Rattle.desk_store.proofs.Answering.{adds_sixteen, arith, put_members_is, puts, writes, ◌∙◌}
use Rattle.desk_store.proofs.Common.{ap}
use Rattle.sqlite.specs.Values.{bound}
use Rattle.desk_store.proofs.members.write_sixteen_members.Goals as goal

pub returns-clause-writes : goal.returns-clause-writes
returns-clause-writes g c =
    writes (puts put_members_is) (adds_sixteen c.args.number c.args.place c.args.ids.now (omega (arith, c.told-ids)) _ _ _) c.run.ensures.runs
    (ap bound c.deref.ensures.value ∙ c.in_ok-params.ensures.ok)
