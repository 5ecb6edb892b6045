use Rattle.desk_verify.proofs.Common.{◌≡◌, Some, None, Err, finds_as, Broken, blamed, definitions_in, grouping_with}
use Rattle.desk_verify.proofs.RuleLemmas.{cut_only, none_made}
use Rattle.desk_verify.proofs.groupings.read_grouping.Goals as goal

pub returns-in-Some-clause-reads : goal.returns-in-Some-clause-reads
returns-in-Some-clause-reads g c =
    let told : grouping_with c.args.rollout.now.rollout.plan.groups (definitions_in c.in_ok-rules.rules.items) ≡ Some c.in-Some.groups =
    cc (c.in-Ok.ensures, c.deref.ensures.value, c.grouping_with.ensures, c.in-Some.is) in
    finds_as c.in_ok-rules.ensures.reads
    (λ t have has. cut_only t c.args.rollout.now.number c.args.rollout.now.rollout has c.in_ok-rules.rules.items c.in_ok-rules.ensures.count have
    c.in-Some.groups told)

pub returns-clause-blames : goal.returns-clause-blames
returns-clause-blames g c =
    let told : grouping_with c.args.rollout.now.rollout.plan.groups (definitions_in c.in_ok-rules.rules.items) ≡ None =
    cc (c.in-Ok.ensures, c.deref.ensures.value, c.grouping_with.ensures, c.in-None.is) in
    blamed c.in_ok-rules.ensures.reads (Err Broken)
    (λ reading have given. none_made reading.tables c.args.rollout.now.number c.args.rollout.now.rollout given.has c.in_ok-rules.rules.items
    c.in_ok-rules.ensures.count have told reading.reads given.given.rules.is_read)
