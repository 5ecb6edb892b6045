use Rattle.desk_commands.proofs.Answering.{arith, length, rules, makes_then, one_group, one_rule, then_members, within}
use Rattle.desk_commands.proofs.Answering.{CreatesRollout, in_part, sym, ◌≡◌}
use Rattle.std.proofs.Common.{subst}
use Rattle.desk_commands.proofs.CreationLemmas.{first_rules}
use Rattle.desk_commands.proofs.creation.write_whole.Goals as goal

pub bounds-cuts-i : goal.bounds-cuts-i
bounds-cuts-i g c =
    within c.args.plan.now (length c.args.members.now) _ c.requires.cut _ (omega (arith, c.get-groups.ensures.value, c.count.ensures.value))

pub loop-i-preserved : goal.loop-i-preserved
loop-i-preserved g c =
    let size = length c.args.members.now in
    record {
      stays = search rules;
      writes = makes_then
          (makes_then c.loop-i.invariant.writes
          (one_group c.args.created.now c.args.plan.now size _ c.requires.cut c.loop-i.i _
          (omega (arith, c.get-groups.ensures.value, c.count.ensures.value))) _ c.in_ok-write_group.ensures.writes)
          (one_rule c.args.created.now c.args.plan.now size c.loop-i.i) _ (rw (c.group_rule.ensures, c.get.ensures.value) at c.in_ok-write_rule.ensures.writes);
      work = search rules;
    }

pub returns-clause-writes : goal.returns-clause-writes
returns-clause-writes g c =
    let plan = c.args.plan.now in
    let new = c.args.created.now in
    let members = c.args.members.now in
    let all : c.loop-i.i ≡ plan.groups.count =
    omega (arith, c.loop-i-test.false, c.loop-i.auto.i-end, c.get-groups.ensures.value, c.count.ensures.value) in
    makes_then c.loop-i.invariant.writes (λ l next made. then_members new plan (length members) c.loop-i.i (first_rules plan c.loop-i.i) members l next
    (subst (λ k. CreatesRollout (in_part new plan (length members) k members) (first_rules plan k) l next) (sym all) made)) _
    c.write_members.ensures.writes
