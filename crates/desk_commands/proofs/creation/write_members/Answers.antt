use Rattle.desk_commands.proofs.Answering.{arith, length, makes_nothing, makes_then, no_members, one_more_member, rules, sixteen_more}
use Rattle.std.specs.Prelude.{◌*◌, ◌/◌}
use Rattle.desk_commands.proofs.creation.write_members.Goals as goal

pub loop-i-init : goal.loop-i-init
loop-i-init g c = record { stays = search rules; writes = makes_nothing (no_members c.args.number 1); work = search rules }

pub loop-i-preserved : goal.loop-i-preserved
loop-i-preserved g c =
    let all = c.args.members.now in
    record {
      stays = search rules;
      writes = makes_then c.loop-i.invariant.writes
          (sixteen_more c.args.number all c.index-sixteens-i.result (length all / 16) c.loop-i.i
          (omega (arith, c.loop-i-test.true, c.as_chunks.ensures.front_len)) (omega arith)
          (rw c.as_chunks.ensures.front at c.index-sixteens-i.is)) _ c.in_ok-write_sixteen_members.ensures.writes;
      work = search rules;
    }

pub loop-i-2-preserved : goal.loop-i-2-preserved
loop-i-2-preserved g c =
    let all = c.args.members.now in
    let before = length all / 16 * 16 in
    record {
      stays = search rules;
      writes = makes_then c.loop-i-2.invariant.writes
          (one_more_member c.args.number all before c.loop-i-2.i c.index-rest-i.result (omega arith)
          (rw c.as_chunks.ensures.back at c.loop-i-2-test.true) (rw c.as_chunks.ensures.back at c.index-rest-i.is)) _
          (rw c.as_chunks.ensures.front_len at c.in_ok-write_member.ensures.writes);
      work = search rules;
    }
