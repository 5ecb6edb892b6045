use Rattle.rollout_desk.proofs.Common.{◌≡◌, refl, subst, rules, state, Keeps, HoldsLedger, Do, command_of, reply_of}
use Rattle.rollout_desk.proofs.ApplyLemmas.{fault_fails, unbegun, accepted, refused, broken}
use Rattle.rollout_machine.specs.Replies.{Refused}
use Rattle.desk_commands.specs.Failures.{TakesSteps}
use Rattle.desk_store.specs.Failing.{ReadableAs}
use Rattle.rollout_desk.specs.private.Changes.{RunsRequest}
use Rattle.rollout_desk.proofs.CauseLemmas.{told_reply, accepted_never, failed_inside, refused_never, well_inside}
use Rattle.sql_calls.specs.Calls.{Grows, failures_of}
use Rattle.rollout_desk.proofs.VerifyLemmas.{failed_call}
use Rattle.rollout_desk.proofs.change.run_command.Goals as goal

pub returns-in-Err-clause-runs : goal.returns-in-Err-clause-runs
returns-in-Err-clause-runs g c =
    let kept : Keeps HoldsLedger (state g.S.Store c.args.store.now.calls.conn) (state g.S.Store c.begin.follows.lender-at-none.calls.conn) = search rules in
    let grows : Grows (failures_of c.in-Err.fault) c.args.store.now.calls c.begin.follows.lender-at-none.calls = search rules in record {
      handles = unbegun _ _ _ _ kept (fault_fails _ _ c.reply_of_fault.ensures);
      tells = search rules;
      fails = λ is h clean counted stands. failed_call c.in-Err.fault c.in-Err.ensures.sound grows (told_reply _ _ c.reply_of_fault.ensures is);
    }

pub returns-in-Ok-Accepted-clause-runs : goal.returns-in-Ok-Accepted-clause-runs
returns-in-Ok-Accepted-clause-runs g c =
    let same : c.commit.new.change.0 ≡ c.store-in-Ok-Accepted-1.given.0 = search rules in
    let stays = rw c.calls.ensures.calls at c.in-Ok-Accepted.ensures.stays in
    let steps = rw c.calls.ensures.calls at c.in-Ok-Accepted.ensures.steps in
    subst (λ h. RunsRequest g.S.Store c.args.store.now.calls h.calls (Do (command_of c.args.command.now)) (reply_of c.commit.result)) same (record {
      handles = accepted _ _ c.in-Ok.ensures.begun _ _ _ c.in-Ok-Accepted.ensures.formed c.in-Ok-Accepted.reply stays.frame
          (rw c.in-Ok-Accepted.field-0-is at steps) _ c.commit.ensures.ends;
      tells = search rules;
      fails = well_inside g.S.Store c.args.store.now.calls c.in-Ok.change.store.now.calls c.take_step.new.calls c.commit.new.change.0.calls
          c.in-Ok.ensures.begun
          c.commit.ensures.ends.wears c.in-Ok.ensures.grows.failures stays.grows.failures c.commit.ensures.counts
          (reply_of c.in-Ok-Accepted.reply) (reply_of c.commit.result)
          (λ h valid seen clean. accepted_never h valid seen clean (command_of c.args.command.now) c.in-Ok-Accepted.reply
          (rw c.in-Ok-Accepted.field-0-is at steps)) c.commit.ensures.fails;
    })

pub returns-in-Ok-Refused-clause-runs : goal.returns-in-Ok-Refused-clause-runs
returns-in-Ok-Refused-clause-runs g c =
    let same : c.give_up.new.change.0 ≡ c.store-in-Ok-Refused-1.given.0 = search rules in
    let stays = rw c.calls.ensures.calls at c.in-Ok-Refused.ensures.stays in
    let steps = rw c.calls.ensures.calls at c.in-Ok-Refused.ensures.steps in
    subst (λ h. RunsRequest g.S.Store c.args.store.now.calls h.calls (Do (command_of c.args.command.now)) (reply_of c.give_up.result)) same (record {
      handles = refused _ _ c.in-Ok.ensures.begun _ _ _ c.in-Ok-Refused.refusal stays.frame
          (rw c.in-Ok-Refused.field-0-is at steps) _ c.give_up.ensures.ends;
      tells = search rules;
      fails = well_inside g.S.Store c.args.store.now.calls c.in-Ok.change.store.now.calls c.take_step.new.calls c.give_up.new.change.0.calls
          c.in-Ok.ensures.begun
          c.give_up.ensures.ends.wears c.in-Ok.ensures.grows.failures stays.grows.failures c.give_up.ensures.counts
          (Refused c.in-Ok-Refused.refusal) (reply_of c.give_up.result)
          (λ h valid seen clean. refused_never h valid seen clean (command_of c.args.command.now) c.in-Ok-Refused.refusal
          (rw c.in-Ok-Refused.field-0-is at steps)) c.give_up.ensures.fails;
    })

pub returns-in-Err-take_step-clause-runs : goal.returns-in-Err-take_step-clause-runs
returns-in-Err-take_step-clause-runs g c =
    let same : c.give_up-in-Err-take_step.new.change.0 ≡ c.store-in-Err-take_step-1.given.0 = search rules in
    let stays = rw c.calls.ensures.calls at c.in-Err-take_step.ensures.stays in
    let steps = rw c.calls.ensures.calls at c.in-Err-take_step.ensures.steps in
    let fails = rw c.calls.ensures.calls at c.in-Err-take_step.ensures.fails in
    subst (λ h. RunsRequest g.S.Store c.args.store.now.calls h.calls (Do (command_of c.args.command.now)) (reply_of c.give_up-in-Err-take_step.result)) same
    (record {
      handles = broken _ _ c.in-Ok.ensures.begun _ _ _ _ stays.frame steps.wears
          (fault_fails _ _ c.reply_of_fault-in-Err-take_step.ensures) _ c.give_up-in-Err-take_step.ensures.ends;
      tells = search rules;
      fails = failed_inside g.S.Store c.args.store.now.calls c.in-Ok.change.store.now.calls c.take_step.new.calls c.give_up-in-Err-take_step.new.change.0.calls
          c.in-Ok.ensures.begun c.give_up-in-Err-take_step.ensures.ends.wears c.in-Ok.ensures.grows.failures stays.grows.failures
          c.give_up-in-Err-take_step.ensures.counts (ReadableAs TakesSteps) c.in-Err-take_step.fault _ (reply_of c.give_up-in-Err-take_step.result)
          (told_reply _ _ c.reply_of_fault-in-Err-take_step.ensures) stays.grows fails.to
          (λ h valid readable counted. record {
            readable = readable;
            given = record { of_list = record { list = h; valid = valid; is = refl }; counted = counted };
          }) c.give_up-in-Err-take_step.ensures.fails;
    })
