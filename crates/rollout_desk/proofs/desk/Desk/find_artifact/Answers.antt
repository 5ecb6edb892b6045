use Rattle.rollout_desk.proofs.Common.{subst, Asks, Ask, ShowContents, Applies, Err, reply_of, desk_state, RefusesContents}
use Rattle.rollout_desk.specs.Conduct.{BehavesBeginning}
use Rattle.rollout_desk.proofs.DownloadLemmas.{begun, contents_refused, other_reply, refuses, shown_reply}
use Rattle.rollout_desk.proofs.desk.Desk.find_artifact.Goals as goal

pub returns-in-Ok-clause-begins : goal.returns-in-Ok-clause-begins
returns-in-Ok-clause-begins g c = begun _ _ c.args.module_number c.args.number c.in-Ok.artifact
    (rw (shown_reply c.ask-reply.result c.in-Ok.artifact c.in-Ok.ensures) at c.ask-reply.ensures.applies)

pub returns-in-Err : goal.returns-in-Err
returns-in-Err g c =
    let was = desk_state g.S.Store c.args.self.now in
    let now = desk_state g.S.Store c.ask-reply.new.self in
    let other = other_reply c.ask-reply.result c.in-Err.reply c.in-Err.ensures in record {
      conduct = subst (λ r. BehavesBeginning g.S.Store c.args.self.now c.ask-reply.new.self (Err r)) other.0 c.ask-reply.ensures.conduct;
      begins = subst (λ r. Applies was now (Asks (Ask (ShowContents c.args.module_number c.args.number))) (reply_of r)) other.0
          (contents_refused was now c.args.module_number c.args.number (reply_of c.ask-reply.result) other.1 c.ask-reply.ensures.applies);
      keeps = record {
        offered = tt;
        refuses = subst (λ r. RefusesContents was now (ShowContents c.args.module_number c.args.number) (reply_of r)) other.0
            (refuses was now c.args.module_number c.args.number (reply_of c.ask-reply.result) other.1 c.ask-reply.ensures.applies);
        kept = λ t clean shown. tt;
        runs = tt;
        work = c.ask-reply.ensures.reads.work;
      };
    }
