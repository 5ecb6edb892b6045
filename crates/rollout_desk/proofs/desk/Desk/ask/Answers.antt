use Rattle.rollout_desk.proofs.Common.{rules, query_of}
use Rattle.rollout_desk.proofs.CauseLemmas.{stands_running}
use Rattle.rollout_desk.proofs.DeskLemmas.{answers_learning}
use Rattle.rollout_desk.proofs.KnowingLemmas.{after}
use Rattle.rollout_desk.proofs.PromiseLemmas.{offers_kept, contents_whole}
use Rattle.rollout_desk.proofs.desk.Desk.ask.Goals as goal

pub returns-clause-conduct : goal.returns-clause-conduct
returns-clause-conduct g c = record {
  clean = search rules;
  stops = search rules;
  fails = λ is h clean counted stands. c.answer_knowing-reply.ensures.runs.fails is h clean counted
      (stands_running _ c.args.self.now.targets c.args.self.now.stopped h c.if-self.false stands);
  tells = search rules;
  stopped = search rules;
  untouched = search rules;
}

pub returns-clause-applies : goal.returns-clause-applies
returns-clause-applies g c = answers_learning _ _ _ _ _ _ _ _ _ c.if-self.false (rw c.take-known.ensures.value at c.answer_knowing-reply.ensures.runs).answers
    c.says_store_failed-self.ensures.is
    (λ h clean standing. after _ (query_of c.args.query.now) _ h ((rw c.take-known.ensures.value at c.answer_knowing-reply.ensures.learns) h clean standing))

pub returns-clause-promised : goal.returns-clause-promised
returns-clause-promised g c =
    let applies = answers_learning _ _ _ _ _ _ _ _ _ c.if-self.false (rw c.take-known.ensures.value at c.answer_knowing-reply.ensures.runs).answers
    c.says_store_failed-self.ensures.is
    (λ h clean standing. after _ (query_of c.args.query.now) _ h ((rw c.take-known.ensures.value at c.answer_knowing-reply.ensures.learns) h clean standing)) in
    record { offered = offers_kept _ _ _ _ applies; whole = contents_whole _ _ _ _ applies }
