use Rattle.rollout_desk.specs.private.Knowing.{known_behind}
use Rattle.rollout_desk.proofs.Common.{ap, ◌∙◌, subst, sym, rules, command_of, reply_of, Do}
use Rattle.rollout_desk.proofs.CauseLemmas.{stands_running}
use Rattle.rollout_desk.proofs.DeskLemmas.{answers}
use Rattle.rollout_desk.proofs.KnowingLemmas.{StaysKnown, behind}
use Rattle.rollout_desk.proofs.desk.Desk.apply.Goals as goal

pub returns-clause-conduct : goal.returns-clause-conduct
returns-clause-conduct g c = record {
  clean = search rules;
  stops = search rules;
  fails = λ is h clean counted stands. c.run_command-reply.ensures.runs.fails is h clean counted
      (stands_running _ c.args.self.now.targets c.args.self.now.stopped h c.if-self.false stands);
  tells = search rules;
  stopped = search rules;
  untouched = search rules;
}

pub returns-clause-applies : goal.returns-clause-applies
returns-clause-applies g c = answers _ _ _ _ _ _ _ _ _ c.if-self.false c.run_command-reply.ensures.runs.handles c.says_store_failed-self.ensures.is
    (subst (λ next. StaysKnown c.args.self.now.targets next (Do (command_of c.args.command.now)) (reply_of c.run_command-reply.result))
    (sym (c.known_behind.ensures ∙ ap (λ known. known_behind known (command_of c.args.command.now)) c.take.ensures.value))
    (behind c.args.self.now.targets (command_of c.args.command.now) (reply_of c.run_command-reply.result)))
