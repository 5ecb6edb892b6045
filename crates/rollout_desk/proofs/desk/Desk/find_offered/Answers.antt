use Rattle.rollout_desk.proofs.Common.{◌≡◌, ap, Err, rules, ◌∙◌}
use Rattle.rollout_model.specs.declared.refusal.Refusal.TheVariants.{StoreFailed}
use Rattle.rollout_desk.proofs.CauseLemmas.{stands_running}
use Rattle.rollout_desk.proofs.DownloadLemmas.{offered_begins, offered_refused, offered_to_it}
use Rattle.rollout_desk.proofs.desk.Desk.find_offered.Goals as goal

pub returns-in-Ok-clause-begins : goal.returns-in-Ok-clause-begins
returns-in-Ok-clause-begins g c = offered_begins _ c.args.device.now c.args.module_number c.args.filename.now _ _ c.if-self.false _ c.in-Ok.artifact
    (rw c.in-Ok.is at c.look_for_download.ensures.finds)

pub returns-in-Ok-clause-keeps : goal.returns-in-Ok-clause-keeps
returns-in-Ok-clause-keeps g c = record {
  offered = offered_to_it _ c.args.device.now c.args.module_number c.args.filename.now _ _ c.if-self.false _ c.in-Ok.artifact
      (rw c.in-Ok.is at c.look_for_download.ensures.finds);
  refuses = tt;
  kept = rw c.in-Ok.is at c.look_for_download.ensures.kept;
  runs = c.if-self.false;
  work = search rules;
}

pub returns-in-Err-clause-begins : goal.returns-in-Err-clause-begins
returns-in-Err-clause-begins g c = offered_refused _ c.args.device.now c.args.module_number c.args.filename.now _ _ c.if-self.false _ c.in-Err.why _
    c.is_failed_store-self.ensures (rw c.in-Err.is at c.look_for_download.ensures.finds)

pub returns-in-Err-clause-conduct : goal.returns-in-Err-clause-conduct
returns-in-Err-clause-conduct g c = record {
  clean = search rules;
  stops = search rules;
  fails = λ is h clean counted stands.
      let failed : c.in-Err.why ≡ StoreFailed = cc in
      c.look_for_download.ensures.fails (c.in-Err.is ∙ ap Err failed) h clean counted
      (stands_running _ c.args.self.now.targets c.args.self.now.stopped h c.if-self.false stands);
  tells = search rules;
  stopped = search rules;
  untouched = search rules;
}
