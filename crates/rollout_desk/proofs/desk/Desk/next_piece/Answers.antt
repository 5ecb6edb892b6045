use Rattle.rollout_desk.proofs.Common.{◌≡◌, ◌≤◌, subst, inl, inr, Err, ap, ◌∙◌, refl, rules, next_length}
use Rattle.rollout_desk.proofs.DownloadLemmas.{handed, never_other, own_piece}
use Rattle.rollout_model.specs.declared.refusal.Refusal.TheVariants.{StoreFailed}
use Rattle.rollout_desk.specs.Looks.{IsOtherThan}
use Rattle.rollout_desk.proofs.CauseLemmas.{stands_running}
use Rattle.rollout_desk.proofs.LookLemmas.{interrupted}
use Rattle.rollout_desk.proofs.desk.Desk.next_piece.Goals as goal

pub returns-in-Ok-clause-hands : goal.returns-in-Ok-clause-hands
returns-in-Ok-clause-hands g c =
    let more : 1 ≤ next_length c.args.download.now = search rules in record {
      pieces = handed _ _ _ _ c.args.download.now _ c.in-Ok.piece c.read_piece-found.ensures.looks c.in-Ok.ensures.0 more c.if-self.false;
      own = own_piece _ _ _ _ c.args.download.now _ c.in-Ok.piece c.read_piece-found.ensures.looks c.in-Ok.ensures.0 c.if-self.false;
    }

pub returns-in-Err-clause-hands : goal.returns-in-Err-clause-hands
returns-in-Err-clause-hands g c =
    let own = interrupted c.args.self.now.targets c.args.self.now.stopped _ _ _ _ c.read_piece-found.ensures.looks c.in-Err.refusal c.in-Err.ensures _
    c.is_failed_store-self.ensures in
    record { pieces = λ h contents clean standing sends. (refl, own h clean standing); own = own }

pub returns-in-Err-clause-conduct : goal.returns-in-Err-clause-conduct
returns-in-Err-clause-conduct g c = record {
  clean = search rules;
  stops = search rules;
  fails = λ is h contents clean counted stands sends.
      let failed : c.in-Err.refusal ≡ StoreFailed = cc in
      let more : 1 ≤ next_length c.args.download.now = search rules in
      elim c.in-Err.ensures [
        | inl same ↦ c.read_piece-found.ensures.fails (same ∙ ap Err failed) h clean counted
            (stands_running _ c.args.self.now.targets c.args.self.now.stopped h c.if-self.false stands)
        | inr other ↦ absurd (never_other _ _ _ _ c.args.download.now _ c.read_piece-found.ensures.looks more h contents clean stands sends
            (subst (λ n. IsOtherThan n c.read_piece-found.result) c.next_length-wanted.ensures.length other.1))
      ];
  tells = search rules;
  stopped = search rules;
  untouched = search rules;
}
