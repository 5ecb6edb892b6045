use Rattle.rollout_desk.proofs.Common.{HoldsLedger, IsNeverDamaged, Records, Sees, ledger_of, subst}
use Rattle.desk_store.specs.Changing.{seen_in}
use Rattle.rollout_desk.proofs.LookLemmas.{looks_at}
use Rattle.rollout_desk.proofs.VerifyLemmas.{blamed, judged}
use Rattle.rollout_desk.proofs.verify.look_for_damage.Goals as goal

-- records of accepted commands aren't damaged
pub returns : goal.returns
returns g c = record {
  judges = judged _ _ c.look.ensures;
  looks = looks_at _ _ IsNeverDamaged
      (λ b a found finds r seen clean h valid is.
      finds.never h valid (subst (λ (x : Records). Sees HoldsLedger (seen_in g.S.Store b) (ledger_of x)) is seen) clean)
      _ c.look.ensures;
  blames = blamed _ _ c.look.ensures;
  tells = c.look.ensures.tells;
}
