use Rattle.desk_views.proofs.Answering.{false, both_found, finds_as, ledger_found}
use Rattle.std.proofs.Common.{arith}
use Rattle.desk_views.proofs.KeptViews.{kept_offer}
use Rattle.desk_store.proofs.CallsInTurn.{stays_end, stays_then}
use Rattle.desk_views.proofs.deployments.show_deployment.Goals as goal

pub returns-in_err-chunks-clause-stays : goal.returns-in_err-chunks-clause-stays
returns-in_err-chunks-clause-stays g c =
    stays_end (stays_then c.in_ok-knows_device.ensures.stays _ (stays_then c.in_ok-offer.ensures.stays _ c.in_err-chunks.ensures.stays)) _
    c.from_residual-in_err-chunks.ensures.1

pub returns-then-not-branch-clause-reads : goal.returns-then-not-branch-clause-reads
returns-then-not-branch-clause-reads g c = finds_as (rw c.if-not-branch.true at c.in_ok-knows_device.ensures.reads) (λ r is. grind arith)

pub returns-then-not-is_offer_of-clause-reads : goal.returns-then-not-is_offer_of-clause-reads
returns-then-not-is_offer_of-clause-reads g c =
    finds_as (both_found (rw c.if-not-branch.false at c.in_ok-knows_device.ensures.reads) (ledger_found _ c.in_ok-offer.ensures.reads))
    (λ r is. grind (arith, c.is_offer_of.ensures, c.if-not-is_offer_of.true))

pub returns-clause-reads : goal.returns-clause-reads
returns-clause-reads g c =
    finds_as (both_found (both_found (rw c.if-not-branch.false at c.in_ok-knows_device.ensures.reads) (ledger_found _ c.in_ok-offer.ensures.reads))
    c.in_ok-chunks.ensures.reads) (λ r is. grind (arith, c.is_offer_of.ensures, c.if-not-is_offer_of.false))

pub returns-clause-kept : goal.returns-clause-kept
returns-clause-kept g c = record {
  agrees = λ t was clean.
      kept_offer t c.args.device.now.id c.args.number false _ _ c.is_offer_of.ensures c.if-not-is_offer_of.false
      ((c.in_ok-offer.ensures.tells.finds t (c.in_ok-knows_device.ensures.keeps.to t was)).1 (omega (arith, clean, c.in_ok-chunks.ensures.reads.wears)));
}
