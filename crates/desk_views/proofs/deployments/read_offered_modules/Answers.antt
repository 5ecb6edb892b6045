use Rattle.desk_views.proofs.Answering.{◌∙◌, ap, finds_as, found_then, ledger_found, modules_offered}
use Rattle.std.proofs.Common.{arith, subst, sym}
use Rattle.desk_views.specs.Kept.{AreKept}
use Rattle.desk_views.proofs.KeptViews.{kept_installed}
use Rattle.desk_views.proofs.deployments.read_offered_modules.Goals as goal

pub returns-in-Some-clause-reads : goal.returns-in-Some-clause-reads
returns-in-Some-clause-reads g c =
    found_then (ledger_found _ (rw c.in-Some.is at c.in_ok-offer.ensures.reads)) _ c.read_installed.ensures.reads
    (λ r y is got. got ∙ ap (modules_offered r) is)

pub returns-in-None-clause-reads : goal.returns-in-None-clause-reads
returns-in-None-clause-reads g c = finds_as (ledger_found _ (rw c.in-None.is at c.in_ok-offer.ensures.reads))
    (λ r is. c.new.ensures.items ∙ ap (modules_offered r) is)

pub returns-in-Some-clause-kept : goal.returns-in-Some-clause-kept
returns-in-Some-clause-kept g c = record {
  agrees = kept_installed (λ v. v.items) c.args.id.now c.in-Some.offer _ _ c.read_installed.result c.read_installed.ensures.none
      (λ t was clean. ((rw c.in-Some.is at c.in_ok-offer.ensures.tells).finds t was).1 (omega (arith, clean, c.read_installed.ensures.reads.wears)));
}

pub returns-in-None-clause-kept : goal.returns-in-None-clause-kept
returns-in-None-clause-kept g c = record { agrees = λ t was clean. subst (AreKept t c.args.id.now) (sym c.new.ensures.items) tt }
