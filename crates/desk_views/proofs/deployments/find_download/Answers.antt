use Rattle.desk_views.proofs.Answering.{◌∙◌, IfOk, ap, subst, sym, both_found, finds_as, named, IsOfName, named_said}
use Rattle.std.proofs.Common.{arith}
use Rattle.desk_views.proofs.KeptViews.{kept_among, where_ok}
use Rattle.desk_views.proofs.deployments.find_download.Goals as goal

pub returns-then-not-branch-clause-reads : goal.returns-then-not-branch-clause-reads
returns-then-not-branch-clause-reads g c = finds_as (rw c.if-not-branch.true at c.in_ok-knows_device.ensures.reads) (λ r is. grind arith)

pub returns-then-not-is_among-clause-reads : goal.returns-then-not-is_among-clause-reads
returns-then-not-is_among-clause-reads g c =
    finds_as (both_found (rw c.if-not-branch.false at c.in_ok-knows_device.ensures.reads) c.in_ok-modules.ensures.reads)
    (λ r is. grind (arith, rw c.deref.ensures.value at c.is_among.ensures, c.if-not-is_among.true))

pub returns-clause-reads : goal.returns-clause-reads
returns-clause-reads g c =
    finds_as (both_found (both_found (rw c.if-not-branch.false at c.in_ok-knows_device.ensures.reads) c.in_ok-modules.ensures.reads)
    c.in_ok-artifacts.ensures.reads)
    (λ r is. grind (arith, rw c.deref.ensures.value at c.is_among.ensures, c.named.ensures, c.deref-2.ensures.value, c.if-not-is_among.false))

pub returns-clause-agrees : goal.returns-clause-agrees
returns-clause-agrees g c = record {
  agrees = λ t was clean.
      let listed = (c.in_ok-artifacts.ensures.tells.finds t (c.in_ok-modules.ensures.keeps.to t (c.in_ok-knows_device.ensures.keeps.to t was))).1 clean in
      subst (λ it. IfOk it (IsOfName t c.args.module_number c.args.filename.now))
      (sym (c.named.ensures ∙ ap (named c.args.filename.now) c.deref-2.ensures.value))
      (named_said c.args.module_number c.args.filename.now t _ listed.sound);
}

pub returns-clause-kept : goal.returns-clause-kept
returns-clause-kept g c = record {
  agrees = λ t was clean.
      where_ok _ c.named.result
      (kept_among t c.args.device.now.id c.args.module_number _ _ (rw c.deref.ensures.value at c.is_among.ensures) c.if-not-is_among.false
      (c.in_ok-modules.ensures.kept.agrees t (c.in_ok-knows_device.ensures.keeps.to t was) (omega (arith, clean, c.in_ok-artifacts.ensures.reads.wears))));
}
