use Rattle.desk_views.proofs.Answering.{Ok, sym, arith, both_found, finds_as, answered_by, downloaded, size_of_numbered, fails_when}
use Rattle.desk_views.proofs.deployments.show_download.Goals as goal

pub returns-in_ok-contents-in-Ok-clause-reads : goal.returns-in_ok-contents-in-Ok-clause-reads
returns-in_ok-contents-in-Ok-clause-reads g c = finds_as (both_found (rw c.in-Ok.is at c.in_ok-artifact.ensures.reads) c.in_ok-contents-in-Ok.ensures.reads)
    (λ r is. downloaded c.args.module_number c.args.filename.now r c.args.device.now c.in-Ok.artifact _ is.0 is.1)

pub returns-in-Err-clause-reads : goal.returns-in-Err-clause-reads
returns-in-Err-clause-reads g c = finds_as (rw c.in-Err.is at c.in_ok-artifact.ensures.reads)
    (λ r is. sym (answered_by c.args.module_number c.args.filename.now r c.args.device.now _ is))

pub returns-in_ok-contents-in-Ok-clause-sized : goal.returns-in_ok-contents-in-Ok-clause-sized
returns-in_ok-contents-in-Ok-clause-sized g c = record {
  agrees = λ t was clean.
      let row = (rw c.in-Ok.is at c.in_ok-artifact.ensures.agrees).agrees t was (omega (arith, clean, c.in_ok-contents-in-Ok.ensures.reads.wears)) in
      (c.in-Ok.artifact, row, sym c.in_ok-contents-in-Ok.ensures.sized);
}

pub returns-in_err-contents-in-Ok-clause-fails : goal.returns-in_err-contents-in-Ok-clause-fails
returns-in_err-contents-in-Ok-clause-fails g c =
    fails_when (λ l it. it) (rw c.in-Ok.is at c.in_ok-artifact.ensures.reads) c.in_err-contents-in-Ok.ensures.reads.wears _
    c.in_err-contents-in-Ok.ensures.fails
    (λ r is of _.
    let it = answered_by c.args.module_number c.args.filename.now r c.args.device.now (Ok c.in-Ok.artifact) is in
    size_of_numbered r of c.in-Ok.artifact.number c.in-Ok.artifact.size it.0 it.2 it.3) _ c.from_residual-in_err-contents-in-Ok.ensures.1

pub returns-in_ok-contents-in-Ok-clause-kept : goal.returns-in_ok-contents-in-Ok-clause-kept
returns-in_ok-contents-in-Ok-clause-kept g c = record {
  agrees = λ t was clean. (rw c.in-Ok.is at c.in_ok-artifact.ensures.kept).agrees t was (omega (arith, clean, c.in_ok-contents-in-Ok.ensures.reads.wears));
}
