use Rattle.desk_views.proofs.Answering.{sym, ◌∙◌, arith, rules, both_found, finds_as, numbered, numbered_length, page_ends, page_grows, fails_when}
use Rattle.desk_views.proofs.pages.read_page.Goals as goal

pub loop-place-preserved : goal.loop-place-preserved
loop-place-preserved g c = record {
  stays = search rules;
  fails = search rules;
  reads = finds_as (both_found c.loop-place.invariant.reads c.in_ok-entry.ensures.reads)
      (λ r is given. page_grows (numbered (g.T.Numbered.shown r) 1 (g.T.Numbered.items r)) _ _ c.args.page.offset c.loop-place.place _ _ (is.0 given)
      (is.1 given) (omega arith) c.in_ok-push.ensures.items);
}

pub returns-clause-reads : goal.returns-clause-reads
returns-clause-reads g c =
    finds_as (both_found c.in_ok-total.ensures.reads c.loop-place.invariant.reads)
    (λ r is given. page_ends (numbered (g.T.Numbered.shown r) 1 (g.T.Numbered.items r)) c.args.page _ c.in_ok-total.total c.loop-place.place
    (omega (arith, c.count_on-place-end.ensures)) (is.1 given) (is.0 ∙ sym (numbered_length (g.T.Numbered.shown r) 1 (g.T.Numbered.items r))))

pub returns-in_err-entry-clause-fails : goal.returns-in_err-entry-clause-fails
returns-in_err-entry-clause-fails g c =
    fails_when (λ l it. it) (both_found c.in_ok-total.ensures.reads c.loop-place.invariant.reads) c.in_err-entry.ensures.reads.wears _
    c.in_err-entry.ensures.fails (λ r is of _. (omega arith, omega (arith, is.0, c.count_on-place-end.ensures, c.loop-place-test.true))) _
    c.from_residual-in_err-entry.ensures.1

pub returns-in_err-entry-clause-stays : goal.returns-in_err-entry-clause-stays
returns-in_err-entry-clause-stays g c = search (c.loop-place.invariant.stays, c.in_err-entry.ensures.stays, rules)

pub returns-in_err-push-clause-stays : goal.returns-in_err-push-clause-stays
returns-in_err-push-clause-stays g c = search (c.loop-place.invariant.stays, c.in_ok-entry.ensures.stays, rules)

pub returns-in_err-push-clause-fails : goal.returns-in_err-push-clause-fails
returns-in_err-push-clause-fails g c = search (c.loop-place.invariant.fails, c.in_ok-entry.ensures.fails, rules)
