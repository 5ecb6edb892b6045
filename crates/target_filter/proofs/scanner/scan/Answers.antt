use Rattle.target_filter.proofs.Common.{◌≡◌, inl, refl, sym, ap, ◌∙◌, arith, Some, take-length, run, start, state_of}
use Rattle.target_filter.proofs.LongestBeginnings.{run_more, run_all}
use Rattle.target_filter.proofs.scanner.scan.Goals as goal

pub loop-at-preserved : goal.loop-at-preserved
loop-at-preserved c = record {
  went = run_more c.args.text.now c.loop-at.at (state_of c.loop-at.state) (state_of c.in-Some.next) (omega arith) c.loop-at.invariant.went
      (sym c.in-Some.ensures.is);
  depth = omega (arith, c.in-Some.ensures.depth);
}

pub returns-then-accepts : goal.returns-then-accepts
returns-then-accepts c = record {
  state = state_of c.loop-at.state;
  went = run_all c.args.text.now c.loop-at.at (state_of c.loop-at.state) (omega arith) c.loop-at.invariant.went;
  accepts_it = sym c.accepts.ensures ∙ c.if-accepts.true;
  deepest_is = refl;
}

pub returns-else-accepts : goal.returns-else-accepts
returns-else-accepts c =
    let all : run start c.args.text.now ≡ Some (state_of c.loop-at.state) = run_all c.args.text.now c.loop-at.at (state_of c.loop-at.state) (omega arith)
    c.loop-at.invariant.went in
    record {
      state = state_of c.loop-at.state;
      within = omega arith;
      went = ap (run start) (take-length c.args.text.now) ∙ all;
      why = inl (refl, sym c.accepts.ensures ∙ c.if-accepts.false);
    }
