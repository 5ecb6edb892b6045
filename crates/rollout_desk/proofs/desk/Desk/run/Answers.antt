use Rattle.rollout_desk.proofs.Common.{inl, inr, refl, sym, map, ◌∙◌, rules, false≢true, state, HoldsRecords, CommandList, StandsFor, request_of, reply_of}
use Rattle.rollout_desk.proofs.Common.{desk_state, EndsRun}
use Rattle.rollout_desk.proofs.OnceLemmas.{ends_once}
use Rattle.rollout_desk.proofs.RunLemmas.{nothing_ran, none_failed_yet, none_failed_more, goes_on, ends, all_ran}
use Rattle.rollout_desk.proofs.desk.Desk.run.Goals as goal

pub loop-request-init : goal.loop-request-init
loop-request-init g c = record {
  room = search rules;
  count = search rules;
  clean = λ clean. clean;
  ran = rw c.in-Ok.ensures.items (nothing_ran (desk_state g.S.Store c.args.self.now));
  none = rw c.in-Ok.ensures.items none_failed_yet;
}

pub loop-request-preserved : goal.loop-request-preserved
loop-request-preserved g c =
    let so_far = c.loop-request.invariant in
    record {
      room = search rules;
      count = search rules;
      clean = λ clean. so_far.clean (c.answer-reply.ensures.conduct.clean clean);
      ran = goes_on _ _ _ c.args.requests.now c.loop-request.request-index c.request-item.result c.loop-request-test.true c.request-item.is _ _
          c.answer-reply.result c.push_reserved.ensures.items so_far.ran c.answer-reply.ensures.conduct.clean c.answer-reply.ensures.applies
          c.if-failed.ensures.is;
      none = none_failed_more _ _ c.answer-reply.result c.push_reserved.ensures.items c.if-failed.ensures.is so_far.none;
    }

pub returns-then-failed : goal.returns-then-failed
returns-then-failed g c =
    let so_far = c.loop-request.invariant in
    let was = desk_state g.S.Store c.args.self.now in
    let now = desk_state g.S.Store c.answer-reply.new.self in
    let ended : (h : CommandList) → now.is_clean → StandsFor was h
    → EndsRun h now (map request_of c.args.requests.now) (map reply_of c.push_reserved.new.self.items)
    = λ h clean stands. inr (ends _ _ _ c.args.requests.now c.loop-request.request-index c.request-item.result c.loop-request-test.true c.request-item.is
    _ _ c.answer-reply.result c.push_reserved.ensures.items so_far.ran c.answer-reply.ensures.conduct.clean c.answer-reply.ensures.applies
    c.if-failed.ensures.is h clean stands) in record {
      conduct = record {
        clean = λ clean. so_far.clean (c.answer-reply.ensures.conduct.clean clean);
        stops = λ _. c.answer-reply.ensures.conduct.stops (c.if-failed.ensures.only.0 refl);
        stopped = λ stopped. absurd (false≢true (sym c.if-self.false ∙ stopped));
        untouched = λ stopped. absurd (false≢true (sym c.if-self.false ∙ stopped));
      };
      ran = ended;
      once = λ h clean stands. ends_once HoldsRecords c.answer-reply.new.self.targets c.answer-reply.new.self.stopped
          (state g.S.Store c.answer-reply.new.self.store.calls.conn) h _ _
          (ended h clean stands);
    }

pub returns : goal.returns
returns g c =
    let so_far = c.loop-request.invariant in
    let was = desk_state g.S.Store c.args.self.now in
    let now = desk_state g.S.Store c.loop-request.self in
    let ended : (h : CommandList) → now.is_clean → StandsFor was h
    → EndsRun h now (map request_of c.args.requests.now) (map reply_of c.loop-request.replies.items)
    = λ h clean stands. inl (all_ran was now c.args.requests.now c.loop-request.request-index _ c.loop-request-test.false so_far.ran h clean stands) in record {
      conduct = record {
        clean = so_far.clean;
        stops = λ has. absurd (so_far.none has);
        stopped = λ stopped. absurd (false≢true (sym c.if-self.false ∙ stopped));
        untouched = λ stopped. absurd (false≢true (sym c.if-self.false ∙ stopped));
      };
      ran = ended;
      once = λ h clean stands. ends_once HoldsRecords c.loop-request.self.targets c.loop-request.self.stopped
          (state g.S.Store c.loop-request.self.store.calls.conn) h _ _
          (ended h clean stands);
    }
