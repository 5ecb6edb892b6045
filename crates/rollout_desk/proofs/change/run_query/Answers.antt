use Rattle.rollout_desk.proofs.Common.{refl, rules, Ask, query_of, reply_of}
use Rattle.rollout_desk.proofs.ApplyLemmas.{shown, unshown}
use Rattle.rollout_desk.proofs.SizeLemmas.{refused_kept, refused_sized, shown_kept, shown_sized}
use Rattle.desk_reads.specs.AtLists.{IsOfList}
use Rattle.desk_store.specs.Failing.{ReadableAs}
use Rattle.rollout_desk.proofs.CauseLemmas.{of_list, query_found, query_never}
use Rattle.rollout_desk.proofs.LookLemmas.{fails_at}
use Rattle.rollout_desk.proofs.change.run_query.Goals as goal

pub returns-in-Ok : goal.returns-in-Ok
returns-in-Ok g c = record {
  runs = record {
    handles = shown _ _ (Ask (query_of c.args.query.now)) c.in-Ok.ensures.wears (reply_of c.in-Ok.reply) c.in-Ok.ensures.to.1
        (query_found _ (query_of c.args.query.now) c.in-Ok.reply c.in-Ok.ensures);
    tells = search rules;
    fails = query_never _ (query_of c.args.query.now) c.in-Ok.reply c.in-Ok.ensures;
  };
  reads = record {
    sized = shown_sized _ (query_of c.args.query.now) c.in-Ok.reply c.in-Ok.ensures;
    kept = shown_kept _ (query_of c.args.query.now) c.in-Ok.reply c.in-Ok.ensures;
  };
}

pub returns-in-Err : goal.returns-in-Err
returns-in-Err g c = record {
  runs = record {
    handles = unshown _ _ (Ask (query_of c.args.query.now)) c.in-Err.ensures.wears c.in-Err.refusal c.in-Err.ensures.to;
    tells = search rules;
    fails = λ is. fails_at _ _ (ReadableAs IsOfList) (λ b a finds. finds.fails) of_list _ c.in-Err.ensures cc;
  };
  reads = record {
    sized = λ t clean shown. refused_sized t (query_of c.args.query.now) _ _ refl;
    kept = λ t clean shown. refused_kept t (query_of c.args.query.now) _ _ refl;
  };
}
