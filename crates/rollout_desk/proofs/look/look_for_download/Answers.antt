use Rattle.rollout_desk.proofs.Common.{rules}
use Rattle.desk_reads.specs.AtLists.{IsOfList}
use Rattle.desk_store.specs.Failing.{ReadableAs}
use Rattle.rollout_desk.proofs.CauseLemmas.{of_list}
use Rattle.rollout_desk.proofs.DownloadLemmas.{looked_for, looked_in_vain, never_failed}
use Rattle.rollout_desk.proofs.LookLemmas.{fails_at}
use Rattle.rollout_desk.proofs.SizeLemmas.{found_kept}
use Rattle.rollout_desk.proofs.look.look_for_download.Goals as goal

pub returns-in-Ok : goal.returns-in-Ok
returns-in-Ok g c = record {
  finds = looked_for _ _ _ _ _ _ c.in-Ok.found c.in-Ok.ensures;
  kept = found_kept _ _ _ _ c.in-Ok.found c.in-Ok.ensures;
  tells = search rules;
  fails = never_failed _ _ _ _ _ _ c.in-Ok.found c.in-Ok.ensures;
}

pub returns-in-Err : goal.returns-in-Err
returns-in-Err g c = record {
  finds = looked_in_vain _ _ _ _ _ _ c.in-Err.refusal c.in-Err.ensures;
  kept = tt;
  tells = search rules;
  fails = λ is. fails_at _ _ (ReadableAs IsOfList) (λ b a finds. finds.fails) of_list _ c.in-Err.ensures cc;
}
