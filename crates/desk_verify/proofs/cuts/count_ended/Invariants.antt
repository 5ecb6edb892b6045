use Rattle.desk_verify.proofs.Common.{◌≡◌, count_by, take, Bad, Gone, Good, has_ended}
use Rattle.desk_verify.proofs.cuts.count_ended.Given as goal

-- those so far are counted, each by its outcome
abbrev pub invariant-loop-action : goal.invariant-loop-action
invariant-loop-action l = record {
  ok : l.ended.ok ≡ count_by (has_ended l.bounds Good) (take l.action-index l.actions);
  bad : l.ended.bad ≡ count_by (has_ended l.bounds Bad) (take l.action-index l.actions);
  gone : l.ended.gone ≡ count_by (has_ended l.bounds Gone) (take l.action-index l.actions);
}
