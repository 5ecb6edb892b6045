use Rattle.std.proofs.Common.{◌≡◌, true, take}
use Rattle.std.specs.List.{list_all}
use Rattle.rollout_model.specs.Rows.{is_target_row}
use Rattle.rollout_model.proofs.target_row.keep_their_rule.Given as goal

abbrev pub invariant-loop-row : goal.invariant-loop-row
invariant-loop-row l = list_all is_target_row (take l.row-index l.rows) ≡ true
