-- Records whose histories can be counted: nothing else limits how often a device says the same of its action.
use Rattle.std.specs.Prelude.{◌<◌, ◌^◌, ◌+◌, length}
use Rattle.sqlite_rules.specs.Lists.{Has}
use Rattle.rollout_machine.specs.Records.{Records}
use Rattle.rollout_machine.specs.declared.records.ActionRecord.{ActionRecord}

-- 32 bits count the entries of each history, and one more
pub record AreCounted (r : Records) : Type 0 where
  pub few : (a : ActionRecord) → Has r.actions a → length a.history + 1 < 2 ^ 32
