-- The targets among which those are that a filter matches.
use Rattle.std.specs.Prelude.{◌≡◌, ◌≤◌, ◌+◌, ℕ, Bool, true, List, [], ◌∷◌, ◌++◌, filter, length, map, Some}
use Rattle.rollout_machine.specs.Commands.{Bytes}
use Rattle.rollout_machine.specs.Records.{Records}
use Rattle.rollout_machine.specs.Rollouts.{chosen}
use Rattle.rollout_machine.specs.Targets.{Target}
use Rattle.target_filter.specs.Grammar.{Tree}
use Rattle.target_filter.specs.Names.{BeginsWith}
use Rattle.desk_records.specs.TargetRow.{listed_target}
use Rattle.desk_records.specs.Targets.{in_byte_order}
use Rattle.desk_records.specs.declared.target_row.ListedTarget.{ListedTarget}
use Rattle.desk_reads.specs.Matches.{those_matched}
use Rattle.desk_reads.specs.Targets.{listed_ids}

-- The listed targets that match have the ids of all that match. They were listed in byte order of their ids, and are no more than all.
pub record AreCandidates (r : Records) (f : Tree) (ls : List ListedTarget) : Type 0 where
  pub matching : those_matched r f ls ≡ chosen (Some f) r.targets
  pub ordered : in_byte_order (listed_ids ls) ≡ true
  pub few : length ls ≤ length r.targets

-- those targets were listed that pass a test, which each passes whose id begins so
pub record AreBegun (r : Records) (start : Bytes) (ls : List ListedTarget) : Type 0 where
  pub test : Target → Bool
  pub passes : (t : Target) → BeginsWith start t.id → test t ≡ true
  pub are : ls ≡ map listed_target (filter test r.targets)

-- the last byte of the second text is greater by one, and all before it is the same
pub record IsNextTo (first second : Bytes) : Type 0 where
  pub before : Bytes
  pub byte : ℕ
  pub first_is : first ≡ before ++ byte ∷ []
  pub second_is : second ≡ before ++ (byte + 1) ∷ []
