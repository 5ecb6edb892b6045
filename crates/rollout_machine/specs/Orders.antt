-- What a desk lists in byte order: the targets, the tags of each, and the members of each rollout.
use Rattle.std.specs.Prelude.{◌≡◌, ℕ, ◌<◌, true, List, map, Some}
use Rattle.rollout_machine.specs.ByteStrings.{bytes_below, item_numbered}
use Rattle.rollout_machine.specs.CommandList.{CommandList}
use Rattle.rollout_machine.specs.Commands.{Bytes}
use Rattle.rollout_machine.specs.Records.{Records, RolloutRecord, records}
use Rattle.rollout_machine.specs.Targets.{Target}
use Rattle.rollout_machine.specs.Validity.{IsValid}

-- of two words the former is below the latter, so none stands twice
abbrev pub RiseInBytes : List Bytes → Type 0
RiseInBytes words = (i j : ℕ) (a b : Bytes) → i < j → item_numbered words i ≡ Some a → item_numbered words j ≡ Some b → bytes_below a b ≡ true

pub record ListsRise (rs : Records) : Type 0 where
  pub ids : RiseInBytes (map (λ (t : Target). t.id) rs.targets)
  pub tags : (k : ℕ) (t : Target) → item_numbered rs.targets k ≡ Some t → RiseInBytes t.tags
  pub members : (r : ℕ) (x : RolloutRecord) → item_numbered rs.rollouts r ≡ Some x → RiseInBytes x.members

-- so it is in the records of every list of accepted commands
abbrev pub ListsRiseInOrder : Type 0
ListsRiseInOrder = (h : CommandList) → IsValid h → ListsRise (records h)
