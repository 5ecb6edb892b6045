-- Counts of 32 bits, and those that a command on an action leaves.
use Rattle.std.specs.Prelude.{◌≡◌, ◌≤◌, ◌<◌, ◌^◌, ℕ, Option, Result, MatchResult}
use Rattle.sql_calls.specs.declared.fault.Fault.{Fault}
use Rattle.sql_calls.specs.declared.fault.Fault.TheVariants.{Broken}
use Rattle.campaign_core.specs.declared.rollout_checks.actions.ActionChange.{ActionChange}
use Rattle.desk_commands.specs.private.Endings.{outcomes_after, own_after}
use Rattle.desk_commands.specs.private.Telling.{entries_by, notes_by, numbers_told}
use Rattle.desk_commands.specs.declared.counts.Counts.{Counts}
use Rattle.desk_commands.specs.declared.seen_actions.SeenAction.{SeenAction}
use Rattle.desk_commands.specs.declared.telling.Told.{Told}

-- so many are counted; a count beyond 32 bits is broken, and no other is
abbrev pub CountsTo : ℕ → Result ℕ Fault → Type 0
CountsTo n result = MatchResult result (λ count. count ≡ n) (λ fault. (fault ≡ Broken) × (2 ^ 32 ≤ n))

-- what is counted once this was told of the action, and it changed so
abbrev pub counts_after : SeenAction → ActionChange → Option Told → Counts
counts_after seen after told = record {
  notes = notes_by told seen.action.notes;
  entries = entries_by told seen.action.entries;
  numbers = numbers_told told;
  own = own_after seen after;
}

-- 32 bits count each of them
pub record HasRoom (seen : SeenAction) (after : ActionChange) (told : Option Told) : Type 0 where
  pub notes : notes_by told seen.action.notes < 2 ^ 32
  pub entries : entries_by told seen.action.entries < 2 ^ 32
  pub numbers : numbers_told told < 2 ^ 32
  pub outcomes : outcomes_after seen after < 2 ^ 32
