-- Where the checks of the tables stop, one after the other, in a change that only reads.
use Rattle.std.specs.Prelude.{Bool, true, false, Result}
use Rattle.sqlite.specs.Store.{Ghosts}
use Rattle.sql_calls.specs.declared.fault.Fault.{Fault}
use Rattle.desk_records.specs.Schema.{Actions, Feedbacks, Groups, Members, Numbers, Offers, Pieces, Place, Rollouts, Rules}
use Rattle.desk_records.specs.Tables.{HoldsTables, Tables}
use Rattle.desk_store.specs.Breaking.{BreaksOnly}
use Rattle.desk_store.specs.Unreadable.{IsUnreadableIn}
use Rattle.sql_calls.specs.declared.calls.Calls.{Calls}
use Rattle.desk_verify.specs.Agreement.{AgreeBefore}
use Rattle.desk_verify.specs.declared.damage.CheckedTable.{CheckedTable}
use Rattle.desk_verify.specs.declared.damage.CheckedTable.TheVariants.{Artifact, Member, RolloutGroup, Action, Offer}

-- whether the check of the table stops at what can't be read in this one
abbrev pub is_read_for : CheckedTable → Place → Bool
is_read_for Artifact Pieces = true
is_read_for Member Rollouts = true
is_read_for Member Members = true
is_read_for RolloutGroup Rollouts = true
is_read_for RolloutGroup Rules = true
is_read_for RolloutGroup Members = true
is_read_for RolloutGroup Groups = true
is_read_for Action Rollouts = true
is_read_for Action Members = true
is_read_for Action Actions = true
is_read_for Action Feedbacks = true
is_read_for Action Numbers = true
is_read_for Offer Rollouts = true
is_read_for Offer Actions = true
is_read_for Offer Offers = true
is_read_for table place = false

-- The tables before some table agree, and what its check reads can't be read.
pub record IsStuck (t : Tables) : Type 0 where
  pub table : CheckedTable
  pub agree : AgreeBefore table t
  pub unreadable : IsUnreadableIn (is_read_for table) t

-- broken rows are told only where a check is stuck
abbrev pub StopsInOrder : {S : Type 0} → Ghosts S → {A : Type 0} → Calls S → Calls S → Result A Fault → Type 0
StopsInOrder g = BreaksOnly g HoldsTables (λ t. Unit {0}) IsStuck
