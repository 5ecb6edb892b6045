-- The groups of one rollout, judged by its members and actions.
use Rattle.std.specs.Prelude.{◌&&◌, ℕ, zero, suc, Bool, true, false, not, List, count_by, nat_eq, Option, Some, None}
use Rattle.std.specs.List.{list_all, list_any}
use Rattle.rollout_machine.specs.ByteStrings.{item_numbered}
use Rattle.rollout_machine.specs.Groupings.{Grouping, cut_by, leaves_empty}
use Rattle.rollout_machine.specs.declared.bounds.Bounds.{Bounds}
use Rattle.rollout_machine.specs.declared.outcome.Outcome.TheVariants.{Good, Bad, Gone}
use Rattle.rollout_machine.specs.declared.records.GroupRecord.{GroupRecord}
use Rattle.desk_records.specs.declared.checked_rows.CountedAction.{CountedAction}
use Rattle.desk_verify.specs.Groups.{has_ended}

abbrev pub same_bounds : Bounds → Bounds → Bool
same_bounds a b = nat_eq a.first b.first && nat_eq a.last b.last

-- it counts those of these actions that are between its bounds
abbrev pub counts_them : List CountedAction → GroupRecord → Bool
counts_them actions group =
    nat_eq group.ok (count_by (has_ended group.bounds Good) actions)
    && (nat_eq group.bad (count_by (has_ended group.bounds Bad) actions) && nat_eq group.gone (count_by (has_ended group.bounds Gone) actions))

abbrev pub are_bounds : Option Bounds → Bounds → Bool
are_bounds None bounds = false
are_bounds (Some own) bounds = same_bounds bounds own

-- it is one of the groups with these bounds, with its own
abbrev pub is_cut : List Bounds → GroupRecord → Bool
is_cut cuts group = are_bounds (item_numbered cuts group.number) group.bounds

abbrev pub is_right : List Bounds → List CountedAction → GroupRecord → Bool
is_right cuts actions group = is_cut cuts group && counts_them actions group

abbrev pub has_group_numbered : List GroupRecord → ℕ → Bool
has_group_numbered groups i = list_any (λ (group : GroupRecord). nat_eq group.number i) groups

-- one of each number from 1 to n
abbrev pub has_each : List GroupRecord → ℕ → Bool
has_each groups zero = true
has_each groups (suc n) = has_each groups n && has_group_numbered groups (suc n)

-- they are the groups of m members that are cut so
abbrev pub are_right : Grouping → ℕ → List CountedAction → List GroupRecord → Bool
are_right cut m actions groups = not (leaves_empty cut m) && (list_all (is_right (cut_by cut m) actions) groups && has_each groups cut.count)
