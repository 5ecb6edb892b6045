-- Rollouts in records and in rows.
use Rattle.std.specs.Prelude.{ℕ, ◌+◌, Bool, nat_le, List, ◌∷◌, [], filter, Option, pos}
use Rattle.sqlite_value.specs.declared.value.Value.TheVariants.{Null, Int, Text}
use Rattle.sqlite_value.specs.Order.{Row}
use Rattle.sqlite.specs.Values.{or_null}
use Rattle.rollout_machine.specs.ByteStrings.{item_numbered, same_bytes}
use Rattle.rollout_machine.specs.Commands.{Bytes}
use Rattle.rollout_machine.specs.declared.records.GroupRecord.{GroupRecord}
use Rattle.rollout_machine.specs.declared.records.RolloutRecord.{RolloutRecord}
use Rattle.rollout_model.specs.declared.group_rule.GroupRule.{GroupRule}
use Rattle.desk_records.specs.Codes.{approval_code, flag}
use Rattle.desk_records.specs.Parts.{listed_parts, part_row, parts_from, parts_numbered, parts_of}

-- what is told of a rollout; its members and groups lie in the other tables
abbrev pub told_rollout : RolloutRecord → Row
told_rollout x = Text x.plan.name ∷ Int (pos x.plan.set_number) ∷ Text x.plan.filter_text ∷ Int (pos x.plan.groups.count) ∷ Int (pos x.plan.success)
    ∷ Int (pos x.plan.error)
    ∷ Int (pos (approval_code x.approval)) ∷ Int (pos (flag x.started)) ∷ Int (pos (flag x.paused)) ∷ []

abbrev pub rollout_row : ℕ → RolloutRecord → Row
rollout_row n x = Int (pos n) ∷ Null ∷ told_rollout x

-- a rollout of this name
abbrev pub is_called : Bytes → RolloutRecord → Bool
is_called name x = same_bytes x.plan.name name

abbrev pub member_row : ℕ → ℕ → Bytes → Row
member_row = part_row (λ (id : Bytes). Text id ∷ [])

-- what a statement is given of members from a place on, behind the number of their rollout
abbrev pub placed : ℕ → List Bytes → Row
placed place [] = []
placed place (id ∷ ids) = Int (pos place) ∷ Text id ∷ placed (place + 1) ids

abbrev pub members_given : ℕ → ℕ → List Bytes → Row
members_given number place ids = Int (pos number) ∷ placed place ids

-- the members of a rollout that is there
abbrev pub members_of : Option RolloutRecord → List Bytes
members_of found = parts_of (λ (x : RolloutRecord). x.members) found

-- of all members of rollouts that are numbered from a number on
abbrev pub members_from : ℕ → List RolloutRecord → List Row
members_from n xs = parts_from member_row (λ (x : RolloutRecord). x.members) n xs

-- what is told of a group, with how many of its actions succeeded, failed and were given up
abbrev pub told_group : GroupRecord → Row
told_group g = Int (pos g.bounds.first) ∷ Int (pos g.bounds.last) ∷ Int (pos (flag g.started)) ∷ Int (pos g.ok) ∷ Int (pos g.bad) ∷ Int (pos g.gone) ∷ []

-- its number is its place
abbrev pub group_row : ℕ → ℕ → GroupRecord → Row
group_row = part_row told_group

abbrev pub groups_from : ℕ → List RolloutRecord → List Row
groups_from n xs = parts_from group_row (λ (x : RolloutRecord). x.groups) n xs

-- the groups of a rollout that is there, by the places that are their numbers
abbrev pub numbered_from : ℕ → List GroupRecord → List GroupRecord
numbered_from n [] = []
numbered_from n (g ∷ gs) = record g { number = n } ∷ numbered_from (n + 1) gs

abbrev pub groups_of : Option RolloutRecord → List GroupRecord
groups_of found = numbered_from 1 (parts_of (λ (x : RolloutRecord). x.groups) found)

-- what is told of what a plan says of a group; no percentage is no value
abbrev pub told_rule : GroupRule → Row
told_rule rule = or_null (λ percent. Int (pos percent)) rule.percentage ∷ Int (pos rule.success) ∷ Int (pos rule.error) ∷ []

abbrev pub rule_row : ℕ → ℕ → GroupRule → Row
rule_row = part_row told_rule

-- of what is said of the groups of each rollout
abbrev pub rules_from : List (List GroupRule) → List Row
rules_from = listed_parts rule_row

-- of one rollout, where it is there
abbrev pub rules_numbered : List (List GroupRule) → ℕ → List GroupRule
rules_numbered = parts_numbered

-- .. of one of its groups
abbrev pub rule_numbered : List (List GroupRule) → ℕ → ℕ → Option GroupRule
rule_numbered rules number group = item_numbered (rules_numbered rules number) group

-- those of the groups that reach a place
abbrev pub that_reach : ℕ → List GroupRecord → List GroupRecord
that_reach place gs = filter (λ (g : GroupRecord). nat_le place g.bounds.last) gs
