-- Written by tools/gen/sql-proofs from src/table_texts.rt of desk_records. What it makes is proved; the tool is not trusted.
-- The places of the schema, one by one.
use Rattle.std.specs.List.{AllByRecursion}
use Rattle.desk_records.specs.Schema.{Place, Desk, Modules, Sets, SetModules, Artifacts, Pieces, Targets, TargetTags, TargetAttributes, Rollouts}
use Rattle.desk_records.specs.Schema.{Members, Groups, Actions, Feedbacks, Offers, Rules, Numbers, places}

-- what holds of all places in the list holds of each place
abbrev pub each_place : (P : Place → Type 0) → AllByRecursion P places → (t : Place) → P t
each_place P all Desk = all.0
each_place P all Modules = all.1.0
each_place P all Sets = all.1.1.0
each_place P all SetModules = all.1.1.1.0
each_place P all Artifacts = all.1.1.1.1.0
each_place P all Pieces = all.1.1.1.1.1.0
each_place P all Targets = all.1.1.1.1.1.1.0
each_place P all TargetTags = all.1.1.1.1.1.1.1.0
each_place P all TargetAttributes = all.1.1.1.1.1.1.1.1.0
each_place P all Rollouts = all.1.1.1.1.1.1.1.1.1.0
each_place P all Members = all.1.1.1.1.1.1.1.1.1.1.0
each_place P all Groups = all.1.1.1.1.1.1.1.1.1.1.1.0
each_place P all Actions = all.1.1.1.1.1.1.1.1.1.1.1.1.0
each_place P all Feedbacks = all.1.1.1.1.1.1.1.1.1.1.1.1.1.0
each_place P all Offers = all.1.1.1.1.1.1.1.1.1.1.1.1.1.1.0
each_place P all Rules = all.1.1.1.1.1.1.1.1.1.1.1.1.1.1.1.0
each_place P all Numbers = all.1.1.1.1.1.1.1.1.1.1.1.1.1.1.1.1.0

-- .. where it is said of one after the other
module _ (P : Place → Type 0) (desk : P Desk) (modules : P Modules) (sets : P Sets) (set_modules : P SetModules) (artifacts : P Artifacts)
    (pieces : P Pieces) (targets : P Targets) (target_tags : P TargetTags) (target_attributes : P TargetAttributes) (rollouts : P Rollouts)
    (members : P Members) (groups : P Groups) (actions : P Actions) (feedbacks : P Feedbacks) (offers : P Offers) (rules : P Rules)
    (numbers : P Numbers) where
  abbrev pub by_place : (t : Place) → P t
  by_place = each_place P (desk, (modules, (sets, (set_modules, (artifacts, (pieces, (targets, (target_tags, (target_attributes, (rollouts, (members, (groups, (actions, (feedbacks, (offers, (rules, (numbers, tt)))))))))))))))))
