-- Written by tools/gen/sql-proofs from src/table_texts.rt of desk_records. What it makes is proved; the tool is not trusted.
-- The tables of a desk, and their places in the order in which they are made.
use Rattle.std.specs.Prelude.{true, false, [], ◌∷◌, Some, None, codes, List, ℕ, map}
use Rattle.sqlite_value.specs.Keys.{plain}
use Rattle.sqlite.specs.Table.{Table}
use Rattle.sqlite.specs.Kind.TheVariants.{Integer, Text, Blob}
use Rattle.sql_calls.specs.Tables.{strict, table_of}

-- One row, of number 1.
abbrev pub desk_table : ℕ → Table
desk_table tree = table_of (codes "desk") tree
    (strict (codes "id") Integer false
    ∷ strict (codes "format") Text true
    ∷ strict (codes "version") Integer true
    ∷ strict (codes "approval") Integer true
    ∷ []) (Some 0) (0 ∷ []) [] []

-- The k-th module that was added has number k; no two have the same name, type and version.
abbrev pub module_table : ℕ → Table
module_table tree = table_of (codes "module") tree
    (strict (codes "number") Integer false
    ∷ strict (codes "name") Text true
    ∷ strict (codes "type") Text true
    ∷ strict (codes "version") Text true
    ∷ []) (Some 0) (0 ∷ []) ((2 ∷ 3 ∷ 4 ∷ []) ∷ []) (plain ∷ [])

-- The k-th set that was added has number k; no two have the same name and version.
abbrev pub set_table : ℕ → Table
set_table tree = table_of (codes "dset") tree
    (strict (codes "number") Integer false
    ∷ strict (codes "name") Text true
    ∷ strict (codes "version") Text true
    ∷ []) (Some 0) (0 ∷ []) ((2 ∷ 3 ∷ []) ∷ []) (plain ∷ [])

-- The modules of the sets, each at its place, from 1; no place of a set is taken twice, and no module stands in a set twice.
abbrev pub set_module_table : ℕ → Table
set_module_table tree = table_of (codes "set_module") tree
    (strict (codes "dset") Integer true
    ∷ strict (codes "place") Integer true
    ∷ strict (codes "module") Integer true
    ∷ []) None (1 ∷ 2 ∷ []) ((1 ∷ 2 ∷ []) ∷ (3 ∷ 1 ∷ []) ∷ []) (plain ∷ plain ∷ [])

-- The k-th artifact that was added has number k, and its digest 32 bytes; no two of a module have the same filename.
abbrev pub artifact_table : ℕ → Table
artifact_table tree = table_of (codes "artifact") tree
    (strict (codes "number") Integer false
    ∷ strict (codes "module") Integer true
    ∷ strict (codes "filename") Text true
    ∷ strict (codes "size") Integer true
    ∷ strict (codes "sha256") Blob true
    ∷ []) (Some 0) (0 ∷ []) ((2 ∷ 3 ∷ []) ∷ []) (plain ∷ [])

-- The contents of the artifacts in pieces, each at its place in the sequence, from 1; none is taken twice.
abbrev pub piece_table : ℕ → Table
piece_table tree = table_of (codes "piece") tree
    (strict (codes "artifact") Integer true
    ∷ strict (codes "sequence") Integer true
    ∷ strict (codes "bytes") Blob true
    ∷ []) None (1 ∷ 2 ∷ []) ((1 ∷ 2 ∷ []) ∷ []) (plain ∷ [])

-- The targets, by their ids.
abbrev pub target_table : ℕ → Table
target_table tree = table_of (codes "target") tree
    (strict (codes "controller") Text true
    ∷ strict (codes "name") Text true
    ∷ strict (codes "digest") Blob true
    ∷ []) None (1 ∷ []) ((1 ∷ []) ∷ []) (plain ∷ [])

-- The tags of the targets; no tag stands twice at a target.
abbrev pub target_tag_table : ℕ → Table
target_tag_table tree = table_of (codes "target_tag") tree
    (strict (codes "controller") Text true
    ∷ strict (codes "tag") Text true
    ∷ []) None (1 ∷ 2 ∷ []) ((1 ∷ 2 ∷ []) ∷ []) (plain ∷ [])

-- The attributes of the targets; no key stands twice at a target.
abbrev pub target_attribute_table : ℕ → Table
target_attribute_table tree = table_of (codes "target_attribute") tree
    (strict (codes "controller") Text true
    ∷ strict (codes "key") Text true
    ∷ strict (codes "value") Text true
    ∷ []) None (1 ∷ 2 ∷ []) ((1 ∷ 2 ∷ []) ∷ []) (plain ∷ [])

-- The k-th rollout that was created has number k; no two have the same name.
abbrev pub rollout_table : ℕ → Table
rollout_table tree = table_of (codes "rollout") tree
    (strict (codes "number") Integer false
    ∷ strict (codes "name") Text true
    ∷ strict (codes "dset") Integer true
    ∷ strict (codes "filter_text") Text true
    ∷ strict (codes "groups") Integer true
    ∷ strict (codes "success") Integer true
    ∷ strict (codes "error") Integer true
    ∷ strict (codes "approval") Integer true
    ∷ strict (codes "started") Integer true
    ∷ strict (codes "paused") Integer true
    ∷ []) (Some 0) (0 ∷ []) ((2 ∷ []) ∷ []) (plain ∷ [])

-- The members of the rollouts, by their places from 1; no place of a rollout is taken twice.
abbrev pub member_table : ℕ → Table
member_table tree = table_of (codes "member") tree
    (strict (codes "rollout") Integer true
    ∷ strict (codes "place") Integer true
    ∷ strict (codes "controller") Text true
    ∷ []) None (1 ∷ 2 ∷ []) ((1 ∷ 2 ∷ []) ∷ []) (plain ∷ [])

-- The groups of the rollouts. The last place of each finds the group of a member, and among those that aren't started the next one.
abbrev pub group_table : ℕ → Table
group_table tree = table_of (codes "rollout_group") tree
    (strict (codes "rollout") Integer true
    ∷ strict (codes "number") Integer true
    ∷ strict (codes "first_place") Integer true
    ∷ strict (codes "last_place") Integer true
    ∷ strict (codes "started") Integer true
    ∷ strict (codes "ok") Integer true
    ∷ strict (codes "bad") Integer true
    ∷ strict (codes "gone") Integer true
    ∷ []) None (1 ∷ 2 ∷ []) ((1 ∷ 2 ∷ []) ∷ (1 ∷ 4 ∷ []) ∷ (1 ∷ 5 ∷ 4 ∷ []) ∷ []) (plain ∷ plain ∷ plain ∷ [])

-- The k-th action that was made has number k; a member of a rollout has one.
abbrev pub action_table : ℕ → Table
action_table tree = table_of (codes "action") tree
    (strict (codes "number") Integer false
    ∷ strict (codes "rollout") Integer true
    ∷ strict (codes "place") Integer true
    ∷ strict (codes "controller") Text true
    ∷ strict (codes "canceling") Integer true
    ∷ strict (codes "outcome") Integer true
    ∷ strict (codes "notes") Integer true
    ∷ strict (codes "entries") Integer true
    ∷ []) (Some 0) (0 ∷ []) ((2 ∷ 3 ∷ []) ∷ (4 ∷ 0 ∷ []) ∷ []) (plain ∷ plain ∷ [])

-- The history of the actions, by places in a sequence from 1; none is taken twice.
abbrev pub feedback_table : ℕ → Table
feedback_table tree = table_of (codes "feedback") tree
    (strict (codes "action") Integer true
    ∷ strict (codes "sequence") Integer true
    ∷ strict (codes "kind") Integer true
    ∷ strict (codes "word") Integer true
    ∷ strict (codes "details") Text true
    ∷ []) None (1 ∷ 2 ∷ []) ((1 ∷ 2 ∷ []) ∷ []) (plain ∷ [])

-- What each target is offered now.
abbrev pub offer_table : ℕ → Table
offer_table tree = table_of (codes "offer") tree
    (strict (codes "controller") Text true
    ∷ strict (codes "action") Integer true
    ∷ strict (codes "kind") Integer true
    ∷ []) None (1 ∷ []) ((1 ∷ []) ∷ []) (plain ∷ [])

-- What is said of the groups of the rollouts, by their numbers; a group has a percentage where its rollout isn't cut evenly.
abbrev pub rule_table : ℕ → Table
rule_table tree = table_of (codes "group_rule") tree
    (strict (codes "rollout") Integer true
    ∷ strict (codes "number") Integer true
    ∷ strict (codes "percentage") Integer false
    ∷ strict (codes "success") Integer true
    ∷ strict (codes "error") Integer true
    ∷ []) None (1 ∷ 2 ∷ []) ((1 ∷ 2 ∷ []) ∷ []) (plain ∷ [])

-- The numbers that devices gave their feedback, by places among those of the action, from 1; none is taken twice.
abbrev pub number_table : ℕ → Table
number_table tree = table_of (codes "feedback_number") tree
    (strict (codes "action") Integer true
    ∷ strict (codes "place") Integer true
    ∷ strict (codes "sequence") Integer true
    ∷ strict (codes "number") Integer true
    ∷ []) None (1 ∷ 2 ∷ []) ((1 ∷ 2 ∷ []) ∷ []) (plain ∷ [])

pub data Place : Type 0 where
  Desk : Place
  Modules : Place
  Sets : Place
  SetModules : Place
  Artifacts : Place
  Pieces : Place
  Targets : Place
  TargetTags : Place
  TargetAttributes : Place
  Rollouts : Place
  Members : Place
  Groups : Place
  Actions : Place
  Feedbacks : Place
  Offers : Place
  Rules : Place
  Numbers : Place

-- all of them, in the order in which they are made
abbrev pub places : List Place
places = Desk ∷ Modules ∷ Sets ∷ SetModules ∷ Artifacts ∷ Pieces ∷ Targets ∷ TargetTags ∷ TargetAttributes ∷ Rollouts ∷ Members ∷ Groups
    ∷ Actions ∷ Feedbacks ∷ Offers ∷ Rules ∷ Numbers ∷ []

abbrev pub table_by : Place → Table
table_by Desk = desk_table 0
table_by Modules = module_table 0
table_by Sets = set_table 0
table_by SetModules = set_module_table 0
table_by Artifacts = artifact_table 0
table_by Pieces = piece_table 0
table_by Targets = target_table 0
table_by TargetTags = target_tag_table 0
table_by TargetAttributes = target_attribute_table 0
table_by Rollouts = rollout_table 0
table_by Members = member_table 0
table_by Groups = group_table 0
table_by Actions = action_table 0
table_by Feedbacks = feedback_table 0
table_by Offers = offer_table 0
table_by Rules = rule_table 0
table_by Numbers = number_table 0

-- the table, with its rows in a tree
abbrev pub table_at : Place → ℕ → Table
table_at t tree = record (table_by t) { tree = tree }

abbrev pub name_of : Place → List ℕ
name_of t = (table_by t).name

-- the names of the schema
abbrev pub desk_names : List (List ℕ)
desk_names = map name_of places
