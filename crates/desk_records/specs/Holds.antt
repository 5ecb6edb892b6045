-- When tables hold the records of a desk.
use Rattle.std.specs.Prelude.{◌≡◌, ℕ, Bool, true, List, [], ◌∷◌, map, codes, Option, pos}
use Rattle.std.specs.List.{flat_map, zip}
use Rattle.sqlite_value.specs.declared.value.Value.TheVariants.{Null, Int, Text}
use Rattle.sqlite_value.specs.Order.{Row}
use Rattle.sqlite.specs.Effect.{Database, IsDatabase}
use Rattle.sql_front.specs.Stands.{Stands}
use Rattle.sql_calls.specs.Keyed.{rows_from, IsHeldBy}
use Rattle.sql_calls.specs.KeyIndexes.{ComparesBytes}
use Rattle.rollout_model.specs.declared.rollout.Offer.{Offer}
use Rattle.rollout_model.specs.declared.group_rule.GroupRule.{GroupRule}
use Rattle.rollout_machine.specs.Commands.{Bytes, ModuleLabel}
use Rattle.rollout_machine.specs.GroupRules.{rules_of}
use Rattle.rollout_machine.specs.Offers.{offer}
use Rattle.rollout_machine.specs.Records.{Records}
use Rattle.rollout_machine.specs.declared.records.RolloutRecord.{RolloutRecord}
use Rattle.desk_records.specs.Schema.{Place, Desk, Modules, Sets, SetModules, Artifacts, Pieces, Targets, TargetTags, TargetAttributes, Rollouts}
use Rattle.desk_records.specs.Schema.{Members, Groups, Actions, Feedbacks, Offers, Rules, Numbers, offer_table, table_at, name_of}
use Rattle.desk_records.specs.Actions.{Tally, tally_of, action_row, entries_of, entry_row}
use Rattle.desk_records.specs.Artifacts.{artifact_row, piece_rows_from}
use Rattle.desk_records.specs.FeedbackNumbers.{number_rows, numbers_of}
use Rattle.desk_records.specs.Offers.{HoldsOffers}
use Rattle.desk_records.specs.Parts.{parts_from}
use Rattle.desk_records.specs.Rollouts.{rollout_row, members_from, groups_from, rules_from}
use Rattle.desk_records.specs.Codes.{flag}
use Rattle.desk_records.specs.Sets.{set_row, place_rows_from}
use Rattle.desk_records.specs.Versions.{newest, version_number}
use Rattle.desk_records.specs.declared.number_row.PlacedNumber.{PlacedNumber}
use Rattle.desk_records.specs.declared.version.Version.{Version}
use Rattle.desk_records.specs.Targets.{target_row, tag_rows, attribute_rows, are_sorted}

-- format `fwdesk`, and the number of the version
abbrev pub desk_row : Version → Bool → Row
desk_row v approval = Int (pos 1) ∷ Null ∷ Text (codes "fwdesk") ∷ Int (pos (version_number v)) ∷ Int (pos (flag approval)) ∷ []

abbrev pub module_row : ℕ → ModuleLabel → Row
module_row number m = Int (pos number) ∷ Null ∷ Text m.name ∷ Text m.kind ∷ Text m.version ∷ []

-- What tables keep: records, and beside them how many notes and entries each action has, what each target is offered, what is said of the
-- groups of each rollout, and the numbers of each action.
pub record Ledger : Type 0 where
  pub records : Records
  pub tallies : List Tally
  pub offers : Bytes → Option Offer
  pub rules : List (List GroupRule)
  pub numbers : List (List PlacedNumber)

-- of records alone: what follows from them
abbrev pub ledger_of : Records → Ledger
ledger_of r = record {
  records = r;
  tallies = map tally_of r.actions;
  offers = offer r;
  rules = map (λ (x : RolloutRecord). rules_of x.plan) r.rollouts;
  numbers = map numbers_of r.actions;
}

-- What the rows of a table are: these in this order, these in any order, or those of offers.
pub data Content : Type 0 where
  Ordered : List Row → Content
  Unordered : List Row → Content
  Offered : (Bytes → Option Offer) → Content

abbrev pub AreRowsOf : Content → List Row → Type 0
AreRowsOf (Ordered wanted) rows = rows ≡ wanted
AreRowsOf (Unordered wanted) rows = IsHeldBy rows wanted
AreRowsOf (Offered offers) rows = HoldsOffers rows offers

-- What each table of a version holds: numbered rows in the order of their numbers, all others in any order.
abbrev pub content_at : Version → Ledger → Place → Content
content_at v l Desk = Ordered (desk_row v l.records.approval ∷ [])
content_at v l Modules = Ordered (rows_from module_row 1 l.records.modules)
content_at v l Sets = Ordered (rows_from set_row 1 l.records.sets)
content_at v l SetModules = Unordered (place_rows_from 1 l.records.sets)
content_at v l Artifacts = Ordered (rows_from artifact_row 1 l.records.artifacts)
content_at v l Pieces = Unordered (piece_rows_from 1 l.records.artifacts)
content_at v l Targets = Unordered (map target_row l.records.targets)
content_at v l TargetTags = Unordered (flat_map tag_rows l.records.targets)
content_at v l TargetAttributes = Unordered (flat_map attribute_rows l.records.targets)
content_at v l Rollouts = Ordered (rows_from rollout_row 1 l.records.rollouts)
content_at v l Members = Unordered (members_from 1 l.records.rollouts)
content_at v l Groups = Unordered (groups_from 1 l.records.rollouts)
content_at v l Actions = Ordered (rows_from (action_row l.records.rollouts) 1 (zip l.records.actions l.tallies))
content_at v l Feedbacks = Unordered (parts_from entry_row entries_of 1 l.records.actions)
content_at v l Offers = Offered l.offers
content_at v l Rules = Unordered (rules_from l.rules)
content_at v l Numbers = Unordered (number_rows l.numbers)

-- .. of the version that the program writes
abbrev pub content_of : Ledger → Place → Content
content_of = content_at newest

abbrev pub IsHeld : Ledger → Place → List Row → Type 0
IsHeld l t rows = AreRowsOf (content_of l t) rows

-- where a table stands: its place among all tables of the database, and its tree
pub record Spot : Type 0 where
  pub at : ℕ
  pub tree : ℕ

-- The tables of the schema stand somewhere among those of others, and hold the ledger. A unique index of others on the key of offers, if
-- there is one, compares bytes as that of the desk does.
pub record HoldsLedger (db : Database) (l : Ledger) : Type 0 where
  pub sound : IsDatabase db
  pub spot : Place → Spot
  pub stands : (t : Place) → Stands db.schema (name_of t) (spot t).at (table_at t (spot t).tree)
  pub rows : (t : Place) → IsHeld l t (db.trees (spot t).tree)
  pub sorted : are_sorted l.records.targets ≡ true
  pub keyed : ComparesBytes db.schema (offer_table (spot Offers).tree) 1

-- the tables hold the records, and all that follows from them
abbrev pub HoldsRecords : Database → Records → Type 0
HoldsRecords db r = HoldsLedger db (ledger_of r)
