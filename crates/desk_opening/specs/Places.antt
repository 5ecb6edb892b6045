-- Written by tools/gen/sql-proofs from src/table_texts.rt of desk_records. What it makes is proved; the tool is not trusted.
-- The tables of a desk as the code names them.
use Rattle.desk_records.specs.Schema.{Place, Desk, Modules, Sets, SetModules, Artifacts, Pieces, Targets, TargetTags, TargetAttributes, Rollouts}
use Rattle.desk_records.specs.Schema.{Members, Groups, Actions, Feedbacks, Offers, Rules, Numbers}
use Rattle.desk_opening.specs.declared.desk_table.DeskTable.{DeskTable}
use Rattle.desk_opening.specs.declared.desk_table.DeskTable.TheVariants as table

abbrev pub place_of : DeskTable → Place
place_of table.Desk = Desk
place_of table.Modules = Modules
place_of table.Sets = Sets
place_of table.SetModules = SetModules
place_of table.Artifacts = Artifacts
place_of table.Pieces = Pieces
place_of table.Targets = Targets
place_of table.TargetTags = TargetTags
place_of table.TargetAttributes = TargetAttributes
place_of table.Rollouts = Rollouts
place_of table.Members = Members
place_of table.Groups = Groups
place_of table.Actions = Actions
place_of table.Feedbacks = Feedbacks
place_of table.Offers = Offers
place_of table.Rules = Rules
place_of table.Numbers = Numbers
