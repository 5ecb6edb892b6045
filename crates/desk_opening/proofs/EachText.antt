-- Written by tools/gen/sql-proofs from src/table_texts.rt of desk_records. What it makes is proved; the tool is not trusted.
-- What is known of each table by computing its text.
use Rattle.std.proofs.Common.{refl}
use Rattle.sqlite_tied.specs.Compute.{everything}
use Rattle.sqlite_schema.specs.Names.{same_name}
use Rattle.sqlite_resolve.specs.Compile.{table_defined_by, first, table_in}
use Rattle.desk_records.specs.Schema.{Place, Desk, Modules, Sets, SetModules, Artifacts, Pieces, Targets, TargetTags, TargetAttributes, Rollouts}
use Rattle.desk_records.specs.Schema.{Members, Groups, Actions, Feedbacks, Offers, Rules, Numbers}
use Rattle.desk_records.proofs.TableMeaning.{creates}
use Rattle.desk_opening.proofs.IsPlace.{IsPlace, bare_of}

pub is_place : (t : Place) → IsPlace t
unfolding first table_defined_by table_in same_name everything
is_place Desk = record { makes = creates Desk; whole = refl; defined = refl; bare = bare_of (refl, (refl, (refl, (refl, tt)))); unindexed = λ rest. refl; unsequenced = refl }
is_place Modules = record { makes = creates Modules; whole = refl; defined = refl; bare = bare_of (refl, (refl, (refl, (refl, tt)))); unindexed = λ rest. refl; unsequenced = refl }
is_place Sets = record { makes = creates Sets; whole = refl; defined = refl; bare = bare_of (refl, (refl, (refl, tt))); unindexed = λ rest. refl; unsequenced = refl }
is_place SetModules = record { makes = creates SetModules; whole = refl; defined = refl; bare = bare_of (refl, (refl, (refl, tt))); unindexed = λ rest. refl; unsequenced = refl }
is_place Artifacts = record { makes = creates Artifacts; whole = refl; defined = refl; bare = bare_of (refl, (refl, (refl, (refl, (refl, tt))))); unindexed = λ rest. refl; unsequenced = refl }
is_place Pieces = record { makes = creates Pieces; whole = refl; defined = refl; bare = bare_of (refl, (refl, (refl, tt))); unindexed = λ rest. refl; unsequenced = refl }
is_place Targets = record { makes = creates Targets; whole = refl; defined = refl; bare = bare_of (refl, (refl, (refl, tt))); unindexed = λ rest. refl; unsequenced = refl }
is_place TargetTags = record { makes = creates TargetTags; whole = refl; defined = refl; bare = bare_of (refl, (refl, tt)); unindexed = λ rest. refl; unsequenced = refl }
is_place TargetAttributes = record { makes = creates TargetAttributes; whole = refl; defined = refl; bare = bare_of (refl, (refl, (refl, tt))); unindexed = λ rest. refl; unsequenced = refl }
is_place Rollouts = record { makes = creates Rollouts; whole = refl; defined = refl; bare = bare_of (refl, (refl, (refl, (refl, (refl, (refl, (refl, (refl, (refl, (refl, tt)))))))))); unindexed = λ rest. refl; unsequenced = refl }
is_place Members = record { makes = creates Members; whole = refl; defined = refl; bare = bare_of (refl, (refl, (refl, tt))); unindexed = λ rest. refl; unsequenced = refl }
is_place Groups = record { makes = creates Groups; whole = refl; defined = refl; bare = bare_of (refl, (refl, (refl, (refl, (refl, (refl, (refl, (refl, tt)))))))); unindexed = λ rest. refl; unsequenced = refl }
is_place Actions = record { makes = creates Actions; whole = refl; defined = refl; bare = bare_of (refl, (refl, (refl, (refl, (refl, (refl, (refl, (refl, tt)))))))); unindexed = λ rest. refl; unsequenced = refl }
is_place Feedbacks = record { makes = creates Feedbacks; whole = refl; defined = refl; bare = bare_of (refl, (refl, (refl, (refl, (refl, tt))))); unindexed = λ rest. refl; unsequenced = refl }
is_place Offers = record { makes = creates Offers; whole = refl; defined = refl; bare = bare_of (refl, (refl, (refl, tt))); unindexed = λ rest. refl; unsequenced = refl }
is_place Rules = record { makes = creates Rules; whole = refl; defined = refl; bare = bare_of (refl, (refl, (refl, (refl, (refl, tt))))); unindexed = λ rest. refl; unsequenced = refl }
is_place Numbers = record { makes = creates Numbers; whole = refl; defined = refl; bare = bare_of (refl, (refl, (refl, (refl, tt)))); unindexed = λ rest. refl; unsequenced = refl }
