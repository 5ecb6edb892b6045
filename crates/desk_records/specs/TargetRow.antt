-- What rows of targets are read as.
use Rattle.std.specs.Prelude.{List, map}
use Rattle.rollout_machine.specs.Commands.{Attribute, Bytes}
use Rattle.rollout_machine.specs.Targets.{Target}
use Rattle.desk_records.specs.declared.target_row.StoredTarget.{StoredTarget}
use Rattle.desk_records.specs.declared.target_row.ListedTarget.{ListedTarget}
use Rattle.desk_records.specs.declared.target_row.OwnedTag.{OwnedTag}
use Rattle.desk_records.specs.declared.target_row.OwnedAttribute.{OwnedAttribute}

-- without its id, tags and attributes
abbrev pub stored_target : Target → StoredTarget
stored_target t = record { name = t.name; digest = t.digest }

-- its id and name alone
abbrev pub listed_target : Target → ListedTarget
listed_target t = record { id = t.id; name = t.name }

-- its tags, each with its id
abbrev pub owned_tags : Target → List OwnedTag
owned_tags t = map (λ (w : Bytes). record { id = t.id; tag = w }) t.tags

-- its attributes, each with its id
abbrev pub owned_attributes : Target → List OwnedAttribute
owned_attributes t = map (λ (a : Attribute). record { id = t.id; attribute = a }) t.attributes
