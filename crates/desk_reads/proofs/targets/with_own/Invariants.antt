use Rattle.desk_reads.proofs.Common.{◌≡◌, true, in_byte_order, map}
use Rattle.desk_reads.specs.Targets.{AreLeft, attribute_ids, listed_ids, own_attributes, own_listed, own_tags, rises, tag_ids}
use Rattle.desk_reads.proofs.targets.with_own.Given as goal

-- those that were gone through have their own, and what is left is of targets behind them
abbrev pub invariant-loop-entry : goal.invariant-loop-entry
invariant-loop-entry l = record {
  tags : rises (tag_ids l.tags) ≡ true → AreLeft tag_ids own_tags (listed_ids l.yielded) l.tags l.tags_left;
  attributes : rises (attribute_ids l.attributes) ≡ true
      → AreLeft attribute_ids own_attributes (listed_ids l.yielded) l.attributes l.attributes_left;
  found : in_byte_order (listed_ids l.yielded) ≡ true → rises (tag_ids l.tags) ≡ true → rises (attribute_ids l.attributes) ≡ true
      → l.targets.items ≡ map (own_listed l.tags l.attributes) l.yielded;
}
