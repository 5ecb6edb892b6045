use Rattle.mgmt_objects.proofs.Common.{◌≡◌, drop, no_members, members_view, with_attribute_members}
use Rattle.mgmt_objects.proofs.target_object.attributes_value.Given as goal

-- those that are left, put into those that are there, give them all
abbrev pub invariant-loop-attribute : goal.invariant-loop-attribute
invariant-loop-attribute l = with_attribute_members (members_view l.members.entries) (drop l.attribute-index l.attributes)
    ≡ with_attribute_members no_members l.attributes
