use Rattle.mgmt_objects.proofs.Common.{◌≡◌, ◌∙◌, ap, sym, arith, string_bytes, drop, rules, object, put, string, view, members_view, members_view-insert_entry}
use Rattle.mgmt_objects.proofs.Common.{view-Object, with_attribute_members}
use Rattle.std.proofs.lemmas.List.{at_drop_all}
use Rattle.mgmt_objects.proofs.TargetLemmas.{with_attributes_more}
use Rattle.mgmt_objects.proofs.target_object.attributes_value.Goals as goal

pub loop-attribute-preserved : goal.loop-attribute-preserved
loop-attribute-preserved c =
    let l = c.loop-attribute in
    let attributes = c.args.attributes.now in
    let members = members_view l.members.entries in
    let attribute = c.attribute-item.result in
    let key : string_bytes c.in_ok-key.key ≡ attribute.key = search rules in
    let value : view c.in_ok-value.value ≡ string attribute.value = search rules in
    let inserted : members_view c.insert.new.self.entries ≡ put (string_bytes c.in_ok-key.key) (view c.in_ok-value.value) members =
    ap members_view c.in_ok-insert.ensures.entries ∙ members_view-insert_entry l.members.entries c.in_ok-key.key c.in_ok-value.value in
    let more = with_attributes_more members attributes l.attribute-index attribute (omega arith) c.attribute-item.is in
    rw (inserted, key, value) (more ∙ l.invariant)

pub returns : goal.returns
returns c =
    let all : with_attribute_members (members_view c.loop-attribute.members.entries) (drop c.loop-attribute.attribute-index c.args.attributes.now)
    ≡ members_view c.loop-attribute.members.entries =
    at_drop_all (with_attribute_members (members_view c.loop-attribute.members.entries)) c.args.attributes.now c.loop-attribute.attribute-index (omega arith) in
    view-Object c.loop-attribute.members ∙ ap object (sym all ∙ c.loop-attribute.invariant)
