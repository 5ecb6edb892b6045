use Rattle.mgmt_objects.proofs.Common.{◌≡◌, ◌∙◌, ap, codes, refl, string_bytes, rules, object, put, view, members_view, members_view-insert_entry, view-Object}
use Rattle.mgmt_objects.proofs.Common.{whole}
use Rattle.mgmt_objects.proofs.action_object.with_number.Goals as goal

pub returns-in_ok-insert-in-Object : goal.returns-in_ok-insert-in-Object
returns-in_ok-insert-in-Object c =
    let members = c.in-Object.members.entries in
    let given = c.in_ok-key-in-Object.key in
    let key : string_bytes given ≡ codes "number" = search rules in
    let value : view c.from.result ≡ whole c.args.number = search rules in
    let inserted : members_view c.insert.new.self.entries ≡ put (string_bytes given) (view c.from.result) (members_view members) =
    ap members_view c.in_ok-insert-in-Object.ensures.entries ∙ members_view-insert_entry members given c.from.result in
    let was : view c.args.object ≡ object (members_view members) = ap view c.in-Object.is ∙ view-Object c.in-Object.members in
    view-Object c.insert.new.self ∙ rw (was, inserted, key, value) refl
