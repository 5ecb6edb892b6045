use Rattle.ddi_api.proofs.Common.{◌≡◌, ◌++◌, List, Some, members_view, Entry, member_attributes}
use Rattle.ddi_api.proofs.config_body.read_attributes.Given as goal

-- those before were read
abbrev pub invariant-loop-key : goal.invariant-loop-key
invariant-loop-key l =
    (done : List Entry) × (l.members.entries ≡ done ++ l.key-iterator) × (member_attributes (members_view done) ≡ Some l.attributes)
