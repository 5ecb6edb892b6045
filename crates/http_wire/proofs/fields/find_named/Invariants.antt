use Rattle.http_wire.proofs.Common.{◌≡◌, map, take, option_map, option_to_list, fields_named, field_view}
use Rattle.http_wire.proofs.fields.find_named.Given as goal

-- the one that was found so far
abbrev pub invariant-loop-field : goal.invariant-loop-field
invariant-loop-field l =
    fields_named l.name (map field_view (take l.field-index l.fields)) ≡ option_to_list (option_map field_view l.first)
