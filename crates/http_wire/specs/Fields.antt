-- Fields by their names.
use Rattle.std.specs.Prelude.{ℕ, Bool, List, [], ◌∷◌, filter, bytes_eq, Option, Some, None}
use Rattle.std.specs.Str.{str_to_ascii_lowercase}
use Rattle.http_wire.specs.Heads.{NameAndValue}

-- the field has the name, whatever the case of ASCII letters
abbrev pub is_named : List ℕ → NameAndValue → Bool
is_named name f = bytes_eq (str_to_ascii_lowercase f.0) (str_to_ascii_lowercase name)

-- the fields that have the name, in order
abbrev pub fields_named : List ℕ → List NameAndValue → List NameAndValue
fields_named name fields = filter (is_named name) fields

-- the value of the one field, where there is exactly one
abbrev pub value_of_one : List NameAndValue → Option (List ℕ)
value_of_one [] = None
value_of_one (f ∷ []) = Some f.1
value_of_one (f ∷ g ∷ fs) = None
