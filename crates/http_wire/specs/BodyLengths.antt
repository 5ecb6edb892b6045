-- How long a body is.
use Rattle.std.specs.Prelude.{ℕ, Bool, ◌&&◌, nat_lt, if◌then◌else◌, List, [], ◌∷◌, length, codes, Result, Ok, Err}
use Rattle.std.specs.List.{list_all}
use Rattle.std.specs.Char.{is_ascii_digit}
use Rattle.std.specs.Str.Parse.{digits_value}
use Rattle.rollout_model.specs.Limits.{limits}
use Rattle.http_wire.specs.Faults.{WireFault, TooLarge, BadLength, BadCoding}
use Rattle.http_wire.specs.Heads.{NameAndValue}
use Rattle.http_wire.specs.Fields.{fields_named}

-- one or more digits
abbrev pub is_digits : List ℕ → Bool
is_digits text = nat_lt 0 (length text) && list_all is_ascii_digit text

-- the length that a text says
abbrev pub length_of : List ℕ → Result ℕ WireFault
length_of text =
    if is_digits text
    then (if nat_lt limits.body_length (digits_value 10 text) then Err TooLarge else Ok (digits_value 10 text))
    else Err BadLength

-- the length by the fields transfer-encoding and content-length: one of the first is a fault, whatever the length; none of
-- the second says 0, and two are a fault
abbrev pub length_by : List NameAndValue → List NameAndValue → Result ℕ WireFault
length_by [] [] = Ok 0
length_by [] (f ∷ []) = length_of f.1
length_by [] (f ∷ g ∷ fs) = Err BadLength
length_by (coding ∷ codings) fs = Err BadCoding

-- the length of the body behind a head with these fields
unfoldable pub body_length : List NameAndValue → Result ℕ WireFault
body_length fields = length_by (fields_named (codes "transfer-encoding") fields) (fields_named (codes "content-length") fields)
