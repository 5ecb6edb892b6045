-- The parts of a body.
use Rattle.std.specs.Prelude.{ℕ, Bool, List, Option, Some, None, option_and_then, option_map, if◌then◌else◌}
use Rattle.std.specs.Str.{is_utf8}
use Rattle.serde_json.specs.Data.{Data, Items, no_items, item}
use Rattle.serde_json.specs.Read.{read}
use Rattle.serde_json.specs.Find.{get, as_str, as_array, as_number, as_u64}
use Rattle.rollout_model.specs.Rules.{kept_if, is_text, is_number}

-- the value that a body writes
abbrev pub body_data : List ℕ → Option Data
body_data bytes = if is_utf8 bytes then read bytes else None

-- the one item of just one
abbrev pub only_item : Items → Option Data
only_item no_items = None
only_item (item d no_items) = Some d
only_item (item d (item e ds)) = None

-- the one item of the array that a body writes
abbrev pub body_item : List ℕ → Option Data
body_item bytes = option_and_then only_item (option_and_then as_array (body_data bytes))

-- a value that is such a text
abbrev pub text_in : (List ℕ → Bool) → Data → Option (List ℕ)
text_in test d = option_and_then (kept_if test) (as_str d)

-- a member that is a text; of members with one name the last
abbrev pub string_member : List ℕ → Data → Option (List ℕ)
string_member key d = option_and_then as_str (get key d)

-- a member that is a name, a type or a version
abbrev pub text_member : List ℕ → Data → Option (List ℕ)
text_member key d = option_and_then (kept_if is_text) (string_member key d)

-- a whole number, without sign, fraction or exponent
abbrev pub whole_of : Data → Option ℕ
whole_of d = option_and_then as_u64 (as_number d)

-- a member that is a whole number from 1 to 2,147,483,647
abbrev pub number_member : List ℕ → Data → Option ℕ
number_member key d = option_and_then (kept_if is_number) (option_and_then whole_of (get key d))

-- what is read of a part that may be missing
abbrev pub if_given : {A B : Type 0} → (A → Option B) → Option A → Option (Option B)
if_given reads None = Some None
if_given reads (Some part) = option_map Some (reads part)
