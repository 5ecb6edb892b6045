-- When the value of a column keeps the rule of its kind.
use Rattle.std.specs.Prelude.{ℕ, ◌^◌, Bool, false, true, nat_lt, List, Option, Some, None, if◌then◌else◌, pos}
use Rattle.std.specs.Option.{is_some}
use Rattle.std.specs.Str.{is_utf8}
use Rattle.sqlite_value.specs.declared.value.Value.{Value}
use Rattle.sqlite_value.specs.declared.value.Value.TheVariants.{Int, Text, Blob}
use Rattle.rollout_model.specs.Rules.{is_filename, is_digest, is_number, is_text, is_value, is_word}

-- ---- what is stored

-- a text as a column holds it
abbrev pub StoredText : List ℕ → Value
StoredText = Text

-- a number as a column holds it
abbrev pub StoredNumber : ℕ → Value
StoredNumber n = Int (pos n)

-- bytes as a column holds them
abbrev pub StoredBytes : List ℕ → Value
StoredBytes = Blob

-- ---- numbers

-- a number of 32 bits
abbrev pub small_number : Value → Option ℕ
small_number (Int (pos n)) = if nat_lt n (2 ^ 32) then Some n else None
small_number _ = None

abbrev pub has_size : Value → Bool
has_size v = is_some (small_number v)

-- the value is the number of a module, in its range
abbrev pub has_number : Value → Bool
has_number (Int (pos n)) = is_number n
has_number _ = false

-- ---- texts

-- the value is a text that keeps a rule
abbrev pub has_text_of : (List ℕ → Bool) → Value → Bool
has_text_of rule (Text t) = rule t
has_text_of rule _ = false

-- .. that of names, kinds and versions
abbrev pub has_text : Value → Bool
has_text = has_text_of is_text

-- .. of words
abbrev pub has_word : Value → Bool
has_word = has_text_of is_word

-- .. of values
abbrev pub has_value : Value → Bool
has_value = has_text_of is_value

-- any text in UTF-8
abbrev pub has_filter : Value → Bool
has_filter = has_text_of is_utf8

abbrev pub has_filename : Value → Bool
has_filename = has_text_of is_filename

-- ---- bytes

abbrev pub has_digest : Value → Bool
has_digest (Blob b) = is_digest b
has_digest _ = false

-- any bytes
abbrev pub has_bytes : Value → Bool
has_bytes (Blob b) = true
has_bytes _ = false
