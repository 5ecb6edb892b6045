-- The rules of the short texts and the numbers: which letters, how long, in which range.
use Rattle.rollout_model.specs.Limits.{limits}
use Rattle.std.specs.Prelude.{ℕ, zero, suc, Bool, true, ◌&&◌, ◌||◌, not, nat_eq, nat_le, List, [], ◌∷◌, length, slice_get, codes, Option, Some, None}
use Rattle.std.specs.Prelude.{if◌then◌else◌}
use Rattle.std.specs.List.{list_any, list_all}
use Rattle.std.specs.Cmp.Lexicographic.{pointwise}
use Rattle.std.specs.Char.{is_ascii_alphanumeric}
use Rattle.std.specs.Str.{is_utf8}

abbrev pub is_between : ℕ → ℕ → ℕ → Bool
is_between low high n = nat_le low n && nat_le n high

-- a letter of words, filenames and tokens: A-Z a-z 0-9 . _ -
abbrev pub is_word_letter : ℕ → Bool
is_word_letter b = is_ascii_alphanumeric b || list_any (λ c. nat_eq c b) (codes "._-")

-- a byte of texts. The control characters U+0000 to U+001F and U+007F are single bytes in UTF-8, which stand for nothing else there
abbrev pub is_text_letter : ℕ → Bool
is_text_letter b = nat_le 32 b && (not (nat_eq b 127) && nat_le b 255)

-- low to high such letters
abbrev pub is_spelled : (ℕ → Bool) → ℕ → ℕ → List ℕ → Bool
is_spelled letter low high bs = is_between low high (length bs) && list_all letter bs

-- the id of a target, a tag, the key of an attribute
abbrev pub is_word : List ℕ → Bool
is_word bs = is_spelled is_word_letter 1 limits.word_length bs

-- what a device is known by
abbrev pub is_token : List ℕ → Bool
is_token bs = is_spelled is_word_letter limits.token_length_least limits.token_length bs

abbrev pub is_filename : List ℕ → Bool
is_filename bs = is_spelled is_word_letter 1 limits.filename_length bs

-- a name, a kind or a version
abbrev pub is_text : List ℕ → Bool
is_text bs = is_spelled is_text_letter 1 limits.text_length bs && is_utf8 bs

-- the value of an attribute
abbrev pub is_value : List ℕ → Bool
is_value bs = is_spelled is_text_letter 0 limits.text_length bs && is_utf8 bs

-- a line that a device adds to its feedback
abbrev pub is_detail : List ℕ → Bool
is_detail bs = is_spelled is_text_letter 0 limits.detail_length bs && is_utf8 bs

-- the lines of one feedback
abbrev pub are_details : List (List ℕ) → Bool
are_details lines = nat_le (length lines) limits.details && list_all is_detail lines

abbrev pub is_byte : ℕ → Bool
is_byte b = nat_le b 255

-- a SHA-256 digest
abbrev pub is_digest : List ℕ → Bool
is_digest bs = nat_eq (length bs) limits.digest_length && list_all is_byte bs

-- the contents of an artifact
abbrev pub is_contents : List ℕ → Bool
is_contents bs = nat_le (length bs) limits.artifact_size && list_all is_byte bs

-- a number of a module, artifact, set, rollout or action
abbrev pub is_number : ℕ → Bool
is_number n = is_between 1 limits.number n

-- a number that a device gives its feedback
abbrev pub is_feedback_number : ℕ → Bool
is_feedback_number n = is_between 1 limits.feedback_number n

-- a threshold of a rollout
abbrev pub is_percentage : ℕ → Bool
is_percentage p = is_between 1 limits.percentage p

-- how many groups a rollout has
abbrev pub is_group_count : ℕ → Bool
is_group_count n = is_between 1 limits.groups n

-- no number stands twice
abbrev pub are_distinct_numbers : List ℕ → Bool
are_distinct_numbers [] = true
are_distinct_numbers (n ∷ ns) = not (list_any (λ m. nat_eq m n) ns) && are_distinct_numbers ns

-- the modules of a distribution set
abbrev pub is_module_list : List ℕ → Bool
is_module_list ns = is_between 1 limits.set_modules (length ns) && (list_all is_number ns && are_distinct_numbers ns)

-- no word stands twice
abbrev pub are_distinct_words : List (List ℕ) → Bool
are_distinct_words [] = true
are_distinct_words (w ∷ ws) = not (list_any (λ v. pointwise nat_eq v w) ws) && are_distinct_words ws

-- the tags of a target
abbrev pub is_tag_list : List (List ℕ) → Bool
is_tag_list ws = nat_le (length ws) limits.tags && (list_all is_word ws && are_distinct_words ws)

-- what a reader answers: what it was given, where that passes the test
abbrev pub kept_if : {A : Type 0} → (A → Bool) → A → Option A
kept_if test a = if test a then Some a else None

-- the item of this number, counted from 1
abbrev pub item_numbered : {X : Type 0} → List X → ℕ → Option X
item_numbered xs zero = None
item_numbered xs (suc k) = slice_get xs k
