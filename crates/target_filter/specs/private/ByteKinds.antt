-- Kinds of bytes.
use Rattle.std.specs.Prelude.{ℕ, Bool}
use Rattle.rollout_model.specs.Rules.{is_word_letter}
use Rattle.target_filter.specs.Grammar.{is_bare_byte, is_quotable_byte}
use Rattle.target_filter.specs.declared.byte_kind.ByteKind.{ByteKind}
use Rattle.target_filter.specs.declared.byte_kind.ByteKind.TheVariants.{Letter, Bare, Quotable}

abbrev pub is_byte_of : ByteKind → ℕ → Bool
is_byte_of Letter b = is_word_letter b
is_byte_of Bare b = is_bare_byte b
is_byte_of Quotable b = is_quotable_byte b
