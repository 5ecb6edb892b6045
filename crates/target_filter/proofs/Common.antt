-- The names of other modules that the proofs here cite, passed on from one place. Declares nothing.
pub use Rattle.std.proofs.Common.{◌≡◌, ℕ, zero, suc, ◌+◌, ◌-◌, ◌*◌, ◌<◌, ◌≤◌, max, Bool, true, false, cond, not, ◌&&◌, ◌||◌, eqb, ltb, leb, ◌⊎◌, List, [], ◌∷◌}
pub use Rattle.std.proofs.Common.{◌++◌, length, get_or, take, drop, nat_eq, nat_lt, nat_le, ◌==◌, Some, None, Ok, Err, string_bytes, codes, Option, Result, sym}
pub use Rattle.std.proofs.Common.{refl, ap, ◌∙◌, subst, inl, inr, append_assoc, append-nil, add-zero, arith, length-append}
pub use Rattle.std.proofs.Math.Seq.{drop-cons, drop-length, take-length}
pub use Rattle.std.proofs.lemmas.Bool.{false≢true}
pub use Rattle.std.proofs.lemmas.Bool.Decides.{Decides-eqb, nat_tests}
pub use Rattle.std.proofs.lemmas.List.{drop-append-le, drop_at, length-take-le, take-append-drop, take-take, take_all, take_more}
pub use Rattle.std.proofs.lemmas.Slice.Eq.{ends_is, slice_eq-Decides, starts_is}
pub use Rattle.std.proofs.lemmas.Str.{IsCharBoundary-after_ascii, IsCharBoundary-before_ascii, IsCharBoundary-end, IsCharBoundary-start, IsUtf8-append}
pub use Rattle.std.proofs.lemmas.Str.{IsUtf8-from_ascii, IsUtf8-nil}
pub use Rattle.std.specs.Cmp.Lexicographic.{pointwise}
pub use Rattle.std.specs.List.{ends_with, list_all, starts_with}
pub use Rattle.std.specs.Option.{IfSome, IsSomeAnd, option_and_then, option_map, option_map_or}
pub use Rattle.std.specs.Str.{IsAscii, IsCharBoundary, IsUtf8}
pub use Rattle.rollout_model.specs.Rules.{is_word_letter}
pub use Rattle.rollout_model.specs.declared.target.Target.{Target}
pub use Rattle.target_filter.specs.private.ByteKinds.{is_byte_of}
pub use Rattle.target_filter.specs.Descent.{and_at, atom_at, attribute_field, bare_value, behind_front, closed, comparison_at, field_of_name, front, more_ands}
pub use Rattle.target_filter.specs.Descent.{more_ors, operator_at, or_at, quoted_value, value_at}
pub use Rattle.target_filter.specs.Grammar.{And, AndLevel, AtomLevel, Attribute, Bare, CanContinue, Comparison, Equal, Field, Group, Id, IsFilter, IsInGrammar}
pub use Rattle.target_filter.specs.Grammar.{IsLongestBeginning, Level, Name, NotEqual, Operator, Or, OrLevel, Quoted, Tag, Tree, Value, allows_and, allows_or}
pub use Rattle.target_filter.specs.Grammar.{field_text, is_at, is_bare_byte, is_field, is_nonempty, is_quotable_byte, is_filter_value, nesting, operator_byte}
pub use Rattle.target_filter.specs.Grammar.{spelling, value_text}
pub use Rattle.target_filter.specs.private.Greedy.{after, greedy}
pub use Rattle.target_filter.specs.Meaning.{holds}
pub use Rattle.target_filter.specs.Patterns.{IsJoined, IsJoinedAfterStar, Matches, byte_then, is_empty, matches, pieces, star_takes, with_first_byte}
pub use Rattle.target_filter.specs.Profile.{IsInProfile, IsProfileFilter, filter_of, is_profile_filter}
pub use Rattle.target_filter.specs.private.Scanner.{Ends, Mode, Move, State, StopsBehind, accepts, at_atom_end, at_atom_start, at_operator, mode_of_name, next}
pub use Rattle.target_filter.specs.private.Scanner.{run}
pub use Rattle.target_filter.specs.private.Scanner.{start, state_after, step}
pub use Rattle.target_filter.specs.private.ScannerViews.{state_of}
pub use Rattle.target_filter.specs.Views.{tree_of}
