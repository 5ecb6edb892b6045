-- The filters that are read: at most 512 bytes, and parentheses at most 16 deep.
use Rattle.std.specs.Prelude.{ℕ, ◌+◌, ◌*◌, ◌≤◌, List, length, Bool, ◌&&◌, nat_le, nat_eq, cond, Option, Some, None}
use Rattle.std.specs.Option.{option_and_then}
use Rattle.std.specs.Cmp.Lexicographic.{pointwise}
use Rattle.rollout_model.specs.Limits.{limits}
use Rattle.target_filter.specs.Grammar.{Tree, IsFilter, OrLevel, is_at, spelling, nesting}
use Rattle.target_filter.specs.Descent.{or_at}

-- the text is a filter within the limits, and this is its tree
pub record IsProfileFilter (text : List ℕ) (tree : Tree) : Type 0 where
  pub filter : IsFilter text tree
  pub short : length text ≤ limits.filter_length
  pub shallow : nesting tree ≤ limits.filter_depth

abbrev pub IsInProfile : List ℕ → Type 0
IsInProfile text = (tree : Tree) × IsProfileFilter text tree

-- ---- the same, computed

-- IsProfileFilter as a test
abbrev pub is_profile_filter : List ℕ → Tree → Bool
is_profile_filter text tree = is_at OrLevel tree && pointwise nat_eq text (spelling tree) && nat_le (length text) limits.filter_length
    && nat_le (nesting tree) limits.filter_depth

-- the tree of a text of the profile, else None: a tree is looked for by descent, and taken if it is the text's
abbrev pub filter_of : List ℕ → Option Tree
filter_of text = option_and_then (λ (found : Tree × List ℕ). cond (is_profile_filter text found.0) (Some found.0) None) (or_at (3 * length text + 3) text)
