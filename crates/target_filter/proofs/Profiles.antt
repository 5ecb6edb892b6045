-- What `filter_of` computes is the tree of a text of the profile.
use Rattle.target_filter.proofs.Common.{◌≡◌, ◌⊎◌, ℕ, ◌+◌, ◌*◌, ◌≤◌, List, length, Bool, true, cond, ◌&&◌, Option, Some, None, refl}
use Rattle.target_filter.proofs.Common.{subst, arith, nat_le, nat_eq, option_and_then, pointwise, nat_tests, Decides-eqb, slice_eq-Decides}
use Rattle.target_filter.proofs.Common.{Tree, OrLevel, is_at, spelling, nesting, or_at, IsProfileFilter, IsInProfile, is_profile_filter, filter_of}
use Rattle.rollout_model.specs.Limits.{limits}
use Rattle.target_filter.proofs.ScannedTrees.{both}
use Rattle.target_filter.proofs.Beginnings.{all_of}
use Rattle.target_filter.specs.declared.comparison.ParseFault.{ParseFault}
use Rattle.target_filter.specs.declared.comparison.ParseFault.TheVariants.{Memory, Missing}
use Rattle.target_filter.proofs.ParsedTrees.{parsed, found}

le_of : (m n : ℕ) → nat_le m n ≡ true → m ≤ n
le_of m n h = grind (arith, nat_tests)

of_le : (m n : ℕ) → m ≤ n → nat_le m n ≡ true
of_le m n h = grind (arith, nat_tests)

-- the test and the record
passes : (text : List ℕ) (t : Tree) → is_profile_filter text t ≡ true → IsProfileFilter text t
passes text t h =
    let p = both (is_at OrLevel t && pointwise nat_eq text (spelling t) && nat_le (length text) limits.filter_length) (nat_le (nesting t) limits.filter_depth)
    h in
    let q = both (is_at OrLevel t && pointwise nat_eq text (spelling t)) (nat_le (length text) limits.filter_length) p.0 in
    let r = both (is_at OrLevel t) (pointwise nat_eq text (spelling t)) q.0 in
    record {
      filter = record { level = r.0; spells = (slice_eq-Decides Decides-eqb text (spelling t) (pointwise nat_eq text (spelling t)) refl).0 r.1 };
      short = le_of (length text) limits.filter_length q.1;
      shallow = le_of (nesting t) limits.filter_depth p.1;
    }

passed : (text : List ℕ) (t : Tree) → IsProfileFilter text t → is_profile_filter text t ≡ true
passed text t h =
    all_of (is_at OrLevel t && pointwise nat_eq text (spelling t) && nat_le (length text) limits.filter_length) (nat_le (nesting t) limits.filter_depth)
    (all_of (is_at OrLevel t && pointwise nat_eq text (spelling t)) (nat_le (length text) limits.filter_length)
    (all_of (is_at OrLevel t) (pointwise nat_eq text (spelling t)) h.filter.level
    ((slice_eq-Decides Decides-eqb text (spelling t) (pointwise nat_eq text (spelling t)) refl).1 h.filter.spells))
    (of_le (length text) limits.filter_length h.short))
    (of_le (nesting t) limits.filter_depth h.shallow)

abbrev taken : List ℕ → Tree × List ℕ → Option Tree
taken text found = cond (is_profile_filter text found.0) (Some found.0) None

kept_by : (text : List ℕ) (u t : Tree) (c : Bool) → is_profile_filter text u ≡ c → ◌≡◌ {A = Option Tree} (cond c (Some u) None) (Some t)
    → is_profile_filter text t ≡ true
kept_by text u t c e h = grind arith

kept : (text : List ℕ) (t : Tree) (o : Option (Tree × List ℕ)) → option_and_then (taken text) o ≡ Some t → is_profile_filter text t ≡ true
kept text t o h = grind (arith, kept_by)

pub filter_tree : (text : List ℕ) (t : Tree) → filter_of text ≡ Some t → IsProfileFilter text t
filter_tree text t h = passes text t (kept text t (or_at (3 * length text + 3) text) h)

pub tree_filter : (text : List ℕ) (t : Tree) → IsProfileFilter text t → filter_of text ≡ Some t
tree_filter text t h = grind (arith, parsed, passed)

pub no_filter : (text : List ℕ) → filter_of text ≡ None → IsInProfile text → ⊥
no_filter text e (t, h) = let some = tree_filter text t h in cc

none_by : (text : List ℕ) (o : Option Tree) → filter_of text ≡ o → (IsInProfile text → ⊥) → filter_of text ≡ None
none_by text o e h = grind (arith, filter_tree)

pub filter_none : (text : List ℕ) → (IsInProfile text → ⊥) → filter_of text ≡ None
filter_none text h = none_by text (filter_of text) refl h

-- what the descent answers for a text of the profile
pub tree_found : (text : List ℕ) (u : Tree) (r : List ℕ) → IsInProfile text → or_at (3 * length text + 3) text ≡ Some (u, r) → IsProfileFilter text u
tree_found text u r (t, h) e = subst (IsProfileFilter text) (found text (3 * length text + 3) t u r h.filter (omega arith) e) h

pub none_missing : (text : List ℕ) (e : ParseFault) → IsInProfile text → e ≡ Missing → (e ≡ Memory)
    ⊎ ((e ≡ Missing) × (or_at (3 * length text + 3) text ≡ None)) → ⊥
none_missing text e p h h4 = grind (arith, parsed)
