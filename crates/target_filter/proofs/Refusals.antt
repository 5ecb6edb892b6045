-- From the scanner's answer to the reader's.
use Rattle.target_filter.proofs.Common.{◌≡◌, ℕ, ◌≤◌, ◌<◌, List, length, arith, ap, None, Result, Ok, Err, IsUtf8, StopsBehind, Ends, Tree, IsInGrammar}
use Rattle.target_filter.proofs.Common.{IsFilter, nesting, IsProfileFilter, IsInProfile, filter_of}
use Rattle.target_filter.specs.Faults.{IsRefused}
use Rattle.target_filter.specs.declared.fault.FilterFault.TheVariants.{Syntax, TooDeep, Memory}
use Rattle.target_filter.specs.declared.fault.FilterFault.{FilterFault}
use Rattle.std.specs.Result.{MatchResult, IfErr}
use Rattle.target_filter.proofs.ParsedTrees.{one_tree}
use Rattle.target_filter.proofs.Profiles.{filter_none}
use Rattle.target_filter.proofs.ScannerStops.{stops_longest, stops_outside, ends_filter}

pub syntax : (text : List ℕ) (n : ℕ) → IsUtf8 text → length text ≤ 512 → StopsBehind text n → IsRefused text (Syntax n)
syntax text n u l h = (l, stops_outside text n h, stops_longest text n u h)

pub too_deep : (text : List ℕ) (n : ℕ) → length text ≤ 512 → Ends text n → 16 < n → IsRefused text TooDeep
too_deep text n l h d = let (t, r) = ends_filter text n h in (l, t, (r.0, omega (arith, r.1)))

pub profile_filter : (text : List ℕ) (n : ℕ) (t : Tree) → length text ≤ 512 → Ends text n → n ≤ 16 → IsFilter text t → IsProfileFilter text t
profile_filter text n t l h d f =
    let (u, r) = ends_filter text n h in
    let same : t ≡ u = one_tree text t u f r.0 in
    record { filter = f; short = l; shallow = rw same (omega (arith, r.1)) }

pub in_profile : (text : List ℕ) (n : ℕ) → length text ≤ 512 → Ends text n → n ≤ 16 → IsInProfile text
in_profile text n l h d = let (t, r) = ends_filter text n h in (t, profile_filter text n t l h d r.0)

pub outside_none : (text : List ℕ) → (IsInGrammar text → ⊥) → filter_of text ≡ None
outside_none text h = filter_none text (λ p. h (p.0, p.1.filter))

pub deep_none : (text : List ℕ) → IsRefused text TooDeep → filter_of text ≡ None
deep_none text (l, t, (f, d)) = filter_none text (λ p. let same : nesting t ≡ nesting p.0 = ap nesting (one_tree text t p.0 f p.1.filter) in
    absurd (omega (arith, p.1.shallow, same, d)))

-- a text of the profile is read, want of memory aside
pub memory : (text : List ℕ) → IsInProfile text → (e : FilterFault) → e ≡ Memory → IsRefused text e
memory text h e same = rw same h

pub within_fault : {A : Type 0} (text : List ℕ) (P : A → Type 0) (r : Result A FilterFault) → IsInProfile text → MatchResult r P (λ e. e ≡ Memory)
    → IfErr r (λ e. IsRefused text e)
within_fault text P (Ok f) h m = tt
within_fault text P (Err e) h m = memory text h e m
