-- Which targets a filter can match, by how it says that an id begins.
use Rattle.desk_reads.proofs.Common.{◌≡◌, ℕ, ◌+◌, ◌≤◌, Bool, true, false, List, [], ◌∷◌, map, length, Option, Some, None, refl, sym, ap, ◌∙◌, subst, arith}
use Rattle.desk_reads.proofs.Common.{true≢false, and_parts, and_from, list_all, Bytes, Records, Target, are_sorted, ids_of, in_byte_order}
use Rattle.std.specs.Prelude.{◌++◌, filter}
use Rattle.std.specs.Option.{IsSomeAnd}
use Rattle.std.proofs.lemmas.Bool.Decides.{nat_tests}
use Rattle.std.proofs.lemmas.List.{length-map}
use Rattle.rollout_machine.specs.ByteStrings.{bytes_below}
use Rattle.rollout_machine.specs.Filters.{matches}
use Rattle.rollout_machine.specs.Verdicts.{tags_of, target_of}
use Rattle.target_filter.proofs.IdStarts.{begins_so}
use Rattle.target_filter.proofs.Naming.{holds_alike}
use Rattle.target_filter.specs.Grammar.{Tree}
use Rattle.target_filter.specs.Names.{BeginsWith, id_start, names_names, only_tag, tags_like}
use Rattle.desk_records.proofs.Membership.{few_pass}
use Rattle.desk_records.specs.TargetRow.{listed_target}
use Rattle.desk_records.specs.Targets.{attributes_of, is_between, targets_between}
use Rattle.desk_records.specs.declared.target_row.ListedTarget.{ListedTarget}
use Rattle.desk_reads.proofs.ListedTargets.{found, passing_found}
use Rattle.desk_reads.proofs.Owned.{ids_listed}
use Rattle.desk_reads.specs.private.Candidates.{AreBegun, AreCandidates, IsNextTo}
use Rattle.desk_reads.specs.Matches.{is_matched, those_matched}
use Rattle.desk_reads.specs.Targets.{listed_ids, target_listed}
use Rattle.rollout_machine.proofs.Words.{seen}

-- ---- from a text to the next one

-- what begins with a text isn't below it
not_below : (start rest : Bytes) → bytes_below (start ++ rest) start ≡ false
not_below [] rest = refl
not_below (x ∷ xs) rest = grind (arith, nat_tests, not_below xs rest)

-- .. and not above the next one
not_above : (before : Bytes) (byte : ℕ) (rest : Bytes) → bytes_below (before ++ (byte + 1) ∷ []) ((before ++ byte ∷ []) ++ rest) ≡ false
not_above [] byte rest = grind (arith, nat_tests)
not_above (x ∷ xs) byte rest = grind (arith, nat_tests, not_above xs byte rest)

begun_between : (first second : Bytes) → IsNextTo first second → (t : Target) → BeginsWith first t.id → is_between first second t ≡ true
begun_between first second next t begins =
    let is : t.id ≡ (next.before ++ next.byte ∷ []) ++ begins.0 = begins.1 ∙ ap (λ f. f ++ begins.0) next.first_is in
    let low : bytes_below t.id first ≡ false = ap (λ i. bytes_below i first) begins.1 ∙ not_below first begins.0 in
    let high : bytes_below second t.id ≡ false = ap (λ s. bytes_below s t.id) next.second_is ∙ ap (bytes_below (next.before ++ (next.byte + 1) ∷ [])) is
    ∙ not_above next.before next.byte begins.0 in
    rw (low, high) refl

-- ---- those that were listed

pub between_begun : (r : Records) (first second : Bytes) (ls : List ListedTarget) → IsNextTo first second
    → ls ≡ map listed_target (targets_between first second r) → AreBegun r first ls
between_begun r first second ls next is = record { test = is_between first second; passes = begun_between first second next; are = is }

all_pass : (ts : List Target) → filter (λ (t : Target). true) ts ≡ ts
all_pass [] = refl
all_pass (t ∷ ts) = ap (λ l. t ∷ l) (all_pass ts)

pub all_begun : (r : Records) (start : Bytes) (ls : List ListedTarget) → ls ≡ map listed_target r.targets → AreBegun r start ls
all_begun r start ls is = record { test = λ (t : Target). true; passes = λ t begins. refl; are = is ∙ ap (map listed_target) (sym (all_pass r.targets)) }

-- ---- what passes a test

module _ (p : Target → Bool) where
  all_above : (id : Bytes) (ts : List Target) → list_all (bytes_below id) (ids_of ts) ≡ true → list_all (bytes_below id) (ids_of (filter p ts)) ≡ true
  all_above id [] all = refl
  all_above id (t ∷ ts) all = grind (arith, all_above id ts, and_parts, and_from)

  in_order : (ts : List Target) → in_byte_order (ids_of ts) ≡ true → in_byte_order (ids_of (filter p ts)) ≡ true
  in_order [] ordered = refl
  in_order (t ∷ ts) ordered = grind (arith, in_order ts, all_above t.id ts, and_parts, and_from)

  -- none is lost that a filter matches
  none_lost : (f : Tree) → ((t : Target) → matches f t ≡ true → p t ≡ true) → (ts : List Target) → filter (matches f) (filter p ts)
      ≡ filter (matches f) ts
  none_lost f passes [] = refl
  none_lost f passes (t ∷ ts) = grind (arith, none_lost f passes ts, passes t)

-- ---- candidates

module _ (r : Records) (f : Tree) where
  -- a target matches as it is listed, by its name where the filter names names
  listed_alike : (l : ListedTarget) (t : Target) → found r.targets t ≡ Some t → l.id ≡ t.id → (names_names f ≡ true → l.name ≡ t.name)
      → is_matched r f l ≡ matches f t
  listed_alike l t is same named = holds_alike f (target_listed r l) (seen t) (record {
    id = same;
    name = named;
    tags = λ names. ap (tags_like (only_tag f)) (ap (λ i. tags_of (target_of r i)) same ∙ ap tags_of is);
    attributes = λ names. ap (λ i. attributes_of (target_of r i)) same ∙ ap attributes_of is;
  })

  listed_matched : (ls : List ListedTarget) (ts : List Target) → map (found r.targets) ts ≡ map Some ts → listed_ids ls ≡ ids_of ts
      → (names_names f ≡ true → ls ≡ map listed_target ts) → those_matched r f ls ≡ ids_of (filter (matches f) ts)
  listed_matched [] [] is ids named = refl
  listed_matched [] (t ∷ ts) is ids named = absurd cc
  listed_matched (l ∷ ls) [] is ids named = absurd cc
  listed_matched (l ∷ ls) (t ∷ ts) is ids named =
      let one = listed_alike l t (grind arith) (grind arith) (λ names. let it = named names in grind arith) in
      let more = listed_matched ls ts (grind arith) (grind arith) (λ names. let it = named names in grind arith) in
      grind arith

  module _ (sorted : are_sorted r.targets ≡ true) where
    are_candidates : (ls : List ListedTarget) (test : Target → Bool) → ((t : Target) → matches f t ≡ true → test t ≡ true)
        → listed_ids ls ≡ ids_of (filter test r.targets) → (names_names f ≡ true → ls ≡ map listed_target (filter test r.targets)) → AreCandidates r f ls
    are_candidates ls test passes ids named = record {
      matching = listed_matched ls (filter test r.targets) (passing_found r sorted test) ids named ∙ ap ids_of (none_lost test f passes r.targets);
      ordered = ap in_byte_order ids ∙ in_order test r.targets (and_parts (in_byte_order (ids_of r.targets)) _ sorted).0;
      few = omega (
        arith,
        ap length ids,
        length-map ls (λ (l : ListedTarget). l.id),
        length-map (filter test r.targets) (λ (t : Target). t.id),
        few_pass test r.targets,
      );
    }

    begun_candidates : (ls : List ListedTarget) → AreBegun r (id_start f) ls → AreCandidates r f ls
    begun_candidates ls begun = are_candidates ls begun.test (λ t so. begun.passes t (begins_so f (seen t) so))
        (ap listed_ids begun.are ∙ ids_listed (filter begun.test r.targets)) (λ names. begun.are)

    unnamed_candidates : (ls : List ListedTarget) → listed_ids ls ≡ ids_of r.targets → names_names f ≡ false → AreCandidates r f ls
    unnamed_candidates ls ids none = are_candidates ls (λ t. true) (λ t so. refl) (ids ∙ ap ids_of (sym (all_pass r.targets)))
        (λ names. absurd (true≢false (sym names ∙ none)))

module _ (r : Records) (sorted : are_sorted r.targets ≡ true) where
  pub candidates_are : (o : Option Tree) (start : Bytes) (ls : List ListedTarget) → IsSomeAnd o (λ f. start ≡ id_start f) → AreBegun r start ls
      → IsSomeAnd o (λ f. AreCandidates r f ls)
  candidates_are None start ls starts begun = absurd starts
  candidates_are (Some f) start ls starts begun = begun_candidates r f sorted ls (subst (λ s. AreBegun r s ls) starts begun)

  pub unnamed_are : (o : Option Tree) (names : Bool) (ls : List ListedTarget) → IsSomeAnd o (λ f. names ≡ names_names f) → names ≡ false
      → listed_ids ls ≡ ids_of r.targets → IsSomeAnd o (λ f. AreCandidates r f ls)
  unnamed_are None names ls computed none ids = absurd computed
  unnamed_are (Some f) names ls computed none ids = unnamed_candidates r f sorted ls ids (sym computed ∙ none)

-- whatever the filter's tree is
pub few_candidates : (r : Records) (o : Option Tree) (ls : List ListedTarget) → IsSomeAnd o (λ f. AreCandidates r f ls) → length ls ≤ length r.targets
few_candidates r None ls are = absurd are
few_candidates r (Some f) ls are = are.few
