-- Listed targets that a filter matches, by what it names of them.
use Rattle.desk_reads.proofs.Common.{◌≡◌, ℕ, ◌+◌, ◌≤◌, Bool, true, false, List, [], ◌∷◌, map, length, take, drop, Option, Some, None, refl, sym, ap, ◌∙◌}
use Rattle.desk_reads.proofs.Common.{arith, Bytes, Records, true≢false, in_byte_order, tags_of, target_of}
use Rattle.std.specs.Prelude.{◌++◌, ◌*◌, ◌/◌, ◌%◌, cond, min, filter}
use Rattle.std.specs.List.{AllByRecursion}
use Rattle.std.specs.Option.{IsSomeAnd}
use Rattle.std.proofs.lemmas.List.{drop-drop, drop-map, length-map, map-append, take-map, take_all}
use Rattle.std.proofs.lemmas.List.Elements.{filter-append}
use Rattle.std.proofs.Math.Nat.{mul-le-mul_left, mul-suc}
use Rattle.desk_reads.proofs.Common.{add-one}
use Rattle.std.proofs.Math.Seq.{take-add}
use Rattle.std.specs.Int.{div_ceil}
use Rattle.std.proofs.lemmas.Grind.{div_ceil_times}
use Rattle.rollout_machine.specs.Filters.{matches}
use Rattle.rollout_machine.specs.Rollouts.{chosen}
use Rattle.rollout_machine.specs.Targets.{Target}
use Rattle.rollout_model.specs.declared.target.Target.{Target as SeenTarget}
use Rattle.target_filter.proofs.Naming.{holds_alike}
use Rattle.target_filter.specs.Grammar.{Tree}
use Rattle.target_filter.specs.Meaning.{holds}
use Rattle.target_filter.specs.Names.{names_attributes, names_tags, only_tag, tags_like}
use Rattle.desk_records.specs.declared.target_row.ListedTarget.{ListedTarget}
use Rattle.desk_records.specs.declared.target_row.OwnedAttribute.{OwnedAttribute}
use Rattle.desk_records.specs.declared.target_row.OwnedTag.{OwnedTag}
use Rattle.desk_reads.proofs.Owned.{all_so, like_again, no_lists}
use Rattle.desk_reads.proofs.WordOrder.{order_dropped, order_taken}
use Rattle.desk_reads.specs.private.Candidates.{AreCandidates}
use Rattle.desk_reads.specs.Matches.{AreNamedAttributes, AreNamedTags, HasNamedAttributes, HasNamedTags, attributes_reads, ids_matched, is_matched}
use Rattle.desk_reads.specs.Matches.{reads_named, tags_reads, those_matched}
use Rattle.std.specs.Prelude.{flat_map}
use Rattle.rollout_machine.specs.ByteStrings.{same_bytes}
use Rattle.desk_records.proofs.Membership.{few_pass}
use Rattle.desk_records.specs.TargetRow.{owned_tags}
use Rattle.desk_records.specs.Targets.{are_sorted, targets_between}
use Rattle.desk_reads.proofs.Owned.{tag_between}
use Rattle.desk_reads.specs.Targets.{AreAttributesOf, AreEnds, AreTagsLike, HasItsAttributes, HasTagsLike, listed_ids, own_listed, own_tags, target_listed}

-- ---- what a filter names

-- what is computed of the filter's tree is that of this one
pub of_tree : {X : Type 0} (o : Option Tree) (f : Tree) (x : X) (of : Tree → X) → IsSomeAnd o (λ f. x ≡ of f) → o ≡ Some f → x ≡ of f
of_tree o f x of computed is = rw is at computed

module _ (r : Records) (o : Option Tree) (ls : List ListedTarget) where
  pub no_tags_named : (names : Bool) → IsSomeAnd o (λ f. names ≡ names_tags f) → names ≡ false → AreNamedTags r o ls []
  no_tags_named names computed none = record {
    rise = refl;
    lists = no_lists r;
    each = λ f tree ordered. all_so (HasNamedTags r f []) (λ l named. absurd (true≢false (sym named ∙ sym (of_tree o f names names_tags computed tree) ∙ none)))
        ls;
  }

  pub no_attributes_named : (names : Bool) → IsSomeAnd o (λ f. names ≡ names_attributes f) → names ≡ false → AreNamedAttributes r o ls []
  no_attributes_named names computed none = record {
    rise = refl;
    each = λ f tree ordered. all_so (HasNamedAttributes r f [])
        (λ l named. absurd (true≢false (sym named ∙ sym (of_tree o f names names_attributes computed tree) ∙ none))) ls;
  }

  each_named : (f : Tree) (owned : List OwnedTag) (ks : List ListedTarget) → AllByRecursion (HasTagsLike r [] owned) ks
      → AllByRecursion (HasNamedTags r f owned) ks
  each_named f owned [] each = tt
  each_named f owned (k ∷ ks) each = (λ named. ap (tags_like (only_tag f)) each.0, each_named f owned ks each.1)

  pub all_tags_named : (owned : List OwnedTag) → AreTagsLike r [] ls owned → AreNamedTags r o ls owned
  all_tags_named owned are = record {
    rise = are.rise;
    lists = are.lists;
    each = λ f tree ordered. each_named f owned ls (are.each ordered);
  }

  each_like : (f : Tree) (tag : Bytes) → tag ≡ only_tag f → (owned : List OwnedTag) (ks : List ListedTarget) → AllByRecursion (HasTagsLike r tag owned) ks
      → AllByRecursion (HasNamedTags r f owned) ks
  each_like f tag only owned [] each = tt
  each_like f tag only owned (k ∷ ks) each = (
    λ named. ap (λ w. tags_like w (own_tags k.id owned)) (sym only) ∙ ap (tags_like tag) each.0 ∙ like_again tag (tags_of (target_of r k.id))
        ∙ ap (λ w. tags_like w (tags_of (target_of r k.id))) only,
    each_like f tag only owned ks each.1,
  )

  pub tags_named : (owned : List OwnedTag) (tag : Bytes) → IsSomeAnd o (λ f. tag ≡ only_tag f) → AreTagsLike r tag ls owned → AreNamedTags r o ls owned
  tags_named owned tag computed are = record {
    rise = are.rise;
    lists = are.lists;
    each = λ f tree ordered. each_like f tag (of_tree o f tag only_tag computed tree) owned ls (are.each ordered);
  }

  each_attribute : (f : Tree) (owned : List OwnedAttribute) (ks : List ListedTarget) → AllByRecursion (HasItsAttributes r owned) ks
      → AllByRecursion (HasNamedAttributes r f owned) ks
  each_attribute f owned [] each = tt
  each_attribute f owned (k ∷ ks) each = (λ named. each.0, each_attribute f owned ks each.1)

  pub attributes_named : (owned : List OwnedAttribute) → AreAttributesOf r ls owned → AreNamedAttributes r o ls owned
  attributes_named owned are = record { rise = are.rise; each = λ f tree ordered. each_attribute f owned ls (are.each ordered) }

-- ---- one tag

pub empty_tag : (r : Records) (tag : Bytes) (listed : List ListedTarget) (owned : List OwnedTag) → length tag ≡ 0 → AreTagsLike r [] listed owned
    → AreTagsLike r tag listed owned
empty_tag r [] listed owned is are = are
empty_tag r (b ∷ bs) listed owned is are = absurd (omega (arith, is))

pub one_tag_between : (r : Records) → are_sorted r.targets ≡ true → (tag first last : Bytes) (listed : List ListedTarget) (owned : List OwnedTag)
    → 1 ≤ length tag → AreEnds listed first last
    → owned ≡ filter (λ (o : OwnedTag). same_bytes o.tag tag) (flat_map owned_tags (targets_between first last r)) → AreTagsLike r tag listed owned
one_tag_between r sorted [] first last listed owned some ends is = absurd (omega (arith, some))
one_tag_between r sorted (b ∷ bs) first last listed owned some ends is = tag_between r sorted b bs first last listed owned ends is

-- ---- those that match

module _ (r : Records) (f : Tree) (tags : List OwnedTag) (attributes : List OwnedAttribute) where
  -- a filter says of a target with what it names what it says of the whole one
  matched_alike : (l : ListedTarget) → HasNamedTags r f tags l → HasNamedAttributes r f attributes l
      → holds f (own_listed tags attributes l) ≡ is_matched r f l
  matched_alike l tagged attributed =
      holds_alike f (own_listed tags attributes l) (target_listed r l) (record { id = refl; name = λ names. refl; tags = tagged; attributes = attributed })

  pub kept_matched : (ls : List ListedTarget) → AllByRecursion (HasNamedTags r f tags) ls → AllByRecursion (HasNamedAttributes r f attributes) ls
      → ids_matched f (map (own_listed tags attributes) ls) ≡ those_matched r f ls
  kept_matched [] tagged attributed = refl
  kept_matched (l ∷ ls) tagged attributed = grind (arith, matched_alike l tagged.0 attributed.0, kept_matched ls tagged.1 attributed.1)

module _ (f : Tree) where
  pub matched_more : (ts : List SeenTarget) (t : SeenTarget) → ids_matched f (ts ++ t ∷ []) ≡ ids_matched f ts ++ ids_matched f (t ∷ [])
  matched_more ts t = ap (map (λ (t : SeenTarget). t.id)) (filter-append (holds f) ts (t ∷ []))
      ∙ map-append (λ (t : SeenTarget). t.id) (filter (holds f) ts) (filter (holds f) (t ∷ []))

-- its id is added where it matches
pub one_matched : (o : Option Tree) (f : Tree) (t : SeenTarget) (is_match : Bool) → IsSomeAnd o (λ f. is_match ≡ holds f t) → o ≡ Some f
    → ids_matched f (t ∷ []) ≡ cond is_match (t.id ∷ []) []
one_matched o f t is_match computed tree = let matched : is_match ≡ holds f t = (rw tree at computed) in grind (arith, matched)

-- ---- of all targets

pub matching_are : (r : Records) (o : Option Tree) (ls : List ListedTarget) (ids : List Bytes) → IsSomeAnd o (λ f. AreCandidates r f ls)
    → (in_byte_order (listed_ids ls) ≡ true → (f : Tree) → o ≡ Some f → ids ≡ those_matched r f ls) → IsSomeAnd o (λ f. ids ≡ chosen (Some f) r.targets)
matching_are r None ls ids are is = absurd are
matching_are r (Some f) ls ids are is = is are.ordered f refl ∙ are.matching

-- whatever the filter's tree is
pub few_matching : (r : Records) (o : Option Tree) (ids : List Bytes) → IsSomeAnd o (λ f. ids ≡ chosen (Some f) r.targets) → length ids ≤ length r.targets
few_matching r None ids are = absurd are
few_matching r (Some f) ids are =
    omega (arith, ap length are, length-map (filter (matches f) r.targets) (λ (t : Target). t.id), few_pass (matches f) r.targets)

-- ---- part by part

module _ (p : ListedTarget → Bool) (listed : List ListedTarget) where
  abbrev kept : List ListedTarget → List Bytes
  kept ls = listed_ids (filter p ls)

  pub next_kept : (k : ℕ) (ids more : List Bytes) (part : List ListedTarget) → part ≡ take 100 (drop (k * 100) listed) → ids ≡ kept (take (k * 100) listed)
      → more ≡ ids ++ kept part → more ≡ kept (take ((k + 1) * 100) listed)
  next_kept k ids more part is was now = grind (arith, take-add (k * 100) 100 listed, filter-append, map-append)

  pub all_kept : (ids : List Bytes) (k : ℕ) → k ≡ length listed / 100 + min 1 (length listed % 100) → ids ≡ kept (take (k * 100) listed) → ids ≡ kept listed
  all_kept ids k end was =
      let enough = (div_ceil_times (length listed) 100 (omega arith)).0 in
      was ∙ ap kept (take_all (k * 100) listed (omega (arith, end, enough)))

-- the next part is in byte order
pub next_ordered : (listed : List ListedTarget) → in_byte_order (listed_ids listed) ≡ true → (k : ℕ) (part : List ListedTarget)
    → part ≡ take 100 (drop (k * 100) listed) → in_byte_order (listed_ids part) ≡ true
next_ordered listed ordered k part is =
    let named : listed_ids part ≡ take 100 (drop (k * 100) (listed_ids listed)) =
    ap listed_ids is ∙ sym (take-map (λ (l : ListedTarget). l.id) 100 (drop (k * 100) listed))
    ∙ ap (take 100) (sym (drop-map (λ (l : ListedTarget). l.id) (k * 100) listed)) in
    ap in_byte_order named ∙ order_taken 100 (drop (k * 100) (listed_ids listed)) (order_dropped (k * 100) (listed_ids listed) ordered)

pub next_left : {X : Type 0} (k : ℕ) (xs left more : List X) → left ≡ drop (k * 100) xs → more ≡ drop 100 left → more ≡ drop ((k + 1) * 100) xs
next_left k xs left more was is = grind (arith, drop-drop 100 (k * 100) xs)

-- ---- by how many statements

pub one_part_more : (reads start was now k : ℕ) → was ≤ start + reads * k → now ≤ was + reads → now ≤ start + reads * (k + 1)
one_part_more reads start was now k so_far one = let more = mul-suc reads k in let same = ap (λ n. reads * n) (add-one k) in
    omega (arith, so_far, one, more, same)

pub parts_ended : (reads start now k parts : ℕ) → now ≤ start + reads * k → k ≡ parts → now ≤ start + reads * parts
parts_ended reads start now k parts so_far all = rw all at so_far

parts_grow : (a b : ℕ) → a ≤ b → div_ceil a 100 ≤ div_ceil b 100
parts_grow a b few =
    let low = (div_ceil_times a 100 (omega arith)).1 in
    let high = (div_ceil_times b 100 (omega arith)).0 in
    omega (arith, few, low, high)

-- so many of all targets are listed
pub reads_of_all : (o : Option Tree) (listed all start mid now : ℕ) → listed ≤ all → mid ≤ start + 1 → now ≤ mid + reads_named o listed
    → now ≤ start + (1 + reads_named o all)
reads_of_all o listed all start mid now few one more =
    let grown = mul-le-mul_left (tags_reads o + attributes_reads o) (parts_grow listed all few) in
    omega (arith, one, more, grown)
