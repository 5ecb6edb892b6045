-- What a filter's tree says depends on what it names alone.
use Rattle.target_filter.proofs.Common.{◌≡◌, List, [], ◌∷◌, ℕ, Bool, true, false, cond, ◌&&◌, ◌||◌, ap, refl, sym, ◌∙◌, arith, nat_eq, ◌==◌, pointwise, Target}
use Rattle.target_filter.proofs.Common.{Field, Id, Name, Tag, Attribute, Operator, Value, Tree, Or, And, Group, Comparison, holds, false≢true, nat_tests}
use Rattle.target_filter.proofs.Common.{subst, is_empty, with_first_byte}
use Rattle.target_filter.proofs.GreedyMatching.{in_front_one, whole_is}
use Rattle.target_filter.specs.Meaning.{field_matches, attribute_matches, compared, pattern_of}
use Rattle.target_filter.specs.Patterns.{matches, pieces}
use Rattle.target_filter.specs.Names.{AreAlikeWhereNamed, before_star, first_piece, first_tag, first_told, is_only, is_tag_field, names_attributes}
use Rattle.target_filter.specs.Names.{names_names, names_only}
use Rattle.target_filter.specs.Names.{names_tags, only_tag}
use Rattle.target_filter.specs.Names.{tag_start, tags_like}
use Rattle.std.specs.Prelude.{filter}
use Rattle.std.specs.List.{list_any}

or_left : (a b : Bool) → a ≡ true → a || b ≡ true
or_left a b h = grind arith

or_right : (a b : Bool) → b ≡ true → a || b ≡ true
or_right a b h = grind arith

and_left : (a b : Bool) → a && b ≡ true → a ≡ true
and_left a b h = grind arith

and_right : (a b : Bool) → a && b ≡ true → b ≡ true
and_right a b h = grind arith

both_ways : (a b c d : Bool) → a ≡ c → b ≡ d → a || b ≡ c || d
both_ways a b c d h k = grind arith

and_ways : (a b c d : Bool) → a ≡ c → b ≡ d → a && b ≡ c && d
and_ways a b c d h k = grind arith

-- ---- a text without a star

abbrev IsPlain : List ℕ → Type 0
IsPlain text = pieces text ≡ text ∷ []

byte_in_front : (b : ℕ) (ps : List (List ℕ)) → first_piece (with_first_byte b ps) ≡ b ∷ first_piece ps
byte_in_front b [] = refl
byte_in_front b (p ∷ ps) = refl

plain_more : (b : ℕ) (bs : List ℕ) (c : Bool) → (b == 42) ≡ c → IsPlain (before_star bs)
    → IsPlain (first_piece (cond c ([] ∷ pieces bs) (with_first_byte b (pieces bs))))
plain_more b bs true e so = refl
plain_more b bs false e so =
    let front = byte_in_front b (pieces bs) in
    ap pieces front ∙ in_front_one b (before_star bs) false e refl so ∙ ap (λ x. x ∷ []) (sym front)

before_plain : (pattern : List ℕ) → IsPlain (before_star pattern)
before_plain [] = refl
before_plain (b ∷ bs) = plain_more b bs (b == 42) refl (before_plain bs)

told_plain : (first other : List ℕ) → IsPlain first → IsPlain other → IsPlain (first_told first other)
told_plain [] other h k = k
told_plain (b ∷ bs) other h k = h

start_plain : (f : Field) (start : List ℕ) → IsPlain start → IsPlain (tag_start f start)
start_plain Id start h = refl
start_plain Name start h = refl
start_plain Tag start h = h
start_plain (Attribute key) start h = refl

first_plain : (tree : Tree) → IsPlain (first_tag tree)
first_plain (Or l r) = told_plain (first_tag l) (first_tag r) (first_plain l) (first_plain r)
first_plain (And l r) = told_plain (first_tag l) (first_tag r) (first_plain l) (first_plain r)
first_plain (Group tree) = first_plain tree
first_plain (Comparison f o v) = start_plain f (before_star (pattern_of v)) (before_plain (pattern_of v))

pointwise_swap : (v w : List ℕ) → pointwise nat_eq v w ≡ pointwise nat_eq w v
pointwise_swap [] [] = refl
pointwise_swap [] (b ∷ w) = refl
pointwise_swap (a ∷ v) [] = refl
pointwise_swap (a ∷ v) (b ∷ w) = grind (arith, pointwise_swap v w, nat_tests)

same_text : (v w : List ℕ) → pointwise nat_eq v w ≡ true → v ≡ w
same_text [] [] h = refl
same_text [] (b ∷ w) h = absurd (false≢true h)
same_text (a ∷ v) [] h = absurd (false≢true h)
same_text (a ∷ v) (b ∷ w) h = grind (arith, same_text v w, nat_tests)

-- it matches where it is the text
plain_matches : (tag w : List ℕ) → IsPlain tag → matches tag w ≡ pointwise nat_eq w tag
plain_matches tag w plain = sym (whole_is tag w (pointwise nat_eq tag w) plain refl) ∙ pointwise_swap tag w

-- some tag is this one, among those that are
one_kept : (p : List ℕ → Bool) (w : List ℕ) (kept ws : List (List ℕ)) (b : Bool) → p w ≡ b → list_any p kept ≡ list_any p ws
    → list_any p (cond b (w ∷ kept) kept) ≡ p w || list_any p ws
one_kept p w kept ws true is so = grind arith
one_kept p w kept ws false is so = grind arith

any_kept : (p : List ℕ → Bool) (ws : List (List ℕ)) → list_any p (filter p ws) ≡ list_any p ws
any_kept p [] = refl
any_kept p (w ∷ ws) = one_kept p w (filter p ws) ws (p w) refl (any_kept p ws)

any_so : (p q : List ℕ → Bool) → ((w : List ℕ) → p w ≡ q w) → (ws : List (List ℕ)) → list_any p ws ≡ list_any q ws
any_so p q so [] = refl
any_so p q so (w ∷ ws) = λ i. so w i || any_so p q so ws i

-- ---- alike targets

-- some tag matches the pattern of each comparison of tags where one of the others does
abbrev TagsAlike : Tree → (ts us : List (List ℕ)) → Type 0
TagsAlike (Or l r) ts us = TagsAlike l ts us × TagsAlike r ts us
TagsAlike (And l r) ts us = TagsAlike l ts us × TagsAlike r ts us
TagsAlike (Group tree) ts us = TagsAlike tree ts us
TagsAlike (Comparison f o v) ts us = names_tags (Comparison f o v) ≡ true → list_any (matches (pattern_of v)) ts ≡ list_any (matches (pattern_of v)) us

same_tags : (tree : Tree) (ts us : List (List ℕ)) → (names_tags tree ≡ true → ts ≡ us) → TagsAlike tree ts us
same_tags (Or l r) ts us same = (same_tags l ts us (λ e. same (or_left _ _ e)), same_tags r ts us (λ e. same (or_right _ _ e)))
same_tags (And l r) ts us same = (same_tags l ts us (λ e. same (or_left _ _ e)), same_tags r ts us (λ e. same (or_right _ _ e)))
same_tags (Group tree) ts us same = same_tags tree ts us same
same_tags (Comparison f o v) ts us same = λ e. ap (list_any (matches (pattern_of v))) (same e)

abbrev has_tag : List ℕ → List (List ℕ) → Bool
has_tag tag ws = list_any (λ (w : List ℕ). pointwise nat_eq w tag) ws

only_text : (tag : List ℕ) (f : Field) (v : Value) → is_tag_field f ≡ true → is_only tag f (pattern_of v) ≡ true → pattern_of v ≡ tag
only_text tag Tag v e h = same_text (pattern_of v) tag h
only_text tag Id v e h = absurd (false≢true e)
only_text tag Name v e h = absurd (false≢true e)
only_text tag (Attribute key) v e h = absurd (false≢true e)

says_of : (tag p : List ℕ) → IsPlain tag → p ≡ tag → (ws : List (List ℕ)) → list_any (matches p) ws ≡ has_tag tag ws
says_of tag p plain is ws = ap (λ x. list_any (matches x) ws) is
    ∙ any_so (matches tag) (λ (w : List ℕ). pointwise nat_eq w tag) (λ w. plain_matches tag w plain) ws

only_tags : (tag : List ℕ) → IsPlain tag → (tree : Tree) → names_only tag tree ≡ true → (ts us : List (List ℕ)) → (names_tags tree ≡ true
    → has_tag tag ts ≡ has_tag tag us) → TagsAlike tree ts us
only_tags tag plain (Or l r) only ts us same =
    (only_tags tag plain l (and_left _ _ only) ts us (λ e. same (or_left _ _ e)), only_tags tag plain r (and_right _ _ only) ts us (λ e. same (or_right _ _ e)))
only_tags tag plain (And l r) only ts us same =
    (only_tags tag plain l (and_left _ _ only) ts us (λ e. same (or_left _ _ e)), only_tags tag plain r (and_right _ _ only) ts us (λ e. same (or_right _ _ e)))
only_tags tag plain (Group tree) only ts us same = only_tags tag plain tree only ts us same
only_tags tag plain (Comparison f o v) only ts us same = λ e.
    let is = only_text tag f v e only in
    says_of tag (pattern_of v) plain is ts ∙ same e ∙ sym (says_of tag (pattern_of v) plain is us)

-- where one is named alone, it is without a star
named_only : (tree : Tree) (b : ℕ) (bs : List ℕ) → only_tag tree ≡ b ∷ bs → IsPlain (b ∷ bs) × (names_only (b ∷ bs) tree ≡ true)
named_only tree b bs is = go (names_only (first_tag tree) tree) refl
  where
    go : (c : Bool) → names_only (first_tag tree) tree ≡ c → IsPlain (b ∷ bs) × (names_only (b ∷ bs) tree ≡ true)
    go true e =
        let first : first_tag tree ≡ b ∷ bs = sym (ap (λ x. cond x (first_tag tree) []) e) ∙ is in
        (subst IsPlain first (first_plain tree), ap (λ x. names_only x tree) (sym first) ∙ e)
    go false e = absurd (false≢true (sym (ap is_empty (sym (ap (λ x. cond x (first_tag tree) []) e) ∙ is))))

-- tags that are alike as far as the filter names one alone are alike to it
like_tags : (tree : Tree) (ts us : List (List ℕ)) → (tag : List ℕ) → only_tag tree ≡ tag → (names_tags tree ≡ true → tags_like tag ts ≡ tags_like tag us)
    → TagsAlike tree ts us
like_tags tree ts us [] is same = same_tags tree ts us same
like_tags tree ts us (b ∷ bs) is same =
    let named = named_only tree b bs is in
    only_tags (b ∷ bs) named.0 tree named.1 ts us (λ e. sym (any_kept (λ (w : List ℕ). pointwise nat_eq w (b ∷ bs)) ts)
    ∙ ap (has_tag (b ∷ bs)) (same e) ∙ any_kept (λ (w : List ℕ). pointwise nat_eq w (b ∷ bs)) us)

record AreAlike (tree : Tree) (t u : Target) : Type 0 where
  id : t.id ≡ u.id
  name : names_names tree ≡ true → t.name ≡ u.name
  tags : TagsAlike tree t.tags u.tags
  attributes : names_attributes tree ≡ true → t.attributes ≡ u.attributes

-- of a comparison: what its field names is alike
fields_alike : (f : Field) (o : Operator) (v : Value) (t u : Target) → AreAlike (Comparison f o v) t u
    → field_matches f (pattern_of v) t ≡ field_matches f (pattern_of v) u
fields_alike Id o v t u h = ap (matches (pattern_of v)) h.id
fields_alike Name o v t u h = ap (matches (pattern_of v)) (h.name refl)
fields_alike Tag o v t u h = h.tags refl
fields_alike (Attribute key) o v t u h = ap (list_any (attribute_matches key (pattern_of v))) (h.attributes refl)

says_alike : (tree : Tree) (t u : Target) → AreAlike tree t u → holds tree t ≡ holds tree u
says_alike (Or l r) t u h = both_ways _ _ _ _
    (says_alike l t u (record { id = h.id; name = λ e. h.name (or_left _ _ e); tags = h.tags.0; attributes = λ e. h.attributes (or_left _ _ e) }))
    (says_alike r t u (record { id = h.id; name = λ e. h.name (or_right _ _ e); tags = h.tags.1; attributes = λ e. h.attributes (or_right _ _ e) }))
says_alike (And l r) t u h = and_ways _ _ _ _
    (says_alike l t u (record { id = h.id; name = λ e. h.name (or_left _ _ e); tags = h.tags.0; attributes = λ e. h.attributes (or_left _ _ e) }))
    (says_alike r t u (record { id = h.id; name = λ e. h.name (or_right _ _ e); tags = h.tags.1; attributes = λ e. h.attributes (or_right _ _ e) }))
says_alike (Group tree) t u h = says_alike tree t u (record { id = h.id; name = λ e. h.name e; tags = h.tags; attributes = λ e. h.attributes e })
says_alike (Comparison f o v) t u h = ap (compared o) (fields_alike f o v t u h)

pub holds_alike : (tree : Tree) (t u : Target) → AreAlikeWhereNamed tree t u → holds tree t ≡ holds tree u
holds_alike tree t u h =
    says_alike tree t u (record { id = h.id; name = h.name; tags = like_tags tree t.tags u.tags (only_tag tree) refl h.tags; attributes = h.attributes })
