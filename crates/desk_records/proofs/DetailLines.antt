-- Texts of details: each line ended by a line feed.
use Rattle.desk_records.proofs.Common.{◌≡◌, ◌≢◌, ◌≤◌, ◌<◌, ℕ, suc, Bool, true, false, not, nat_eq, List, [], ◌∷◌, ◌++◌, length, get_or, Option, Some, None}
use Rattle.desk_records.proofs.Common.{IfNone, refl, sym, ap, ap₂, subst, ◌∙◌, arith, append-nil, append_assoc, length-append, if◌then◌else◌, list_all, IsUtf8}
use Rattle.desk_records.proofs.Common.{and_parts, nat_tests, list_all-append, IsUtf8-append, IsUtf8-from_ascii, IsUtf8-from_is_utf8, IsUtf8-nil, Value, Text}
use Rattle.desk_records.proofs.Common.{Bytes, are_details, kept_if, is_detail, is_text_letter, lines_of}
use Rattle.std.proofs.lemmas.Str.Ascii.{IsAscii-cons, IsAscii-nil}
use Rattle.desk_records.specs.EntryRow.{HasNoDetails}

-- ---- what a text says

-- one line more
pub line_more : (text rest line more : Bytes) (lines : List Bytes) → text ≡ lines_of lines ++ rest → rest ≡ line ++ 10 ∷ more
    → text ≡ lines_of (lines ++ line ∷ []) ++ more
line_more text rest line more lines is next = is ∙ ap (λ r. lines_of lines ++ r) next ∙ go lines
  where
    go : (ls : List Bytes) → lines_of ls ++ (line ++ 10 ∷ more) ≡ lines_of (ls ++ line ∷ []) ++ more
    go [] = grind (arith, append_assoc, append-nil)
    go (l ∷ ls) = grind (arith, append_assoc, go ls)

pub detail_is : (line d : Bytes) → kept_if is_detail line ≡ Some d → (d ≡ line) × (is_detail d ≡ true)
detail_is line d is = (grind arith, grind arith)

pub no_detail : (line : Bytes) → kept_if is_detail line ≡ None → is_detail line ≡ false
no_detail line is = grind arith

pub one_more : (lines : List Bytes) (d : Bytes) → list_all is_detail lines ≡ true → is_detail d ≡ true → list_all is_detail (lines ++ d ∷ []) ≡ true
one_more lines d good fine = rw (list_all-append is_detail lines (d ∷ [])) (rw good (rw fine refl))

abbrev no_feed : Bytes → Bool
no_feed line = list_all (λ b. not (nat_eq b 10)) line

letters_no_feed : (line : Bytes) → list_all is_text_letter line ≡ true → no_feed line ≡ true
letters_no_feed [] h = refl
letters_no_feed (b ∷ line) h = grind (arith, nat_tests, letters_no_feed line)

-- no letter of a line ends it
one_line : (l m xs ys : Bytes) → no_feed l ≡ true → no_feed m ≡ true → l ++ 10 ∷ xs ≡ m ++ 10 ∷ ys → (l ≡ m) × (xs ≡ ys)
one_line [] [] xs ys one two is = (refl, cc)
one_line [] (b ∷ m) xs ys one two is = absurd (grind (arith, nat_tests))
one_line (a ∷ l) [] xs ys one two is = absurd (grind (arith, nat_tests))
one_line (a ∷ l) (b ∷ m) xs ys one two is =
    grind (arith, one_line l m xs ys (and_parts (not (nat_eq a 10)) (no_feed l) one).1 (and_parts (not (nat_eq b 10)) (no_feed m) two).1 cc, and_parts)

first_empty : (line rest : Bytes) → line ++ 10 ∷ rest ≡ [] → ⊥
first_empty [] rest is = absurd cc
first_empty (b ∷ line) rest is = absurd cc

no_lines : (ms : List Bytes) → lines_of ms ≡ [] → ms ≡ []
no_lines [] is = refl
no_lines (m ∷ ms) is = absurd (first_empty m (lines_of ms) (sym (append_assoc m (10 ∷ []) (lines_of ms)) ∙ is))

feedless : (line : Bytes) → is_detail line ≡ true → no_feed line ≡ true
feedless line h = letters_no_feed line (and_parts _ (list_all is_text_letter line) (and_parts _ _ h).0).1

-- details whose text begins with that of some lines begin with these
begins : (ls ms : List Bytes) (rest : Bytes) → list_all is_detail ls ≡ true → list_all is_detail ms ≡ true → lines_of ls ++ rest ≡ lines_of ms
    → (more : List Bytes) × (ms ≡ ls ++ more) × (list_all is_detail more ≡ true) × (rest ≡ lines_of more)
begins [] ms rest good fine is = (ms, refl, fine, is)
begins (l ∷ ls) [] rest good fine is = grind (arith, first_empty, ls, append_assoc)
begins (l ∷ ls) (m ∷ ms) rest good fine is =
    let here = and_parts (is_detail l) (list_all is_detail ls) good in
    let there = and_parts (is_detail m) (list_all is_detail ms) fine in
    let it = one_line l m (lines_of ls ++ rest) (lines_of ms) (feedless l here.0) (feedless m there.0) (grind (arith, is, append_assoc)) in
    let go = begins ls ms rest here.1 there.1 it.1 in
    (go.0, ap₂ ◌∷◌ (sym it.0) go.1, go.2, go.3)

-- details are told by their text
same_lines : (ls ms : List Bytes) → list_all is_detail ls ≡ true → list_all is_detail ms ≡ true → lines_of ls ≡ lines_of ms → ls ≡ ms
same_lines ls ms good fine is =
    let it = begins ls ms [] good fine (append-nil (lines_of ls) ∙ is) in
    grind (arith, it.1, no_lines it.0, it.3, append-nil)

pub same_details : (d e : List Bytes) → are_details d ≡ true → are_details e ≡ true → lines_of d ≡ lines_of e → d ≡ e
same_details d e good fine is = same_lines d e (and_parts _ (list_all is_detail d) good).1 (and_parts _ (list_all is_detail e) fine).1 is

-- ---- a text that holds no details

-- the lines so far are details, and none are followed by the rest
pub holds_none : (text rest : Bytes) (lines : List Bytes) → text ≡ lines_of lines ++ rest → list_all is_detail lines ≡ true
    → ((more : List Bytes) → list_all is_detail more ≡ true → length (lines ++ more) ≤ 8 → rest ≢ lines_of more) → HasNoDetails (Text text)
holds_none text rest lines is good ends details fine same = grind (arith, and_parts, begins, nat_tests)

no_feed_in : (bs : Bytes) → ((i : ℕ) → i < length bs → get_or bs i 0 ≢ 10) → no_feed bs ≡ true
no_feed_in [] none = refl
no_feed_in (b ∷ bs) none = grind (arith, nat_tests, none 0 (omega arith), no_feed_in bs (λ i low. none (suc i) (omega (arith, low))))

feed_within : (m rest : Bytes) → no_feed (m ++ 10 ∷ rest) ≡ true → ⊥
feed_within [] rest h = absurd cc
feed_within (b ∷ m) rest h = grind (arith, feed_within m rest)

-- the lines are all that there is, or they don't say the text
pub all_or_none : (text rest : Bytes) (lines : List Bytes) (found : Option (List Bytes))
    → found ≡ (if nat_eq (length rest) 0 then kept_if are_details lines else None)
    → text ≡ lines_of lines ++ rest → list_all is_detail lines ≡ true → length lines ≤ 8
    → (rest ≢ [] → (more : List Bytes) → list_all is_detail more ≡ true → length (lines ++ more) ≤ 8 → rest ≢ lines_of more)
    → IfNone found (HasNoDetails (Text text))
all_or_none text [] lines found is said good few ends = grind (arith, nat_tests)
all_or_none text (b ∷ rest) lines found is said good few ends =
    grind (arith, nat_tests, is, holds_none text (b ∷ rest) lines said good (ends (λ e. absurd cc)))

-- no line ends in the rest
pub ends_nowhere : (rest : Bytes) → rest ≢ [] → ((i : ℕ) → i < length rest → get_or rest i 0 ≢ 10) → (more : List Bytes) → rest ≢ lines_of more
ends_nowhere rest some none [] is = some is
ends_nowhere rest some none (m ∷ ms) is =
    feed_within m (lines_of ms) (subst (λ bs. no_feed bs ≡ true) (is ∙ append_assoc m (10 ∷ []) (lines_of ms)) (no_feed_in rest none))

-- the line that comes next is no detail
pub begins_badly : (rest line more : Bytes) → rest ≡ line ++ 10 ∷ more → ((i : ℕ) → i < length line → get_or line i 0 ≢ 10) → is_detail line ≡ false
    → (ms : List Bytes) → list_all is_detail ms ≡ true → rest ≢ lines_of ms
begins_badly rest line more is none bad [] fine same = first_empty line more (sym is ∙ same)
begins_badly rest line more is none bad (m ∷ ms) fine same =
    grind (arith, one_line line m more (lines_of ms) (no_feed_in line none), feedless m, and_parts, append_assoc)

-- as many lines as there may be, and a rest
pub goes_too_far : (rest : Bytes) (lines : List Bytes) → length lines ≡ 8 → rest ≢ [] → (more : List Bytes) → length (lines ++ more) ≤ 8 → rest ≢ lines_of more
goes_too_far rest lines full some [] few same = some same
goes_too_far rest lines full some (m ∷ ms) few same = absurd (omega (arith, full, few, length-append lines (m ∷ ms)))

-- a text of details is UTF-8
lines_are_utf8 : (ls : List Bytes) → list_all is_detail ls ≡ true → IsUtf8 (lines_of ls)
lines_are_utf8 [] good = IsUtf8-nil
lines_are_utf8 (l ∷ ls) good =
    let feed = IsUtf8-from_ascii (10 ∷ []) (IsAscii-cons 10 [] (omega arith) IsAscii-nil) in
    grind (arith, IsUtf8-append, IsUtf8-from_is_utf8 l, feed, and_parts, lines_are_utf8 ls)

-- what is no UTF-8
pub unread_details : (v : Value) (text : Bytes) → v ≡ Text text → (IsUtf8 text → ⊥) → HasNoDetails v
unread_details v text is bad details fine same = grind (arith, lines_are_utf8, and_parts)
