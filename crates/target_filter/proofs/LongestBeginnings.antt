-- Where the scanner stops there ends the longest beginning that some continuation makes a filter.
use Rattle.target_filter.proofs.Common.{◌≡◌, ℕ, zero, suc, ◌+◌, ◌≤◌, ◌<◌, max, List, [], ◌∷◌, ◌++◌, length, take, drop, get_or, Bool, true}
use Rattle.target_filter.proofs.Common.{false, ◌==◌, Option, Some, None, refl, sym, ◌∙◌, ap, arith, append_assoc, append-nil}
use Rattle.target_filter.proofs.Common.{nat_lt, codes, list_all, option_and_then, IsUtf8, IsAscii}
use Rattle.target_filter.proofs.Common.{nat_tests, IsUtf8-from_ascii, IsUtf8-append}
use Rattle.target_filter.proofs.Common.{take-take, take-append-drop, take_more, take_all}
use Rattle.target_filter.proofs.Common.{Field, is_field, field_text, Tree}
use Rattle.target_filter.proofs.Common.{OrLevel, spelling, nesting, IsFilter, IsInGrammar, CanContinue, is_word_letter, Mode, State}
use Rattle.target_filter.proofs.Common.{run, step, mode_of_name, start, accepts}
use Rattle.std.proofs.lemmas.Str.Ascii.{IsAscii-nil, IsAscii-cons}
use Rattle.target_filter.specs.private.Scanner as scan
use Rattle.target_filter.proofs.ScannedTrees.{both, in_mode, reads, tree_end, tree_ends, closed, lt_true}
use Rattle.target_filter.proofs.Beginnings.{Begun, all_of}
use Rattle.target_filter.proofs.ScannerMoves.{accepted, Stands, run_stands, start_stands}

-- a continuation that ends the atom
abbrev tail : Mode → List ℕ
tail scan.AtomStart = codes "tag==a"
tail (scan.FieldName left true) = left ++ codes "a==a"
tail (scan.FieldName left false) = left ++ codes "==a"
tail (scan.Key zero) = codes "a==a"
tail (scan.Key (suc n)) = codes "==a"
tail scan.Equals = codes "=a"
tail scan.Value = codes "a"
tail scan.Bare = []
tail scan.Quoted = 34 ∷ []
tail scan.AtomEnd = []

abbrev tail_end : Mode → Mode
tail_end scan.AtomStart = scan.Bare
tail_end (scan.FieldName left k) = scan.Bare
tail_end (scan.Key n) = scan.Bare
tail_end scan.Equals = scan.Bare
tail_end scan.Value = scan.Bare
tail_end scan.Bare = scan.Bare
tail_end scan.Quoted = scan.AtomEnd
tail_end scan.AtomEnd = scan.AtomEnd

tail_ends : (m : Mode) → scan.ends_atom (tail_end m) ≡ true
tail_ends m = grind arith

eq_self : (n : ℕ) → (n == n) ≡ true
eq_self n = grind (arith, nat_tests)

-- a mode that the scanner is in
abbrev Sound : Mode → Type 0
Sound scan.AtomStart = Unit {0}
Sound (scan.FieldName [] true) = ⊥
Sound (scan.FieldName [] false) = Unit {0}
Sound (scan.FieldName (x ∷ xs) k) = Unit {0}
Sound (scan.Key n) = Unit {0}
Sound scan.Equals = Unit {0}
Sound scan.Value = Unit {0}
Sound scan.Bare = Unit {0}
Sound scan.Quoted = Unit {0}
Sound scan.AtomEnd = Unit {0}

word_tail : (d e : ℕ) (left : List ℕ) (y : ℕ) (k : Bool) (rest : List ℕ) → run (in_mode d e (scan.FieldName (y ∷ left) k)) ((y ∷ left) ++ rest)
    ≡ run (in_mode d e (mode_of_name [] k)) rest
word_tail d e [] y k rest = rw (eq_self y) refl
word_tail d e (z ∷ zs) y k rest = rw (eq_self y) (word_tail d e zs z k rest)

completes : (d e : ℕ) (m : Mode) (rest : List ℕ) → Sound m → run (in_mode d e m) (tail m ++ rest) ≡ run (in_mode d e (tail_end m)) rest
completes d e scan.AtomStart rest h = refl
completes d e (scan.FieldName [] true) rest h = absurd h
completes d e (scan.FieldName [] false) rest h = refl
completes d e (scan.FieldName (x ∷ xs) true) rest h = ap (run (in_mode d e (scan.FieldName (x ∷ xs) true))) (append_assoc (x ∷ xs) (codes "a==a") rest)
    ∙ word_tail d e xs x true (codes "a==a" ++ rest)
completes d e (scan.FieldName (x ∷ xs) false) rest h = ap (run (in_mode d e (scan.FieldName (x ∷ xs) false))) (append_assoc (x ∷ xs) (codes "==a") rest)
    ∙ word_tail d e xs x false (codes "==a" ++ rest)
completes d e (scan.Key zero) rest h = refl
completes d e (scan.Key (suc n)) rest h = rw (lt_true 0 (suc n) (omega arith)) refl
completes d e scan.Equals rest h = refl
completes d e scan.Value rest h = refl
completes d e scan.Bare rest h = refl
completes d e scan.Quoted rest h = refl
completes d e scan.AtomEnd rest h = refl

abbrev closing : ℕ → List ℕ
closing zero = []
closing (suc d) = 41 ∷ closing d

abbrev Accepted : Option State → Type 0
Accepted o = (s : State) × (o ≡ Some s) × (accepts s ≡ true)

closes : (d e : ℕ) (m : Mode) → scan.ends_atom m ≡ true → Accepted (run (in_mode d e m) (closing d))
closes zero e m h = (in_mode 0 e m, refl, all_of (scan.ends_atom m) true h refl)
closes (suc d) e m h =
    let one : suc d ≡ d + 1 = omega arith in
    let next : run (in_mode (suc d) e m) (41 ∷ closing d) ≡ run (in_mode d e scan.AtomEnd) (closing d) = ap (λ n. run (in_mode n e m) (41 ∷ closing d)) one
    ∙ closed d e m (closing d) h in
    let (s, w, a) = closes d e scan.AtomEnd refl in
    (s, next ∙ w, a)

abbrev ending : State → List ℕ
ending s = tail s.mode ++ closing s.depth

-- all that a continuation needs is ASCII
letters_ascii : (xs : List ℕ) → list_all is_word_letter xs ≡ true → IsAscii xs
letters_ascii [] h = IsAscii-nil
letters_ascii (x ∷ xs) h = grind (arith, letters_ascii xs, IsAscii-cons)

field_letters : (f : Field) → is_field f ≡ true → list_all is_word_letter (field_text f) ≡ true
field_letters f h = grind arith

second_part : (xs ys : List ℕ) → list_all is_word_letter (xs ++ ys) ≡ true → list_all is_word_letter ys ≡ true
second_part [] ys h = h
second_part (x ∷ xs) ys h = second_part xs ys (both (is_word_letter x) (list_all is_word_letter (xs ++ ys)) h).1

pub left_ascii : (x left : List ℕ) (k : Bool) → Begun (scan.FieldName left k) x → IsAscii left
left_ascii x [] true h = absurd h
left_ascii x (y ∷ ys) true h = letters_ascii (y ∷ ys) (second_part x (y ∷ ys) (rw h refl))
left_ascii x left false (f, p, e) = letters_ascii left (second_part x left (rw e (field_letters f p)))

ascii : (xs : List ℕ) → list_all (λ x. nat_lt x 128) xs ≡ true → IsAscii xs
ascii [] h = IsAscii-nil
ascii (x ∷ xs) h = grind (arith, ascii xs, IsAscii-cons)

tail_utf8 : (m : Mode) (x : List ℕ) → Begun m x → IsUtf8 (tail m)
tail_utf8 scan.AtomStart x h = IsUtf8-from_ascii _ (ascii (codes "tag==a") refl)
tail_utf8 (scan.FieldName left true) x h = IsUtf8-append left (codes "a==a") (IsUtf8-from_ascii left (left_ascii x left true h))
    (IsUtf8-from_ascii _ (ascii (codes "a==a") refl))
tail_utf8 (scan.FieldName left false) x h = IsUtf8-append left (codes "==a") (IsUtf8-from_ascii left (left_ascii x left false h))
    (IsUtf8-from_ascii _ (ascii (codes "==a") refl))
tail_utf8 (scan.Key zero) x h = IsUtf8-from_ascii _ (ascii (codes "a==a") refl)
tail_utf8 (scan.Key (suc n)) x h = IsUtf8-from_ascii _ (ascii (codes "==a") refl)
tail_utf8 scan.Equals x h = IsUtf8-from_ascii _ (ascii (codes "=a") refl)
tail_utf8 scan.Value x h = IsUtf8-from_ascii _ (ascii (codes "a") refl)
tail_utf8 scan.Bare x h = IsUtf8-from_ascii _ (ascii [] refl)
tail_utf8 scan.Quoted x h = IsUtf8-from_ascii _ (ascii (34 ∷ []) refl)
tail_utf8 scan.AtomEnd x h = IsUtf8-from_ascii _ (ascii [] refl)

closing_utf8 : (d : ℕ) → IsUtf8 (closing d)
closing_utf8 d = IsUtf8-from_ascii (closing d) (closing_ascii d)
  where
    closing_ascii : (d : ℕ) → IsAscii (closing d)
    closing_ascii zero = IsAscii-nil
    closing_ascii (suc d) = IsAscii-cons 41 (closing d) (omega arith) (closing_ascii d)

sound : (m : Mode) (x : List ℕ) → Begun m x → Sound m
sound m x h = grind arith

-- in two parts
pub run_append : (p q : List ℕ) (s : State) → run s (p ++ q) ≡ option_and_then (λ t. run t q) (run s p)
run_append [] q s = refl
run_append (b ∷ p) q s = grind (arith, run_append p q)

pub can_continue : (p : List ℕ) (s : State) → run start p ≡ Some s → CanContinue p
can_continue p s e =
    let h : Stands s p = run_stands p start [] s start_stands e in
    let goes : run s (ending s) ≡ run (in_mode s.depth s.deepest (tail_end s.mode)) (closing s.depth) =
    completes s.depth s.deepest s.mode (closing s.depth) (sound s.mode h.atom h.is_begun) in
    let (t, w, a) = closes s.depth s.deepest (tail_end s.mode) (tail_ends s.mode) in
    let all : run start (p ++ ending s) ≡ Some t = run_append p (ending s) start ∙ ap (option_and_then (λ t. run t (ending s))) e ∙ goes ∙ w in
    (ending s, (IsUtf8-append (tail s.mode) (closing s.depth) (tail_utf8 s.mode h.atom h.is_begun) (closing_utf8 s.depth), accepted (p ++ ending s) t all a))

-- a filter is gone through
pub filter_run : (text : List ℕ) (t : Tree) → IsFilter text t → run start text ≡ Some (in_mode 0 (nesting t) (tree_end t))
filter_run text t h =
    let deep : max 0 (0 + nesting t) ≡ nesting t = omega arith in
    ap (run start) (h.spells ∙ sym (append-nil (spelling t))) ∙ reads t OrLevel 0 0 [] (omega arith) h.level ∙ ap (λ n. Some (in_mode 0 n (tree_end t))) deep

pub filter_accepted : (text : List ℕ) (t : Tree) (s : State) → IsFilter text t → run start text ≡ Some s → (accepts s ≡ true) × (nesting t ≡ s.deepest)
filter_accepted text t s h e =
    let same : in_mode 0 (nesting t) (tree_end t) ≡ s = cc (filter_run text t h, e) in
    (ap accepts (sym same) ∙ all_of (scan.ends_atom (tree_end t)) true (tree_ends t) refl, ap (λ (u : State). u.deepest) same)

-- behind a byte that the scanner doesn't take, nothing goes on
pub dead : (p more : List ℕ) → run start p ≡ None → IsInGrammar (p ++ more) → ⊥
dead p more e (t, h) =
    let none : run start (p ++ more) ≡ None = run_append p more start ∙ ap (option_and_then (λ t. run t more)) e in
    let some = filter_run (p ++ more) t h in
    cc

pub dead_from : (text : List ℕ) (n m : ℕ) → run start (take n text) ≡ None → n ≤ m → CanContinue (take m text) → ⊥
dead_from text n m e l (more, h) =
    let split : take n text ++ drop n (take m text) ≡ take m text = ap (λ x. x ++ drop n (take m text)) (sym (take-take n m text l))
    ∙ take-append-drop n (take m text) in
    dead (take n text) (drop n (take m text) ++ more) e (rw (← append_assoc (take n text) (drop n (take m text)) more, split) h.1)

-- one byte more
pub run_more : (text : List ℕ) (i : ℕ) (s t : State) → i < length text → run start (take i text) ≡ Some s → step s (get_or text i 0) ≡ Some t
    → run start (take (i + 1) text) ≡ Some t
run_more text i s t l e k =
    ap (run start) (take_more text i 0 l) ∙ run_append (take i text) (get_or text i 0 ∷ []) start ∙ ap (option_and_then (λ t. run t (get_or text i 0 ∷ []))) e
    ∙ ap (option_and_then (λ t. run t [])) k

pub run_all : (text : List ℕ) (i : ℕ) (s : State) → length text ≤ i → run start (take i text) ≡ Some s → run start text ≡ Some s
run_all text i s l e = ap (run start) (sym (take_all i text l)) ∙ e
