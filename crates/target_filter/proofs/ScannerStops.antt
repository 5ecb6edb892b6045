-- The scanner stops at a character's beginning, and there ends the longest beginning that can go on.
use Rattle.target_filter.proofs.Common.{◌≡◌, ◌⊎◌, inl, inr, ℕ, zero, suc, ◌+◌, ◌<◌, List, [], ◌∷◌, ◌++◌, length, take, get_or, Bool, true}
use Rattle.target_filter.proofs.Common.{cond, ◌==◌, Some, None, refl, sym, ◌∙◌, ap, subst, arith}
use Rattle.target_filter.proofs.Common.{append-nil, nat_lt, option_and_then, IsUtf8}
use Rattle.target_filter.proofs.Common.{IsCharBoundary, false≢true, nat_tests, IsCharBoundary-end, IsCharBoundary-start, IsCharBoundary-before_ascii}
use Rattle.target_filter.proofs.Common.{IsCharBoundary-after_ascii, IsUtf8-nil, take-length, take_more, is_bare_byte, is_quotable_byte, Tree, IsFilter}
use Rattle.target_filter.proofs.Common.{IsInGrammar, IsLongestBeginning, nesting, is_word_letter, Mode, State, Move, run, next, step, state_after}
use Rattle.target_filter.proofs.Common.{mode_of_name, at_operator, at_atom_end, start, StopsBehind, Ends}
use Rattle.target_filter.specs.private.Scanner as scan
use Rattle.std.proofs.lemmas.Option.{option_and_then_some}
use Rattle.target_filter.proofs.Beginnings.{Begun}
use Rattle.target_filter.proofs.ScannerMoves.{eq_true, by_test, accepted, Stands, run_stands, start_stands}
use Rattle.target_filter.proofs.LongestBeginnings.{left_ascii, run_append, can_continue, dead_from, filter_accepted}

-- only in quotes there are bytes from 128 on
abbrev Small : ℕ → Move → Type 0
Small b (scan.Go scan.Quoted) = Unit {0}
Small b (scan.Go scan.AtomStart) = b < 128
Small b (scan.Go (scan.FieldName l k)) = b < 128
Small b (scan.Go (scan.Key n)) = b < 128
Small b (scan.Go scan.Equals) = b < 128
Small b (scan.Go scan.Value) = b < 128
Small b (scan.Go scan.Bare) = b < 128
Small b (scan.Go scan.AtomEnd) = b < 128
Small b scan.Open = b < 128
Small b scan.Close = b < 128
Small b scan.Next = b < 128
Small b scan.Stop = Unit {0}

below : (b n : ℕ) → (b == n) ≡ true → n < 128 → b < 128
below b n h l = grind (arith, nat_tests)

bare_below : (b : ℕ) → is_bare_byte b ≡ true → b < 128
bare_below b h = grind (arith, nat_tests)

letter_below : (b : ℕ) → is_word_letter b ≡ true → b < 128
letter_below b h = grind (arith, nat_tests)

marked_small : (b : ℕ) → Small b (at_operator b)
marked_small b = by_test (Small b) (b == 61) _ _ (λ h. below b 61 h (omega arith))
    (λ _. by_test (Small b) (b == 33) (scan.Go scan.Equals) scan.Stop (λ h. below b 33 h (omega arith)) (λ _. tt))

ended_small : (b : ℕ) → Small b (at_atom_end b)
ended_small b = by_test (Small b) (b == 44) _ _ (λ h. below b 44 h (omega arith))
    (λ _. by_test (Small b) (b == 59) _ _ (λ h. below b 59 h (omega arith))
    (λ _. by_test (Small b) (b == 41) scan.Close scan.Stop (λ h. below b 41 h (omega arith)) (λ _. tt)))

named_small : (b : ℕ) (xs : List ℕ) (k : Bool) → b < 128 → Small b (scan.Go (mode_of_name xs k))
named_small b xs k h = grind arith

small : (m : Mode) (x : List ℕ) (b : ℕ) → Begun m x → Small b (next m b)
small scan.AtomStart p b g =
    by_test (Small b) (b == 99) _ _ (λ h. below b 99 h (omega arith)) (λ _.
    by_test (Small b) (b == 110) _ _ (λ h. below b 110 h (omega arith)) (λ _.
    by_test (Small b) (b == 116) _ _ (λ h. below b 116 h (omega arith)) (λ _.
    by_test (Small b) (b == 97) _ _ (λ h. below b 97 h (omega arith)) (λ _.
    by_test (Small b) (b == 40) scan.Open scan.Stop (λ h. below b 40 h (omega arith)) (λ _. tt)))))
small (scan.FieldName [] k) p b g = marked_small b
small (scan.FieldName (x ∷ xs) k) p b g =
    let known : x < 128 = left_ascii p (x ∷ xs) k g 0 in
    by_test (Small b) (b == x) (scan.Go (mode_of_name xs k)) scan.Stop (λ h. named_small b xs k (let e = eq_true b x h in omega arith)) (λ _. tt)
small (scan.Key n) p b g =
    by_test (Small b) (is_word_letter b) _ _ (λ h. by_test (Small b) (nat_lt n 64) (scan.Go (scan.Key (n + 1))) scan.Stop (λ _. letter_below b h) (λ _. tt))
    (λ _. by_test (Small b) (nat_lt 0 n) (at_operator b) scan.Stop (λ _. marked_small b) (λ _. tt))
small scan.Equals p b g = by_test (Small b) (b == 61) (scan.Go scan.Value) scan.Stop (λ h. below b 61 h (omega arith)) (λ _. tt)
small scan.Value p b g = by_test (Small b) (is_bare_byte b) _ _ (λ h. bare_below b h)
    (λ _. by_test (Small b) (b == 34) (scan.Go scan.Quoted) scan.Stop (λ _. tt) (λ _. tt))
small scan.Bare p b g = by_test (Small b) (is_bare_byte b) _ _ (λ h. bare_below b h) (λ _. ended_small b)
small scan.Quoted p b g =
    by_test (Small b) (is_quotable_byte b) _ _ (λ _. tt)
    (λ _. by_test (Small b) (b == 34) (scan.Go scan.AtomEnd) scan.Stop (λ h. below b 34 h (omega arith)) (λ _. tt))
small scan.AtomEnd p b g = ended_small b

quiet : (r s : State) (b : ℕ) (v : Move) → Small b v → state_after r v ≡ Some s → (b < 128) ⊎ (s.mode ≡ scan.Quoted)
quiet r s b (scan.Go scan.Quoted) g e = let same : record { depth = r.depth; deepest = r.deepest; mode = scan.Quoted } ≡ s = cc in
    inr (ap (λ (u : State). u.mode) (sym same))
quiet r s b (scan.Go scan.AtomStart) g e = inl g
quiet r s b (scan.Go (scan.FieldName l k)) g e = inl g
quiet r s b (scan.Go (scan.Key n)) g e = inl g
quiet r s b (scan.Go scan.Equals) g e = inl g
quiet r s b (scan.Go scan.Value) g e = inl g
quiet r s b (scan.Go scan.Bare) g e = inl g
quiet r s b (scan.Go scan.AtomEnd) g e = inl g
quiet r s b scan.Open g e = inl g
quiet r s b scan.Close g e = inl g
quiet r s b scan.Next g e = inl g
quiet r s b scan.Stop g e = cc

quotes_take : (s : State) (b : ℕ) → s.mode ≡ scan.Quoted → is_quotable_byte b ≡ true → step s b
    ≡ Some (record { depth = s.depth; deepest = s.deepest; mode = scan.Quoted })
quotes_take s b e p = ap (λ m. state_after s (next m b)) e
    ∙ ap (λ c. state_after s (cond c (scan.Go scan.Quoted) (cond (b == 34) (scan.Go scan.AtomEnd) scan.Stop))) p

in_quotes : (s : State) (b : ℕ) (c : Bool) → nat_lt b 128 ≡ c → s.mode ≡ scan.Quoted → step s b ≡ None → b < 128
in_quotes s b c h e n = grind (arith, quotes_take)

before_byte : (text : List ℕ) (k : ℕ) (s : State) → IsUtf8 text → k + 1 < length text → run start (take (k + 1) text) ≡ Some s → step s (get_or text (k + 1) 0)
    ≡ None → IsCharBoundary text (k + 1)
before_byte text k s u l e n =
    let here : take (k + 1) text ≡ take k text ++ get_or text k 0 ∷ [] = take_more text k 0 (omega arith) in
    let two : option_and_then (λ t. run t (get_or text k 0 ∷ [])) (run start (take k text)) ≡ Some s =
    sym (run_append (take k text) (get_or text k 0 ∷ []) start) ∙ ap (run start) (sym here) ∙ e in
    option_and_then_some (λ t. run t (get_or text k 0 ∷ [])) (run start (take k text)) s two (λ r w q.
    option_and_then_some (λ t. run t []) (step r (get_or text k 0)) s q (λ t v z.
    let last : step r (get_or text k 0) ≡ Some s = v ∙ z in
    let stands : Stands r (take k text) = run_stands (take k text) start [] r start_stands w in
    let sure = small r.mode stands.atom (get_or text k 0) stands.is_begun in
    elim (quiet r s (get_or text k 0) (next r.mode (get_or text k 0)) sure last) [
      | inl a ↦ IsCharBoundary-after_ascii text k u (omega arith) a
      | inr a ↦ IsCharBoundary-before_ascii text (k + 1) l (in_quotes s (get_or text (k + 1) 0) (nat_lt (get_or text (k + 1) 0) 128) refl a n)
    ]))

boundary : (text : List ℕ) (n : ℕ) → IsUtf8 text → StopsBehind text n → IsCharBoundary text n
boundary text zero u h = IsCharBoundary-start text u
boundary text (suc k) u h = elim h.why [
  | inl a ↦ rw a.0 (IsCharBoundary-end text)
  | inr a ↦ let one : k + 1 ≡ suc k = omega arith in
      subst (IsCharBoundary text) one
      (before_byte text k h.state u (omega (arith, a.0)) (ap (λ n. run start (take n text)) one ∙ h.went)
      (ap (λ n. step h.state (get_or text n 0)) one ∙ a.1))
]

-- behind the byte nothing goes on
none_after : (text : List ℕ) (n : ℕ) (s : State) → n < length text → run start (take n text) ≡ Some s → step s (get_or text n 0) ≡ None
    → run start (take (n + 1) text) ≡ None
none_after text n s l e k =
    ap (run start) (take_more text n 0 l) ∙ run_append (take n text) (get_or text n 0 ∷ []) start ∙ ap (option_and_then (λ t. run t (get_or text n 0 ∷ []))) e
    ∙ ap (option_and_then (λ t. run t [])) k

pub stops_longest : (text : List ℕ) (n : ℕ) → IsUtf8 text → StopsBehind text n → IsLongestBeginning text n
stops_longest text n u h = record {
  whole = boundary text n u h;
  continues = can_continue (take n text) h.state h.went;
  longest = λ m l b g. elim h.why [
    | inl a ↦ absurd (omega (arith, a.0))
    | inr a ↦ dead_from text (n + 1) m (none_after text n h.state a.0 h.went a.1) (omega arith) g
  ];
}

pub stops_outside : (text : List ℕ) (n : ℕ) → StopsBehind text n → IsInGrammar text → ⊥
stops_outside text n h (t, f) = elim h.why [
  | inl a ↦
      let all : run start text ≡ Some h.state = ap (run start) (sym (take-length text) ∙ ap (λ k. take k text) (sym a.0)) ∙ h.went in
      let yes = (filter_accepted text t h.state f all).0 in
      false≢true (sym a.1 ∙ yes)
  | inr a ↦ dead_from text (n + 1) (length text) (none_after text n h.state a.0 h.went a.1) (omega (arith, a.0))
      ([], (IsUtf8-nil, (t, rw (append-nil (take (length text) text), take-length text) f)))
]

pub ends_filter : (text : List ℕ) (n : ℕ) → Ends text n → (t : Tree) × (IsFilter text t × (nesting t ≡ n))
ends_filter text n h =
    let (t, f) = accepted text h.state h.went h.accepts_it in
    (t, (f, (filter_accepted text t h.state f h.went).1 ∙ h.deepest_is))
