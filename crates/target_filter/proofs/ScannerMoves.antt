-- A move of the scanner keeps what stands behind the beginning.
use Rattle.target_filter.proofs.Common.{◌≡◌, ◌⊎◌, inl, inr, ℕ, suc, ◌+◌, ◌-◌, ◌≤◌, List, [], ◌∷◌, ◌++◌, length, Bool, true, false, cond}
use Rattle.target_filter.proofs.Common.{◌==◌, Option, Some, None, refl, sym, ◌∙◌, ap, subst, arith, append_assoc, append-nil, length-append}
use Rattle.target_filter.proofs.Common.{nat_lt, list_all, IfSome, option_and_then, nat_tests, is_bare_byte, is_quotable_byte}
use Rattle.target_filter.proofs.Common.{is_nonempty, Field, Id, Name, Tag, Attribute, Quoted, Tree, Group, Comparison}
use Rattle.target_filter.proofs.Common.{spelling, field_text, Equal, NotEqual}
use Rattle.target_filter.proofs.Common.{operator_byte, is_field, IsFilter, is_word_letter, Mode, State, Move, run, next, step}
use Rattle.target_filter.proofs.Common.{state_after, mode_of_name, at_atom_start, at_operator, at_atom_end}
use Rattle.target_filter.specs.private.Scanner as scan
use Rattle.target_filter.proofs.ScannedTrees.{both}
use Rattle.target_filter.proofs.Beginnings.{Part, part_text, PartFits, and_with, and_spelled, and_fits, whole, whole_spelled, whole_fits}
use Rattle.target_filter.proofs.Beginnings.{outer_text, AllFit, Begun, atom_of, all_of}

pub eq_true : (a b : ℕ) → (a == b) ≡ true → a ≡ b
eq_true a b h = grind (arith, nat_tests)

pub by_test : (P : Move → Type 0) (c : Bool) (x y : Move) → (c ≡ true → P x) → (c ≡ false → P y) → P (cond c x y)
by_test h0 c x y f g = grind arith

all_push : (p : ℕ → Bool) (xs : List ℕ) (b : ℕ) → list_all p xs ≡ true → p b ≡ true → list_all p (xs ++ b ∷ []) ≡ true
all_push p [] b h k = all_of (p b) true k refl
all_push p (x ∷ xs) b h k = let q = both (p x) (list_all p xs) h in all_of (p x) (list_all p (xs ++ b ∷ [])) q.0 (all_push p xs b q.1 k)

-- what a move means, from the mode m behind the beginning x of an atom, at the byte b
abbrev pub Good : Mode → List ℕ → ℕ → Move → Type 0
Good m x b (scan.Go n) = Begun n (x ++ b ∷ [])
Good m x b scan.Open = (x ≡ []) × (b ≡ 40)
Good m x b scan.Close = (scan.ends_atom m ≡ true) × (b ≡ 41)
Good m x b scan.Next = (scan.ends_atom m ≡ true) × ((b ≡ 44) ⊎ (b ≡ 59))
Good m x b scan.Stop = Unit {0}

start_good : (x : List ℕ) (b : ℕ) → x ≡ [] → Good scan.AtomStart x b (at_atom_start b)
start_good x b e =
    let P = λ (v : Move). Good scan.AtomStart x b v in
    by_test P (b == 99) _ _ (λ h. let k = eq_true b 99 h in (Id, refl, rw (e, k) refl)) (λ _.
    by_test P (b == 110) _ _ (λ h. let k = eq_true b 110 h in (Name, refl, rw (e, k) refl)) (λ _.
    by_test P (b == 116) _ _ (λ h. let k = eq_true b 116 h in (Tag, refl, rw (e, k) refl)) (λ _.
    by_test P (b == 97) _ _ (λ h. let k = eq_true b 97 h in rw (e, k) refl) (λ _.
    by_test P (b == 40) scan.Open scan.Stop (λ h. (e, eq_true b 40 h)) (λ _. tt)))))

marked_good : (m : Mode) (x : List ℕ) (b : ℕ) (f : Field) → is_field f ≡ true → x ≡ field_text f → Good m x b (at_operator b)
marked_good m x b f p e =
    let P = λ (v : Move). Good m x b v in
    by_test P (b == 61) _ _ (λ h. let k = eq_true b 61 h in (f, Equal, p, rw (e, k) refl)) (λ _.
    by_test P (b == 33) (scan.Go scan.Equals) scan.Stop (λ h. let k = eq_true b 33 h in (f, NotEqual, p, rw (e, k) refl)) (λ _. tt))

ended_good : (m : Mode) (x : List ℕ) (b : ℕ) → scan.ends_atom m ≡ true → Good m x b (at_atom_end b)
ended_good m x b p =
    let P = λ (v : Move). Good m x b v in
    by_test P (b == 44) _ _ (λ h. (p, inl (eq_true b 44 h))) (λ _.
    by_test P (b == 59) _ _ (λ h. (p, inr (eq_true b 59 h))) (λ _.
    by_test P (b == 41) scan.Close scan.Stop (λ h. (p, eq_true b 41 h)) (λ _. tt)))

named_good : (x : List ℕ) (y : ℕ) (ys : List ℕ) (k : Bool) → Begun (scan.FieldName (y ∷ ys) k) x → Begun (mode_of_name ys k) (x ++ y ∷ [])
named_good x y [] true h = ([], refl, refl, lit≤, h)
  where
    lit≤ : 0 ≤ 64
    lit≤ = omega arith
named_good x y [] false (f, p, e) = (f, p, append-nil (x ++ y ∷ []) ∙ e)
named_good x y (z ∷ zs) true h = append_assoc x (y ∷ []) (z ∷ zs) ∙ h
named_good x y (z ∷ zs) false (f, p, e) = (f, p, append_assoc x (y ∷ []) (z ∷ zs) ∙ e)

key_field : (key : List ℕ) (n : ℕ) → list_all is_word_letter key ≡ true → length key ≡ n → n ≤ 64 → nat_lt 0 n ≡ true → is_field (Attribute key) ≡ true
key_field key n h e l z = grind arith

some_push : (v : List ℕ) (b : ℕ) → is_nonempty (v ++ b ∷ []) ≡ true
some_push [] b = refl
some_push (x ∷ v) b = refl

pub good : (m : Mode) (x : List ℕ) (b : ℕ) → Begun m x → Good m x b (next m b)
good scan.AtomStart x b h = start_good x b h
good (scan.FieldName [] true) x b h = absurd h
good (scan.FieldName [] false) x b (f, p, e) = marked_good (scan.FieldName [] false) x b f p (sym (append-nil x) ∙ e)
good (scan.FieldName (y ∷ ys) k) x b h =
    let P = λ (v : Move). Good (scan.FieldName (y ∷ ys) k) x b v in
    by_test P (b == y) (scan.Go (mode_of_name ys k)) scan.Stop (λ t. rw (eq_true b y t) (named_good x y ys k h)) (λ _. tt)
good (scan.Key n) x b (key, p, e, l, t) =
    let P = λ (v : Move). Good (scan.Key n) x b v in
    by_test P (is_word_letter b) _ _ (λ h.
    by_test P (nat_lt n 64) (scan.Go (scan.Key (n + 1))) scan.Stop (λ s.
    let below : n + 1 ≤ 64 = grind (arith, nat_tests) in
    (key ++ b ∷ [], all_push is_word_letter key b p h, length-append key (b ∷ []) ∙ ap (λ i. i + 1) e, below, ap (λ y. y ++ b ∷ []) t)) (λ _. tt)) (λ _.
    by_test P (nat_lt 0 n) (at_operator b) scan.Stop (λ s. marked_good (scan.Key n) x b (Attribute key) (key_field key n p e l s) t) (λ _. tt))
good scan.Equals x b (f, m, p, e) =
    let P = λ (v : Move). Good scan.Equals x b v in
    by_test P (b == 61) (scan.Go scan.Value) scan.Stop
    (λ h. let k = eq_true b 61 h in (f, m, p, rw (e, k) (append_assoc (field_text f) (operator_byte m ∷ []) (61 ∷ [])))) (λ _. tt)
good scan.Value x b (f, m, p, e) =
    let P = λ (v : Move). Good scan.Value x b v in
    by_test P (is_bare_byte b) _ _
    (λ h. (f, m, b ∷ [], p, all_of (is_bare_byte b) true h refl, rw e (append_assoc (field_text f) (operator_byte m ∷ 61 ∷ []) (b ∷ [])))) (λ _.
    by_test P (b == 34) (scan.Go scan.Quoted) scan.Stop
    (λ h. let k = eq_true b 34 h in (f, m, [], p, refl, rw (e, k) (append_assoc (field_text f) (operator_byte m ∷ 61 ∷ []) (34 ∷ [])))) (λ _. tt))
good scan.Bare x b (f, m, v, p, q, e) =
    let P = λ (v : Move). Good scan.Bare x b v in
    let parts = both (is_nonempty v) (list_all is_bare_byte v) q in
    by_test P (is_bare_byte b) _ _
    (λ h. (
      f,
      m,
      v ++ b ∷ [],
      p,
      all_of (is_nonempty (v ++ b ∷ [])) (list_all is_bare_byte (v ++ b ∷ [])) (some_push v b)
          (all_push is_bare_byte v b parts.1 h),
      rw e (append_assoc (field_text f) (operator_byte m ∷ 61 ∷ v) (b ∷ [])),
    ))
    (λ _. ended_good scan.Bare x b refl)
good scan.Quoted x b (f, m, v, p, q, e) =
    let P = λ (v : Move). Good scan.Quoted x b v in
    by_test P (is_quotable_byte b) _ _
    (λ h. (f, m, v ++ b ∷ [], p, all_push is_quotable_byte v b q h, rw e (append_assoc (field_text f) (operator_byte m ∷ 61 ∷ 34 ∷ v) (b ∷ [])))) (λ _.
    by_test P (b == 34) (scan.Go scan.AtomEnd) scan.Stop
    (λ h. let k = eq_true b 34 h in (
      Comparison f m (Quoted v),
      all_of (is_field f) (list_all is_quotable_byte v) p q,
      rw (e, k) (append_assoc (field_text f) (operator_byte m ∷ 61 ∷ 34 ∷ v) (34 ∷ [])),
    )) (λ _. tt))
good scan.AtomEnd x b h = ended_good scan.AtomEnd x b refl

-- the scanner's state, and the beginning that it went through
pub record Stands (s : State) (p : List ℕ) : Type 0 where
  pub outer : List Part
  pub part : Part
  pub atom : List ℕ
  pub depth : length outer ≡ s.depth
  pub outers : AllFit outer
  pub fit : PartFits part
  pub is_begun : Begun s.mode atom
  pub text : p ≡ outer_text outer ++ (part_text part ++ atom)

comma_text : (o : List ℕ) (part : Part) (t : Tree) (p x : List ℕ) (b : ℕ) → p ≡ o ++ (part_text part ++ x) → x ≡ spelling t → b ≡ 44 → p ++ b ∷ []
    ≡ o ++ (part_text (record { ors = Some (whole part t); ands = None }) ++ [])
comma_text o part t p x b h e k = rw (h, e, k, whole_spelled part t) (simp (append_assoc, append-nil))

semicolon_text : (o : List ℕ) (part : Part) (t : Tree) (p x : List ℕ) (b : ℕ) → p ≡ o ++ (part_text part ++ x) → x ≡ spelling t → b ≡ 59 → p ++ b ∷ []
    ≡ o ++ (part_text (record { ors = part.ors; ands = Some (and_with part.ands t) }) ++ [])
semicolon_text o part t p x b h e k = rw (h, e, k, and_spelled part.ands t) (simp (append_assoc, append-nil))

close_text : (o : List ℕ) (up part : Part) (t : Tree) (p x : List ℕ) (b : ℕ) → p ≡ (o ++ part_text up ++ 40 ∷ []) ++ (part_text part ++ x) → x ≡ spelling t
    → b ≡ 41 → p ++ b ∷ [] ≡ o ++ (part_text up ++ spelling (Group (whole part t)))
close_text o up part t p x b h e k = rw (h, e, k, whole_spelled part t) (simp append_assoc)

close_stands : (s : State) (p : List ℕ) (b : ℕ) (outer : List Part) (h : Stands s p) → h.outer ≡ outer → scan.ends_atom s.mode ≡ true → b ≡ 41
    → IfSome (state_after s scan.Close) (λ t. Stands t (p ++ b ∷ []))
close_stands s p b [] h w d k = grind (arith, no)
close_stands s p b (q ∷ qs) h w d k =
    let some : suc (length qs) ≡ s.depth = sym (ap length w) ∙ h.depth in
    let yes : nat_lt 0 s.depth ≡ true = grind (arith, nat_tests) in
    let (t, u, e) = atom_of s.mode h.atom d h.is_begun in
    let fit : AllFit (q ∷ qs) = subst AllFit w h.outers in
    let text : p ≡ outer_text (q ∷ qs) ++ (part_text h.part ++ h.atom) = h.text ∙ ap (λ o. outer_text o ++ (part_text h.part ++ h.atom)) w in
    let stands : Stands (record { depth = s.depth - 1; deepest = s.deepest; mode = scan.AtomEnd }) (p ++ b ∷ []) = record {
      outer = qs;
      part = q;
      atom = spelling (Group (whole h.part t));
      depth = omega arith;
      outers = fit.1;
      fit = fit.0;
      is_begun = (Group (whole h.part t), whole_fits h.part t h.fit u, refl);
      text = close_text (outer_text qs) q h.part t p h.atom b text e k;
    } in
    rw yes stands

go_stands : (s : State) (p : List ℕ) (b : ℕ) (h : Stands s p) (m : Move) → Good s.mode h.atom b m → IfSome (state_after s m) (λ t. Stands t (p ++ b ∷ []))
go_stands s p b h (scan.Go n) g = record {
  outer = h.outer;
  part = h.part;
  atom = h.atom ++ b ∷ [];
  depth = h.depth;
  outers = h.outers;
  fit = h.fit;
  is_begun = g;
  text = rw h.text (simp append_assoc);
}
go_stands s p b h scan.Open (e, k) = record {
  outer = h.part ∷ h.outer;
  part = record { ors = None; ands = None };
  atom = [];
  depth = omega (arith, h.depth);
  outers = (h.fit, h.outers);
  fit = (tt, tt);
  is_begun = refl;
  text = rw (h.text, e, k) (simp (append_assoc, append-nil));
}
go_stands s p b h scan.Stop g = tt
go_stands s p b h scan.Next (d, inl k) =
    let (t, q, e) = atom_of s.mode h.atom d h.is_begun in
    record {
      outer = h.outer;
      part = record { ors = Some (whole h.part t); ands = None };
      atom = [];
      depth = h.depth;
      outers = h.outers;
      fit = (whole_fits h.part t h.fit q, tt);
      is_begun = refl;
      text = comma_text (outer_text h.outer) h.part t p h.atom b h.text e k;
    }
go_stands s p b h scan.Next (d, inr k) =
    let (t, q, e) = atom_of s.mode h.atom d h.is_begun in
    record {
      outer = h.outer;
      part = record { ors = h.part.ors; ands = Some (and_with h.part.ands t) };
      atom = [];
      depth = h.depth;
      outers = h.outers;
      fit = (h.fit.0, and_fits h.part.ands t h.fit.1 q);
      is_begun = refl;
      text = semicolon_text (outer_text h.outer) h.part t p h.atom b h.text e k;
    }
go_stands s p b h scan.Close (d, k) = close_stands s p b h.outer h refl d k

step_stands : (s : State) (p : List ℕ) (b : ℕ) → Stands s p → IfSome (step s b) (λ t. Stands t (p ++ b ∷ []))
step_stands s p b h = go_stands s p b h (next s.mode b) (good s.mode h.atom b h.is_begun)

run_from : (o : Option State) (p : List ℕ) (bs : List ℕ) (t : State) → IfSome o (λ s. Stands s p)
    → ((s : State) → Stands s p → run s bs ≡ Some t → Stands t (p ++ bs)) → option_and_then (λ s. run s bs) o ≡ Some t → Stands t (p ++ bs)
run_from o p bs t h f e = grind arith

pub run_stands : (bs : List ℕ) (s : State) (p : List ℕ) (t : State) → Stands s p → run s bs ≡ Some t → Stands t (p ++ bs)
run_stands [] s p t h e = grind (arith, append-nil)
run_stands (b ∷ bs) s p t h e =
    rw (← append_assoc p (b ∷ []) bs) (run_from (step s b) (p ++ b ∷ []) bs t (step_stands s p b h) (λ u. run_stands bs u (p ++ b ∷ []) t) e)

pub start_stands : Stands scan.start []
start_stands = record {
  outer = [];
  part = record { ors = None; ands = None };
  atom = [];
  depth = refl;
  outers = tt;
  fit = (tt, tt);
  is_begun = refl;
  text = refl;
}

empty_of : (o : List Part) → length o ≡ 0 → outer_text o ≡ []
empty_of [] h = refl
empty_of (p ∷ ps) h = absurd (omega arith)

end_text : (part : Part) (t : Tree) (p x o : List ℕ) → p ≡ o ++ (part_text part ++ x) → o ≡ [] → x ≡ spelling t → p ≡ spelling (whole part t)
end_text part t p x o h n e = rw (h, n, e, whole_spelled part t) refl

pub accepted : (text : List ℕ) (s : State) → run scan.start text ≡ Some s → scan.accepts s ≡ true → (t : Tree) × IsFilter text t
accepted text s e a =
    let h = run_stands text scan.start [] s start_stands e in
    let p = both (scan.ends_atom s.mode) (s.depth == 0) a in
    let (t, q, w) = atom_of s.mode h.atom p.0 h.is_begun in
    let flat : s.depth ≡ 0 = eq_true s.depth 0 p.1 in (
      whole h.part t,
      record {
        level = whole_fits h.part t h.fit q;
        spells = end_text h.part t text h.atom (outer_text h.outer) h.text (empty_of h.outer (h.depth ∙ flat)) w;
      },
    )
