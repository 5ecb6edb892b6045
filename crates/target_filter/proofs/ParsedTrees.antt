-- The tree of a text is found, so a text has one tree.
use Rattle.target_filter.proofs.Common.{◌≡◌, ℕ, zero, suc, ◌+◌, ◌*◌, ◌≤◌, List, [], ◌∷◌, ◌++◌, length, Bool, true, false}
use Rattle.target_filter.proofs.Common.{◌==◌, not, Option, Some, refl, sym, ◌∙◌, ap, arith, append_assoc, append-nil}
use Rattle.target_filter.proofs.Common.{length-append, list_all, option_and_then, option_map_or, false≢true, nat_tests}
use Rattle.target_filter.proofs.Common.{is_bare_byte, Field, Id, Name, Tag, Attribute, Value, Tree, Or, And}
use Rattle.target_filter.proofs.Common.{Group, Comparison, OrLevel, AndLevel, AtomLevel, is_at, spelling, field_text, value_text}
use Rattle.target_filter.proofs.Common.{Operator, operator_byte, is_field, is_filter_value, IsFilter, is_word_letter, front, behind_front}
use Rattle.target_filter.proofs.Common.{field_of_name, operator_at, value_at, comparison_at, closed, or_at}
use Rattle.target_filter.proofs.Common.{more_ors, and_at, more_ands, atom_at}
use Rattle.target_filter.proofs.ScannedTrees.{both}

-- what may stand behind a value without quotes
abbrev pub stops : (ℕ → Bool) → List ℕ → Bool
stops p [] = true
stops p (b ∷ bs) = not (p b)

front_stop : (p : ℕ → Bool) (b : ℕ) (rest : List ℕ) (c : Bool) → p b ≡ c → not c ≡ true → front p (b ∷ rest) ≡ []
front_stop p b rest c e h = grind arith

past_stop : (p : ℕ → Bool) (b : ℕ) (rest : List ℕ) (c : Bool) → p b ≡ c → not c ≡ true → behind_front p (b ∷ rest) ≡ b ∷ rest
past_stop p b rest c e h = grind arith

pub fronts : (p : ℕ → Bool) (xs rest : List ℕ) → list_all p xs ≡ true → stops p rest ≡ true → front p (xs ++ rest) ≡ xs
fronts p [] [] h s = refl
fronts p [] (b ∷ rest) h s = front_stop p b rest (p b) refl s
fronts p (x ∷ xs) rest h s = let q = both (p x) (list_all p xs) h in rw q.0 (ap (λ y. x ∷ y) (fronts p xs rest q.1 s))

pub pasts : (p : ℕ → Bool) (xs rest : List ℕ) → list_all p xs ≡ true → stops p rest ≡ true → behind_front p (xs ++ rest) ≡ rest
pasts p [] [] h s = refl
pasts p [] (b ∷ rest) h s = past_stop p b rest (p b) refl s
pasts p (x ∷ xs) rest h s = let q = both (p x) (list_all p xs) h in rw q.0 (pasts p xs rest q.1 s)

field_found : (f : Field) → field_of_name (field_text f) ≡ Some f
field_found f = grind arith

field_letters : (f : Field) → is_field f ≡ true → list_all is_word_letter (field_text f) ≡ true
field_letters f h = grind arith

bare_not_quote : (b : ℕ) → is_bare_byte b ≡ true → (b == 34) ≡ false
bare_not_quote b h = grind (arith, nat_tests)

value_found : (v : Value) (rest : List ℕ) → is_filter_value v ≡ true → stops is_bare_byte rest ≡ true → value_at (value_text v ++ rest) ≡ Some (v, rest)
value_found v rest h s = grind (arith, nat_tests, bare_not_quote, fronts, pasts, append_assoc)

mark_found : (m : Operator) (rest : List ℕ) → operator_at (operator_byte m ∷ 61 ∷ rest) ≡ Some (m, rest)
mark_found m rest = grind arith

mark_stops : (m : Operator) (rest : List ℕ) → stops is_word_letter (operator_byte m ∷ rest) ≡ true
mark_stops m rest = grind arith

test_found : (f : Field) (m : Operator) (v : Value) (rest : List ℕ) → is_field f ≡ true → is_filter_value v ≡ true → stops is_bare_byte rest ≡ true
    → comparison_at (spelling (Comparison f m v) ++ rest) ≡ Some (Comparison f m v, rest)
test_found f m v rest h k s = grind (arith, append_assoc, fronts, field_letters, mark_stops, field_found, pasts, mark_found, value_found)

abbrev semi : ℕ → Bool
semi b = b == 59

abbrev comma : ℕ → Bool
comma b = b == 44

ands_stop_by : (n : ℕ) (t : Tree) (b : ℕ) (s : List ℕ) (c : Bool) → (b == 59) ≡ c → not c ≡ true → more_ands (suc n) t (b ∷ s) ≡ Some (t, b ∷ s)
ands_stop_by n t b s c e h = grind arith

ands_stop : (n : ℕ) (t : Tree) (rest : List ℕ) → stops semi rest ≡ true → more_ands n t rest ≡ Some (t, rest)
ands_stop n t rest h = grind (arith, ands_stop_by)

ors_stop_by : (n : ℕ) (t : Tree) (b : ℕ) (s : List ℕ) (c : Bool) → (b == 44) ≡ c → not c ≡ true → more_ors (suc n) t (b ∷ s) ≡ Some (t, b ∷ s)
ors_stop_by n t b s c e h = grind arith

ors_stop : (n : ℕ) (t : Tree) (rest : List ℕ) → stops comma rest ≡ true → more_ors n t rest ≡ Some (t, rest)
ors_stop n t rest h = grind (arith, ors_stop_by)

abbrev AtomReads : Tree → Type 0
AtomReads t = (n : ℕ) (rest : List ℕ) → stops is_bare_byte rest ≡ true → 3 * length (spelling t ++ rest) + 1 ≤ n → atom_at n (spelling t ++ rest)
    ≡ Some (t, rest)

abbrev AndReads : Tree → Type 0
AndReads t = (n : ℕ) (rest : List ℕ) → stops is_bare_byte rest ≡ true → 3 * length (spelling t ++ rest) + 2 ≤ n → (m : ℕ) × (3 * length rest + 1 ≤ m)
    × (and_at n (spelling t ++ rest) ≡ more_ands m t rest)

abbrev OrReads : Tree → Type 0
OrReads t = (n : ℕ) (rest : List ℕ) → stops is_bare_byte rest ≡ true → stops semi rest ≡ true → 3 * length (spelling t ++ rest) + 3 ≤ n → (m : ℕ)
    × (3 * length rest + 1 ≤ m) × (or_at n (spelling t ++ rest) ≡ more_ors m t rest)

and_from : (t : Tree) → AtomReads t → AndReads t
and_from t f zero rest s b = absurd (omega arith)
and_from t f (suc n) rest s b =
    (n, omega (arith, length-append (spelling t) rest), ap (option_and_then (λ (x : Tree × List ℕ). more_ands n x.0 x.1)) (f n rest s (omega arith)))

or_from : (t : Tree) → AndReads t → OrReads t
or_from t f zero rest s z b = absurd (omega arith)
or_from t f (suc n) rest s z b =
    let (m, l, e) = f n rest s (omega arith) in
    (n, omega (arith, length-append (spelling t) rest), ap (option_and_then (λ (x : Tree × List ℕ). more_ors n x.0 x.1)) (e ∙ ands_stop m t rest z))

both_step : (a b : Tree) (m : ℕ) (rest : List ℕ) → AtomReads b → stops is_bare_byte rest ≡ true → 3 * length (59 ∷ (spelling b ++ rest)) + 1 ≤ m → (k : ℕ)
    × (3 * length rest + 1 ≤ k) × (more_ands m a (59 ∷ (spelling b ++ rest)) ≡ more_ands k (And a b) rest)
both_step a b zero rest f s l = absurd (omega arith)
both_step a b (suc k) rest f s l =
    (k, omega (arith, length-append (spelling b) rest), ap (option_and_then (λ (x : Tree × List ℕ). more_ands k (And a x.0) x.1)) (f k rest s (omega arith)))

both_reads : (a b : Tree) → AndReads a → AtomReads b → AndReads (And a b)
both_reads a b f g n rest s l =
    let same : (spelling a ++ 59 ∷ spelling b) ++ rest ≡ spelling a ++ 59 ∷ (spelling b ++ rest) = append_assoc (spelling a) (59 ∷ spelling b) rest in
    let (m, r, e) = f n (59 ∷ (spelling b ++ rest)) refl (omega (arith, ap length same)) in
    let (k, q, w) = both_step a b m rest g s r in
    (k, q, ap (and_at n) same ∙ e ∙ w)

either_step : (a b : Tree) (m : ℕ) (rest : List ℕ) → AndReads b → stops is_bare_byte rest ≡ true → stops semi rest ≡ true
    → 3 * length (44 ∷ (spelling b ++ rest)) + 1 ≤ m → (k : ℕ) × (3 * length rest + 1 ≤ k)
    × (more_ors m a (44 ∷ (spelling b ++ rest)) ≡ more_ors k (Or a b) rest)
either_step a b zero rest f s z l = absurd (omega arith)
either_step a b (suc k) rest f s z l =
    let (i, r, e) = f k rest s (omega arith) in
    (k, omega (arith, length-append (spelling b) rest), ap (option_and_then (λ (x : Tree × List ℕ). more_ors k (Or a x.0) x.1)) (e ∙ ands_stop i b rest z))

either_reads : (a b : Tree) → OrReads a → AndReads b → OrReads (Or a b)
either_reads a b f g n rest s z l =
    let same : (spelling a ++ 44 ∷ spelling b) ++ rest ≡ spelling a ++ 44 ∷ (spelling b ++ rest) = append_assoc (spelling a) (44 ∷ spelling b) rest in
    let (m, r, e) = f n (44 ∷ (spelling b ++ rest)) refl refl (omega (arith, ap length same)) in
    let (k, q, w) = either_step a b m rest g s z r in
    (k, q, ap (or_at n) same ∙ e ∙ w)

group_reads : (t : Tree) → OrReads t → AtomReads (Group t)
group_reads t f zero rest s l = absurd (omega arith)
group_reads t f (suc n) rest s l =
    let same : (spelling t ++ 41 ∷ []) ++ rest ≡ spelling t ++ 41 ∷ rest = append_assoc (spelling t) (41 ∷ []) rest in
    let (m, r, e) = f n (41 ∷ rest) refl refl (omega (arith, ap length same)) in
    ap (λ y. option_and_then closed (or_at n y)) same ∙ ap (option_and_then closed) (e ∙ ors_stop m t (41 ∷ rest) refl)

test_reads : (f : Field) (e : Operator) (v : Value) → is_field f ≡ true → is_filter_value v ≡ true → AtomReads (Comparison f e v)
test_reads f e v h k zero rest s l = absurd (omega arith)
test_reads Id e v h k (suc n) rest s l = test_found Id e v rest h k s
test_reads Name e v h k (suc n) rest s l = test_found Name e v rest h k s
test_reads Tag e v h k (suc n) rest s l = test_found Tag e v rest h k s
test_reads (Attribute key) e v h k (suc n) rest s l = test_found (Attribute key) e v rest h k s

record Reading (t : Tree) : Type 0 where
  atom : is_at AtomLevel t ≡ true → AtomReads t
  ands : is_at AndLevel t ≡ true → AndReads t
  ors : is_at OrLevel t ≡ true → OrReads t

reading : (t : Tree) → Reading t
reading (Or a b) =
    let f = (reading a).ors in
    let g = (reading b).ands in
    record {
      atom = λ h. absurd (false≢true h);
      ands = λ h. absurd (false≢true h);
      ors = λ h. let p = both (is_at OrLevel a) (is_at AndLevel b) h in
          either_reads a b (f p.0) (g p.1);
    }
reading (And a b) =
    let f = (reading a).ands in
    let g = (reading b).atom in
    let ands = λ (h : is_at AndLevel (And a b) ≡ true). let p = both (is_at AndLevel a) (is_at AtomLevel b) h in both_reads a b (f p.0) (g p.1) in
    record { atom = λ h. absurd (false≢true h); ands = ands; ors = λ h. or_from (And a b) (ands h) }
reading (Group t) =
    let f = (reading t).ors in
    record {
      atom = λ h. group_reads t (f h);
      ands = λ h. and_from (Group t) (group_reads t (f h));
      ors = λ h. or_from (Group t) (and_from (Group t) (group_reads t (f h)));
    }
reading (Comparison f e v) =
    let go = λ (h : is_at AtomLevel (Comparison f e v) ≡ true). let p = both (is_field f) (is_filter_value v) h in test_reads f e v p.0 p.1 in
    record { atom = go; ands = λ h. and_from (Comparison f e v) (go h); ors = λ h. or_from (Comparison f e v) (and_from (Comparison f e v) (go h)) }

-- the tree of a text is found
pub parsed : (text : List ℕ) (t : Tree) (n : ℕ) → IsFilter text t → 3 * length text + 3 ≤ n → or_at n text ≡ Some (t, [])
parsed text t n h l =
    let full : text ≡ spelling t ++ [] = h.spells ∙ sym (append-nil (spelling t)) in
    let (m, r, e) = (reading t).ors h.level n [] refl refl (omega (arith, ap length full)) in
    ap (or_at n) full ∙ e ∙ ors_stop m t [] refl

first_of : {B : Type 0} (t u : Tree) (r s : B) → ◌≡◌ {A = Option (Tree × B)} (Some (t, r)) (Some (u, s)) → t ≡ u
first_of t u r s e = ap (λ o. option_map_or (λ x. x.0) o t) e

-- a text has one tree
pub one_tree : (text : List ℕ) (t u : Tree) → IsFilter text t → IsFilter text u → t ≡ u
one_tree text t u h k =
    first_of t u [] [] (sym (parsed text t (3 * length text + 3) h (omega arith)) ∙ parsed text u (3 * length text + 3) k (omega arith))

-- a tree that is found is the text's
pub found : (text : List ℕ) (n : ℕ) (t u : Tree) (r : List ℕ) → IsFilter text t → 3 * length text + 3 ≤ n → or_at n text ≡ Some (u, r) → t ≡ u
found text n t u r f l e = first_of t u [] r (sym (parsed text t n f l) ∙ e)
