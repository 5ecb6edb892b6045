-- The scanner goes through each filter.
use Rattle.target_filter.proofs.Common.{◌≡◌, ℕ, ◌+◌, ◌≤◌, ◌<◌, max, List, [], ◌∷◌, ◌++◌, length, Bool, true, false, ◌&&◌}
use Rattle.target_filter.proofs.Common.{refl, sym, ◌∙◌, ap, arith, append_assoc, add-zero, nat_le, nat_lt, list_all, false≢true, nat_tests}
use Rattle.target_filter.proofs.Common.{is_bare_byte, is_quotable_byte, Field, Id, Name, Tag, Attribute, Value, Bare, Quoted, Tree, Or, And}
use Rattle.target_filter.proofs.Common.{Group, Comparison, Level, OrLevel, AndLevel, AtomLevel, is_at, allows_or, allows_and, spelling, field_text, value_text}
use Rattle.target_filter.proofs.Common.{Operator, operator_byte, nesting, is_field, is_filter_value, is_word_letter, Mode, State, run}
use Rattle.target_filter.specs.private.Scanner as scan

pub both : (a b : Bool) → (a && b) ≡ true → (a ≡ true) × (b ≡ true)
both a b h = grind arith

abbrev pub in_mode : ℕ → ℕ → Mode → State
in_mode d e m = record { depth = d; deepest = e; mode = m }

key_step : (d e n k : ℕ) (x : List ℕ) → is_word_letter k ≡ true → nat_lt n 64 ≡ true → run (in_mode d e (scan.Key n)) (k ∷ x)
    ≡ run (in_mode d e (scan.Key (n + 1))) x
key_step d e n k x p q = rw (p, q) refl

pub lt_true : (m n : ℕ) → m < n → nat_lt m n ≡ true
lt_true m n h = grind (arith, nat_tests)

keys : (d e n : ℕ) (ks rest : List ℕ) → list_all is_word_letter ks ≡ true → n + length ks ≤ 64 → run (in_mode d e (scan.Key n)) (ks ++ rest)
    ≡ run (in_mode d e (scan.Key (n + length ks))) rest
keys d e n [] rest h l = ap (λ k. run (in_mode d e (scan.Key k)) rest) (sym (add-zero n))
keys d e n (k ∷ ks) rest h l =
    let p = both (is_word_letter k) (list_all is_word_letter ks) h in
    let sum : n + 1 + length ks ≡ n + length (k ∷ ks) = omega arith in
    key_step d e n k (ks ++ rest) p.0 (lt_true n 64 (omega arith)) ∙ keys d e (n + 1) ks rest p.1 (omega arith)
    ∙ ap (λ k. run (in_mode d e (scan.Key k)) rest) sum

bares : (d e : ℕ) (v rest : List ℕ) → list_all is_bare_byte v ≡ true → run (in_mode d e scan.Bare) (v ++ rest) ≡ run (in_mode d e scan.Bare) rest
bares d e [] rest h = refl
bares d e (b ∷ v) rest h = let p = both (is_bare_byte b) (list_all is_bare_byte v) h in rw p.0 (bares d e v rest p.1)

plains : (d e : ℕ) (v rest : List ℕ) → list_all is_quotable_byte v ≡ true → run (in_mode d e scan.Quoted) (v ++ rest) ≡ run (in_mode d e scan.Quoted) rest
plains d e [] rest h = refl
plains d e (b ∷ v) rest h = let p = both (is_quotable_byte b) (list_all is_quotable_byte v) h in rw p.0 (plains d e v rest p.1)

abbrev pub value_end : Value → Mode
value_end (Bare v) = scan.Bare
value_end (Quoted v) = scan.AtomEnd

value_read : (d e : ℕ) (v : Value) (rest : List ℕ) → is_filter_value v ≡ true → run (in_mode d e scan.Value) (value_text v ++ rest)
    ≡ run (in_mode d e (value_end v)) rest
value_read d e (Bare []) rest h = absurd (false≢true h)
value_read d e (Bare (b ∷ v)) rest h = let p = both (is_bare_byte b) (list_all is_bare_byte v) h in rw p.0 (bares d e v rest p.1)
value_read d e (Quoted v) rest h = ap (run (in_mode d e scan.Quoted)) (append_assoc v (34 ∷ []) rest) ∙ plains d e v (34 ∷ rest) h

abbrev pub field_end : Field → Mode
field_end Id = scan.FieldName [] false
field_end Name = scan.FieldName [] false
field_end Tag = scan.FieldName [] false
field_end (Attribute key) = scan.Key (length key)

field_read : (d e : ℕ) (f : Field) (rest : List ℕ) → is_field f ≡ true → run (in_mode d e scan.AtomStart) (field_text f ++ rest)
    ≡ run (in_mode d e (field_end f)) rest
field_read d e Id rest h = refl
field_read d e Name rest h = refl
field_read d e Tag rest h = refl
field_read d e (Attribute key) rest h =
    let p = both (nat_le 1 (length key) && nat_le (length key) 64) (list_all is_word_letter key) h in
    let q = both (nat_le 1 (length key)) (nat_le (length key) 64) p.0 in
    let small : 0 + length key ≤ 64 = grind (arith, nat_tests) in
    keys d e 0 key rest p.1 small ∙ ap (λ k. run (in_mode d e (scan.Key k)) rest) (omega arith)

mark_read : (d e : ℕ) (f : Field) (m : Operator) (rest : List ℕ) → is_field f ≡ true → run (in_mode d e (field_end f)) (operator_byte m ∷ 61 ∷ rest)
    ≡ run (in_mode d e scan.Value) rest
mark_read d e f m rest h = grind (arith, lt_true)

abbrev pub tree_end : Tree → Mode
tree_end (Or a b) = tree_end b
tree_end (And a b) = tree_end b
tree_end (Group t) = scan.AtomEnd
tree_end (Comparison f m v) = value_end v

pub tree_ends : (t : Tree) → scan.ends_atom (tree_end t) ≡ true
tree_ends (Or a b) = tree_ends b
tree_ends (And a b) = tree_ends b
tree_ends (Group t) = refl
tree_ends (Comparison f m (Bare v)) = refl
tree_ends (Comparison f m (Quoted v)) = refl

-- behind an atom
comma : (d e : ℕ) (m : Mode) (rest : List ℕ) → scan.ends_atom m ≡ true → run (in_mode d e m) (44 ∷ rest) ≡ run (in_mode d e scan.AtomStart) rest
comma d e m rest h = grind arith

semicolon : (d e : ℕ) (m : Mode) (rest : List ℕ) → scan.ends_atom m ≡ true → run (in_mode d e m) (59 ∷ rest) ≡ run (in_mode d e scan.AtomStart) rest
semicolon d e m rest h = grind arith

pub closed : (d e : ℕ) (m : Mode) (rest : List ℕ) → scan.ends_atom m ≡ true → run (in_mode (d + 1) e m) (41 ∷ rest) ≡ run (in_mode d e scan.AtomEnd) rest
closed d e m rest h = grind (arith, lt_true)

deeper : (d : ℕ) (m : Mode) (rest : List ℕ) (e f : ℕ) → e ≡ f → run (in_mode d e m) rest ≡ run (in_mode d f m) rest
deeper d m rest e f h = ap (λ k. run (in_mode d k m) rest) h

-- the scanner behind a tree
pub reads : (t : Tree) (l : Level) (d e : ℕ) (rest : List ℕ) → d ≤ e → is_at l t ≡ true → run (in_mode d e scan.AtomStart) (spelling t ++ rest)
    ≡ run (in_mode d (max e (d + nesting t)) (tree_end t)) rest
reads (Or a b) l d e rest o h =
    let p = both (allows_or l && is_at OrLevel a) (is_at AndLevel b) h in
    let q = both (allows_or l) (is_at OrLevel a) p.0 in
    ap (run (in_mode d e scan.AtomStart)) (append_assoc (spelling a) (44 ∷ spelling b) rest)
    ∙ reads a OrLevel d e (44 ∷ (spelling b ++ rest)) o q.1
    ∙ comma d (max e (d + nesting a)) (tree_end a) (spelling b ++ rest) (tree_ends a)
    ∙ reads b AndLevel d (max e (d + nesting a)) rest (omega arith) p.1
    ∙ deeper d (tree_end b) rest _ _ (omega arith)
reads (And a b) l d e rest o h =
    let p = both (allows_and l && is_at AndLevel a) (is_at AtomLevel b) h in
    let q = both (allows_and l) (is_at AndLevel a) p.0 in
    ap (run (in_mode d e scan.AtomStart)) (append_assoc (spelling a) (59 ∷ spelling b) rest)
    ∙ reads a AndLevel d e (59 ∷ (spelling b ++ rest)) o q.1
    ∙ semicolon d (max e (d + nesting a)) (tree_end a) (spelling b ++ rest) (tree_ends a)
    ∙ reads b AtomLevel d (max e (d + nesting a)) rest (omega arith) p.1
    ∙ deeper d (tree_end b) rest _ _ (omega arith)
reads (Group t) l d e rest o h =
    ap (run (in_mode (d + 1) (max e (d + 1)) scan.AtomStart)) (append_assoc (spelling t) (41 ∷ []) rest)
    ∙ reads t OrLevel (d + 1) (max e (d + 1)) (41 ∷ rest) (omega arith) h
    ∙ closed d (max (max e (d + 1)) (d + 1 + nesting t)) (tree_end t) rest (tree_ends t)
    ∙ deeper d scan.AtomEnd rest _ _ (omega arith)
reads (Comparison f m v) l d e rest o h =
    let p = both (is_field f) (is_filter_value v) h in
    ap (run (in_mode d e scan.AtomStart)) (append_assoc (field_text f) (operator_byte m ∷ 61 ∷ value_text v) rest)
    ∙ field_read d e f (operator_byte m ∷ 61 ∷ (value_text v ++ rest)) p.0
    ∙ mark_read d e f m (value_text v ++ rest) p.0
    ∙ value_read d e v rest p.1
    ∙ deeper d (value_end v) rest _ _ (omega arith)
