-- What stands behind a beginning that the scanner went through: parts of trees.
use Rattle.target_filter.proofs.Common.{◌≡◌, ℕ, ◌≤◌, List, [], ◌∷◌, ◌++◌, length, Bool, true, false, ◌&&◌}
use Rattle.target_filter.proofs.Common.{Option, Some, None, arith, append_assoc, codes}
use Rattle.target_filter.proofs.Common.{list_all, false≢true, is_quotable_byte, Field}
use Rattle.target_filter.proofs.Common.{Bare, Tree, Or, And, Group, Comparison, Level, OrLevel, AndLevel, AtomLevel, is_at}
use Rattle.target_filter.proofs.Common.{spelling, field_text, Operator, operator_byte, is_field, is_filter_value}
use Rattle.target_filter.proofs.Common.{is_word_letter, Mode}
use Rattle.target_filter.specs.private.Scanner as scan

-- the part of the level that is open: what stands before the last `,`, and behind it before the last `;`
pub record Part : Type 0 where
  pub ors : Option Tree
  pub ands : Option Tree

abbrev pub before : ℕ → Option Tree → List ℕ
before b None = []
before b (Some t) = spelling t ++ b ∷ []

abbrev pub part_text : Part → List ℕ
part_text p = before 44 p.ors ++ before 59 p.ands

abbrev pub fits : Level → Option Tree → Type 0
fits l None = Unit {0}
fits l (Some t) = is_at l t ≡ true

abbrev pub PartFits : Part → Type 0
PartFits p = fits OrLevel p.ors × fits AndLevel p.ands

abbrev pub and_with : Option Tree → Tree → Tree
and_with None x = x
and_with (Some t) x = And t x

abbrev pub or_with : Option Tree → Tree → Tree
or_with None x = x
or_with (Some t) x = Or t x

pub and_spelled : (o : Option Tree) (x : Tree) → spelling (and_with o x) ≡ before 59 o ++ spelling x
and_spelled o x = grind (arith, append_assoc)

-- an atom is an and, an and is an or
pub and_from_atom : (t : Tree) → is_at AtomLevel t ≡ true → is_at AndLevel t ≡ true
and_from_atom (Or a b) h = absurd (false≢true h)
and_from_atom (And a b) h = absurd (false≢true h)
and_from_atom (Group t) h = h
and_from_atom (Comparison f m v) h = h

pub or_from_and : (t : Tree) → is_at AndLevel t ≡ true → is_at OrLevel t ≡ true
or_from_and (Or a b) h = absurd (false≢true h)
or_from_and (And a b) h = h
or_from_and (Group t) h = h
or_from_and (Comparison f m v) h = h

pub all_of : (a b : Bool) → a ≡ true → b ≡ true → (a && b) ≡ true
all_of a b h k = grind arith

pub and_fits : (o : Option Tree) (x : Tree) → fits AndLevel o → is_at AtomLevel x ≡ true → is_at AndLevel (and_with o x) ≡ true
and_fits o x h k = grind (arith, and_from_atom, all_of)

-- the tree that the part makes with a last atom
abbrev pub whole : Part → Tree → Tree
whole p x = or_with p.ors (and_with p.ands x)

pub whole_spelled : (p : Part) (x : Tree) → spelling (whole p x) ≡ part_text p ++ spelling x
whole_spelled p x = grind (arith, append_assoc, and_spelled)

pub whole_fits : (p : Part) (x : Tree) → PartFits p → is_at AtomLevel x ≡ true → is_at OrLevel (whole p x) ≡ true
whole_fits p x h k = grind (arith, or_from_and, all_of, and_fits)

-- the enclosing levels, the innermost first
abbrev pub outer_text : List Part → List ℕ
outer_text [] = []
outer_text (p ∷ ps) = outer_text ps ++ part_text p ++ 40 ∷ []

abbrev pub AllFit : List Part → Type 0
AllFit [] = Unit {0}
AllFit (p ∷ ps) = PartFits p × AllFit ps

-- what stands of the atom that is begun
abbrev pub Begun : Mode → List ℕ → Type 0
Begun scan.AtomStart x = x ≡ []
Begun (scan.FieldName [] true) x = ⊥
Begun (scan.FieldName (y ∷ ys) true) x = x ++ y ∷ ys ≡ codes "attribute."
Begun (scan.FieldName left false) x = (f : Field) × (is_field f ≡ true) × (x ++ left ≡ field_text f)
Begun (scan.Key n) x = (key : List ℕ) × (list_all is_word_letter key ≡ true) × (length key ≡ n) × (n ≤ 64) × (x ≡ codes "attribute." ++ key)
Begun scan.Equals x = (f : Field) × (m : Operator) × (is_field f ≡ true) × (x ≡ field_text f ++ operator_byte m ∷ [])
Begun scan.Value x = (f : Field) × (m : Operator) × (is_field f ≡ true) × (x ≡ field_text f ++ operator_byte m ∷ 61 ∷ [])
Begun scan.Bare x = (f : Field) × (m : Operator) × (v : List ℕ) × (is_field f ≡ true) × (is_filter_value (Bare v) ≡ true)
    × (x ≡ field_text f ++ operator_byte m ∷ 61 ∷ v)
Begun scan.Quoted x = (f : Field) × (m : Operator) × (v : List ℕ) × (is_field f ≡ true) × (list_all is_quotable_byte v ≡ true)
    × (x ≡ field_text f ++ operator_byte m ∷ 61 ∷ 34 ∷ v)
Begun scan.AtomEnd x = (t : Tree) × (is_at AtomLevel t ≡ true) × (x ≡ spelling t)

-- a mode behind an atom
pub atom_of : (m : Mode) (x : List ℕ) → scan.ends_atom m ≡ true → Begun m x → (t : Tree) × (is_at AtomLevel t ≡ true) × (x ≡ spelling t)
atom_of scan.AtomStart x h b = absurd (false≢true h)
atom_of (scan.FieldName l k) x h b = absurd (false≢true h)
atom_of (scan.Key n) x h b = absurd (false≢true h)
atom_of scan.Equals x h b = absurd (false≢true h)
atom_of scan.Value x h b = absurd (false≢true h)
atom_of scan.Quoted x h b = absurd (false≢true h)
atom_of scan.Bare x h (f, m, v, p, q, e) = (Comparison f m (Bare v), all_of (is_field f) (is_filter_value (Bare v)) p q, e)
atom_of scan.AtomEnd x h b = b
