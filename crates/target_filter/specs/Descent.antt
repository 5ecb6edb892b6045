-- The tree of a text, by descent; the first argument bounds how deep the calls go.
use Rattle.std.specs.Prelude.{ℕ, zero, suc, List, [], ◌∷◌, drop, Bool, cond, nat_eq, ◌==◌, Option, Some, None, codes}
use Rattle.std.specs.List.{starts_with}
use Rattle.std.specs.Option.{option_and_then, option_map}
use Rattle.std.specs.Cmp.Lexicographic.{pointwise}
use Rattle.rollout_model.specs.Rules.{is_word_letter}
use Rattle.target_filter.specs.Grammar.{is_bare_byte, is_quotable_byte, Field, Id, Name, Tag, Attribute, Operator, Equal, NotEqual, Value, Bare}
use Rattle.target_filter.specs.Grammar.{Quoted, Tree, Or, And, Group, Comparison}

-- the bytes in front that pass the test, and what stands behind them
abbrev pub front : (ℕ → Bool) → List ℕ → List ℕ
front p [] = []
front p (b ∷ bs) = cond (p b) (b ∷ front p bs) []

abbrev pub behind_front : (ℕ → Bool) → List ℕ → List ℕ
behind_front p [] = []
behind_front p (b ∷ bs) = cond (p b) (behind_front p bs) (b ∷ bs)

abbrev pub attribute_field : List ℕ → Option Field
attribute_field name = cond (starts_with nat_eq name (codes "attribute.")) (Some (Attribute (drop 10 name))) None

abbrev pub field_of_name : List ℕ → Option Field
field_of_name name = cond (pointwise nat_eq name (codes "controllerid")) (Some Id)
    (cond (pointwise nat_eq name (codes "name")) (Some Name) (cond (pointwise nat_eq name (codes "tag")) (Some Tag) (attribute_field name)))

abbrev pub operator_at : List ℕ → Option (Operator × List ℕ)
operator_at [] = None
operator_at (a ∷ []) = None
operator_at (a ∷ b ∷ rest) = cond (b == 61) (cond (a == 61) (Some (Equal, rest)) (cond (a == 33) (Some (NotEqual, rest)) None)) None

abbrev pub quoted_value : List ℕ → List ℕ → Option (Value × List ℕ)
quoted_value pattern [] = None
quoted_value pattern (b ∷ rest) = cond (b == 34) (Some (Quoted pattern, rest)) None

abbrev pub bare_value : List ℕ → List ℕ → Option (Value × List ℕ)
bare_value [] rest = None
bare_value (b ∷ pattern) rest = Some (Bare (b ∷ pattern), rest)

abbrev pub value_at : List ℕ → Option (Value × List ℕ)
value_at [] = None
value_at (b ∷ s) = cond (b == 34) (quoted_value (front is_quotable_byte s) (behind_front is_quotable_byte s))
    (bare_value (front is_bare_byte (b ∷ s)) (behind_front is_bare_byte (b ∷ s)))

abbrev pub comparison_at : List ℕ → Option (Tree × List ℕ)
comparison_at s = option_and_then (λ f. option_and_then (λ (m : Operator × List ℕ). option_map (λ (v : Value × List ℕ). (Comparison f m.0 v.0, v.1))
    (value_at m.1)) (operator_at (behind_front is_word_letter s))) (field_of_name (front is_word_letter s))

abbrev pub closed : Tree × List ℕ → Option (Tree × List ℕ)
closed (t, []) = None
closed (t, b ∷ rest) = cond (b == 41) (Some (Group t, rest)) None

abbrev mutual
  pub or_at : ℕ → List ℕ → Option (Tree × List ℕ)
  or_at zero s = None
  or_at (suc n) s = option_and_then (λ (x : Tree × List ℕ). more_ors n x.0 x.1) (and_at n s)

  pub more_ors : ℕ → Tree → List ℕ → Option (Tree × List ℕ)
  more_ors zero t s = Some (t, s)
  more_ors (suc n) t [] = Some (t, [])
  more_ors (suc n) t (b ∷ s) = cond (b == 44) (option_and_then (λ (x : Tree × List ℕ). more_ors n (Or t x.0) x.1) (and_at n s)) (Some (t, b ∷ s))

  pub and_at : ℕ → List ℕ → Option (Tree × List ℕ)
  and_at zero s = None
  and_at (suc n) s = option_and_then (λ (x : Tree × List ℕ). more_ands n x.0 x.1) (atom_at n s)

  pub more_ands : ℕ → Tree → List ℕ → Option (Tree × List ℕ)
  more_ands zero t s = Some (t, s)
  more_ands (suc n) t [] = Some (t, [])
  more_ands (suc n) t (b ∷ s) = cond (b == 59) (option_and_then (λ (x : Tree × List ℕ). more_ands n (And t x.0) x.1) (atom_at n s)) (Some (t, b ∷ s))

  pub atom_at : ℕ → List ℕ → Option (Tree × List ℕ)
  atom_at zero s = None
  atom_at (suc n) [] = None
  atom_at (suc n) (b ∷ s) = cond (b == 40) (option_and_then closed (or_at n s)) (comparison_at (b ∷ s))
