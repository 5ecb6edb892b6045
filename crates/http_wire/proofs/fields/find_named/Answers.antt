use Rattle.http_wire.proofs.Common.{◌≡◌, ℕ, ◌+◌, ◌<◌, ◌≤◌, true, Option, List, [], ◌∷◌, ◌++◌, length, map, take, drop, get_or, sym, ap, ◌∙◌, arith}
use Rattle.http_wire.proofs.Common.{option_map, is_some, option_to_list, cond-true, length-append, take-append-drop, take-map, length-map, get_or-map, Field}
use Rattle.http_wire.proofs.Common.{NameAndValue, is_named, fields_named, field_view}
use Rattle.std.proofs.lemmas.List.Elements.{filter-append, filter_more}
use Rattle.http_wire.proofs.fields.find_named.Goals as goal

-- a front has no more fields of the name than all
front_le : (name : List ℕ) (fs : List NameAndValue) (i : ℕ) → length (fields_named name (take i fs)) ≤ length (fields_named name fs)
front_le name fs i = omega (
  arith,
  ap (λ l. length (fields_named name l)) (take-append-drop i fs),
  ap length (filter-append (is_named name) (take i fs) (drop i fs)),
  length-append (fields_named name (take i fs)) (fields_named name (drop i fs)),
)

one : (first : Option Field) → true ≡ is_some first → length (option_to_list (option_map field_view first)) ≡ 1
one first e = grind arith

two : (name : List ℕ) (fields : List Field) (i : ℕ) (first : Option Field) (d : Field) → i < length fields
    → fields_named name (map field_view (take i fields)) ≡ option_to_list (option_map field_view first)
    → true ≡ is_some first → true ≡ is_named name (field_view (get_or fields i d))
    → 1 < length (fields_named name (map field_view fields))
two name fields i first d l e some here =
    let fs = map field_view fields in
    let read : get_or fs i (field_view d) ≡ field_view (get_or fields i d) = get_or-map field_view fields i d (field_view d) l in
    let test : is_named name (get_or fs i (field_view d)) ≡ true = ap (is_named name) read ∙ sym here in
    let step = filter_more (is_named name) fs i (field_view d) (omega (arith, length-map fields field_view))
    ∙ ap (λ t. fields_named name (take i fs) ++ t) (cond-true _ _ _ test) in
    omega (
      arith,
      front_le name fs (i + 1),
      ap length step,
      length-append (fields_named name (take i fs)) (get_or fs i (field_view d) ∷ []),
      ap (λ t. length (fields_named name t)) (take-map field_view i fields),
      ap length e,
      one first some,
    )

pub returns-then-is_some : goal.returns-then-is_some
returns-then-is_some c =
    two c.args.name.now c.args.fields.now c.loop-field.field-index c.loop-field.first _ c.loop-field-test.true c.loop-field.invariant c.if-is_some.ensures
    c.if-is_named.ensures
