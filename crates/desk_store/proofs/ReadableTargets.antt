-- A ledger can be read with other targets too, where these keep their rules.
use Rattle.desk_store.proofs.Common.{◌≡◌, ◌<◌, ◌^◌, ℕ, pos, true, Option, None, Some, List, [], ◌∷◌, length, sym, ap, subst, ◌∙◌, arith, list_all, and_parts}
use Rattle.desk_store.proofs.Common.{length-map, Row, Int, Text, test_has, Has, is_word, Bytes, Records, Target, ledger_of, Actions, Artifacts, Feedbacks}
use Rattle.desk_store.proofs.Common.{Groups, Members, Numbers, Offers, Place, Rollouts, Targets, Column, has_mapped, BreaksColumn, IsReadable}
use Rattle.sql_calls.proofs.Counts.{length_held}
use Rattle.rollout_model.specs.Pairs.{is_attribute}
use Rattle.rollout_model.specs.Rules.{is_digest, is_text}
use Rattle.rollout_machine.specs.Commands.{Attribute}
use Rattle.desk_records.specs.Holds.{IsHeld}
use Rattle.desk_records.specs.RowFaults.{BreaksRule}
use Rattle.desk_records.specs.Schema.{Desk, Modules, Pieces, Rules, SetModules, Sets, TargetAttributes, TargetTags}
use Rattle.desk_records.specs.Targets.{attribute_rows, tag_rows, target_row}
use Rattle.desk_records.proofs.EachPlace.{by_place}
use Rattle.desk_records.proofs.HeldTables.{wanted_of}
use Rattle.desk_records.proofs.Membership.{has_flat}

-- its own words and texts, and those of its tags and attributes, are such
pub record KeepsTarget (x : Target) : Type 0 where
  pub id : is_word x.id ≡ true
  pub name : is_text x.name ≡ true
  pub digest : is_digest x.digest ≡ true
  pub tags : list_all is_word x.tags ≡ true
  pub attributes : list_all is_attribute x.attributes ≡ true

unbroken : (column : Option Column) → column ≡ None → BreaksRule column → ⊥
unbroken column none broken = let told : None ≡ Some broken.first = sym none ∙ broken.is in absurd cc

module _ (r : Records) (w : IsReadable (ledger_of r)) (ts : List Target) (keep : (x : Target) → Has ts x → KeepsTarget x) (few : length ts < 2 ^ 32) where
  of_target : (n : ℕ) (x : Target) → KeepsTarget x → BreaksColumn Targets (Int (pos n) ∷ target_row x) → ⊥
  of_target n x keeps h3 = grind (arith, unbroken)

  of_tag : (n : ℕ) (x : Target) (tag : Bytes) → KeepsTarget x → Has x.tags tag → BreaksColumn TargetTags (Int (pos n) ∷ Text x.id ∷ Text tag ∷ []) → ⊥
  of_tag n x tag keeps its broken = grind (arith, test_has, unbroken)

  of_attribute : (n : ℕ) (x : Target) (a : Attribute) → KeepsTarget x → Has x.attributes a
      → BreaksColumn TargetAttributes (Int (pos n) ∷ Text x.id ∷ Text a.key ∷ Text a.value ∷ []) → ⊥
  of_attribute n x a keeps its broken = grind (arith, and_parts, test_has, unbroken)

  abbrev Keeps : Place → Type 0
  Keeps p = (rows : List Row) → IsHeld (ledger_of (record r { targets = ts })) p rows → (row : Row) → Has rows row → BreaksColumn p row → ⊥

  keeps_targets : Keeps Targets
  keeps_targets rows held row among broken =
      let content = wanted_of rows _ row held among in
      let source = has_mapped target_row ts content.1 content.2 in
      of_target content.0 source.0 (keep source.0 source.1)
      (subst (BreaksColumn Targets) (content.3 ∙ ap (λ (z : Row). Int (pos content.0) ∷ z) source.2) broken)

  keeps_tags : Keeps TargetTags
  keeps_tags rows held row among broken =
      let content = wanted_of rows _ row held among in
      let its = has_flat tag_rows ts content.1 content.2 in
      let source = has_mapped (λ (tag : Bytes). Text its.0.id ∷ Text tag ∷ []) its.0.tags content.1 its.2 in
      of_tag content.0 its.0 source.0 (keep its.0 its.1) source.1
      (subst (BreaksColumn TargetTags) (content.3 ∙ ap (λ (z : Row). Int (pos content.0) ∷ z) source.2) broken)

  keeps_attributes : Keeps TargetAttributes
  keeps_attributes rows held row among broken =
      let content = wanted_of rows _ row held among in
      let its = has_flat attribute_rows ts content.1 content.2 in
      let source = has_mapped (λ (a : Attribute). Text its.0.id ∷ Text a.key ∷ Text a.value ∷ []) its.0.attributes content.1 its.2 in
      of_attribute content.0 its.0 source.0 (keep its.0 its.1) source.1
      (subst (BreaksColumn TargetAttributes) (content.3 ∙ ap (λ (z : Row). Int (pos content.0) ∷ z) source.2) broken)

  keeps : (p : Place) → Keeps p
  keeps = by_place Keeps (w.keep Desk) (w.keep Modules) (w.keep Sets) (w.keep SetModules) (w.keep Artifacts) (w.keep Pieces)
      keeps_targets keeps_tags keeps_attributes (w.keep Rollouts) (w.keep Members) (w.keep Groups) (w.keep Actions) (w.keep Feedbacks) (w.keep Offers)
      (w.keep Rules) (w.keep Numbers)

  pub readable_with : IsReadable (ledger_of (record r { targets = ts }))
  readable_with = record {
    keep = keeps;
    few = λ rows held. (let size = length_held rows _ held in let mapped = length-map ts target_row in omega (arith, size, mapped, few));
  }
