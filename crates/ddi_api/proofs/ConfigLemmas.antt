-- The attributes of an object, in a loop.
use Rattle.ddi_api.proofs.Common.{◌≡◌, ◌++◌, List, [], ◌∷◌, Option, Some, None, string_bytes, refl, sym, ◌∙◌, ◌⊎◌, view, members_view, Entry, Refusal}
use Rattle.ddi_api.proofs.Common.{traverse, attribute_of, member_attributes}
use Rattle.rollout_model.specs.declared.refusal.Refusal.TheVariants.{BadRequest, NoMemory}
use Rattle.rollout_model.specs.declared.target.Attribute.{Attribute}
use Rattle.mgmt_objects.proofs.TraverseLemmas.{traverse-push, traverse_stops_by}

abbrev pub attribute_at : Entry → Option Attribute
attribute_at e = attribute_of (string_bytes e.0) (view e.1)

attributes_traversed : (es : List Entry) → member_attributes (members_view es) ≡ traverse attribute_at es
attributes_traversed [] = refl
attributes_traversed (e ∷ es) = rw (attributes_traversed es) refl

-- one more is read
pub attributes_more : (done : List Entry) (e : Entry) (attributes : List Attribute) (a : Attribute) → member_attributes (members_view done) ≡ Some attributes
    → attribute_at e ≡ Some a
    → member_attributes (members_view (done ++ e ∷ [])) ≡ Some (attributes ++ a ∷ [])
attributes_more done e attributes a all one =
    attributes_traversed (done ++ e ∷ []) ∙ traverse-push attribute_at done attributes e a (sym (attributes_traversed done) ∙ all) one

-- one can't be read
pub attributes_refused : (done left : List Entry) (e : Entry) (attributes : List Attribute) (refusal : Refusal) → member_attributes (members_view done)
    ≡ Some attributes → (refusal ≡ NoMemory) ⊎ ((refusal ≡ BadRequest) × (attribute_at e ≡ None))
    → (refusal ≡ NoMemory) ⊎ ((refusal ≡ BadRequest) × (member_attributes (members_view (done ++ e ∷ left)) ≡ None))
attributes_refused done left e attributes refusal all why =
    rw (attributes_traversed (done ++ e ∷ left)) (traverse_stops_by attribute_at done left attributes e refusal (sym (attributes_traversed done) ∙ all) why)
