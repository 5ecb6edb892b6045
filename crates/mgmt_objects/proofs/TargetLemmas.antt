-- The members of attributes, in a loop.
use Rattle.mgmt_objects.proofs.Common.{◌≡◌, ◌<◌, ◌+◌, ℕ, List, length, drop, get_or, ◌∷◌, ap, sym, ◌∙◌, Members, put, string, with_attribute_members}
use Rattle.std.proofs.lemmas.List.{at_drop_more}
use Rattle.rollout_model.specs.declared.target.Attribute.{Attribute}

-- one more is put
pub with_attributes_more : (members : Members) (attributes : List Attribute) (i : ℕ) (a : Attribute) → i < length attributes → a ≡ get_or attributes i a
    → with_attribute_members (put a.key (string a.value) members) (drop (i + 1) attributes) ≡ with_attribute_members members (drop i attributes)
with_attributes_more members attributes i a below is =
    let more : with_attribute_members members (drop i attributes) ≡ with_attribute_members members (get_or attributes i a ∷ drop (i + 1) attributes) =
    at_drop_more (with_attribute_members members) attributes i a below in
    sym (more ∙ ap (λ (b : Attribute). with_attribute_members members (b ∷ drop (i + 1) attributes)) (sym is))
