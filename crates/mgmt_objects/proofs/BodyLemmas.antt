-- The value of a body, and the one item of an array.
use Rattle.mgmt_objects.proofs.Common.{◌≡◌, ◌≢◌, ℕ, List, [], ◌∷◌, length, Bool, true, false, Option, Some, None, option_and_then, cond, refl, sym, ◌∙◌, map}
use Rattle.mgmt_objects.proofs.Common.{Data, as_array}
use Rattle.mgmt_objects.proofs.Common.{Value, view, items_view, items_of}
use Rattle.std.specs.Str.{IsUtf8, is_utf8}
use Rattle.std.proofs.lemmas.Str.{is_utf8-from_IsUtf8, IsUtf8-from_is_utf8}
use Rattle.serde_json.specs.Read.{read}
use Rattle.std.proofs.lemmas.List.{length-map}
use Rattle.mgmt_objects.specs.Bodies.{body_data, only_item}

pub body_is : (bytes : List ℕ) (d : Data) → IsUtf8 bytes → read bytes ≡ Some d → body_data bytes ≡ Some d
body_is bytes d text is_d = rw (is_utf8-from_IsUtf8 bytes text) is_d

no_body : (b : Bool) (found : Option Data) → (b ≡ true → found ≡ None) → cond b found None ≡ None
no_body true found none = none refl
no_body false found none = refl

pub body_is_none : (bytes : List ℕ) → (IsUtf8 bytes → read bytes ≡ None) → body_data bytes ≡ None
body_is_none bytes none = no_body (is_utf8 bytes) (read bytes) (λ e. none (IsUtf8-from_is_utf8 bytes e))

pub only_item_is_none : (ds : List Data) → length ds ≢ 1 → only_item (items_of ds) ≡ None
only_item_is_none [] other = refl
only_item_is_none (d ∷ []) other = absurd (other refl)
only_item_is_none (d ∷ e ∷ ds) other = refl

pub only_is_none : (vs : List Value) (d : Data) → Some (items_view vs) ≡ as_array d → length vs ≢ 1 → None ≡ option_and_then only_item (as_array d)
only_is_none vs d listed other =
    rw (← listed) (sym (only_item_is_none (map view vs) (λ e. other (sym (length-map vs view) ∙ e))))
