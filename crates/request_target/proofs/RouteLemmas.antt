-- Where a path in bytes leads, by whether it is a text.
use Rattle.request_target.proofs.Common.{◌≡◌, ℕ, List, Bool, true, false, cond, None, refl, route_in}
use Rattle.std.specs.Str.{IsUtf8, is_utf8}
use Rattle.std.proofs.lemmas.Str.{is_utf8-from_IsUtf8, IsUtf8-from_is_utf8}
use Rattle.request_target.specs.Routes.{route_of}

pub route_of-text : {T : Type 0} (table : List (List ℕ × T)) (path : List ℕ) → IsUtf8 path → route_of table path ≡ route_in table path
unfolding route_of
route_of-text table path text = rw (is_utf8-from_IsUtf8 path text) refl

pub route_of-no_text : {T : Type 0} (table : List (List ℕ × T)) (path : List ℕ) → (IsUtf8 path → ⊥) → route_of table path ≡ None
unfolding route_of
route_of-no_text table path unread = by (is_utf8 path) (λ is. unread (IsUtf8-from_is_utf8 path is))
  where
    by : (v : Bool) → (v ≡ true → ⊥) → cond v (route_in table path) None ≡ None
    by true no_text = absurd (no_text refl)
    by false no_text = refl
