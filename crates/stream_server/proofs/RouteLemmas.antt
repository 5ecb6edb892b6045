-- The first word of a path says which interface's router can know it.
use native.Mathlib.Omega.{arith}
use Rattle.stream_server.proofs.Common.{◌≡◌, ℕ, List, [], ◌∷◌, Bool, true, false, not, ◌&&◌, nat_lt, length, cond, bytes_eq, codes, Option, Some, None, refl}
use Rattle.stream_server.proofs.Common.{sym, ap, ◌∙◌, subst, slice_get, false≢true, WireMessage}
use Rattle.std.specs.Cmp.Lexicographic.{pointwise}
use Rattle.std.specs.List.{list_all}
use Rattle.std.specs.Option.{is_some}
use Rattle.std.specs.Prelude.{if◌then◌else◌}
use Rattle.std.specs.Str.{is_utf8}
use Rattle.std.proofs.lemmas.Slice.Eq.{bytes_eq-Decides}
use Rattle.request_target.specs.Routes.{segments, is_parameter, stands_for, route_in, route_of}
use Rattle.request_target.proofs.Longest.{both}
use Rattle.http_wire.specs.Targets.{path_of}
use Rattle.ddi_api.specs.declared.call.DeviceCall.{DeviceCall}
use Rattle.ddi_api.specs.Reading.{device_reading}
use Rattle.mgmt_api.specs.Reading.{manage_reading}
use Rattle.ddi_api.specs.Routes.{device_table}
use Rattle.mgmt_api.specs.Routes.{manage_table}

-- what stands behind the first slash is such a word
abbrev opens_by : (List ℕ → Bool) → List (List ℕ) → Bool
opens_by P (before ∷ word ∷ rest) = P word
opens_by P shorter = false

-- a route's segment that stands for itself, and is such a word
abbrev is_written : (List ℕ → Bool) → List ℕ → Bool
is_written P part = not (is_parameter part) && P part

abbrev all_open_by : {T : Type 0} → (List ℕ → Bool) → List (List ℕ × T) → Bool
all_open_by P table = list_all (λ r. opens_by (is_written P) (segments r.0)) table

module _ (P : List ℕ → Bool) where
  stood_for : (part segment : List ℕ) → is_written P part ≡ true → stands_for part segment ≡ true → P segment ≡ true
  stood_for part segment written stands = by (is_parameter part) written stands
    where
      by : (v : Bool) → (not v && P part) ≡ true → cond v (nat_lt 0 (length segment)) (bytes_eq part segment) ≡ true → P segment ≡ true
      by true never stands = absurd (false≢true never)
      by false is same = subst (λ (word : List ℕ). P word ≡ true) ((bytes_eq-Decides part segment).0 same) is

  fits_open : (parts path : List (List ℕ)) → opens_by (is_written P) parts ≡ true → pointwise stands_for parts path ≡ true → opens_by P path ≡ true
  fits_open parts path written fit = grind (arith, stood_for)

  found_open : {T : Type 0} (table : List (List ℕ × T)) (path : List ℕ) (x : T) → all_open_by P table ≡ true → route_in table path ≡ Some x
      → opens_by P (segments path) ≡ true
  found_open [] path x all found = absurd cc
  found_open (r ∷ table) path x all found =
      let of = both (opens_by (is_written P) (segments r.0)) (all_open_by P table) all in
      by (pointwise stands_for (segments r.0) (segments path)) refl found of.0 (found_open table path x of.1)
    where
      by : (v : Bool) → pointwise stands_for (segments r.0) (segments path) ≡ v → cond v (Some r.1) (route_in table path) ≡ Some x
          → opens_by (is_written P) (segments r.0)
          ≡ true
          → (route_in table path ≡ Some x → opens_by P (segments path) ≡ true) → opens_by P (segments path) ≡ true
      by true fit found written later = fits_open (segments r.0) (segments path) written fit
      by false fit found written later = later found

  -- a table of routes that all begin by such a word has none for a path that doesn't
  leads_nowhere : {T : Type 0} (table : List (List ℕ × T)) (path : List ℕ) (is_text : Bool) → all_open_by P table ≡ true → opens_by P (segments path) ≡ false
      → cond is_text (route_in table path) None ≡ None
  leads_nowhere table path is_text all closed = grind (arith, found_open)

-- ---- the two tables

abbrev is_devices : List ℕ → Bool
is_devices word = bytes_eq word (codes "DEFAULT")

abbrev is_other : List ℕ → Bool
is_other word = not (is_devices word)

devices_open : all_open_by is_devices device_table ≡ true
devices_open = refl

others_open : all_open_by is_other manage_table ≡ true
others_open = refl

no_other : (path : List (List ℕ)) → opens_by is_devices path ≡ true → opens_by is_other path ≡ false
no_other path is = grind arith

opened_by : (path : List (List ℕ)) (word : List ℕ) → Some word ≡ slice_get path 1 → is_devices word ≡ opens_by is_devices path
opened_by [] word at = absurd cc
opened_by (a ∷ []) word at = absurd cc
opened_by (a ∷ other ∷ rest) word at = let same : word ≡ other = cc in ap is_devices same

opened_by_none : (path : List (List ℕ)) → None ≡ slice_get path 1 → opens_by is_devices path ≡ false
opened_by_none path at = grind arith

module _ (path word : List ℕ) (at : Some word ≡ slice_get (segments path) 1) where
  pub not_of_management : bytes_eq word (codes "DEFAULT") ≡ true → route_of manage_table path ≡ None
  unfolding route_of
  not_of_management is = leads_nowhere is_other manage_table path (is_utf8 path) others_open
      (no_other (segments path) (sym (opened_by (segments path) word at) ∙ is))

  pub not_of_devices : bytes_eq word (codes "DEFAULT") ≡ false → route_of device_table path ≡ None
  unfolding route_of
  not_of_devices is = leads_nowhere is_devices device_table path (is_utf8 path) devices_open (sym (opened_by (segments path) word at) ∙ is)

pub without_word : (path : List ℕ) → None ≡ slice_get (segments path) 1 → route_of device_table path ≡ None
unfolding route_of
without_word path at = leads_nowhere is_devices device_table path (is_utf8 path) devices_open (opened_by_none (segments path) at)

-- ---- what is read

-- a path that is none of management's is read as a device's: both readings reject what has no route
pub as_of_device : (m : WireMessage) → route_of manage_table (path_of m.target) ≡ None
    → (if is_some (route_of device_table (path_of m.target)) then device_reading m else manage_reading m) ≡ device_reading m
as_of_device m none = by (route_of device_table (path_of m.target)) refl
  where
    by : (o : Option DeviceCall) → route_of device_table (path_of m.target) ≡ o → (if is_some o then device_reading m else manage_reading m) ≡ device_reading m
    by (Some call) is = refl
    by None is = rw (none, is) refl
