-- No reply shows a float. The types of what is shown need these lemmas.
use Rattle.std.proofs.Common.{◌≡◌, ℕ, List, [], ◌∷◌, Bool, true, false, ◌||◌, true≢false}
use Rattle.std.proofs.Common.{refl, map, Option, Some, None, Ordering, Less, Equal, Greater, nat_cmp}
use Rattle.std.specs.Cmp.Lexicographic.{slice_cmp}
use Rattle.std.specs.Ordering.{match_ordering}
use Rattle.serde_json.specs.Data.{Data, Members, member, no_members, string, put}
use Rattle.serde_json.specs.View.{items_of}
use Rattle.serde_json.specs.Written.{has_float, items_have_float, members_have_float}
use Rattle.rollout_model.specs.declared.target.Attribute.{Attribute}
use Rattle.rollout_model.specs.declared.feedback.HistoryEntry.{HistoryEntry}
use Rattle.rollout_model.specs.declared.rollout.NumberedEntry.{NumberedEntry}
use Rattle.rollout_model.specs.declared.shown_target.ShownTarget.{ShownTarget}
use Rattle.mgmt_objects.specs.ActionObjects.{entry_data, entry_members, with_number_member}
use Rattle.mgmt_objects.specs.TargetObjects.{target_data, with_attribute_members}

pub items_have_float-map : {A : Type 0} (show : A → Data) → ((x : A) → has_float (show x) ≡ false) → (xs : List A)
    → items_have_float (items_of (map show xs)) ≡ false
items_have_float-map show none [] = refl
items_have_float-map show none (x ∷ xs) = rw (none x, items_have_float-map show none xs) refl

or_parts : (a b : Bool) → (a || b) ≡ false → (a ≡ false) × (b ≡ false)
or_parts false false none = (refl, refl)
or_parts false true none = absurd (true≢false none)
or_parts true b none = absurd (true≢false none)

put_at : (o : Ordering) (k l text : List ℕ) (d : Data) (ms : Members) → (has_float d ≡ false) × (members_have_float ms ≡ false)
    → members_have_float (put k (string text) ms) ≡ false
    → members_have_float (match_ordering o (member k (string text) (member l d ms)) (member l (string text) ms) (member l d (put k (string text) ms))) ≡ false
put_at Less k l text d ms none later = rw (none.0, none.1) refl
put_at Equal k l text d ms none later = none.1
put_at Greater k l text d ms none later = rw (none.0, later) refl

members_have_float-put : (k text : List ℕ) (ms : Members) → members_have_float ms ≡ false → members_have_float (put k (string text) ms) ≡ false
members_have_float-put k text no_members none = refl
members_have_float-put k text (member l d ms) none =
    let parts = or_parts (has_float d) (members_have_float ms) none in
    put_at (slice_cmp nat_cmp k l) k l text d ms parts (members_have_float-put k text ms parts.1)

members_have_float-with : (ms : Members) (attributes : List Attribute) → members_have_float ms ≡ false
    → members_have_float (with_attribute_members ms attributes) ≡ false
members_have_float-with ms [] none = none
members_have_float-with ms (a ∷ more) none = members_have_float-with (put a.key (string a.value) ms) more (members_have_float-put a.key a.value ms none)

pub target_has_no_float : (t : ShownTarget) → has_float (target_data t) ≡ false
target_has_no_float t = rw (members_have_float-with no_members t.attributes refl, items_have_float-map string (λ word. refl) t.tags) refl

numbered_has_no_float : (number : Option ℕ) (id : ℕ) (entry : HistoryEntry) → has_float (with_number_member number (entry_members id entry)) ≡ false
numbered_has_no_float None id entry = rw (items_have_float-map string (λ line. refl) entry.details) refl
numbered_has_no_float (Some n) id entry = rw (items_have_float-map string (λ line. refl) entry.details) refl

pub entry_has_no_float : (e : NumberedEntry) → has_float (entry_data e) ≡ false
entry_has_no_float e = numbered_has_no_float e.reported.number e.number e.reported.entry
