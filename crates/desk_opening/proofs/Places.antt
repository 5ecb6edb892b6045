-- What the texts of all tables make.
use Rattle.desk_opening.proofs.Common.{◌≡◌, refl, sym, ap, ◌∙◌, arith, ◌||◌, ℕ, suc, ◌+◌, ◌<◌, Bool, false, List, [], ◌∷◌, ◌++◌, length, map, take, drop}
use Rattle.desk_opening.proofs.Common.{get_or, list_any, or_parts, drop_more, length-map, take_more, Schema, Table, CreateTable, statement_of, IsAscending}
use Rattle.desk_opening.proofs.Common.{first, is_used, none_from_any, Means, Place, places, table_at, name_of, means_of, DeskTable, place_of, create_text_of}
use Rattle.std.proofs.Math.ListN.{get_or-map}
use Rattle.sqlite.specs.Listing.{understood}
use Rattle.sqlite_schema.specs.Names.{same_name}
use Rattle.sql_front.proofs.Write.{Makes, makes_known}
use Rattle.desk_opening.proofs.IsPlace.{text_at}
pub use Rattle.desk_opening.proofs.EachText.{is_place}

pub create_means : (t : Place) (s : Schema) → is_used s (name_of t) ≡ false → Means s (create_text_of t) CreateTable
create_means t s free = let makes = (is_place t).makes in means_of s (create_text_of t) _ (makes_known _ _ (table_at t 0) makes s free) refl refl

-- ---- all places

module _ (ds : List DeskTable) (n : ℕ) (d : DeskTable) (within : n < length ds) where
  below : n < length (map place_of ds)
  below = let same = length-map ds place_of in omega (arith, within, same)

  pub next_place : drop n (map place_of ds) ≡ place_of (get_or ds n d) ∷ drop (n + 1) (map place_of ds)
  next_place = drop_more (map place_of ds) n (place_of d) below ∙ ap (λ t. t ∷ drop (n + 1) (map place_of ds)) (get_or-map place_of ds n d)

  pub places_so_far : take (n + 1) (map place_of ds) ≡ take n (map place_of ds) ++ place_of (get_or ds n d) ∷ []
  places_so_far = take_more (map place_of ds) n (place_of d) below ∙ ap (λ t. take n (map place_of ds) ++ t ∷ []) (get_or-map place_of ds n d)

abbrev pub HaveNamesApart : Place → Place → Type 0
HaveNamesApart t u = same_name (name_of t) (name_of u) ≡ false

-- some name is that of a place further on
abbrev are_mixed : List Place → Bool
are_mixed [] = false
are_mixed (t ∷ ts) = list_any (λ u. same_name (name_of t) (name_of u)) ts || are_mixed ts

each_apart : (ts : List Place) → are_mixed ts ≡ false → IsAscending HaveNamesApart ts
each_apart [] h = tt
each_apart (t ∷ ts) h = let both = or_parts _ _ h in (none_from_any (λ u. same_name (name_of t) (name_of u)) ts both.0, each_apart ts both.1)

pub names_apart : IsAscending HaveNamesApart places
unfolding same_name
names_apart = each_apart places refl

-- ---- the texts

text_made : (sql name : List ℕ) (table : Table) (m : Makes sql name table) (s : Schema) → is_used s name ≡ false → text_at (first sql) sql ≡ sql
    → statement_of sql (understood s sql) ≡ sql
unfolding understood
text_made sql name table m s free whole = rw (makes_known sql name table m s free) (ap (λ r. text_at r sql) (sym m.read) ∙ whole)

pub create_text : (t : Place) (s : Schema) → is_used s (name_of t) ≡ false → statement_of (create_text_of t) (understood s (create_text_of t))
    ≡ create_text_of t
create_text t s free = text_made (create_text_of t) (name_of t) (table_at t 0) (is_place t).makes s free (is_place t).whole

-- ---- the places behind so many

pub behind_apart : (n : ℕ) (ts : List Place) → IsAscending HaveNamesApart ts → IsAscending HaveNamesApart (drop n ts)
behind_apart (suc n) (t ∷ ts) h = behind_apart n ts h.1
behind_apart n ts h = grind arith
