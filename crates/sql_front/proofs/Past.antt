-- How a table is found behind others.
use Rattle.sql_front.proofs.Common.{◌≡◌, inl, inr, refl, ap, ℕ, ◌+◌, ◌<◌, ◌≤◌, ◌==◌, Bool, false, ◌||◌, List, [], ◌∷◌, ◌++◌, length}
use Rattle.sql_front.proofs.Common.{Option, None, slice_get, find, arith, position_from, is_some, ne_eqb, Table, Schema, table_named, index_named}
use Rattle.sql_front.proofs.Common.{view_named, next_tree, is_used, table_below, Has, Name}

-- ---- the first of a longer list

pub position_past : {X : Type 0} (test : X → Bool) (i : ℕ) (front ours : List X) → position_from test i front ≡ None → position_from test i (front ++ ours)
    ≡ position_from test (length front + i) ours
position_past test i [] ours none = let same : 0 + i ≡ i = omega arith in rw same
position_past test i (x ∷ front) ours none = grind (arith, position_past test (i + 1) front ours)

pub slice_past : {X : Type 0} (front ours : List X) (k : ℕ) → slice_get (front ++ ours) (length front + k) ≡ slice_get ours k
slice_past [] ours k = let same : 0 + k ≡ k = omega arith in ap (slice_get ours) same
slice_past (x ∷ front) ours k = grind (arith, slice_past front ours k)

pub find_past : {X : Type 0} (test : X → Bool) (front ours : List X) → ((x : X) → Has front x → test x ≡ false) → find test (front ++ ours) ≡ find test ours
find_past test [] ours none = refl
find_past test (x ∷ front) ours none = rw (none x (inl refl)) (find_past test front ours (λ y h. none y (inr h)))

-- ---- names

none_of : {X Y Z : Type 0} (a : Option X) (b : Option Y) (c : Option Z) → (is_some a || is_some b || is_some c) ≡ false → (a ≡ None) × (b ≡ None) × (c ≡ None)
none_of a b c h = grind arith

-- a name that is free belongs to no table, index or view
pub unused : (schema : Schema) (name : Name) → is_used schema name ≡ false → (table_named schema name ≡ None) × (index_named schema name ≡ None)
    × (view_named schema name ≡ None)
unused schema name h = none_of (table_named schema name) (index_named schema name) (view_named schema name) h

pub above_all : (front : Schema) (t : Table) (tree : ℕ) → Has front.tables t → next_tree front ≤ tree → (t.tree == tree) ≡ false
above_all front t tree h high = let below : t.tree < next_tree front = table_below front t h in ne_eqb t.tree tree (λ e. absurd (omega arith))
