-- What a table that is made leaves of the tables before it, and how it stands itself.
use Rattle.sql_front.proofs.Common.{◌≡◌, refl, sym, ap, ◌∙◌, ℕ, zero, suc, ◌+◌, ◌^◌, ◌<◌, ◌==◌, Bool, true, false, List, [], ◌∷◌, ◌++◌, length, Option, Some}
use Rattle.sql_front.proofs.Common.{None, slice_get, find, arith, AllByRecursion, position_from, is_some, eq-eqb, lt-leb, Table, Index, Schema, same_name}
use Rattle.sql_front.proofs.Common.{table_named, index_named, view_named, next_tree, is_used, created, automatics, Name, table_below, Stands, NoneHasForeignKey}
use Rattle.sqlite_rules.proofs.ListLemmas.{all_from}
use Rattle.sql_front.proofs.Past.{position_past, slice_past, find_past, unused, above_all}

-- ---- tables that are added come last

position_front : {X : Type 0} (test : X → Bool) (i at : ℕ) (xs ys : List X) → position_from test i xs ≡ Some at → position_from test i (xs ++ ys) ≡ Some at
position_front test i at [] ys h = absurd cc
position_front test i at (x ∷ xs) ys h = grind (arith, position_front test (i + 1) at xs ys)

pub slice_front : {X : Type 0} (xs ys : List X) (k : ℕ) (x : X) → slice_get xs k ≡ Some x → slice_get (xs ++ ys) k ≡ Some x
slice_front [] ys k x h = absurd cc
slice_front (y ∷ xs) ys zero x h = h
slice_front (y ∷ xs) ys (suc k) x h = slice_front xs ys k x h

find_front : {X : Type 0} (test : X → Bool) (x : X) (xs ys : List X) → find test xs ≡ Some x → find test (xs ++ ys) ≡ Some x
find_front test x [] ys h = absurd cc
find_front test x (y ∷ xs) ys h = grind (arith, find_front test x xs ys)

abbrev pub AreKeyless : List Table → Type 0
AreKeyless = AllByRecursion (λ t. t.references ≡ [])

keyless_more : (tree : ℕ) (xs ys : List Table) → NoneHasForeignKey xs tree → AreKeyless ys → NoneHasForeignKey (xs ++ ys) tree
keyless_more tree [] [] h k = tt
keyless_more tree [] (y ∷ ys) h k = ((λ same. k.0), keyless_more tree [] ys tt k.1)
keyless_more tree (x ∷ xs) ys h k = (h.0, keyless_more tree xs ys h.1 k)

-- a table stands as it stood, where those that are added have no foreign key
pub stands_kept : (s later : Schema) (name : Name) (at : ℕ) (table : Table) (more : List Table) → later.tables ≡ s.tables ++ more → AreKeyless more
    → Stands s name at table → Stands later name at table
stands_kept s later name at table more grown bare stands = grind (arith, position_front, slice_front, find_front, keyless_more)

-- a table with a free name stands last
pub stands_last : (s later : Schema) (table : Table) (more : List Table) → later.tables ≡ s.tables ++ record table { tree = next_tree s } ∷ more
    → AreKeyless (table ∷ more) → is_used s table.name ≡ false → same_name table.name table.name ≡ true
    → next_tree s < 2 ^ 31 → Stands later table.name (length s.tables) (record table { tree = next_tree s })
stands_last s later table more grown bare free itself low =
    let new : Table = record table { tree = next_tree s } in
    let zero_more : length s.tables + 0 ≡ length s.tables = omega arith in
    record {
      named = rw grown (position_past (λ t. same_name t.name table.name) 0 s.tables (new ∷ more) (unused s table.name free).0 ∙ rw itself (ap Some zero_more));
      got = rw grown (ap (slice_get (s.tables ++ new ∷ more)) (sym zero_more) ∙ slice_past s.tables (new ∷ more) 0);
      found = rw grown (find_past (λ t. t.tree == next_tree s) s.tables (new ∷ more) (λ t h. above_all s t (next_tree s) h (omega arith))
          ∙ rw (eq-eqb (next_tree s) (next_tree s) refl));
      keyless = rw grown (keyless_more (next_tree s) s.tables (new ∷ more) (all_from _ s.tables (λ t h same. absurd (omega (arith, same, table_below s t h))))
          bare);
      stored = lt-leb (2 ^ 31) (next_tree s) low;
    }

-- ---- names that stay free

not_some : {X : Type 0} (o : Option X) → o ≡ None → is_some o ≡ false
not_some o h = rw h

-- no automatic index of the table has the name
abbrev pub SparesIndexes : Table → Name → Type 0
SparesIndexes table name = (tree next i : ℕ)
    → position_from (λ (x : Index). same_name x.name name) i (automatics (record table { tree = tree }) 0 next table.uniques) ≡ None

pub still_free : (s : Schema) (table : Table) (name : Name) → is_used s name ≡ false → same_name table.name name ≡ false → SparesIndexes table name
    → is_used (created s table) name ≡ false
still_free s table name free other spares =
    let none = unused s name free in
    let new : Table = record table { tree = next_tree s } in
    let tables : table_named (created s table) name ≡ None = position_past (λ (t : Table). same_name t.name name) 0 s.tables (new ∷ []) none.0 ∙ rw other in
    let indexes : index_named (created s table) name ≡ None = position_past (λ (x : Index). same_name x.name name) 0 s.indexes
    (automatics new 0 (next_tree s + 1) table.uniques) none.1 ∙ spares (next_tree s) (next_tree s + 1) (length s.indexes + 0) in
    rw (not_some (table_named (created s table) name) tables, not_some (index_named (created s table) name) indexes) (not_some (view_named s name) none.2)
