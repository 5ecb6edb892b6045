-- Where an expression sees one table at each level, it is lowered alike in each schema that has these tables, wherever they stand in it.
use Rattle.sql_front.proofs.Common.{◌≡◌, refl, ℕ, zero, suc, ◌+◌, ◌==◌, Bool, not, ◌&&◌, Ok, Err, List, [], ◌∷◌, Option, Some, None, slice_get, cases_Bool}
use Rattle.sql_front.proofs.Common.{column_named, Schema, Table, Output, Bound, Found, Level, Name, Context, found_or, is_meant, is_hidden, Checked, ◌>>=◌}
use Rattle.sql_front.proofs.Common.{lift, fail, shown_again, and_then, Alias, Column, Rowid, NoSuchColumn, Unsupported, if◌then◌else◌, option_map, unwrap_or}
use Rattle.sql_front.proofs.Common.{and-true, arith}
use Rattle.sqlite_resolve.specs.Scope.{column, find, find_from, in_level, only, hit, column_in, rowid_in, column_at, term_of}
use Rattle.sqlite_resolve.specs.Lowering.{or_else}
use Rattle.sqlite_resolve.specs.Compare.{of_column, at_place, table_in}
use Rattle.sqlite_resolve.specs.declared.compare.Affinity.TheVariants as affinity
use Rattle.sql_front.proofs.Lower.{Same}

abbrev pub one_bound : Name → ℕ → ℕ → Bound
one_bound name slot at = record { name = name; table = at; slot = slot; shared = [] }

abbrev pub one_level : Name → ℕ → List Output → ℕ → Level
one_level name slot outs at = record { tables = one_bound name slot at ∷ []; shown = outs }

-- What is made of a name is the same at two places of a table, if that is so of each thing that the name may stand for.
module _ (s z : Schema) (at there : ℕ) (table : Table) (got : slice_get s.tables at ≡ Some table) (own : slice_get z.tables there ≡ Some table) (name : Name)
    (slot : ℕ) (outs : List Output) (depth : ℕ) where
  abbrev pub seen_in : Schema → Option Name → Name → ℕ → Checked Found → Checked Found
  seen_in schema wanted text k outside = and_then (in_level schema wanted text depth (one_level name slot outs k)) (found_or outside)

  pub record Alike {X : Type 0} (here away : Checked Found → X) (p q : Checked Found) : Type 0 where
    pub columns : (k : ℕ) → here (Ok (Column slot at k)) ≡ away (Ok (Column slot there k))
    pub rowids : here (Ok (Rowid slot at)) ≡ away (Ok (Rowid slot there))
    pub aliases : (k : ℕ) → here (Ok (Alias depth k)) ≡ away (Ok (Alias depth k))
    pub outside : here p ≡ away q

  -- whether the name may be this table's, and what it finds there
  by_column : {X : Type 0} (here away : Checked Found → X) (p q : Checked Found) → Alike here away p q
      → (wanted : Option Name) (text : Name) (seen : Bool) (o : Option ℕ)
      → ((k : ℕ) → (is_meant wanted (one_bound name slot k) && not (is_hidden wanted text (one_bound name slot k))) ≡ seen)
      → column_named table text ≡ o
      → here (seen_in s wanted text at p) ≡ away (seen_in z wanted text there q)
  unfolding in_level only hit column_in rowid_in
  by_column here away p q h wanted text seen o meant named = grind (arith, cases_Bool)

  pub seen_alike : {X : Type 0} (here away : Checked Found → X) (p q : Checked Found) → Alike here away p q → (wanted : Option Name) (text : Name)
      → here (seen_in s wanted text at p) ≡ away (seen_in z wanted text there q)
  seen_alike here away p q h None text = by_column here away p q h None text (not (is_hidden None text (one_bound name slot at)))
      (column_named table text) (λ k. refl) refl
  seen_alike here away p q h (Some other) text = by_column here away p q h (Some other) text (is_meant (Some other) (one_bound name slot at))
      (column_named table text) (λ k. and-true (is_meant (Some other) (one_bound name slot at))) refl

-- a column of a table is the same term, whatever is around
pub found_same : (a b : Context) (slot at there : ℕ) (table : Table) → slice_get a.schema.tables at ≡ Some table → slice_get b.schema.tables there ≡ Some table
    → (k : ℕ) → term_of a (Column slot at k) ≡ term_of b (Column slot there k)
unfolding term_of column_at
found_same a b slot at there table got own k = rw (got, own)

pub key_same : (a b : Context) (slot at there : ℕ) → term_of a (Rowid slot at) ≡ term_of b (Rowid slot there)
unfolding term_of
key_same a b slot at there = refl

-- ---- the levels

-- a level, and where its table stands in the two schemas
pub record Placed (s z : Schema) : Type 0 where
  pub name : Name
  pub slot : ℕ
  pub outs : List Output
  pub table : Table
  pub at : ℕ
  pub there : ℕ
  pub got : slice_get s.tables at ≡ Some table
  pub own : slice_get z.tables there ≡ Some table

module _ (s z : Schema) where
  -- of a query that shows nothing yet
  abbrev pub placed_at : Name → ℕ → (table : Table) (at there : ℕ) → slice_get s.tables at ≡ Some table → slice_get z.tables there ≡ Some table → Placed s z
  placed_at name slot table at there got own =
      record { name = name; slot = slot; outs = []; table = table; at = at; there = there; got = got; own = own }

  abbrev pub nears : List (Placed s z) → List Level
  nears [] = []
  nears (p ∷ ps) = one_level p.name p.slot p.outs p.at ∷ nears ps

  abbrev pub fars : List (Placed s z) → List Level
  fars [] = []
  fars (p ∷ ps) = one_level p.name p.slot p.outs p.there ∷ fars ps

  -- what is made of a name, if it is the same of each thing that the name may stand for
  pub found_alike : {X : Type 0} (here away : Checked Found → X)
      → ((p : Placed s z) (k : ℕ) → here (Ok (Column p.slot p.at k)) ≡ away (Ok (Column p.slot p.there k)))
      → ((p : Placed s z) → here (Ok (Rowid p.slot p.at)) ≡ away (Ok (Rowid p.slot p.there)))
      → ((depth k : ℕ) → here (Ok (Alias depth k)) ≡ away (Ok (Alias depth k))) → here (Err NoSuchColumn) ≡ away (Err NoSuchColumn)
      → (wanted : Option Name) (text : Name) (depth : ℕ) (ps : List (Placed s z))
      → here (find_from s wanted text depth (nears ps)) ≡ away (find_from z wanted text depth (fars ps))
  found_alike here away columns rowids aliases none wanted text depth [] = none
  found_alike here away columns rowids aliases none wanted text depth (p ∷ ps) =
      seen_alike s z p.at p.there p.table p.got p.own p.name p.slot p.outs depth here away (find_from s wanted text (depth + 1) (nears ps))
      (find_from z wanted text (depth + 1) (fars ps))
      (record {
        columns = columns p;
        rowids = rowids p;
        aliases = aliases depth;
        outside = found_alike here away columns rowids aliases none wanted text (depth + 1) ps;
      }) wanted text

  level_same : (b : Bool) (k : ℕ) (ps : List (Placed s z)) (depth : ℕ)
      → (lift (or_else (slice_get (nears ps) depth) NoSuchColumn) >>= (λ l. shown_again b l.shown k))
      ≡ (lift (or_else (slice_get (fars ps) depth) NoSuchColumn) >>= (λ l. shown_again b l.shown k))
  level_same b k [] depth = refl
  level_same b k (p ∷ ps) zero = refl
  level_same b k (p ∷ ps) (suc depth) = level_same b k ps depth

  affinity_in : (slot at : ℕ) (ps : List (Placed s z)) → option_map (λ t. at_place s t at) (table_in slot (nears ps))
      ≡ option_map (λ t. at_place z t at) (table_in slot (fars ps))
  affinity_in slot at [] = refl
  affinity_in slot at (p ∷ ps) = grind (arith, affinity_in slot at ps, cases_Bool)

  module _ (ps : List (Placed s z)) (may_aggregate may_alias : Bool) where
    abbrev pub near : Context
    near = record { schema = s; levels = nears ps; may_aggregate = may_aggregate; may_alias = may_alias }

    abbrev pub far : Context
    far = record { schema = z; levels = fars ps; may_aggregate = may_aggregate; may_alias = may_alias }

    alias_same : (depth k : ℕ) → term_of near (Alias depth k) ≡ term_of far (Alias depth k)
    unfolding term_of
    alias_same depth k = λ i. if not may_alias then fail Unsupported else level_same (may_aggregate && depth == 0) k ps depth i

    columns : (wanted : Option Name) (text : Name) → column near wanted text ≡ column far wanted text
    unfolding column find
    columns wanted text = found_alike (λ r. lift r >>= term_of near) (λ r. lift r >>= term_of far)
        (λ p. found_same near far p.slot p.at p.there p.table p.got p.own)
        (λ p. key_same near far p.slot p.at p.there) alias_same refl wanted text 0 ps

    affinities : (slot at : ℕ) → of_column near slot at ≡ of_column far slot at
    unfolding of_column
    affinities slot at = λ i. if slot == 0 && at == 0 then affinity.None else unwrap_or (affinity_in slot at ps i) affinity.None

    pub same_placed : Same near far
    same_placed = record { columns = columns; affinities = affinities; aggregates = refl }
