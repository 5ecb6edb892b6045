-- A SELECT over one table is the same query wherever the table stands in the schema.
use Rattle.sql_front.proofs.Common.{◌≡◌, refl, ℕ, ◌+◌, ◌==◌, nat_lt, Bool, true, false, not, Ok, Err, List, [], ◌∷◌, ◌++◌, length, Option, Some, None}
use Rattle.sql_front.proofs.Common.{slice_get, ⊤, unwrap_or, is_some, Term, TooBig, Expr, Shown-F, out-Shown, Source, out-Source, Core, out-Core, Select}
use Rattle.sql_front.proofs.Common.{ShownLayer, Inner, Schema, Table, table_named, Output, State, Checked, Lowering, ◌>>=◌, fail, pure, last, fresh, max_budget}
use Rattle.sql_front.proofs.Common.{Name, Context, lower, lower_to, counted, Exists, is_column, shown_at, outputs_from, and_then, arith}
use Rattle.sqlite_value.specs.declared.keys.Key.{Key}
use Rattle.sqlite_ast.specs.declared.Shown.{Shown}
use Rattle.sqlite_ast.specs.declared.Origin.TheVariants as origin
use Rattle.sqlite_ast.specs.declared.Sort.{Sort, out-Sort}
use Rattle.sqlite_resolve.specs.Lowering.{take_slot}
use Rattle.sqlite_resolve.specs.Body.{bounds, bound, table_in, shown, outputs, tests, joins, join, inner_join, shared, result, matching, body}
use Rattle.sqlite_resolve.specs.Order.{keys, key, sort, sorts, sorts_from, peeled, aliased_or, placed}
use Rattle.sqlite_resolve.specs.Select.{having, parts, assembled, named}
use Rattle.sql_front.proofs.Lower.{Same, IsPlain, IsPlainBut, lower_same, lower_same_but}
use Rattle.sql_front.proofs.OneTable.{heading_same}
use Rattle.sql_front.proofs.Levels.{Placed, placed_at, near, far, same_placed, one_bound}

-- an expression with or without an alias, and not `*`
abbrev pub IsPlainShown : ℕ → ShownLayer → Type 0
IsPlainShown n (Shown-F.One e alias text) = IsPlain n e
IsPlainShown n _ = ⊥

abbrev pub ArePlainShown : ℕ → List Shown → Type 0
ArePlainShown n [] = ⊤
ArePlainShown n (s ∷ more) = IsPlainShown n (out-Shown s) × ArePlainShown n more

abbrev pub IsTestBut : (ℕ → Select → Type 0) → ℕ → Option Expr → Type 0
IsTestBut nested n None = ⊤
IsTestBut nested n (Some e) = IsPlainBut nested n e

abbrev pub IsPlainTest : Option Expr → Type 0
IsPlainTest = IsTestBut (λ n query. ⊥) 700

abbrev pub ArePlainSorts : List Sort → Type 0
ArePlainSorts [] = ⊤
ArePlainSorts (s ∷ more) = IsPlain 700 (peeled (out-Sort s).key) × ArePlainSorts more

-- FROM names one table
pub record IsFrom (name : Name) (from : List Source) : Type 0 where
  pub source : Source
  pub is : from ≡ source ∷ []
  pub table : (out-Source source).origin ≡ origin.Table name
  pub alias : (out-Source source).alias ≡ None
  pub on : (out-Source source).on ≡ None
  pub using : (out-Source source).using ≡ []
  pub is_inner : (out-Source source).is_left ≡ false

-- FROM names one table, WHERE is such a test, and nothing is grouped
pub record IsOneTableBut (tested : Option Expr → Type 0) (name : Name) (core : Core) (order : List Sort) : Type 0 where
  pub from : IsFrom name (out-Core core).from
  pub group : (out-Core core).group ≡ []
  pub having : (out-Core core).having ≡ None
  pub shown : ArePlainShown 700 (out-Core core).shown
  pub filter : tested (out-Core core).filter
  pub sorts : ArePlainSorts order

abbrev pub IsOneTable : Name → Core → List Sort → Type 0
IsOneTable = IsOneTableBut IsPlainTest

-- steps that are taken one after the other
pub in_turn : {A B C : Type 0} (x : Checked A) (f : A → Checked B) (g : B → Checked C) → and_then (and_then x f) g ≡ and_then x (λ a. and_then (f a) g)
in_turn x f g = grind arith

module _ (a b : Context) (same : Same a b) where
  pub tests_same_but : (E : ℕ → Select → Type 0)
      → ((n : ℕ) (query : Select) → E n query → counted (lower_to n) a Exists query ≡ counted (lower_to n) b Exists query)
      → (n : ℕ) (done : List Term) (e : Option Expr) → IsTestBut E n e
      → tests (lower_to n) a done e ≡ tests (lower_to n) b done e
  unfolding tests
  tests_same_but E nested n done e h = grind (arith, lower_same_but)

  pub tests_same : (done : List Term) (e : Option Expr) → IsPlainTest e → tests lower a done e ≡ tests lower b done e
  tests_same = tests_same_but (λ n query. ⊥) (λ n query h. absurd h) 700

  aliased_same : a.may_aggregate ≡ b.may_aggregate → (outs : List Output) (e : Expr) → IsPlain 700 e → (o : Option ℕ) → aliased_or lower a outs e o
      ≡ aliased_or lower b outs e o
  unfolding key
  aliased_same agg outs e h o = grind (arith, lower_same, fail)

  sort_same : a.may_aggregate ≡ b.may_aggregate → (outs : List Output) (done : List (Term × Key)) (s : Sort) → IsPlain 700 (peeled (out-Sort s).key)
      → sort lower a outs done s ≡ sort lower b outs done s
  unfolding sort
  sort_same agg outs done s h = grind (arith, aliased_same, placed)

  sorts_same : a.may_aggregate ≡ b.may_aggregate → (outs : List Output) (done : List (Term × Key)) (all : List Sort) → ArePlainSorts all
      → sorts_from lower a outs done all ≡ sorts_from lower b outs done all
  sorts_same agg outs done [] h = refl
  sorts_same agg outs done (s ∷ more) h = λ i. sort_same agg outs done s h.0 i >>= (λ longer. sorts_same agg outs longer more h.1 i)

module _ (name : Name) (s : Schema) (at : ℕ) (table : Table) (from : List Source) (one : IsFrom name from) where
  pub bounds_known : table_named s name ≡ Some at → (st : State) → nat_lt st.next 250 ≡ true → bounds s from st
      ≡ Ok (one_bound name st.next at ∷ [], record st { next = st.next + 1 })
  unfolding bounds bound table_in take_slot
  bounds_known named_at st low = rw (one.is) (rw (low, one.table, one.alias, one.using) (rw named_at))

  pub no_bounds : (st : State) → nat_lt st.next 250 ≡ false → bounds s from st ≡ Err TooBig
  unfolding bounds bound take_slot
  no_bounds st high = rw (one.is) (rw high)

  pub joins_known : slice_get s.tables at ≡ Some table → (low : Context → Expr → Lowering Term) (slot : ℕ) (cx : Context) (st : State) → cx.schema ≡ s
      → joins low cx (one_bound name slot at ∷ []) from st ≡ Ok (record { steps = Inner table.tree ∷ []; filter = [] }, st)
  unfolding joins join shared inner_join tests
  joins_known got low slot cx st is = rw (one.is) (rw (one.on, one.using, one.is_inner) (rw (is, got)))

-- what a query over this table sees, below the levels that are around it
module _ (s z : Schema) (outer : List (Placed s z)) (p : Placed s z) where
  abbrev pub seen : List Output → List (Placed s z)
  seen outs = record p { outs = outs } ∷ outer

  abbrev pub here : List Output → Bool → Context
  here outs may_aggregate = near s z (seen outs) may_aggregate true

  abbrev pub there : List Output → Bool → Context
  there outs may_aggregate = far s z (seen outs) may_aggregate true

  pub same_seen : (outs : List Output) (may_aggregate : Bool) → Same (here outs may_aggregate) (there outs may_aggregate)
  same_seen outs may_aggregate = same_placed s z (seen outs) may_aggregate true

  module _ (n : ℕ) where
    one_same : (done : List Output) (l : ShownLayer) → IsPlainShown n l
        → shown_at (lower_to n) (here [] true) (one_bound p.name p.slot p.at ∷ []) done l
        ≡ shown_at (lower_to n) (there [] true) (one_bound p.name p.slot p.there ∷ []) done l
    one_same done Shown-F.All h = absurd h
    one_same done (Shown-F.AllOf other) h = absurd h
    one_same done (Shown-F.One e alias text) h =
        λ i. lower_same (here [] true) (there [] true) (same_seen [] true) n e h i >>= (λ t. last >>= (λ c.
        pure (done ++ record {
          name = unwrap_or alias (heading_same s z (seen []) true true e text i);
          is_alias = is_some alias;
          is_column = is_column e;
          term = t;
          carried = c;
        } ∷ [])))

    pub outputs_same : (done : List Output) (all : List Shown) → ArePlainShown n all
        → outputs_from (lower_to n) (here [] true) (one_bound p.name p.slot p.at ∷ []) done all
        ≡ outputs_from (lower_to n) (there [] true) (one_bound p.name p.slot p.there ∷ []) done all
    unfolding shown
    outputs_same done [] h = refl
    outputs_same done (one ∷ more) h = λ i. one_same done (out-Shown one) h.0 i >>= (λ longer. outputs_same longer more h.1 i)

    module _ (core : Core) (from : IsFrom p.name (out-Core core).from) (plain : ArePlainShown n (out-Core core).shown) (tested : Option Expr → Type 0)
        (filter : tested (out-Core core).filter)
        (alike : (outs : List Output) (e : Option Expr) → tested e → tests (lower_to n) (here outs false) [] e ≡ tests (lower_to n) (there outs false) [] e)
      where
        pub shows_at : (st : State) → outputs_from (lower_to n) (here [] true) (one_bound p.name p.slot p.at ∷ []) [] (out-Core core).shown st
            ≡ outputs_from (lower_to n) (there [] true) (one_bound p.name p.slot p.there ∷ []) [] (out-Core core).shown st
        shows_at st = λ i. outputs_same [] (out-Core core).shown plain i st

        pub tests_at : (outs : List Output) (st : State) → tests (lower_to n) (here outs false) [] (out-Core core).filter st
            ≡ tests (lower_to n) (there outs false) [] (out-Core core).filter st
        tests_at outs st = λ i. alike outs (out-Core core).filter filter i st

        pub joins_here : (outs : List Output) (st : State) → joins (lower_to n) (here outs false) (one_bound p.name p.slot p.at ∷ []) (out-Core core).from st
            ≡ Ok (record { steps = Inner p.table.tree ∷ []; filter = [] }, st)
        joins_here outs st = joins_known p.name s p.at p.table (out-Core core).from from p.got (lower_to n) p.slot (here outs false) st refl

        pub joins_there : (outs : List Output) (st : State)
            → joins (lower_to n) (there outs false) (one_bound p.name p.slot p.there ∷ []) (out-Core core).from st
            ≡ Ok (record { steps = Inner p.table.tree ∷ []; filter = [] }, st)
        joins_there outs st = joins_known p.name z p.there p.table (out-Core core).from from p.own (lower_to n) p.slot (there outs false) st refl

module _ (s z : Schema) (at away : ℕ) (table : Table) (name : Name) (named_at : table_named s name ≡ Some at) (got : slice_get s.tables at ≡ Some table)
    (named_away : table_named z name ≡ Some away) (own : slice_get z.tables away ≡ Some table) where
  abbrev pub only : Placed s z
  only = placed_at s z name 1 table at away got own

  pub same_named_but : (core : Core) (order : List Sort) (tested : Option Expr → Type 0) (one : IsOneTableBut tested name core order)
      → ((outs : List Output) (e : Option Expr) → tested e → tests lower (here s z [] only outs false) [] e ≡ tests lower (there s z [] only outs false) [] e)
      → (page : Term × Term) → named s core order page ≡ named z core order page
  unfolding named parts body result outputs matching keys having tests sorts assembled
  same_named_but core order tested one alike page =
      rw (
        bounds_known name s at table (out-Core core).from one.from named_at (fresh 1 max_budget) refl,
        bounds_known name z away table (out-Core core).from one.from named_away (fresh 1 max_budget) refl,
      )
      (simp (
        in_turn,
        shows_at s z [] only 700 core one.from one.shown tested one.filter alike,
        joins_here s z [] only 700 core one.from one.shown tested one.filter alike,
        joins_there s z [] only 700 core one.from one.shown tested one.filter alike,
        tests_at s z [] only 700 core one.from one.shown tested one.filter alike,
        one.group,
        one.having,
        sorts_at,
      ))
    where
      sorts_at : (outs : List Output) (st : State) → sorts_from lower (here s z [] only outs (not (length st.aggregates == 0))) outs [] order st
          ≡ sorts_from lower (there s z [] only outs (not (length st.aggregates == 0))) outs [] order st
      sorts_at outs st = λ i. sorts_same (here s z [] only outs (not (length st.aggregates == 0))) (there s z [] only outs (not (length st.aggregates == 0)))
          (same_seen s z [] only outs (not (length st.aggregates == 0))) refl outs [] order one.sorts i st

  pub same_named : (core : Core) (order : List Sort) → IsOneTable name core order → (page : Term × Term) → named s core order page ≡ named z core order page
  same_named core order one = same_named_but core order IsPlainTest one
      (λ outs e h. tests_same (here s z [] only outs false) (there s z [] only outs false) (same_seen s z [] only outs false) [] e h)
