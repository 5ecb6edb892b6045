-- EXISTS of a query over a second table is the same term wherever the two tables stand in the schema.
use Rattle.sql_front.proofs.Common.{Option, Expr, ◌≡◌, inl, inr, ℕ, nat_lt, Bool, true, false, List, [], Some, slice_get, cases_Bool, Core, out-Core, Select}
use Rattle.sql_front.proofs.Common.{out-Select, Schema, Table, table_named, Output, Exists, Name, and_then, fresh, lower_to, arith}
use Rattle.sqlite_resolve.specs.Body.{body, result, matching, outputs, shown}
use Rattle.sqlite_resolve.specs.Expr.{counted, counting, wanted}
use Rattle.sql_front.proofs.Levels.{Placed, placed_at, near, far}
use Rattle.sql_front.proofs.Select.{IsFrom, IsTestBut, ArePlainShown, bounds_known, no_bounds, joins_here, joins_there, shows_at, tests_at, tests_same_but}
use Rattle.sql_front.proofs.Select.{in_turn, here, there, same_seen}

-- SELECT of plain expressions from one table, with such a test
pub record CountsOne (name : Name) (n : ℕ) (query : Select) : Type 0 where
  pub from : IsFrom name (out-Core (out-Select query).first).from
  pub shown : ArePlainShown n (out-Core (out-Select query).first).shown
  pub filter : IsTestBut (λ m inner. ⊥) n (out-Core (out-Select query).first).filter

module _ (s z : Schema) (outer : List (Placed s z)) (table : Table) (name : Name) (at away : ℕ) (got : slice_get s.tables at ≡ Some table)
    (own : slice_get z.tables away ≡ Some table) (named_at : table_named s name ≡ Some at) (named_away : table_named z name ≡ Some away)
    (n : ℕ) (query : Select) (one : CountsOne name n query) (may_aggregate : Bool) where
  abbrev core : Core
  core = (out-Select query).first

  counting_same : (next budget : ℕ) → counting (lower_to n) (near s z outer may_aggregate true) Exists core (fresh next budget)
      ≡ counting (lower_to n) (far s z outer may_aggregate true) Exists core (fresh next budget)
  unfolding counting body result matching outputs shown wanted
  counting_same next budget = elim (cases_Bool (nat_lt next 250)) [
    | inl low ↦
        let p = placed_at s z name next table at away got own in
        let alike = λ (outs : List Output) (e : Option Expr) (h : IsTestBut (λ m inner. ⊥) n e).
        tests_same_but (here s z outer p outs false) (there s z outer p outs false) (same_seen s z outer p outs false) (λ m inner. ⊥) (λ m inner h. absurd h) n
        [] e h in
        rw (
          bounds_known name s at table (out-Core core).from one.from named_at (fresh next budget) low,
          bounds_known name z away table (out-Core core).from one.from named_away (fresh next budget) low,
        )
        (simp (
          in_turn,
          shows_at s z outer p n core one.from one.shown _ one.filter alike,
          joins_here s z outer p n core one.from one.shown _ one.filter alike,
          joins_there s z outer p n core one.from one.shown _ one.filter alike,
          tests_at s z outer p n core one.from one.shown _ one.filter alike,
        ))
    | inr high ↦ rw (
      no_bounds name s at table (out-Core core).from one.from (fresh next budget) high,
      no_bounds name z away table (out-Core core).from one.from (fresh next budget) high,
    )
  ]

  pub exists_same : counted (lower_to n) (near s z outer may_aggregate true) Exists query ≡ counted (lower_to n) (far s z outer may_aggregate true) Exists query
  unfolding counted
  exists_same = grind (arith, and_then, counting_same)
