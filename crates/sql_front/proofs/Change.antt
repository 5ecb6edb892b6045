-- UPDATE and DELETE mean the same wherever the table stands in the schema.
use Rattle.sql_front.proofs.Common.{◌≡◌, refl, ℕ, true, false, Ok, List, [], ◌∷◌, ◌++◌, Option, Some, slice_get, ⊤, if◌then◌else◌, Query, Term, col, Expr}
use Rattle.sql_front.proofs.Common.{Parsed, Draft, Schema, Table, Unsupported, Compiled, ◌>>=◌, and_then, pure, fail, get, take_steps, fresh, max_budget}
use Rattle.sql_front.proofs.Common.{value_of, Name, Context, first, Stands, arith}
use Rattle.sqlite_ast.specs.declared.Statement.TheVariants as written
use Rattle.sqlite_schema.specs.declared.command.Command.TheVariants.{Update, Delete}
use Rattle.sqlite_resolve.specs.Reach.{any_scans}
use Rattle.sqlite_resolve.specs.Write.{over, with_place, sets_from, sets, assigned, picked, updated_in, updated, deleted}
use Rattle.sqlite_resolve.specs.Program.{program}
use Rattle.sqlite_resolve.specs.Compile.{compiled, planned, meaning, timed, returning, command, shows, update, delete}
use Rattle.sql_front.proofs.Lower.{Same, IsPlain, lower_same}
use Rattle.sql_front.proofs.Plain.{plainly}
use Rattle.sql_front.proofs.Levels.{placed_at, same_placed}
use Rattle.sql_front.proofs.Select.{IsPlainTest, tests_same}
use Rattle.sql_front.proofs.Texts.{Becomes, alone}

abbrev pub ArePlainSets : List (Name × Expr) → Type 0
ArePlainSets [] = ⊤
ArePlainSets (set ∷ more) = IsPlain 700 set.1 × ArePlainSets more

module _ (a b : Context) (same : Same a b) (table : Table) where
  sets_same : (done : List ℕ × List Term) (all : List (Name × Expr)) → ArePlainSets all → sets_from a table done all ≡ sets_from b table done all
  sets_same done [] h = refl
  sets_same done (set ∷ more) h =
      λ i s. and_then (with_place table done.0 set.0)
      (λ at. and_then (lower_same a b same 700 set.1 h.0 i s) (λ r. sets_same (at, done.1 ++ r.0 ∷ []) more h.1 i r.1))

  assigned_same : (all : List (Name × Expr)) → ArePlainSets all → assigned a table all ≡ assigned b table all
  unfolding assigned sets
  assigned_same all h = λ i. sets_same ([], []) all h i >>= (λ found. get >>= (λ s. if any_scans table.tree s.steps then fail Unsupported else pure found))

  picked_same : (project : List Term) (test : Option Expr) → IsPlainTest test → picked a table project test ≡ picked b table project test
  unfolding picked
  picked_same project test h = grind (arith, tests_same, take_steps)

  pub updated_same : (all : List (Name × Expr)) (test : Option Expr) → ArePlainSets all → IsPlainTest test → updated_in a table all test
      ≡ updated_in b table all test
  unfolding updated_in
  updated_same all test h k = grind (arith, and_then, assigned_same, picked_same)

-- ---- the draft is that over the table alone

module _ (s : Schema) (at : ℕ) (table : Table) (got : slice_get s.tables at ≡ Some table) where
  columns_alone : Same (over s at table.name) (over (alone table) 0 table.name)
  columns_alone = same_placed s (alone table) (placed_at s (alone table) table.name 1 table at 0 got refl ∷ []) false true

  update_alone : (all : List (Name × Expr)) (test : Option Expr) → ArePlainSets all → IsPlainTest test → updated s at table all test
      ≡ updated (alone table) 0 table all test
  unfolding updated
  update_alone all test h k = updated_same _ _ columns_alone table all test h k

  delete_alone : (test : Option Expr) → IsPlainTest test → deleted s at table test ≡ deleted (alone table) 0 table test
  unfolding deleted
  delete_alone test k = λ i. value_of (picked_same _ _ columns_alone table (col 1 0 ∷ []) test k i (fresh 2 max_budget))

-- ---- UPDATE

-- what computes of a text that changes rows of one table, over that table alone
pub record Updates (text : List ℕ) (name : Name) (table : Table) (body : Query) : Type 0 where
  pub parsed : Parsed
  pub sets : List (Name × Expr)
  pub test : Option Expr
  pub draft : Draft
  pub read : first text ≡ Ok parsed
  pub is : (parsed.statement ≡ written.Update name sets test []) × (parsed.formats ≡ [])
  pub values : ArePlainSets sets
  pub filter : IsPlainTest test
  pub known : updated (alone table) 0 table sets test ≡ Ok draft
  pub becomes : Becomes table draft body

abbrev pub with_update : Parsed → ℕ → Query → Compiled
with_update p at body = plainly p (Update at (record { lets = []; body = body }))

module _ (text : List ℕ) (name : Name) (table : Table) (body : Query) (c : Updates text name table body) (s : Schema) (at : ℕ)
    (stands : Stands s name at table) where
  pub updates_known : compiled s text ≡ Ok (with_update c.parsed at body)
  unfolding compiled planned meaning timed returning command shows update program
  updates_known = grind (arith, update_alone, compiled)

-- ---- DELETE

-- what computes of a text that removes rows of one table, over that table alone
pub record Removes (text : List ℕ) (name : Name) (table : Table) (body : Query) : Type 0 where
  pub parsed : Parsed
  pub test : Option Expr
  pub draft : Draft
  pub read : first text ≡ Ok parsed
  pub is : (parsed.statement ≡ written.Delete name test []) × (parsed.formats ≡ [])
  pub filter : IsPlainTest test
  pub known : deleted (alone table) 0 table test ≡ Ok draft
  pub becomes : Becomes table draft body

abbrev pub with_delete : Parsed → ℕ → Query → Compiled
with_delete p at body = plainly p (Delete at (record { lets = []; body = body }))

module _ (text : List ℕ) (name : Name) (table : Table) (body : Query) (r : Removes text name table body) (s : Schema) (at : ℕ)
    (stands : Stands s name at table) where
  pub removes_known : compiled s text ≡ Ok (with_delete r.parsed at body)
  unfolding compiled planned meaning timed returning command shows delete program
  removes_known = grind (arith, deleted, delete_alone, compiled)
