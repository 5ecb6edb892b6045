-- What foreign keys set off: their actions change tables that have some, and no others.
use Rattle.sql_calls.proofs.Common.{◌≡◌, ◌≢◌, ℤ, ◌+◌, nat_lt, Err, MatchBool, inl, inr, ℕ, zero, suc, Bool, true, false, List, [], ◌∷◌, ◌++◌, Option, Some}
use Rattle.sql_calls.proofs.Common.{None, Ok, refl, sym, ap, subst, filter_map, AllByRecursion, Row, Trees, Table, Schema, Edit, edited, Applies, Reference}
use Rattle.sql_calls.proofs.Common.{ParentKey, Deed, Has, Work, pairs, work_by, work_for, works, End, Goes, ActsOn, Acts, Leads, AreChildren, action_edit}
use Rattle.sql_calls.proofs.Common.{refuses, max_depth, all_has, all_from, HasNoForeignKey, arith}
use Rattle.sqlite_schema.specs.declared.schema.Keys.{Keys}
use Rattle.sqlite_schema.specs.declared.schema.Constraint.TheVariants.{ForeignKey}
use Rattle.sqlite_rules.specs.declared.error.Refusal.TheVariants.{Violates, TooDeep}
use Rattle.sqlite_rules.specs.Action.{Writes as Edits}
use Rattle.sqlite_keyed.proofs.ListLemmas.{all-append, all-flat_map}

its_child : (depth tree : ℕ) (moves : List (Row × Row)) (child : Table) (ref : Reference) (deed : Option Deed) (key : Option ParentKey) (w : Work)
    → work_by depth tree moves child ref deed key ≡ Some w → w.child ≡ child
its_child depth tree moves child ref deed key w h = grind arith

all_mapped : {A B : Type 0} (f : A → Option B) (P : B → Type 0) (xs : List A) → ((x : A) → Has xs x → (b : B) → f x ≡ Some b → P b)
    → AllByRecursion P (filter_map f xs)
all_mapped f P [] each = tt
all_mapped {A} {B} f P (x ∷ xs) each = go (f x) refl (all_mapped f P xs (λ y there. each y (inr there)))
  where
    go : (o : Option B) → f x ≡ o → AllByRecursion P (filter_map f xs) → AllByRecursion P (filter_map f (x ∷ xs))
    go None e more = rw e more
    go (Some b) e more = rw e (each x (inl refl) b e, more)

pub all_both : {X : Type 0} (P : X → Type 0) (xs ys : List X) → AllByRecursion P xs → AllByRecursion P ys → AllByRecursion P (xs ++ ys)
all_both = all-append

all_split : {X : Type 0} (P : X → Type 0) (xs : List X) (y : X) → AllByRecursion P (xs ++ y ∷ []) → AllByRecursion P xs × P y
all_split P [] y h = (tt, h.0)
all_split P (x ∷ xs) y h = let more = all_split P xs y h.1 in ((h.0, more.0), more.1)

module _ (schema : Schema) (keys : Keys) where
  -- it is on a table that has foreign keys
  abbrev IsOnChild : Work → Type 0
  IsOnChild w = Has schema.tables w.child × (w.child.references ≡ [] → ⊥)

  on_children : (depth tree : ℕ) (olds news : List Row) → AllByRecursion IsOnChild (works schema keys depth tree olds news)
  on_children depth tree olds news =
      all-flat_map IsOnChild (λ child. filter_map (work_for schema keys depth tree olds news child) child.references) schema.tables (all_from _ schema.tables
      (λ child listed. all_mapped (work_for schema keys depth tree olds news child) IsOnChild child.references (λ ref there w is.
      subst (λ (t : Table). Has schema.tables t × (t.references ≡ [] → ⊥)) (sym (its_child depth tree (pairs olds news) child ref _ _ w is))
      (listed, λ none. subst (λ l. Has l ref) none there))))

  -- a table that has none keeps its rows
  module _ (t : Table) (listed : Has schema.tables t) (apart : (child : Table) → Has schema.tables child → (child.references ≡ [] → ⊥) → t.tree ≢ child.tree)
      (next : Trees) where
    abbrev Keeps : (Trees → List Work → End → Type 0) → Type 0
    Keeps Then = (mid : Trees) (stack : List Work) → AllByRecursion IsOnChild stack → Then mid stack (Ok next) → next t.tree ≡ mid t.tree

    action_keeps : (Then : Trees → List Work → End → Type 0) → Keeps Then → (db : Trees) (below : List Work) (w : Work) → AllByRecursion IsOnChild below
        → IsOnChild w → Acts schema keys Then db w below (Ok next) → next t.tree ≡ db t.tree
    action_keeps Then more db below w all on h = deep (nat_lt w.depth max_depth) h
      where
        judged : (id : ℤ) (ids : List ℤ) (b : Bool) → MatchBool b (◌≡◌ {A = End} (Ok next) (Err (Some (Violates ForeignKey))))
            (Goes schema keys Then db (action_edit db w (id ∷ ids)) (w.depth + 1) below (Ok next)) → next t.tree ≡ db t.tree
        judged id ids true it = absurd cc
        judged id ids false it = (grind (arith, all_both, on_children, all_has))

        found : (ids : List ℤ) → ActsOn schema keys Then db w below (Ok next) ids → next t.tree ≡ db t.tree
        found [] it = more db below all it
        found (id ∷ ids) it = judged id ids (refuses w.deed) it

        deep : (b : Bool) → MatchBool b ((ids : List ℤ) × AreChildren db w ids × ActsOn schema keys Then db w below (Ok next) ids)
            (◌≡◌ {A = End} (Ok next) (Err (Some TooDeep))) → next t.tree ≡ db t.tree
        deep true it = found it.0 it.2
        deep false it = absurd cc

    kept : (n : ℕ) → Keeps (Leads schema keys n)
    kept zero db stack all h = let same : next ≡ db = cc in ap (λ (d : Trees). d t.tree) same
    kept (suc n) db stack all h = grind (arith, kept n, all_split, action_keeps)

-- The table has the rows of the edit, and each other tree that no foreign key changes has its rows.
pub record Rewritten (schema : Schema) (db : Trees) (edit : Edit) (next : Trees) : Type 0 where
  pub rows : next edit.table.tree ≡ edited db edit
  pub tables : AllByRecursion (λ t. HasNoForeignKey schema t.tree → t.tree ≢ edit.table.tree → next t.tree ≡ db t.tree) schema.tables

-- a step that sets off no action
pub applied : (schema : Schema) (keys : Keys) (db next : Trees) (edit : Edit) → Applies schema keys db edit next → Rewritten schema db edit next
applied schema keys db next edit a = grind (arith, all_from, all_has)

-- whatever foreign keys refer to the table
pub rewritten : (schema : Schema) (keys : Keys) (db next : Trees) (edit : Edit) → HasNoForeignKey schema edit.table.tree → Has schema.tables edit.table
    → Edits schema keys db edit (Ok next) → Rewritten schema db edit next
rewritten schema keys db next edit free listed h7 = grind (arith, all_from, all_has, kept, on_children)
