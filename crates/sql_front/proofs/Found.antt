-- A table that is found by its name and by its tree stands there.
use Rattle.sql_front.proofs.Common.{◌≡◌, refl, sym, ap, subst, ◌∙◌, ℕ, ◌^◌, ◌<◌, ◌==◌, Some, slice_get, find, eqb-true, lt-leb, leb-false, Table, Schema}
use Rattle.sql_front.proofs.Common.{table_named, NoneHasForeignKey, arith}
use Rattle.sql_front.specs.Found.{StandsSomewhere, HasFirst}
use Rattle.sqlite_rules.proofs.ListLemmas.{has_found}

pub stands_by : (s : Schema) (table named first : Table) (at : ℕ) → table_named s table.name ≡ Some at → slice_get s.tables at ≡ Some named
    → find (λ t. t.tree == named.tree) s.tables ≡ Some first
    → named ≡ record table { tree = named.tree } → first ≡ record table { tree = first.tree } → named.tree < 2 ^ 31 → NoneHasForeignKey s.tables named.tree
    → StandsSomewhere s table
stands_by s table named first at name got found one other low keyless =
    let meets = (has_found (λ (t : Table). t.tree == named.tree) s.tables first found).1 in grind (arith, eqb-true, lt-leb)

pub same_some : {X : Type 0} (x y : X) → Some x ≡ Some y → x ≡ y
same_some x y h = cc

-- what stands is where its name is found, and is the first of its tree
pub stands_first : (s : Schema) (table named : Table) (at : ℕ) → table_named s table.name ≡ Some at → slice_get s.tables at ≡ Some named
    → StandsSomewhere s table
    → (named ≡ record table { tree = named.tree }) × (named.tree < 2 ^ 31) × HasFirst s named table × NoneHasForeignKey s.tables named.tree
stands_first s table named at name got it =
    let there : Table = record table { tree = it.tree } in
    let place : it.at ≡ at = same_some it.at at (sym it.stands.named ∙ name) in
    let same : there ≡ named = same_some there named (sym it.stands.got ∙ ap (slice_get s.tables) place ∙ got) in
    let low : it.tree < 2 ^ 31 = leb-false (2 ^ 31) it.tree it.stands.stored in
    subst (λ n. (n ≡ record table { tree = n.tree }) × (n.tree < 2 ^ 31) × HasFirst s n table × NoneHasForeignKey s.tables n.tree) same
    (refl, low, (there, it.stands.found, refl), it.stands.keyless)
