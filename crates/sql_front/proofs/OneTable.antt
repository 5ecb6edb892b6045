-- A column that a query shows has the same name wherever its tables stand in the schema.
use Rattle.sql_front.proofs.Common.{◌≡◌, refl, ℕ, Bool, Ok, List, Option, Name, Column, Rowid, Expr, found_name, Schema, arith}
use Rattle.sqlite_resolve.specs.Scope.{find}
use Rattle.sqlite_resolve.specs.Body.{declared, heading}
use Rattle.sql_front.proofs.Levels.{Placed, near, far, found_alike}

module _ (s z : Schema) where
  name_same : (p : Placed s z) (k : ℕ) (text : Name) → found_name s text (Ok (Column p.slot p.at k)) ≡ found_name z text (Ok (Column p.slot p.there k))
  unfolding declared
  name_same p k text = rw (p.got, p.own)

  key_name_same : (p : Placed s z) (text : Name) → found_name s text (Ok (Rowid p.slot p.at)) ≡ found_name z text (Ok (Rowid p.slot p.there))
  unfolding declared
  key_name_same p text = rw (p.got, p.own)

  module _ (ps : List (Placed s z)) (may_aggregate may_alias : Bool) where
    named_same : (written : Name) (wanted : Option Name) (text : Name) → found_name s written (find (near s z ps may_aggregate may_alias) wanted text)
        ≡ found_name z written (find (far s z ps may_aggregate may_alias) wanted text)
    unfolding find
    named_same written wanted text = found_alike s z (found_name s written) (found_name z written) (λ p k. name_same p k written)
        (λ p. key_name_same p written) (λ depth k. refl) refl wanted text 0 ps

    pub heading_same : (e : Expr) (text : Name) → heading (near s z ps may_aggregate may_alias) e text ≡ heading (far s z ps may_aggregate may_alias) e text
    unfolding heading
    heading_same e text = grind (arith, named_same, e)
