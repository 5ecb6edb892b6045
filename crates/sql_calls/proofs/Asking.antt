-- A query that what is seen understands, and that has its parameters, is never told to be broken.
use Rattle.sql_calls.proofs.Common.{◌≡◌, ℕ, true, List, Vec, Result, Ok, Err, length, sym, ◌∙◌, arith, Global, Row, Database, State, HasCleanDisk}
use Rattle.sql_calls.proofs.Common.{Fault, AsksText, AsksFew, TakesFirst, few_of, Known, KnowsQuery}
use Rattle.sql_calls.specs.declared.fault.Fault.TheVariants.{Broken}
use Rattle.sqlite.specs.Effect.{is_query}
use Rattle.sql_calls.specs.Standing.{Sees, Wears}
use Rattle.sql_calls.proofs.Leavings.{asked_well, first_asked_well}

-- what was seen understands the query
asked : {R : Type 0} {Holds : Database → R → Type 0} {sql : List ℕ} {count : ℕ} → KnowsQuery Holds sql count → (old new : State) (r : R) → Sees Holds old r
    → HasCleanDisk new → Wears old new → (k : Known old.now.schema sql) × (is_query k.command ≡ true)
asked query old new r sees clean wears =
    let seen = sees.sees (grind arith) in (query.knows old.now r seen.now_holds, query.asks old.now r seen.now_holds)

module _ {R : Type 0} {Holds : Database → R → Type 0} {sql : List ℕ} {params : Row} {old new : State}
    (query : KnowsQuery Holds sql (length params)) (r : R) (sees : Sees Holds old r) (clean : HasCleanDisk new) where
  pub ask_is_sound : (fault : Fault) → AsksText old new sql params (Err fault) → ¬ (fault ≡ Broken)
  ask_is_sound fault h broken =
      let (k, asks) = asked query old new r sees clean h.survives.clean in let failed = h.answers clean in
      asked_well sql k.command params old new k.means asks query.takes failed.0 failed.2 (sym failed.1 ∙ broken)

  pub few_is_sound : (most : ℕ) (fault : Fault) → AsksFew old new sql params most (Err fault) → ¬ (fault ≡ Broken)
  few_is_sound most fault h broken = go h.answer h.asks h.few
    where
      go : (answer : Result (Vec Row Global) Fault) → AsksText old new sql params answer → Err fault ≡ few_of most answer → ⊥
      go (Ok rows) asks few = absurd cc
      go (Err its) asks few = ask_is_sound its asks (grind arith)

  pub first_is_sound : (fault : Fault) → TakesFirst old new sql params (Err fault) → ¬ (fault ≡ Broken)
  first_is_sound fault h broken =
      let (k, asks) = asked query old new r sees clean h.survives.clean in let failed = h.answers clean in
      first_asked_well sql k.command params old new k.means asks query.takes failed.0 failed.2 (sym failed.1 ∙ broken)
