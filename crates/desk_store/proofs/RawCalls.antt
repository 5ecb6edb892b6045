-- Counts of rows, whatever rows the tables have.
use Rattle.desk_store.proofs.Common.{◌≡◌, ◌<◌, ◌^◌, ℕ, min, pos, List, [], ◌∷◌, length, Option, Some, None, Ok, Result, IfOk, sym, ap, ◌∙◌, Null, Int, Row}
use Rattle.desk_store.proofs.Common.{Database, State, Fault, TakesFirst, Finds, count_rows, ShowsFirst, Place, HoldsTables, Tables, IsCount, Counts, counted_at}
use Rattle.desk_store.proofs.Known.{tables_know}
use Rattle.desk_store.proofs.ReadLemmas.{first_tells}
use Rattle.desk_store.proofs.TargetCalls.{same_count}

module _ {p : Place} {sql : List ℕ} (text : Counts p sql) where
  pub count_shown : (db : Database) (t : Tables) (holds : HoldsTables db t) (row : Option Row)
      → ShowsFirst (tables_know (counted_at text) db t holds).command db [] row → row ≡ Some (Int (pos (min (length (t p)) 9223372036854775807)) ∷ [])
  count_shown db t holds None shows = let none = count_rows (holds.spot p).tree [] db.trees [] (shows.answer Null) in absurd cc
  count_shown db t holds (Some row) shows =
      let all = count_rows (holds.spot p).tree [] db.trees (row ∷ shows.0) (shows.1.answer Null) in
      let first : row ≡ Int (pos (min (length (db.trees (holds.spot p).tree)) 9223372036854775807)) ∷ [] = cc in
      ap Some first ∙ ap (λ (l : List Row). Some (Int (pos (min (length l) 9223372036854775807)) ∷ [])) (sym (holds.rows p))

  pub count_read : {old new : State} {row : Option Row} → TakesFirst old new sql [] (Ok row) → (out : Result ℕ Fault)
      → IfOk out (λ n. IsCount n row × (n < 2 ^ 32))
      → Finds HoldsTables (λ (t : Tables). t) old new out (λ t count. count ≡ length (t p))
  count_read {row = row} = first_tells (tables_know (counted_at text)) (λ db t holds at given. tt)
      (λ db t holds shown n is. same_count n (length (t p)) row is.0 is.1 (count_shown db t holds row shown))
