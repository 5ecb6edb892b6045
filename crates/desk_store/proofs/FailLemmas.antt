-- Why a call over a ledger that can be read is no failed store by itself.
use Rattle.desk_store.proofs.Common.{take-append-drop, arith, Place, ◌≡◌, ℕ, inl, List, ◌∷◌, take, drop, map, Option, Some, None, Ok, Result, IfErr, Vec, refl}
use Rattle.desk_store.proofs.Common.{sym, ap, subst, ◌∙◌, Global, Row, Query, Output, page, Database, Ghosts, Has, has_filtered, Fault, AsksText, TakesFirst}
use Rattle.desk_store.proofs.Common.{ShowsFirst, first_finds, ask_finds, ordered_rows, passes, shown_in, shown_of, HoldsLedger, Ledger, HoldsTables, Tables}
use Rattle.desk_store.proofs.Common.{IfRowsBroken, HasBroken, seen_in, Calls, State, Finds, Broken, rows_of, has_mapped, FindsLedger, FailsIn}
use Rattle.desk_store.proofs.Common.{IsReadable, IsBroken, BreaksColumn, Asks}
use Rattle.sqlite_rules.proofs.ListLemmas.{has_right, has_front}
use Rattle.desk_store.specs.Breaking.{BreaksFirst, BreaksOnly, BreaksTo, TellsOnly}
use Rattle.desk_store.specs.Failing.{nothing}
use Rattle.desk_store.specs.Readable.{KeepsColumns}
use Rattle.desk_store.proofs.Known.{over, answer_of, in_ledgers, known}
use Rattle.sqlite.specs.Effect.{Reads as Shows}
use Rattle.std.proofs.lemmas.List.Sorted.{IsPermutation-sym}
use Rattle.sqlite.specs.Term.{eval}
use Rattle.desk_records.proofs.Membership.{has_permuted}

-- ---- by what was found

module _ {B R : Type 0} {Holds : Database → R → Type 0} {Given Why : R → Type 0} {old new : State} where
  pub tells_by : {A : Type 0} {x : A} {P : R → A → Type 0} → Finds Holds (λ (r : R). r) {E = Fault} old new (Ok x) P → (out : Result B Fault)
      → IfErr out (λ fault. IfRowsBroken fault ((r : R) → P r x → Given r → Why r)) → TellsOnly Holds Given Why old new out
  tells_by read out why = grind arith

  -- where less is given
  pub tells_as : {Asked : R → Type 0} → ((r : R) → Given r → Asked r) → (out : Result B Fault) → TellsOnly Holds Asked Why old new out
      → BreaksTo Holds Given Why old new out
  tells_as so out told = grind arith

module _ {S A B R : Type 0} {g : Ghosts S} {Holds : Database → R → Type 0} {Given Why : R → Type 0} {old new : Calls S} {x : A} {P : R → A → Type 0} where
  -- what was found leaves no broken row but for this
  pub breaks_by : Finds Holds (λ (r : R). r) {E = Fault} (seen_in g old) (seen_in g new) (Ok x) P → (out : Result B Fault)
      → IfErr out (λ fault. IfRowsBroken fault ((r : R) → P r x → Given r → Why r)) → BreaksOnly g Holds Given Why old new out
  breaks_by read out why = record { to = (tells_by read out why).to }

  pub breaks_first_by : Finds Holds (λ (r : R). r) {E = Fault} (seen_in g old) (seen_in g new) (Ok x) P → (out : Result B Fault)
      → IfErr out (λ fault. IfRowsBroken fault ((r : R) → P r x → Given r → Why r)) → BreaksFirst g Holds Given Why old new out
  breaks_first_by read out why = grind arith

-- .. where it was told of nothing else
pub told_alone : {B : Type 0} (Spoiled : Type 0) (out : Result B Fault) → IfErr out (λ fault. (fault ≡ Broken) × Spoiled)
    → IfErr out (λ fault. IfRowsBroken fault Spoiled)
told_alone Spoiled out is = grind arith

-- the same, where it was told for something that bears it out
pub broken_so : {B : Type 0} {Spoiled Why : Type 0} → (Spoiled → Why) → (out : Result B Fault) → IfErr out (λ fault. IfRowsBroken fault Spoiled)
    → IfErr out (λ fault. IfRowsBroken fault Why)
broken_so so out is = grind arith

-- .. at a ledger that can be read
pub never_by : {S A B : Type 0} {g : Ghosts S} {old new : Calls S} {x : A} {Spoiled : Type 0}
    → FindsLedger g {E = Fault} old new (Ok x) (λ l u. IsReadable l → Spoiled → ⊥) → (out : Result B Fault)
    → IfErr out (λ fault. IfRowsBroken fault Spoiled) → FailsIn g old new out
never_by read out broken = breaks_by read out (broken_so (λ is l never readable. never readable is) out broken)

-- ---- by the rows of one table

abbrev pub tables_of : (db : Database) (l : Ledger) (holds : HoldsLedger db l) → HoldsTables db (rows_of db l holds)
tables_of db l holds = record { sound = holds.sound; spot = holds.spot; stands = holds.stands; rows = λ p. refl }

pub has_dropped : {X : Type 0} (n : ℕ) (xs : List X) (x : X) → Has (drop n xs) x → Has xs x
has_dropped n xs x among = subst (λ l. Has l x) (take-append-drop n xs) (has_right (take n xs) (drop n xs) x among)

pub has_taken : {X : Type 0} (n : ℕ) (xs : List X) (x : X) → Has (take n xs) x → Has xs x
has_taken n xs x among = has_front xs (take n xs) (drop n xs) x (sym (take-append-drop n xs)) among

has_page : {X : Type 0} (q : Query) (params : Row) (xs : List X) (x : X) → Has (page q params xs) x → Has xs x
has_page q params xs x among = grind (arith, eval, has_dropped, has_taken)

module _ {p : Place} {sql : List ℕ} {query : ℕ → Query} {names : List (List ℕ)} (text : Asks p sql query names) where
  -- each row that is shown is one of the table
  pub from_table : (params : Row) (db : Database) (t : Tables) (holds : HoldsTables db t) (shown : List Row)
      → Shows (known text db t holds).command db params shown → (x : Row) → Has shown x
      → (row : Row) × Has (t p) row × (x ≡ shown_of (query 0).project params row)
  from_table params db t holds shown shows x among =
      let it = ordered_rows (holds.spot p).tree (query 0).filter (query 0).project (query 0).order (query 0).limit (query 0).offset params db.trees shown
      (answer_of text holds shows) in
      let q = over query (holds.spot p).tree in
      let output = has_mapped (λ (o : Output). o.1) it.ordered x
      (has_page q params (map (λ (o : Output). o.1) it.ordered) x (subst (λ l. Has l x) it.is among)) in
      let source = has_mapped (shown_in q params) _ output.0 (has_permuted _ _ output.0 (IsPermutation-sym _ _ it.same) output.1) in
      let its = has_filtered (passes (query 0).filter params) (db.trees (holds.spot p).tree) source.0 source.1 in
      (source.0, subst (λ l. Has l source.0) (sym (holds.rows p)) its.0, output.2 ∙ ap (λ (o : Output). o.1) source.2)

  -- .. which can be read
  module _ (is_broken : Row → Type 0) {params : Row} (rule : (row : Row) → is_broken (shown_of (query 0).project params row) → BreaksColumn p row) where
    kept : (db : Database) (l : Ledger) (holds : HoldsLedger db l) (shown : List Row) → Shows (in_ledgers (known text) db l holds).command db params shown
        → KeepsColumns p l → (x : Row) → Has shown x → is_broken x → ⊥
    kept db l holds shown shows keeps x among broken =
        let its = from_table params db (rows_of db l holds) (tables_of db l holds) shown shows x among in
        keeps (db.trees (holds.spot p).tree) (holds.rows p) its.0 its.1 (rule its.0 (subst is_broken its.2 broken))

    -- the first row
    pub first_tells_only : {B : Type 0} {old new : State} {row : Option Row} → TakesFirst old new sql params (Ok row) → (out : Result B Fault)
        → IfErr out (λ fault. IfRowsBroken fault (IsBroken is_broken row)) → TellsOnly HoldsLedger (KeepsColumns p) nothing old new out
    first_tells_only {old = old} {new = new} {row = row} h out broken = tells_by {P = λ l u. KeepsColumns p l → IsBroken is_broken row → ⊥}
        (first_finds HoldsLedger (λ (l : Ledger). l) sql params old new _ (in_ledgers (known text)) (λ db l holds at given. tt) row h (Ok (tt {0}))
        (λ db l holds shown. go db l holds row shown)) out (broken_so (λ is l never keeps. never keeps is) out broken)
      where
        go : (db : Database) (l : Ledger) (holds : HoldsLedger db l) (row : Option Row) → ShowsFirst (in_ledgers (known text) db l holds).command db params
            row → KeepsColumns p l → IsBroken is_broken row → ⊥
        go db l holds None shown keeps b = b
        go db l holds (Some x) shown keeps b = kept db l holds (x ∷ shown.0) shown.1 keeps x (inl refl) b

    module _ {S B : Type 0} {g : Ghosts S} {old new : Calls S} where
      pub first_fails : {row : Option Row} → TakesFirst (seen_in g old) (seen_in g new) sql params (Ok row) → (out : Result B Fault)
          → IfErr out (λ fault. IfRowsBroken fault (IsBroken is_broken row)) → FailsIn g old new out
      first_fails h out broken = record { to = tells_as (λ l readable. readable.keep p) out (first_tells_only h out broken) }

      -- each row
      pub all_fails : {rows : Vec Row Global} → AsksText (seen_in g old) (seen_in g new) sql params (Ok rows) → (out : Result B Fault)
          → IfErr out (λ fault. IfRowsBroken fault (HasBroken is_broken rows.items)) → FailsIn g old new out
      all_fails {rows} h = never_by {Spoiled = HasBroken is_broken rows.items}
          (ask_finds HoldsLedger (λ (l : Ledger). l) sql params (seen_in g old) (seen_in g new) _ (in_ledgers (known text)) rows h
          (Ok (tt {0})) (λ db l holds shown readable b. kept db l holds rows.items shown (readable.keep p) b.row b.among b.broken))
