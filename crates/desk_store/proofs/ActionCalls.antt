-- The calls on histories of actions.
use Rattle.desk_store.proofs.Common.{take-append-drop, test_has, arith, ◌≡◌, ◌≤◌, ℕ, suc, pos, take, drop, Bool, true, List, [], ◌∷◌, Option, Some, Ok}
use Rattle.desk_store.proofs.Common.{Result, IfOk, option_map, Vec, refl, sym, ap, subst, slice_get, ◌∙◌, list_all, Global, Int, Row, Database, State}
use Rattle.desk_store.proofs.Common.{Fault, AsksText, TakesFirst, Finds, ShowsFirst, and_parts, slice_get-map, HistoryEntry, item_numbered, LIST_ENTRIES}
use Rattle.desk_store.proofs.Common.{history_of, told_entry, IsEntryRow, keeps_details, HoldsLedger, Ledger, list_entries_is, AreReadAs, IsReadAs}
use Rattle.std.proofs.lemmas.List.Folds.{list_all-append}
use Rattle.sqlite_rules.proofs.ListLemmas.{has_got}
use Rattle.desk_store.proofs.GroupPlaces.{at_drop}
use Rattle.sqlite_keyed.proofs.ListLemmas.{first_taken}
use Rattle.desk_records.proofs.EntryRecords.{lists_entries, told_part}
use Rattle.desk_store.proofs.Known.{in_ledgers, known}
use Rattle.desk_store.proofs.LedgerReads.{one_entry, same_entries}
use Rattle.desk_store.proofs.ReadLemmas.{rows_of_first, all_tell, first_tells, one_read, read_parts}

pub kept_from : {X : Type 0} (p : X → Bool) (n : ℕ) (es : List X) → list_all p es ≡ true → list_all p (drop n es) ≡ true
kept_from p n es h = grind (arith, and_parts, list_all-append p (take n es) (drop n es), take-append-drop n es)

pub kept_to : {X : Type 0} (p : X → Bool) (n : ℕ) (es : List X) → list_all p es ≡ true → list_all p (take n es) ≡ true
kept_to p n es h = grind (arith, and_parts, list_all-append p (take n es) (drop n es), take-append-drop n es)

pub entries_read : (number limit offset : ℕ) → 1 ≤ number → {old new : State} {rows : Vec Row Global}
    → AsksText old new LIST_ENTRIES.now (Int (pos number) ∷ Int (pos limit) ∷ Int (pos offset) ∷ []) (Ok rows) → (out : Result (Vec HistoryEntry Global) Fault)
    → IfOk out (λ found. AreReadAs IsEntryRow rows.items found.items)
    → Finds HoldsLedger (λ (l : Ledger). l) old new out (λ l found. list_all keeps_details (history_of (item_numbered l.records.actions number)) ≡ true
    → found.items ≡ take limit (drop offset (history_of (item_numbered l.records.actions number))))
entries_read number limit offset least {rows = rows} = all_tell (in_ledgers (known list_entries_is)) (λ db l holds shown found is keep.
    let all = history_of (item_numbered l.records.actions number) in
    same_entries found.items (take limit (drop offset all)) (kept_to keeps_details limit (drop offset all) (kept_from keeps_details offset all keep))
    (subst (λ rs. AreReadAs IsEntryRow rs found.items) (lists_entries db l holds [] number limit offset least rows.items shown)
    (read_parts told_part IsEntryRow rows.items found.items is)))

-- ---- one entry

part_read : (found : Option HistoryEntry) (row : Option Row) → IsReadAs IsEntryRow found row → IsReadAs IsEntryRow found (option_map told_part row)
part_read found row h = grind arith

module _ (number sequence before : ℕ) (least : 1 ≤ number) (behind : sequence ≡ suc before) where
  abbrev page_of_one : Row
  page_of_one = Int (pos number) ∷ Int (pos 1) ∷ Int (pos before) ∷ []

  abbrev its : Ledger → List HistoryEntry
  its l = history_of (item_numbered l.records.actions number)

  abbrev IsAt : Ledger → Option HistoryEntry → Type 0
  IsAt l found = list_all keeps_details (its l) ≡ true → found ≡ item_numbered (its l) sequence

  entry_shown : (db : Database) (l : Ledger) (holds : HoldsLedger db l) (row : Option Row) → ShowsFirst (in_ledgers (known list_entries_is) db l holds).command
      db page_of_one row → option_map told_part row ≡ option_map told_entry (slice_get (its l) before)
  entry_shown db l holds row shown =
      let rows = rows_of_first (in_ledgers (known list_entries_is) db l holds).command db page_of_one row shown in
      ap (option_map told_part) (sym rows.1) ∙ sym (slice_get-map told_part rows.0 0)
      ∙ ap (λ (rs : List Row). slice_get rs 0) (lists_entries db l holds [] number 1 before least rows.0 rows.2)
      ∙ slice_get-map told_entry (take 1 (drop before (its l))) 0
      ∙ ap (option_map told_entry) (first_taken (drop before (its l)) ∙ at_drop before 0 (its l) before (omega arith))

  pub entry_read : {old new : State} {row : Option Row} → TakesFirst old new LIST_ENTRIES.now page_of_one (Ok row) → (out : Result (Option HistoryEntry) Fault)
      → IfOk out (λ found. IsReadAs IsEntryRow found row) → Finds HoldsLedger (λ (l : Ledger). l) old new out IsAt
  entry_read {row = row} = first_tells (in_ledgers (known list_entries_is)) (λ db l holds at given. tt) (λ db l holds shown found is keep.
      one_read IsEntryRow told_entry Tells (λ kept. refl) (λ a b same kept. ap Some (one_entry a b (kept b refl) same)) found (slice_get (its l) before)
      (option_map told_part row) (part_read found row is)
      (entry_shown db l holds row shown) (λ e at. test_has keeps_details (its l) e keep (has_got (its l) before e at))
      ∙ ap (item_numbered (its l)) (sym behind))
    where
      Tells : Option HistoryEntry → Option HistoryEntry → Type 0
      Tells found wanted = ((e : HistoryEntry) → wanted ≡ Some e → keeps_details e ≡ true) → found ≡ wanted
