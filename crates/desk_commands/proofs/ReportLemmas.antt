-- How a report stands among what its action has heard, by the last number.
use Rattle.desk_commands.proofs.Common.{◌≡◌, ℕ, Bool, true, cond, List, [], ◌∷◌, length, Option, Some, None, option_map, refl, sym, ap, ◌∙◌, ◌≤◌, arith}
use Rattle.desk_commands.proofs.Common.{last_or, list_all, nat_tests, item_numbered, Records, HistoryEntry, Reported, against, entries_in, same_entry, Standing}
use Rattle.desk_commands.proofs.Common.{ActionRecord, numbered_map, history_of, last_number, numbers_numbered, numbers_of, Ledger, ledger_of, parts_of}
use Rattle.desk_commands.proofs.Common.{PlacedNumber, StandsAgainst, StandsAmong, StandsAt, details_kept, IsLastOf}
use Rattle.rollout_machine.specs.declared.standing.Standing.TheVariants.{Fresh, Again, Old}
use Rattle.desk_records.specs.declared.number_row.LastNumber.{LastNumber}
use Rattle.desk_records.proofs.NumberLists.{IsBearer, bears_last}
use Rattle.desk_records.specs.EntryRow.{keeps_details}
use Rattle.desk_commands.proofs.ItemSteps.{none_shown}

-- ---- the last number

none_last : {X : Type 0} (o : Option X) (xs : List X) → last_or o xs ≡ None → (o ≡ None) × (length xs ≡ 0)
none_last o [] is = (is, refl)
none_last o (x ∷ xs) is = let none = (none_last (Some x) xs is).0 in cc

numbers_at : (r : Records) (k : ℕ) (a : ActionRecord) → item_numbered r.actions k ≡ Some a → numbers_numbered (ledger_of r).numbers k ≡ numbers_of a
numbers_at r k a at = ap (parts_of (λ (its : List PlacedNumber). its)) (numbered_map numbers_of r.actions k ∙ ap (option_map numbers_of) at)

-- the entry that bears it
bearer : (a : ActionRecord) (last : LastNumber) → last_number (numbers_of a) ≡ Some last
    → IsBearer 1 a.history last.it × (last.place ≡ length (numbers_of a))
bearer a last is = grind (arith, bears_last)

-- .. is there
bearer_in : (a : ActionRecord) (it : PlacedNumber) (b : IsBearer 1 a.history it) → item_numbered (entries_in a.history) it.sequence ≡ Some b.reported.entry
bearer_in a it b = grind (arith, numbered_map, option_map)

module _ (a : ActionRecord) (entry : HistoryEntry) (n : ℕ) where
  abbrev new : Reported
  new = record { entry = entry; number = Some n }

  stands_by : (last : LastNumber) (standing : Standing) → last_number (numbers_of a) ≡ Some last
      → ((e : HistoryEntry) → item_numbered (entries_in a.history) last.it.sequence ≡ Some e → standing
      ≡ against (Some (record { entry = e; number = last.it.number })) n entry)
      → StandsAmong a.history new (record { standing = standing; numbers = last.place })
  stands_by last standing is means =
      let it = bearer a last is in
      record { standing = means it.0.reported.entry (bearer_in a last.it it.0) ∙ ap (λ o. against o n entry) (sym it.0.bears); numbers = λ bears. it.1 }

  stands_alone : last_number (numbers_of a) ≡ None → StandsAmong a.history new (record { standing = Fresh; numbers = 0 })
  stands_alone is = grind (arith, none_shown, bears_last, none_last None (numbers_of a))

module _ (r : Records) (k n : ℕ) (entry : HistoryEntry) where
  pub stands_at : (last : LastNumber) (standing : Standing) → Some last ≡ last_number (numbers_numbered (ledger_of r).numbers k)
      → StandsAgainst k last.it n entry r standing
      → StandsAt k (record { entry = entry; number = Some n }) r (record { standing = standing; numbers = last.place })
  stands_at last standing is means a at =
      stands_by a entry n last standing (ap last_number (sym (numbers_at r k a at)) ∙ sym is)
      (λ e there. means e (ap (λ o. item_numbered (history_of o) last.it.sequence) at ∙ there))

  pub none_at : None ≡ last_number (numbers_numbered (ledger_of r).numbers k)
      → StandsAt k (record { entry = entry; number = Some n }) r (record { standing = Fresh; numbers = 0 })
  none_at is a at = stands_alone a entry n (ap last_number (sym (numbers_at r k a at)) ∙ sym is)

-- ---- the entry that bears it

-- .. is there
pub bearer_there : (r : Records) (k : ℕ) (last : LastNumber) → Some last ≡ last_number (numbers_numbered (ledger_of r).numbers k) → (e : HistoryEntry)
    × (item_numbered (history_of (item_numbered r.actions k)) last.it.sequence ≡ Some e)
bearer_there r k last is =
    go (item_numbered r.actions k) (is ∙ ap (λ o. last_number (parts_of (λ (its : List PlacedNumber). its) o)) (numbered_map numbers_of r.actions k))
  where
    go : (o : Option ActionRecord) → Some last ≡ last_number (parts_of (λ (its : List PlacedNumber). its) (option_map numbers_of o)) → (e : HistoryEntry)
        × (item_numbered (history_of o) last.it.sequence ≡ Some e)
    go None is = cc
    go (Some a) is = let b = (bearer a last (sym is)).0 in (b.reported.entry, bearer_in a last.it b)

pub record IsKept (k sequence : ℕ) (l : Ledger) : Type 0 where
  pub entry : HistoryEntry
  pub keeps : list_all keeps_details (history_of (item_numbered l.records.actions k)) ≡ true
  pub is_there : item_numbered (history_of (item_numbered l.records.actions k)) sequence ≡ Some entry

pub entry_kept : (k : ℕ) (last : PlacedNumber) (l : Ledger) → IsLastOf k last l → IsKept k last.sequence l
entry_kept k last l w = grind (arith, bearer_there, details_kept)

-- ---- against the last one

-- the entry that bears the same number
pub stands_equal : (last : PlacedNumber) (n : ℕ) (new : HistoryEntry) (r : Records) (k : ℕ) (entry : HistoryEntry) (same : Bool) → n ≤ last.number
    → last.number ≤ n → same ≡ same_entry entry new
    → item_numbered (history_of (item_numbered r.actions k)) last.sequence ≡ Some entry → StandsAgainst k last n new r (cond same Again Old)
stands_equal last n new r k entry same over under both at e there = grind (arith, nat_tests)
