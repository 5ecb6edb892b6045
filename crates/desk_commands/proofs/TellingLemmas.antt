-- What is told of an action and what becomes of it, write by write.
use Rattle.desk_commands.proofs.Common.{arith, ◌≡◌, ℕ, append-nil, List, [], ◌∷◌, Option, Some, None, refl, sym, ap, subst, ◌∙◌, is_some, Then, Reported}
use Rattle.desk_commands.proofs.Common.{ActionRecord, action_with, ActionChange, Ledger, AddsEntry, AddsNumber, SetsAction, and_entry, set_numbered}
use Rattle.desk_commands.proofs.Common.{with_actions, with_numbers, StoredAction, TellsAction, canceling_by, outcome_by, TellsReports, WritesNumber, WritesTold}
use Rattle.desk_commands.proofs.Common.{entries_by, notes_by, numbers_by, tally_by, with_reports, SeenAction, Told}
use Rattle.desk_records.specs.LedgerSteps.{action_turned}
use Rattle.desk_commands.specs.private.Counts.{counts_after}
use Rattle.desk_commands.specs.private.Endings.{own_after}
use Rattle.desk_commands.specs.private.Telling.{numbers_told}
use Rattle.desk_commands.specs.declared.counts.Counts.{Counts}
use Rattle.desk_commands.proofs.ItemSteps.{set_same, set_twice, zip_at, zip_set}

-- ---- the history and its numbers

module _ (k : ℕ) (counts : Counts) (told : Told) (l next : Ledger) (w : WritesNumber k counts told l next) where
  pub number_adds : (number : ℕ) → told.entry.number ≡ Some number
      → AddsNumber k counts.numbers (record { sequence = counts.entries; number = number }) l next
  number_adds number bears = grind (arith, is_some)

  pub no_number : told.entry.number ≡ None → next ≡ l
  no_number none = grind (arith, append-nil, set_same)

-- the entry, and then its number
pub told_parts : (k : ℕ) (counts : Counts) (told : Told) (l next : Ledger) → WritesTold k counts (Some told) l next
    → Then (AddsEntry k counts.entries told.entry) (WritesNumber k counts told) l next
told_parts k counts told l next w = go w.reports w.tells w.next_is
  where
    go : (reports : List Reported) → TellsReports reports (Some told)
        → next ≡ with_numbers (with_actions l (set_numbered l.records.actions k (with_reports reports w.action)) l.tallies)
        (set_numbered l.numbers k (numbers_by counts.entries (Some told) w.numbers))
        → Then (AddsEntry k counts.entries told.entry) (WritesNumber k counts told) l next
    go [] tells is = absurd tells
    go (it ∷ []) tells is = (
      with_actions l (set_numbered l.records.actions k (and_entry w.action it)) l.tallies,
      record { action = w.action; is_there = w.is_there; sequence_is = w.place_is; reported = it; told = tells; next_is = refl },
      record { numbers = w.numbers; are_its = w.are_its; counted = w.counted; numbers_are = w.numbers_are; next_is = is },
    )
    go (it ∷ other ∷ more) tells is = absurd tells

pub none_told : (k : ℕ) (counts : Counts) (l next : Ledger) → WritesTold k counts None l next → next ≡ l
none_told k counts l next w = grind (arith, append-nil, set_same)

-- ---- the action

acted_with : (reports : List Reported) (after : ActionChange) (a : ActionRecord) → with_reports reports (action_with after a)
    ≡ action_turned (canceling_by after) (outcome_by a.outcome after) (with_reports reports a)
acted_with reports after a = grind arith

pub telling_parts : (seen : SeenAction) (after : ActionChange) (told : Option Told) (counts : Counts) → counts ≡ counts_after seen after told
    → (l next : Ledger) → TellsAction seen after told l next
    → Then (WritesTold seen.number counts told)
    (SetsAction seen.number (canceling_by after) (outcome_by seen.action.outcome after) (record { notes = counts.notes; entries = counts.entries })) l next
telling_parts seen after told counts are l next w = let heard = with_reports w.reports w.action.0 in rw are (subst
    (λ (a : StoredAction). Then (WritesTold seen.number (record {
      notes = notes_by told a.notes;
      entries = entries_by told a.entries;
      numbers = numbers_told told;
      own = own_after seen after;
    }) told)
    (SetsAction seen.number (canceling_by after) (outcome_by a.outcome after) (tally_by told (record { notes = a.notes; entries = a.entries }))) l next)
    (sym w.seen_as) (
      with_numbers (with_actions l (set_numbered l.records.actions seen.number heard) l.tallies)
          (set_numbered l.numbers seen.number (numbers_by (entries_by told w.action.1.entries) told w.numbers)),
      record {
        reports = w.reports;
        tells = w.tells;
        action = w.action.0;
        is_there = zip_at seen.number l.records.actions l.tallies w.action w.is_there;
        place_is = ap (entries_by told) w.tallied;
        numbers = w.numbers;
        are_its = w.are_its;
        counted = w.counted;
        numbers_are = refl;
        next_is = refl;
      },
      record {
        action = (heard, w.action.1);
        is_there = zip_set seen.number l.records.actions l.tallies w.action heard w.is_there;
        next_is = w.next_is
            ∙ ap (λ (as' : List ActionRecord). with_numbers (with_actions l as' (set_numbered l.tallies seen.number (tally_by told w.action.1)))
            (set_numbered l.numbers seen.number (numbers_by (entries_by told w.action.1.entries) told w.numbers)))
            (ap (set_numbered l.records.actions seen.number) (acted_with w.reports after w.action.0)
            ∙ sym (set_twice seen.number l.records.actions heard (action_turned (canceling_by after) (outcome_by w.action.0.outcome after) heard)));
      },
    ))
