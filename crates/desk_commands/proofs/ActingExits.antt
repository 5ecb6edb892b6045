-- What a command on an action counts has room, and what it rests on is there.
use Rattle.desk_commands.proofs.Common.{◌≡◌, ◌≤◌, ◌<◌, ◌^◌, ℕ, ◌+◌, List, [], ◌∷◌, length, Option, Some, option_map, sym, ap, ◌∙◌, subst, arith, is_some}
use Rattle.desk_commands.proofs.Common.{length-map, length-set, zip, item_numbered, CommandList, Reported, entries_in, is_note, notes_of, IsValid, Records}
use Rattle.desk_commands.proofs.Common.{records, Outcome, Good, Bad, Gone, ActionRecord, GroupRecord, RolloutRecord, numbered_map, ActionChange, Tally}
use Rattle.desk_commands.proofs.Common.{tally_of, numbers_from, numbers_of, Ledger, ledger_of, set_numbered, PlacedNumber, Acts, TellsAction}
use Rattle.desk_commands.proofs.Common.{outcomes_in, SeenAction, Told, Has, limits_hold, Leads, TakesSteps, HasRoom}
use Rattle.desk_commands.proofs.Common.{AreActionsNumbered}
use Rattle.std.proofs.lemmas.List.Sums.{count_by-le-length, length-filter}
use Rattle.std.proofs.lemmas.Option.{same_Some}
use Rattle.sqlite_rules.proofs.ListLemmas.{has_got}
use Rattle.desk_commands.proofs.ItemSteps.{own_pair}

-- ---- lists

has_numbered : {X : Type 0} (xs : List X) (k : ℕ) (x : X) → item_numbered xs k ≡ Some x → Has xs x
has_numbered xs k x at = grind (arith, has_got)

same_length : {X : Type 0} (xs : List X) (k : ℕ) (x : X) → length (set_numbered xs k x) ≡ length xs
same_length xs k x = grind (arith, length-set)

-- no more entries bear a number than there are
few_numbers : (sequence : ℕ) (history : List Reported) → length (numbers_from sequence history) ≤ length history
few_numbers sequence [] = omega arith
few_numbers sequence (r ∷ history) = grind (arith, few_numbers (sequence + 1) history)

-- .. and no more are notes
few_notes : (a : ActionRecord) → notes_of a ≤ length a.history
few_notes a = let size : length (entries_in a.history) ≡ length a.history = length-map a.history (λ (r : Reported). r.entry) in
    omega (arith, size, length-filter is_note (entries_in a.history), count_by-le-length is_note (entries_in a.history))

-- ---- what follows

few_outcomes : (h : CommandList) → IsValid h → (r : ℕ) (x : RolloutRecord) (i : ℕ) (g : GroupRecord) → item_numbered (records h).rollouts r ≡ Some x
    → item_numbered x.groups i ≡ Some g → (o : Outcome) → outcomes_in o g ≤ 10000
few_outcomes h valid r x i g at its o =
    let limits = (limits_hold h valid).each r x at in
    let counts = limits.counts i g its in
    elim o as (λ o. outcomes_in o g ≤ 10000) [
      | Good ↦ omega (arith, counts.ok, limits.members)
      | Bad ↦ omega (arith, counts.bad, limits.members)
      | Gone ↦ omega (arith, counts.gone, limits.members)
    ]

-- ---- what is told

-- the action of a tally, and its numbers
record IsHeard (l : Ledger) (k : ℕ) (action : ActionRecord × Tally) : Type 0 where
  a : ActionRecord
  at : item_numbered l.records.actions k ≡ Some a
  is : action ≡ (a, tally_of a)
  numbers : (its : List PlacedNumber) → item_numbered l.numbers k ≡ Some its → its ≡ numbers_of a

heard : (l : Ledger) → TakesSteps l → (k : ℕ) (action : ActionRecord × Tally) → item_numbered (zip l.records.actions l.tallies) k ≡ Some action
    → IsHeard l k action
heard l takes k action there = subst (λ m. item_numbered (zip m.records.actions m.tallies) k ≡ Some action → IsHeard m k action) (sym takes.of_list.is)
    (at (records takes.of_list.list)) there
  where
    at : (r : Records) → item_numbered (zip r.actions (ledger_of r).tallies) k ≡ Some action → IsHeard (ledger_of r) k action
    at r there =
        let it = own_pair tally_of k r.actions action there in
        record {
          a = it.0;
          at = it.1;
          is = it.2;
          numbers = λ its are. same_Some its (numbers_of it.0) (sym are ∙ numbered_map numbers_of r.actions k ∙ ap (option_map numbers_of) it.1);
        }

module _ (seen : SeenAction) (after : ActionChange) (told : Option Told) (l : Ledger) (w : Leads (Acts seen after told) l) where
  t : TellsAction seen after told l w.changes.acted
  t = w.changes.tells

  its : IsHeard l seen.number t.action
  its = heard l w.takes seen.number t.action t.is_there

  few : length its.a.history + 1 < 2 ^ 32
  few = w.takes.counted.few its.a (has_numbered l.records.actions seen.number its.a its.at)

  pub has_room : HasRoom seen after told
  has_room = grind (arith, few, few_notes, is_some, few_numbers, few_outcomes)

  -- the actions keep their numbers
  pub numbers_stay : AreActionsNumbered w.changes.acted
  numbers_stay =
      let of = subst (λ (m : Ledger). length m.tallies ≡ length m.records.actions) (sym w.takes.of_list.is)
      (length-map (records w.takes.of_list.list).actions tally_of) in
      let limit = subst (λ (m : Ledger). length m.records.actions ≤ 10000000) (sym w.takes.of_list.is)
      (limits_hold w.takes.of_list.list w.takes.of_list.valid).actions in
      subst AreActionsNumbered (sym t.next_is) (record {
        tallied = same_length l.tallies seen.number _ ∙ of ∙ sym (same_length l.records.actions seen.number _);
        few = subst (λ n. n ≤ 2147483647) (sym (same_length l.records.actions seen.number _)) (omega (arith, limit));
      })
