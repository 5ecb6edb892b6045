-- From entries of histories that were read to what is shown of them.
use Rattle.desk_views.proofs.Common.{◌≡◌, ◌<◌, ℕ, zero, suc, ◌+◌, List, [], ◌∷◌, ◌++◌, length, slice_get, take, drop, Option}
use Rattle.desk_views.proofs.Common.{Some, None, refl, ap, arith, option_map, nat_tests, action_if, if_found, item_numbered, Bytes, entry_shown}
use Rattle.desk_views.proofs.Common.{numbered, page_of, Records, HistoryShown, ShownEntry, Page, ActionRecord, history_of, StoredAction}
use Rattle.desk_views.proofs.Common.{entry_by, number_at, reports_of, stored_in, HistoryEntry, Reported, entries_in, ledger_of}
use Rattle.desk_records.specs.FeedbackNumbers.{numbers_from, numbers_numbered}
use Rattle.desk_records.specs.declared.number_row.PlacedNumber.{PlacedNumber}
use Rattle.rollout_machine.proofs.Actions.{numbered_map}
use Rattle.desk_views.proofs.PageLemmas.{numbered_length}

numbered_taken : {X Y : Type 0} (f : ℕ → X → Y) (k n : ℕ) (xs : List X) → take n (numbered f k xs) ≡ numbered f k (take n xs)
numbered_taken f k zero xs = refl
numbered_taken f k (suc n) [] = refl
numbered_taken f k (suc n) (x ∷ xs) = ap (λ l. f k x ∷ l) (numbered_taken f (suc k) n xs)

numbered_dropped : {X Y : Type 0} (f : ℕ → X → Y) (k n m : ℕ) (xs : List X) → m ≡ n + k → drop n (numbered f k xs) ≡ numbered f m (drop n xs)
numbered_dropped f k zero m xs at = ap (λ j. numbered f j xs) (omega (arith, at))
numbered_dropped f k (suc n) m [] at = refl
numbered_dropped f k (suc n) m (x ∷ xs) at = numbered_dropped f (suc k) n m xs (omega (arith, at))

-- one more entry
pub numbered_more : {X Y : Type 0} (f : ℕ → X → Y) (k number : ℕ) (xs : List X) (x : X) → number ≡ k + length xs → numbered f k (xs ++ x ∷ [])
    ≡ numbered f k xs ++ f number x ∷ []
numbered_more f k number [] x at = ap (λ j. f j x ∷ []) (omega (arith, at))
numbered_more f k number (y ∷ ys) x at = ap (λ l. f k y ∷ l) (numbered_more f (suc k) number ys x (omega (arith, at)))

-- ---- the numbers of entries

none_before : (place sequence : ℕ) (history : List Reported) → place < sequence → number_at place (numbers_from sequence history) ≡ None
none_before place sequence [] less = refl
none_before place sequence (r ∷ history) less = grind (arith, nat_tests, none_before place (sequence + 1) history)

-- the entry at a place bears the number that is found there
number_there : (sequence index place : ℕ) (history : List Reported) (r : Reported) → slice_get history index ≡ Some r → place ≡ sequence + index
    → number_at place (numbers_from sequence history) ≡ r.number
number_there sequence index place [] r got at = absurd cc
number_there sequence zero place (x ∷ history) r got at = grind (arith, nat_tests, none_before sequence (sequence + 1) history)
number_there sequence (suc index) place (x ∷ history) r got at = grind (arith, nat_tests, number_there (sequence + 1) index place history r got)

-- so each is shown with its own
each_shown : (numbers : List PlacedNumber) (k : ℕ) (history : List Reported)
    → ((i place : ℕ) (r : Reported) → slice_get history i ≡ Some r → place ≡ k + i → number_at place numbers ≡ r.number)
    → numbered (entry_by numbers) k (entries_in history) ≡ numbered entry_shown k history
each_shown numbers k [] own = refl
each_shown numbers k (r ∷ history) own =
    λ j. entry_shown k (record { entry = r.entry; number = own 0 k r refl (omega arith) j })
    ∷ each_shown numbers (suc k) history (λ i place x got at. own (suc i) place x got (omega (arith, at))) j

pub all_shown : (history : List Reported) → numbered (entry_by (numbers_from 1 history)) 1 (entries_in history) ≡ numbered entry_shown 1 history
all_shown history = each_shown (numbers_from 1 history) 1 history (λ i place r got at. number_there 1 i place history r got at)

-- ---- the page

-- of these entries, of any function of place and entry
pub part_numbered : {X Y : Type 0} (f : ℕ → X → Y) (page : Page) (xs entries : List X) → entries ≡ take page.limit (drop page.offset xs)
    → numbered f (page.offset + 1) entries ≡ take page.limit (drop page.offset (numbered f 1 xs))
part_numbered f page xs entries read = grind (arith, numbered_taken, numbered_dropped)

-- the numbers of an action are those of its history
pub numbers_read : (r : Records) (k : ℕ) → numbers_numbered (ledger_of r).numbers k ≡ numbers_from 1 (reports_of (item_numbered r.actions k))
numbers_read r k = grind (arith, numbered_map, option_map)

pub entries_read : (o : Option ActionRecord) → history_of o ≡ entries_in (reports_of o)
entries_read o = grind arith

-- a page with the numbers that were read
pub page_numbered : (r : Records) (k : ℕ) (page : Page) (entries : List HistoryEntry) (numbers : List PlacedNumber) (content : List ShownEntry) → entries
    ≡ take page.limit (drop page.offset (history_of (item_numbered r.actions k)))
    → numbers ≡ numbers_numbered (ledger_of r).numbers k → content ≡ numbered (entry_by numbers) (page.offset + 1) entries → content
    ≡ take page.limit (drop page.offset (numbered entry_shown 1 (reports_of (item_numbered r.actions k))))
page_numbered r k page entries numbers content read borne shown = grind (arith, numbers_read, part_numbered, entries_read, all_shown)

pub history_replied : (r : Records) (id : Bytes) (page : Page) (o : Option ActionRecord) (action : StoredAction) (content : List ShownEntry) → Some action
    ≡ option_map (stored_in r) (action_if r id o)
    → content ≡ take page.limit (drop page.offset (numbered entry_shown 1 (reports_of o)))
    → HistoryShown (record { content = content; total = action.entries })
    ≡ if_found (λ (a : ActionRecord). HistoryShown (page_of page (numbered entry_shown 1 a.history))) (action_if r id o)
history_replied r id page o action content is shown = grind (arith, option_map, numbered_length)
