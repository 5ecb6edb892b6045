-- What rows of rollouts, groups, actions and offers tell of the ledger that they show.
use Rattle.desk_store.proofs.Common.{arith, ◌≡◌, pos, List, [], ◌∷◌, map, true, Option, Some, option_map, refl, ap₂, list_all, and_parts, Int, HistoryEntry}
use Rattle.desk_store.proofs.Common.{Said, kind_code, lines_of, told_entry, word_code, IsEntryRow, keeps_details, said_in, AreReadAs}
use Rattle.desk_records.proofs.DetailLines.{same_details}
use Rattle.desk_records.proofs.KeptColumns.{same_text}

pub both_mapped : {A B C : Type 0} (f : B → C) (g : A → B) (o : Option A) → option_map (λ a. f (g a)) o ≡ option_map f (option_map g o)
both_mapped f g o = grind arith

-- ---- entries

kept_said : (w v : Said) → said_in (Int (pos (kind_code w)) ∷ Int (pos (word_code w)) ∷ []) ≡ Some v → v ≡ w
kept_said w v h = grind arith

pub one_entry : (a b : HistoryEntry) → keeps_details b ≡ true → IsEntryRow (told_entry b) a → a ≡ b
one_entry a b keep h =
    let said = kept_said b.said a.said h.0 in
    let details = same_details a.details b.details h.2 keep (same_text (lines_of b.details) (lines_of a.details) h.1) in
    λ i. record { said = said i; details = details i }

pub same_entries : (found wanted : List HistoryEntry) → list_all keeps_details wanted ≡ true → AreReadAs IsEntryRow (map told_entry wanted) found
    → found ≡ wanted
same_entries [] [] keep h = refl
same_entries (a ∷ found) (b ∷ bs) keep h = let parts = and_parts (keeps_details b) (list_all keeps_details bs) keep in
    ap₂ ◌∷◌ (one_entry a b parts.0 h.0) (same_entries found bs parts.1 h.1)
same_entries found wanted keep h = absurd h
