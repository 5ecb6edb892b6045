-- Why the actions of a list and their histories can be counted.
use Rattle.desk_views.proofs.Common.{◌≡◌, ◌≤◌, ◌^◌, ◌+◌, ℕ, Bool, List, [], ◌∷◌, length, map, take, drop, arith, zip}
use Rattle.desk_views.proofs.Common.{length-drop, length-map, length-take, HistoryEntry, limits_hold, Tally, history_of, tally_of, ledger_of, listed_where}
use Rattle.desk_views.proofs.Common.{ListedAction, IsReadable, item_numbered, Records, ActionRecord, RolloutRecord, AreOfList}
use Rattle.desk_store.proofs.ReadableHistories.{history_few}

-- ---- actions

few_listed : (test : ActionRecord × Tally → Bool) (rollouts : List RolloutRecord) (n : ℕ) (its : List (ActionRecord × Tally))
    → length (listed_where test rollouts n its) ≤ length its
few_listed test rollouts n [] = omega arith
few_listed test rollouts n (it ∷ more) = grind (arith, few_listed test rollouts (n + 1) more)

zip_few : {X Y : Type 0} (xs : List X) (ys : List Y) → length (zip xs ys) ≤ length xs
zip_few [] ys = omega arith
zip_few (x ∷ xs) [] = omega arith
zip_few (x ∷ xs) (y ∷ ys) = let few = zip_few xs ys in omega (arith, few)

-- fewer than a statement lists
pub listed_few : (r : Records) → AreOfList r → (test : ActionRecord × Tally → Bool) (limit offset : ℕ) (found : List ListedAction)
    → found ≡ take limit (drop offset (listed_where test r.rollouts 1 (zip r.actions (map tally_of r.actions)))) → 4294967295 ≤ length found → ⊥
listed_few r of test limit offset found is many = grind (arith, length-take, length-drop, few_listed, zip_few, of.are, (limits_hold of.list of.valid).actions)

pub numbers_few : (r : Records) → AreOfList r → (test : ActionRecord × Tally → Bool) (numbers : List ℕ) → numbers
    ≡ map (λ (a : ListedAction). a.number) (listed_where test r.rollouts 1 (zip r.actions (map tally_of r.actions))) → 4294967295 ≤ length numbers → ⊥
numbers_few r of test numbers is many = grind (arith, length-map, few_listed, zip_few, of.are, (limits_hold of.list of.valid).actions)

-- ---- histories

-- so the places of a page of it are counted
pub places_few : (r : Records) → IsReadable (ledger_of r) → (k limit offset : ℕ) (entries : List HistoryEntry) → entries
    ≡ take limit (drop offset (history_of (item_numbered r.actions k))) → 1 ≤ length entries → 2 ^ 32 ≤ offset + length entries → ⊥
places_few r readable k limit offset entries is some many = grind (arith, history_few, length-take, length-drop)
