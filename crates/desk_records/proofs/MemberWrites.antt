-- The statements that write members, in ledgers.
use Rattle.desk_records.proofs.Common.{◌≡◌, ◌∷◌, ℕ, zero, suc, ◌+◌, List, [], length, map, set, None, refl, sym, ap, subst, arith, Null, Row, Insert, Values}
use Rattle.desk_records.proofs.Common.{State, Term, Writes, cast_all, cast_int, given_rows, rows_from, RolloutRecord, Bytes, HoldsLedger, Ledger, AddsMembers}
use Rattle.desk_records.proofs.Common.{and_members, with_rollouts, member_row, Members}
use Rattle.desk_records.specs.Rollouts.{members_given}
use Rattle.desk_records.specs.Schema.{member_table}
use Rattle.desk_records.proofs.HoldsAfter.{puts_all}
use Rattle.desk_records.proofs.LedgerLists.{actions_of_others, parts_are_more, parts_stay, rows_stay}
use Rattle.desk_records.proofs.LedgerWrites.{rollouts_differ}
use Rattle.desk_records.proofs.RolloutMeaning.{member_terms, members_terms}

-- the rows of members from a place on
abbrev member_rows : ℕ → ℕ → List Bytes → List Row
member_rows number = rows_from (member_row number)

cast_members : (tree number place : ℕ) (ids : List Bytes) → map (cast_all (member_table tree).columns) (member_rows number place ids)
    ≡ member_rows number place ids
cast_members tree number place [] = refl
cast_members tree number place (id ∷ ids) =
    rw (cast_int number, cast_int place) (ap (λ l. member_row number place id ∷ l) (cast_members tree number (place + 1) ids))

-- a text that puts rows of so many members
abbrev PutsRows : List Term → List Bytes → Type 0
PutsRows terms ids = (tree number place : ℕ) → given_rows (member_table tree) (members_given number place ids) terms 4
    ≡ map (λ x. Null ∷ x) (member_rows number place ids)

adds_members : (terms : List Term) (number place : ℕ) (ids : List Bytes) → PutsRows terms ids → (old new : State) (text : List ℕ) (count : ℕ) (l next : Ledger)
    (holds : HoldsLedger old.now l) → AddsMembers number place ids l next
    → (w : Writes old new None (Insert (holds.spot Members).at (Values terms 4)) text (members_given number place ids) count) → HoldsLedger new.now next
adds_members terms zero place ids puts old new text count l next holds change w = absurd (let none = change.is_there in cc)
adds_members terms (suc k) place ids puts old new text count l next holds change w =
    let xs = l.records.rollouts in
    let x = change.rollout in
    let y = and_members x ids in
    subst (HoldsLedger new.now) (sym change.next_is)
    (puts_all Members l (with_rollouts l (set xs k y))
    (grind (arith, rollouts_differ, rows_stay, parts_stay, actions_of_others, change.is_there, change.unacted)) holds.sorted terms 4 holds w
    (λ tree. refl) (member_rows (suc k) place ids) (λ tree. puts tree (suc k) place) (λ tree. cast_members tree (suc k) place ids) refl refl
    (parts_are_more member_row (λ (z : RolloutRecord). z.members) x y ids refl k place xs change.is_there change.place_is))

pub adds_member : (number place : ℕ) (id : Bytes) (old new : State) (text : List ℕ) (count : ℕ) (l next : Ledger) (holds : HoldsLedger old.now l)
    → AddsMembers number place (id ∷ []) l next
    → (w : Writes old new None (Insert (holds.spot Members).at (Values member_terms 4)) text (members_given number place (id ∷ [])) count)
    → HoldsLedger new.now next
adds_member number place id = adds_members member_terms number place (id ∷ []) (λ tree number place. refl)

-- ---- sixteen

-- of all lists of so many
abbrev OfMany : {A : Type 0} → ℕ → (List A → Type 0) → Type 0
OfMany zero P = P []
OfMany {A} (suc n) P = (x : A) → OfMany n (λ xs. P (x ∷ xs))

of_many : {A : Type 0} (n : ℕ) (P : List A → Type 0) → OfMany n P → (xs : List A) → length xs ≡ n → P xs
of_many zero P all [] many = all
of_many zero P all (x ∷ xs) many = absurd cc
of_many (suc n) P all [] many = absurd cc
of_many (suc n) P all (x ∷ xs) many = of_many n (λ ys. P (x ∷ ys)) (all x) xs (omega (arith, many))

pub adds_sixteen : (number place : ℕ) (ids : List Bytes) → length ids ≡ 16 → (old new : State) (text : List ℕ) (count : ℕ) (l next : Ledger)
    (holds : HoldsLedger old.now l) → AddsMembers number place ids l next
    → (w : Writes old new None (Insert (holds.spot Members).at (Values members_terms 4)) text (members_given number place ids) count)
    → HoldsLedger new.now next
adds_sixteen number place ids sixteen =
    adds_members members_terms number place ids
    (of_many 16 (PutsRows members_terms) (λ a b c d e f g h i j k l m n o p. λ tree number place. refl) ids sixteen)
