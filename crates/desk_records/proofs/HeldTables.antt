-- What tables have where a ledger is held, whatever rowids nobody knows.
use Rattle.desk_records.proofs.Common.{◌≡◌, inl, inr, ◌≤◌, ◌<◌, ℕ, suc, ◌+◌, pos, Bool, List, [], ◌∷◌, filter, length, slice_get, Some, refl, sym, ap, subst}
use Rattle.desk_records.proofs.Common.{◌∙◌, arith, AllZip, IsPermutation-sym, Value, Int, Null, Row, Database, Has, has_either, has_filtered, has_kept, AreIn}
use Rattle.desk_records.proofs.Common.{IsHeldBy, rows_from, IsBlind, on_content, HoldsLedger, IsHeld, Ledger, AreSaid, parts_from, Place, HoldsTables, Tables}
use Rattle.desk_records.proofs.Common.{same_some}
use Rattle.desk_records.proofs.HeldCounts.{has_got, held_passing, part_among, place_within}
use Rattle.desk_records.proofs.Membership.{has_permuted, zip_left, zip_length, zip_right}

-- ---- the tables of a ledger

-- where a ledger is held, tables are: the rows of their trees
abbrev pub rows_of : (db : Database) (l : Ledger) → HoldsLedger db l → Tables
rows_of db l h p = db.trees (h.spot p).tree

pub are_tables : (db : Database) (l : Ledger) (h : HoldsLedger db l) → HoldsTables db (rows_of db l h)
are_tables db l h = record { sound = h.sound; spot = h.spot; stands = h.stands; rows = λ p. refl }

-- and they have the ledger's rows, since a table stands in one place
pub held_rows : (db : Database) (l : Ledger) → HoldsLedger db l → (t : Tables) → HoldsTables db t → (p : Place) → IsHeld l p (t p)
held_rows db l held t holds p = grind (arith, same_some)

-- ---- rows of numbered things

pub record IsNumbered {Y : Type 0} (f : ℕ → Y → Row) (k : ℕ) (ys : List Y) (row : Row) : Type 0 where
  pub at : ℕ
  pub one : Y
  pub low : k ≤ at
  pub high : at < k + length ys
  pub among : Has ys one
  pub is : row ≡ f at one
  pub index : ℕ
  pub at_is : at ≡ k + index
  pub got : slice_get ys index ≡ Some one

numbered_at : {Y : Type 0} (f : ℕ → Y → Row) (k : ℕ) (ys : List Y) (row : Row) → Has (rows_from f k ys) row
    → (d : ℕ) × (y : Y) × (slice_get ys d ≡ Some y) × (row ≡ f (k + d) y)
numbered_at f k [] row among = absurd among
numbered_at f k (y ∷ ys) row (inl same) = let at : k ≡ k + 0 = omega arith in (0, y, refl, same ∙ ap (λ n. f n y) at)
numbered_at f k (y ∷ ys) row (inr among) =
    let it = numbered_at f (k + 1) ys row among in
    (suc it.0, it.1, it.2, grind (arith, it.3))

pub numbered : {Y : Type 0} (f : ℕ → Y → Row) (k : ℕ) (ys : List Y) (row : Row) → Has (rows_from f k ys) row → IsNumbered f k ys row
numbered f k ys row among = grind (arith, numbered_at, place_within, has_got)

-- ---- rows whose numbers nobody knows

content_in : (low : ℕ) (rows xs : List Row) (row : Row) → AreIn low rows xs → Has rows row → (n : ℕ) × (x : Row) × Has xs x × (row ≡ Int (pos n) ∷ x)
content_in low [] xs row are among = absurd among
content_in low (r ∷ rows) [] row are among = absurd are
content_in low (r ∷ rows) (x ∷ xs) row are (inl same) = (are.0, x, inl refl, same ∙ are.2)
content_in low (r ∷ rows) (x ∷ xs) row are (inr among) = let it = content_in (are.0 + 1) rows xs row are.3 among in (it.0, it.1, inr it.2, it.3)

row_in : (low : ℕ) (rows xs : List Row) (x : Row) → AreIn low rows xs → Has xs x → (n : ℕ) × Has rows (Int (pos n) ∷ x)
row_in low rows [] x are among = absurd among
row_in low [] (y ∷ xs) x are among = absurd are
row_in low (r ∷ rows) (y ∷ xs) x are (inl same) = (are.0, inl (ap (λ z. Int (pos are.0) ∷ z) same ∙ sym are.2))
row_in low (r ∷ rows) (y ∷ xs) x are (inr among) = let it = row_in (are.0 + 1) rows xs x are.3 among in (it.0, inr it.1)

-- what a row has behind its number, and the row of what is wanted
pub wanted_of : (rows wanted : List Row) (row : Row) → IsHeldBy rows wanted → Has rows row → (n : ℕ) × (x : Row) × Has wanted x × (row ≡ Int (pos n) ∷ x)
wanted_of rows wanted row held among = let it = content_in 1 rows held.order row held.rising among in
    (it.0, it.1, has_permuted held.order wanted it.1 (IsPermutation-sym _ _ held.same) it.2, it.3)

pub row_of : (rows wanted : List Row) (x : Row) → IsHeldBy rows wanted → Has wanted x → (n : ℕ) × Has rows (Int (pos n) ∷ x)
row_of rows wanted x held among = row_in 1 rows held.order x held.rising (has_permuted wanted held.order x held.same among)

-- what they say whose test doesn't see the number
module _ {A : Type 0} (p : Row → Bool) (blind : IsBlind p) (says : Row → A → Type 0) (whatever : (id : Value) (x : Row) (a : A) → says (Null ∷ x) a
    → says (id ∷ x) a) where
  pub held_said : (rows wanted : List Row) (found : List A) → IsHeldBy rows wanted → AllZip (λ x a. says (Null ∷ x) a) (filter (on_content p) wanted) found
      → AreSaid rows p says found
  held_said rows wanted found held reads = record {
    sound = λ a among.
        let x = zip_right _ (filter (on_content p) wanted) found a reads among in
        let kept = has_filtered (on_content p) wanted x.0 x.1 in
        let row = row_of rows wanted x.0 held kept.0 in
        record { row = Int (pos row.0) ∷ x.0; among = row.1; passes = blind _ x.0 ∙ kept.1; is = whatever _ x.0 a x.2 };
    complete = λ row among passes.
        let x = wanted_of rows wanted row held among in
        let a = zip_left _ (filter (on_content p) wanted) found x.1 reads
        (has_kept (on_content p) wanted x.1 x.2 (sym (blind _ x.1) ∙ ap p (sym x.3) ∙ passes)) in
        record { one = a.0; among = a.1; is = subst (λ r. says r a.0) (sym x.3) (whatever _ x.1 a.0 a.2) };
    count = zip_length _ (filter (on_content p) wanted) found reads ∙ sym (held_passing p blind rows wanted held);
  }

-- ---- the parts of numbered records

module _ {X Y : Type 0} (f : ℕ → ℕ → Y → Row) (items : X → List Y) where
  -- the record, and its number
  pub record IsPart (n : ℕ) (xs : List X) (row : Row) : Type 0 where
    pub number : ℕ
    pub whole : X
    pub low : n ≤ number
    pub high : number < n + length xs
    pub has : Has xs whole
    pub among : Has (rows_from (f number) 1 (items whole)) row
    pub others : (other : Row) → Has (rows_from (f number) 1 (items whole)) other → Has (parts_from f items n xs) other
    pub index : ℕ
    pub number_is : number ≡ n + index
    pub got : slice_get xs index ≡ Some whole

  abbrev Lies : ℕ → List X → Row → Type 0
  Lies n xs row = (d : ℕ) × (x : X) × (slice_get xs d ≡ Some x) × Has (rows_from (f (n + d)) 1 (items x)) row

  part_in : (n : ℕ) (xs : List X) (row : Row) → Has (parts_from f items n xs) row → Lies n xs row
  part_in n [] row among = absurd among
  part_in n (x ∷ xs) row among = elim (has_either (rows_from (f n) 1 (items x)) (parts_from f items (n + 1) xs) row among) [
    | inl here ↦ (0, x, refl, subst (λ m. Has (rows_from (f m) 1 (items x)) row) {y = n + 0} (omega arith) here)
    | inr behind ↦ (let it = part_in (n + 1) xs row behind in
        (suc it.0, it.1, it.2, subst (λ m. Has (rows_from (f m) 1 (items it.1)) row) {y = n + suc it.0} (omega arith) it.3))
  ]

  pub of_part : (n : ℕ) (xs : List X) (row : Row) → Has (parts_from f items n xs) row → IsPart n xs row
  of_part n xs row among = grind (arith, part_in, place_within, has_got, part_among)
