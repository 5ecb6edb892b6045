-- Offers that go in one after the other, as rows: each where its target has none, or else in place of one of a greater action.
use Rattle.desk_records.proofs.Common.{◌≡◌, ◌⊎◌, inl, inr, ℕ, pos, Bool, true, false, cond, ◌&&◌, nat_lt, List, [], ◌∷◌, ◌++◌, map, filter, drop, Option, Some}
use Rattle.desk_records.proofs.Common.{Chosen, None, refl, sym, ap, ◌∙◌, subst, arith, IsPermutation, is_eq, cases_Bool, Value, Int, Null, Text, Row, value_cmp}
use Rattle.desk_records.proofs.Common.{column, Trees, rowid, put_row, without_rowid, Table, Schema, Has, cast_all, cast_row, next_rowid, edit_of, with_rowid}
use Rattle.desk_records.proofs.Common.{Applies, col, is_true, Compare, Eq, Lt, Binary, IsBlind, on_content, held_added, held_seen, held_changed}
use Rattle.desk_records.proofs.Common.{next_is, found_id, none_passes, is_among, only_one, one_written, written, cast_int, cast_null, passes, shown_of}
use Rattle.desk_records.proofs.Common.{simple_rows, PutsEach, same_bytes, Bytes, TargetOffer, offer_to, same_true, Offer, OffersById, is_to, lesser, put_offer}
use Rattle.desk_records.proofs.Common.{put_offers, flag, offer_table, HoldsOffers, offer_row, and-true, short}
use Rattle.sqlite_schema.specs.declared.program.Program.{Program}
use Rattle.sqlite_schema.specs.declared.schema.Keys.TheVariants.{Enforced}
use Rattle.sqlite_rules.specs.Keys.{conflicts, AreConflicts}
use Rattle.sqlite.specs.Rowids.TheVariants.{Given}
use Rattle.sqlite.specs.Rows.{shown}
use Rattle.sqlite_sql.specs.Ops.{binary}
use Rattle.sql_calls.proofs.KeyConflicts.{IsKeyOnly}
use Rattle.sql_calls.proofs.Upserts.{Puts, Resolved}
use Rattle.desk_records.proofs.ActionMeaning.{of_controller}
use Rattle.desk_records.proofs.ActionRecords.{its_offers, names_offer}
use Rattle.desk_records.proofs.Comparisons.{judged, numbers_below}
use Rattle.desk_records.proofs.GroupOffersMeaning.{takes_lesser, taken_columns, taking_query}
use Rattle.desk_records.proofs.OfferWrites.{its_more, its_set, offers_set, other_offer, rows_set}

-- ---- lists of rows

map_none : (f : Row → Row) (rows : List Row) → map f rows ≡ [] → rows ≡ []
map_none f [] e = refl
map_none f (r ∷ rows) e = cc

map_one : (f : Row → Row) (rows : List Row) (x : Row) → map f rows ≡ x ∷ [] → (r : Row) × (rows ≡ r ∷ []) × (f r ≡ x)
map_one f [] x e = absurd cc
map_one f (r ∷ rows) x e = (r, grind (arith, map_none f rows), cc)

filter_both : (a b : Row → Bool) (rows : List Row) → filter (λ r. a r && (b r && true)) rows ≡ filter a (filter b rows)
filter_both a b [] = refl
filter_both a b (r ∷ rows) = grind (arith, filter_both a b rows)

-- ---- the rows of an id

module _ (id : Bytes) where
  abbrev p : Row → Bool
  p = passes of_controller (Text id ∷ [])

  blind : IsBlind p
  blind i x = refl

  -- no row has the id, or one has, which is that of its offer
  abbrev Finds : List Row → OffersById → Type 0
  Finds rows offers = ((filter p rows ≡ []) × (offers id ≡ None))
      ⊎ ((found : Row) × (y : Offer) × (filter p rows ≡ found ∷ []) × (offers id ≡ Some y) × (drop 1 found ≡ offer_row (record { target = id; offer = y })))

  finds : (rows : List Row) (offers : OffersById) (h : HoldsOffers rows offers) → Finds rows offers
  finds rows offers h = go (offers id) refl
    where
      alike : (o : Option Offer) → offers id ≡ o → IsPermutation (map (on_content (drop 1)) (map offer_row (offer_to id o))) (map (drop 1) (filter p rows))
      alike o e = subst (λ l. IsPermutation (map (on_content (drop 1)) l) (map (drop 1) (filter p rows)))
          (its_offers (on_content p) id (names_offer id []) h.listed ∙ ap (map offer_row) (h.its id) ∙ ap (λ o. map offer_row (offer_to id o)) e)
          (held_seen p blind (drop 1) (λ i x. refl) rows (map offer_row h.listed) h.held)

      go : (o : Option Offer) → offers id ≡ o → Finds rows offers
      go None e = inl (map_none (drop 1) _ (short [] _ (alike None e) (omega arith)), e)
      go (Some y) e = let it = map_one (drop 1) _ (offer_row (record { target = id; offer = y })) (short _ _ (alike (Some y) e) (omega arith)) in
          inr (it.0, y, it.1, e, it.2)

-- ---- the offer of an id

-- it goes in
put_is : (new : TargetOffer) (offers : OffersById) (o : Option Offer) → offers new.target ≡ o → lesser o (Some new.offer) ≡ Some new.offer → (t : Bytes)
    → cond (same_bytes new.target t) (Some new.offer) (offers t) ≡ put_offer offers new t
put_is new offers o there less t = grind (arith, same_true new.target t)

-- it doesn't
kept_is : (new : TargetOffer) (offers : OffersById) (y : Offer) → offers new.target ≡ Some y → nat_lt new.offer.action y.action ≡ false → (t : Bytes)
    → put_offer offers new t ≡ offers t
kept_is new offers y there greater t = grind (arith, same_true new.target t)

-- ---- one row

settled : (tree : ℕ) (o : TargetOffer) → cast_all (offer_table tree).columns (offer_row o) ≡ offer_row o
settled tree o = rw (cast_int o.offer.action, cast_int (flag o.offer.canceling)) refl

names_it : (n i : ℕ) → is_true (binary (Compare Eq Binary) (Int (pos i)) (Int (pos n))) ≡ is_eq (value_cmp (Int (pos i)) (Int (pos n)))
unfolding binary
names_it n i = judged _

module _ (schema : Schema) (tree : ℕ) (key : IsKeyOnly schema (offer_table tree) 1) (a b c : Value) (new : TargetOffer) (offers : OffersById) (db : Trees)
    (h : HoldsOffers (db tree) offers) where
  abbrev table : Table
  table = offer_table tree

  abbrev params : Row
  params = a ∷ b ∷ c ∷ []

  abbrev rows : List Row
  rows = db tree

  abbrev wanted : List Row
  wanted = map offer_row h.listed

  abbrev row : Row
  row = Int (next_rowid rows) ∷ offer_row new

  abbrev its : Row → Bool
  its = p new.target

  abbrev target : Option (List ℕ)
  target = Some (1 ∷ [])

  abbrev update : Option Program
  update = Some (record { lets = []; body = taking_query tree })

  row_is : with_rowid Chosen rows (cast_row table (Null ∷ offer_row new)) ≡ row
  row_is = rw (cast_null, cast_int new.offer.action, cast_int (flag new.offer.canceling)) refl

  meets : (r : Row) → conflicts target schema.indexes table row r ≡ its r
  meets r = key row r ∙ sym (and-true _)

  -- it goes in
  added : (next : Trees) → AreConflicts target schema.indexes table rows row [] → Applies schema Enforced db (edit_of db table [] Given 0 (row ∷ [])) next
      → HoldsOffers (next tree) (put_offer offers new)
  added next met applies =
      let none : filter its rows ≡ [] = none_passes its rows (λ r there e. met.complete r there (meets r ∙ e)) in
      let id = next_is rows wanted h.held in
      let put : next tree ≡ put_row row rows = grind (arith, applies.rows, id.1, cast_int, settled tree new) in
      let unoffered : offers new.target ≡ None = grind (arith, none, finds new.target rows offers h) in
      record {
        listed = new ∷ h.listed;
        held = grind (arith, put, held_added rows wanted h.held (offer_row new));
        its = λ t. grind (arith, its_more, unoffered, h.its t, put_is new offers None unoffered refl t);
      }

  abbrev values_for : Row → Row
  values_for x = column x 0 ∷ Int (pos new.offer.action) ∷ Int (pos (flag new.offer.canceling)) ∷ []

  abbrev f : Row → Row
  f x = cast_all table.columns (values_for x)

  -- it meets the row of its id, which becomes another where the new action is less
  became : (next : Trees) (found : Row) (y : Offer) → filter its rows ≡ found ∷ [] → offers new.target ≡ Some y → drop 1 found
      ≡ offer_row (record { target = new.target; offer = y })
      → (there : Row) → there ≡ rowid found ∷ [] → Resolved schema table params update there row db next → HoldsOffers (next tree) (put_offer offers new)
  became next found y one some content there at res =
      let id = found_id its 1 rows h.held.order h.held.rising found one in
      let is = subst (λ (t : Row). Resolved schema table params update t row db next) (at ∙ ap (λ r. rowid r ∷ []) id.3) res in
      let given = params ++ Int (pos id.0) ∷ shown table row in
      let less = λ (r : Row). is_true (binary (Compare Lt Binary) (Int (pos new.offer.action)) (column r 2)) in
      let named = λ (r : Row). is_true (binary (Compare Eq Binary) (column r 0) (Int (pos id.0))) in
      let alone : filter named rows ≡ found ∷ [] = id.4 named (λ i x. names_it id.0 i) in
      let tested : filter (passes takes_lesser given) rows ≡ cond (less found) (found ∷ []) [] = filter_both less named rows ∙ ap (filter less) alone in
      let its_content : id.2 ≡ offer_row (record { target = new.target; offer = y }) = sym (ap (drop 1) id.3) ∙ content in
      let lower : less found ≡ nat_lt new.offer.action y.action = grind (arith, id.3, its_content, numbers_below) in
      let shows = shown_of (col 1 0 ∷ col 1 0 ∷ taken_columns) given in
      let answer = simple_rows tree takes_lesser (col 1 0 ∷ col 1 0 ∷ taken_columns) given db is.0 (is.1.answer Null) in
      let rows_are : is.0 ≡ map shows (cond (nat_lt new.offer.action y.action) (found ∷ []) []) =
      short _ is.0 (subst (λ l. IsPermutation (map shows l) is.0) (tested ∙ ap (λ b. cond b (found ∷ []) []) lower) answer) (grind arith) in
      elim (cases_Bool (nat_lt new.offer.action y.action)) [
        | inl lt ↦
            let row_is : is.0 ≡ shows found ∷ [] = rows_are ∙ ap (λ b. map shows (cond b (found ∷ []) [])) lt in
            let made = held_changed its (blind new.target) f rows wanted h.held found one in
            let shown_found : shows found ≡ Int (pos made.0) ∷ Int (pos made.0) ∷ values_for made.1 = ap shows made.2 in
            let all : next tree ≡ put_row (Int (pos made.0) ∷ f made.1) (without_rowid (pos made.0) rows) =
            is.2.rows ∙ ap (written table rows f) (row_is ∙ ap (λ l. l ∷ []) shown_found) ∙ one_written table rows f made.0 (values_for made.1) in
            let set = rows_set (is_to new.target) new.offer (on_content its) f (names_offer new.target []) (λ o. settled tree (record o { offer = new.offer }))
            h.listed in
            let less_is : lesser (Some y) (Some new.offer) ≡ Some new.offer = ap (λ b. Some (cond b new.offer y)) lt in
            record {
              listed = map (other_offer (is_to new.target) new.offer) h.listed;
              held = grind (arith, all, set, made.3);
              its = λ t. grind (arith, its_set, h.its t, offers_set new.target t new.offer y offers, put_is new offers (Some y) some less_is t);
            }
        | inr ge ↦
            let all : next tree ≡ rows = is.2.rows ∙ ap (written table rows f) (rows_are ∙ ap (λ b. map shows (cond b (found ∷ []) [])) ge) in
            record {
              listed = h.listed;
              held = grind (arith, all, h.held);
              its = λ t. grind (arith, h.its t, kept_is new offers y some ge t);
            }
      ]

  resolved : (next : Trees) (there : Row) (more : List Row) → AreConflicts target schema.indexes table rows row (there ∷ more)
      → Resolved schema table params update there row db next → HoldsOffers (next tree) (put_offer offers new)
  resolved next there more met res =
      let it = met.sound there (inl refl) in
      by it.0 (is_among its rows it.0 it.1 (sym (meets it.0) ∙ it.2)) it.3 (finds new.target rows offers h)
    where
      by : (r : Row) → Has (filter its rows) r → there ≡ rowid r ∷ [] → Finds new.target rows offers → HoldsOffers (next tree) (put_offer offers new)
      by r here is (inl none) = absurd (subst (λ l. Has l r) none.0 here)
      by r here is (inr one) =
          let same : r ≡ one.0 = only_one one.0 r (subst (λ l. Has l r) one.2 here) in
          became next one.0 one.1 one.2 one.3 one.4 there (is ∙ ap (λ (x : Row). rowid x ∷ []) same) res

  puts_one : (next : Trees) → Puts schema table params target update (with_rowid Chosen rows (cast_row table (Null ∷ offer_row new))) db next
      → HoldsOffers (next tree) (put_offer offers new)
  puts_one next puts = elim (subst (λ (r : Row). Puts schema table params target update r db next) row_is puts) [
    | inl it ↦ added next it.0 it.1
    | inr it ↦ resolved next it.0 it.1 it.2 it.3
  ]

-- ---- all rows

-- as the source has it
abbrev pub source_of : TargetOffer → Row
source_of o = Null ∷ offer_row o

pub puts_several : (schema : Schema) (tree : ℕ) → IsKeyOnly schema (offer_table tree) 1
    → (a b c : Value) (os : List TargetOffer) (offers : OffersById) (db next : Trees) → HoldsOffers (db tree) offers
    → PutsEach schema (offer_table tree) (a ∷ b ∷ c ∷ []) (Some (1 ∷ [])) (Some (record { lets = []; body = taking_query tree })) (map source_of os) db next
    → HoldsOffers (next tree) (put_offers offers os)
puts_several schema tree key a b c [] offers db next h each = subst (λ (d : Trees). HoldsOffers (d tree) offers) (sym each) h
puts_several schema tree key a b c (o ∷ os) offers db next h each =
    puts_several schema tree key a b c os (put_offer offers o) each.0 next (puts_one schema tree key a b c o offers db h each.0 each.1) each.2
