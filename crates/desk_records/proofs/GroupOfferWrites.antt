-- The statement that offers the actions of a group, in ledgers.
use Rattle.desk_records.proofs.Common.{◌≡◌, ℕ, ◌+◌, pos, false, ◌&&◌, nat_eq, List, [], ◌∷◌, map, filter, length, None, Some, refl, sym, subst, ◌∙◌, arith, Ok}
use Rattle.desk_records.proofs.Common.{Queried, zip, Null, Int, Row, lit, Database, State, Writes, all_from, key_at, rows_from, numbered_in_order, passes}
use Rattle.desk_records.proofs.Common.{shown_of, PutsEach, each_keeps, uncollated, upserts_from, holds_position, TargetOffer, Records, Bounds, ActionRecord}
use Rattle.desk_records.proofs.Common.{group_offers, member_of, offers_from, put_offers, Tally, action_row, HoldsLedger, Ledger, OffersGroup, Actions, Offers}
use Rattle.desk_records.proofs.Common.{offer_table}
use Rattle.sql_front.proofs.Upsert.{key_found}
use Rattle.sql_calls.proofs.KeyConflicts.{HasKeyIndex, key_index, key_only}
use Rattle.desk_records.proofs.Comparisons.{numbers_at_least, numbers_at_most, numbers_equal}
use Rattle.desk_records.proofs.GroupOffersMeaning.{in_group, group_columns, group_query, taking_query, put_group_offers_command}
use Rattle.desk_records.proofs.OfferPuts.{puts_several, source_of}
use Rattle.desk_records.proofs.OfferWrites.{offers_after}
use Rattle.desk_records.proofs.MeaningWords.{no_offset}

-- ---- the key

key_of : (db : Database) (l : Ledger) (holds : HoldsLedger db l) → HasKeyIndex db.schema (offer_table (holds.spot Offers).tree) 1
key_of db l holds = key_index db.schema db.trees (holds.spot Offers).at (offer_table (holds.spot Offers).tree) 0 1 holds.sound (holds.stands Offers).got refl

-- the statement's target is the key
pub offers_keyed : (db : Database) (l : Ledger) (holds : HoldsLedger db l) → key_at db.schema (offer_table (holds.spot Offers).tree) (1 ∷ []) ≡ Ok (1 ∷ [])
offers_keyed db l holds = let key = key_of db l holds in key_found db.schema (offer_table (holds.spot Offers).tree) 1 refl key.index key.listed key.unique
    key.its key.columns

-- ---- the rows of the source

abbrev pub group_params : ℕ → Bounds → Row
group_params number bounds = Int (pos number) ∷ Int (pos bounds.first) ∷ Int (pos bounds.last) ∷ []

module _ (rs : Records) (number : ℕ) (bounds : Bounds) where
  abbrev row : ℕ → ActionRecord × Tally → Row
  row = action_row rs.rollouts

  abbrev chosen : List Row → List Row
  chosen = filter (passes in_group (group_params number bounds))

  abbrev shown : List Row → List Row
  shown = map (shown_of group_columns (group_params number bounds))

  abbrev offered : ℕ → ActionRecord → TargetOffer
  offered n a = record { target = member_of rs a; offer = record { action = n; canceling = false } }

  selected : (n : ℕ) (it : ActionRecord × Tally) → passes in_group (group_params number bounds) (row n it)
      ≡ (nat_eq it.0.rollout number && holds_position it.0.position bounds)
  selected n it = grind (arith, numbers_equal it.0.rollout number, numbers_at_least it.0.position bounds.first, numbers_at_most it.0.position bounds.last)

  shows_offers : (n : ℕ) (actions : List ActionRecord) (tallies : List Tally) → length tallies ≡ length actions
      → shown (chosen (rows_from row n (zip actions tallies))) ≡ map source_of (offers_from rs number bounds n actions)
  shows_offers n [] tallies long = refl
  shows_offers n (a ∷ actions) [] long = absurd (omega (arith, long))
  shows_offers n (a ∷ actions) (t ∷ tallies) long = grind (arith, selected n (a, t), shows_offers (n + 1) actions tallies)

-- ---- the statement

pub offers_group : (number : ℕ) (bounds : Bounds) (old new : State) (text : List ℕ) (count : ℕ) (l next : Ledger) (holds : HoldsLedger old.now l)
    → OffersGroup number bounds l next
    → (w : Writes old new None (put_group_offers_command (holds.spot Offers).at (holds.spot Offers).tree (holds.spot Actions).tree) text
    (group_params number bounds) count) → HoldsLedger new.now next
offers_group number bounds old new text count l next holds change w =
    let spot = holds.spot Offers in
    let stands = holds.stands Offers in
    let from = (holds.spot Actions).tree in
    let table = offer_table spot.tree in
    let params = group_params number bounds in
    let zs = zip l.records.actions l.tallies in
    let key = key_only old.now.schema table 1 refl (key_of old.now l holds) holds.keyed in
    let made = upserts_from old.now.schema spot.at table (Queried (record { lets = []; body = group_query from })) (Some (1 ∷ []))
    (Some (record { lets = []; body = taking_query spot.tree })) stands.got stands.keyless old new refl text params count w in
    let answer = uncollated from in_group group_columns _ (lit (Int _)) no_offset _ _ params made.sources (made.is_source.answer Null) in
    let sources : made.sources ≡ map source_of (group_offers l.records number bounds) =
    numbered_in_order (action_row l.records.rollouts) (λ n x. refl) from in_group group_columns (lit (Int _)) no_offset params old.now.trees zs
    (holds.rows Actions) made.sources answer
    ∙ shows_offers l.records number bounds 1 l.records.actions l.tallies change.tallied in
    let held = puts_several old.now.schema spot.tree key _ _ _ (group_offers l.records number bounds) l.offers old.now.trees new.now.trees (holds.rows Offers)
    (subst (λ rs. PutsEach old.now.schema table params (Some (1 ∷ [])) (Some (record { lets = []; body = taking_query spot.tree })) rs old.now.trees
    new.now.trees) sources made.puts) in
    let others = all_from _ old.now.schema.tables
    (λ s listed free apart. each_keeps old.now.schema table params (Some (1 ∷ [])) (Some (record { lets = []; body = taking_query spot.tree })) made.sources
    old.now.trees new.now.trees made.puts s listed free apart) in
    subst (HoldsLedger new.now) (sym change.next_is)
    (offers_after l (put_offers l.offers (group_offers l.records number bounds)) old.now new.now holds
    (record { schema = made.schema_is; sound = w.sound; others = others }) held)
