-- The statements on offers that write, in ledgers.
use Rattle.desk_records.proofs.Common.{arith, ◌≡◌, ℕ, pos, List, [], ◌∷◌, Bool, not, cond, map, filter, Option, Some, None, refl, sym, ap, subst, ◌∙◌, Null}
use Rattle.desk_records.proofs.Common.{Int, Text, Row, Database, State, Writes, cast_all, IsHeldBy, on_content, changed, changes_key, drops, keys_apart}
use Rattle.desk_records.proofs.Common.{cast_int, passes, shown_of, deletes, updates, same_bytes, Bytes, TargetOffer, offer_to, same_sym, same_true, Offer}
use Rattle.desk_records.proofs.Common.{HoldsLedger, Ledger, in_place_of, reoffered, HoldsOffers, is_to, offer_row, flag, Offers, offer_table, ◌&&◌, nat_eq}
use Rattle.desk_records.proofs.Common.{agree, plain, true, and_parts, and-true}
use Rattle.desk_records.proofs.ActionMeaning.{of_offer, offer_values}
use Rattle.desk_records.proofs.ActionRecords.{offer_keyed}
use Rattle.desk_records.proofs.Comparisons.{numbers_equal, words_equal}
use Rattle.desk_records.proofs.HoldsAfter.{Leaves, contents_differ, ledger_after}
use Rattle.desk_records.proofs.MeaningWords.{changes, drops_those}

-- ---- the offers of one id, in lists

abbrev pub new_offer : Bytes → Offer → TargetOffer
new_offer id o = record { target = id; offer = o }

pub its_more : (id t : Bytes) (o : Offer) (offers : Bytes → Option Offer) (listed : List TargetOffer) → offers id ≡ None → filter (is_to t) listed
    ≡ offer_to t (offers t) → filter (is_to t) (new_offer id o ∷ listed) ≡ offer_to t (cond (same_bytes id t) (Some o) (offers t))
its_more id t o offers listed none its = grind (arith, same_true id t)

-- those that pass become another
abbrev pub other_offer : (TargetOffer → Bool) → Offer → TargetOffer → TargetOffer
other_offer p o it = cond (p it) (record it { offer = o }) it

pub its_set : (p : TargetOffer → Bool) (t : Bytes) (o : Offer) (listed : List TargetOffer) → filter (is_to t) (map (other_offer p o) listed)
    ≡ map (other_offer p o) (filter (is_to t) listed)
its_set p t o [] = refl
its_set p t o (it ∷ listed) = grind (arith, its_set p t o listed)

pub offers_set : (id t : Bytes) (o was : Offer) (offers : Bytes → Option Offer) → offers id ≡ Some was → map (other_offer (is_to id) o) (offer_to t (offers t))
    ≡ offer_to t (cond (same_bytes id t) (Some o) (offers t))
offers_set id t o was offers there = grind (arith, same_true id t, same_sym t id)

-- those that pass are left out
abbrev without : (TargetOffer → Bool) → List TargetOffer → List TargetOffer
without p = filter (λ (it : TargetOffer). not (p it))

its_left : (p : TargetOffer → Bool) (t : Bytes) (listed : List TargetOffer) → filter (is_to t) (without p listed) ≡ without p (filter (is_to t) listed)
its_left p t [] = refl
its_left p t (it ∷ listed) = grind (arith, its_left p t listed)

-- the target's offer of an action
abbrev is_of : Bytes → ℕ → TargetOffer → Bool
is_of id action it = is_to id it && nat_eq it.offer.action action

offers_replaced : (id t : Bytes) (action : ℕ) (o : Offer) (offers : Bytes → Option Offer) → map (other_offer (is_of id action) o) (offer_to t (offers t))
    ≡ offer_to t (cond (same_bytes id t) (in_place_of action (Some o) (offers id)) (offers t))
offers_replaced id t action o offers = grind (arith, same_true id t, same_sym t id)

offers_left : (id t : Bytes) (action : ℕ) (offers : Bytes → Option Offer) → without (is_of id action) (offer_to t (offers t))
    ≡ offer_to t (cond (same_bytes id t) (in_place_of action None (offers id)) (offers t))
offers_left id t action offers = grind (arith, same_true id t, same_sym t id)

-- ---- their rows

rows_left : (q : TargetOffer → Bool) (p : Row → Bool) → ((it : TargetOffer) → p (offer_row it) ≡ q it) → (listed : List TargetOffer)
    → filter (λ x. not (p x)) (map offer_row listed) ≡ map offer_row (without q listed)
rows_left q p is [] = refl
rows_left q p is (it ∷ listed) = grind (arith, rows_left q p is listed, is it)

pub rows_set : (q : TargetOffer → Bool) (o : Offer) (p : Row → Bool) (g : Row → Row) → ((it : TargetOffer) → p (offer_row it) ≡ q it)
    → ((it : TargetOffer) → g (offer_row it) ≡ offer_row (record it { offer = o })) → (listed : List TargetOffer)
    → changed p g (map offer_row listed) ≡ map offer_row (map (other_offer q o) listed)
rows_set q o p g is becomes [] = refl
rows_set q o p g is becomes (it ∷ listed) = grind (arith, rows_set q o p g is becomes listed, is it, becomes it)

-- the target's offer of an action is found by its target
found_by_target : (given r : Row) → passes of_offer given r ≡ true → agree plain (1 ∷ []) r (0 ∷ []) given ≡ true
found_by_target given r h = offer_keyed given r (and-true _ ∙ (and_parts _ _ h).0)

names_its : (id : Bytes) (action : ℕ) (more : Row) (it : TargetOffer) → on_content (passes of_offer (Text id ∷ Int (pos action) ∷ more)) (offer_row it)
    ≡ is_of id action it
names_its id action more it = grind (arith, words_equal, numbers_equal, and-true)

-- ---- the statements

-- the rows of offers change, and nothing else
pub offers_after : (l : Ledger) (offers : Bytes → Option Offer) (old new : Database) (holds : HoldsLedger old l) → Leaves old new (holds.spot Offers).tree
    → HoldsOffers (new.trees (holds.spot Offers).tree) offers
    → HoldsLedger new (record l { offers = offers })
offers_after l offers old new holds left held = ledger_after Offers l (record l { offers = offers }) old new holds left held
    (contents_differ Offers l (record l { offers = offers }) (Offers ∷ []) refl ((λ apart. absurd (apart refl)), tt)) holds.sorted

abbrev pub offered_params : Bytes → ℕ → Offer → Row
offered_params id action o = Text id ∷ Int (pos action) ∷ Int (pos o.action) ∷ Int (pos (flag o.canceling)) ∷ []

pub sets_offer : (id : Bytes) (action : ℕ) (o : Offer) (old new : State) (text : List ℕ) (count : ℕ) (l next : Ledger) (holds : HoldsLedger old.now l)
    → next ≡ reoffered l id action (Some o)
    → (w : Writes old new None (changes (holds.spot Offers) of_offer offer_values) text (offered_params id action o) count) → HoldsLedger new.now next
sets_offer id action o old new text count l next holds change w =
    let spot = holds.spot Offers in
    let had = holds.rows Offers in
    let table = offer_table spot.tree in
    let params = offered_params id action o in
    let made = updates old.now.schema spot.at table _ (holds.stands Offers).got (holds.stands Offers).keyless old new refl text params count w in
    let set = changes_key old.now.schema table (1 ∷ []) of_offer params (λ i x. refl) (0 ∷ []) (found_by_target params) offer_values (λ i x. refl) old.now
    new.now (map offer_row had.listed)
    (keys_apart old.now.schema old.now.trees spot.at table 0 (1 ∷ []) holds.sound (holds.stands Offers).got refl refl) had.held made in
    let is = rows_set (is_of id action) o (on_content (passes of_offer params)) (λ x. cast_all table.columns (on_content (shown_of offer_values params) x))
    (names_its id action (Int (pos o.action) ∷ Int (pos (flag o.canceling)) ∷ []))
    (λ it. rw (cast_int o.action, cast_int (flag o.canceling)) refl) had.listed in
    subst (HoldsLedger new.now) (sym change)
    (offers_after l (reoffered l id action (Some o)).offers old.now new.now holds
    (record { schema = made.schema_is; sound = w.sound; others = made.applies.tables }) (record {
      listed = map (other_offer (is_of id action) o) had.listed;
      held = subst (IsHeldBy (new.now.trees spot.tree)) is set;
      its = λ t. its_set (is_of id action) t o had.listed ∙ ap (map (other_offer (is_of id action) o)) (had.its t)
          ∙ offers_replaced id t action o l.offers;
    }))

pub drops_offer : (id : Bytes) (action : ℕ) (old new : State) (text : List ℕ) (count : ℕ) (l next : Ledger) (holds : HoldsLedger old.now l)
    → next ≡ reoffered l id action None
    → (w : Writes old new None (drops_those (holds.spot Offers) of_offer) text (Text id ∷ Int (pos action) ∷ []) count) → HoldsLedger new.now next
drops_offer id action old new text count l next holds change w =
    let spot = holds.spot Offers in
    let had = holds.rows Offers in
    let table = offer_table spot.tree in
    let params : Row = Text id ∷ Int (pos action) ∷ [] in
    let made = deletes old.now.schema spot.at table _ (holds.stands Offers).got (holds.stands Offers).keyless old new refl text params count w in
    let left = drops old.now.schema table (1 ∷ []) of_offer params (λ i x. refl) old.now new.now (map offer_row had.listed) had.held made in
    subst (HoldsLedger new.now) (sym change)
    (offers_after l (reoffered l id action None).offers old.now new.now holds
    (record { schema = made.schema_is; sound = w.sound; others = made.applies.tables }) (record {
      listed = without (is_of id action) had.listed;
      held = subst (IsHeldBy (new.now.trees spot.tree))
          (rows_left (is_of id action) (λ x. passes of_offer params (Null ∷ x)) (names_its id action []) had.listed) left;
      its = λ t. its_left (is_of id action) t had.listed ∙ ap (without (is_of id action)) (had.its t) ∙ offers_left id t action l.offers;
    }))
