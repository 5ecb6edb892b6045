-- The targets' records after an import.
use Rattle.rollout_machine.proofs.Common.{◌≡◌, ◌<◌, ℕ, Bool, true, false, cond, ◌||◌, ◌&&◌, List, [], ◌∷◌, refl, sym, ◌∙◌, ap, subst, Option, Some, None, inl}
use Rattle.rollout_machine.proofs.Common.{inr, ◌⊎◌, arith, action_places, sorted_words, bytes_below, same_bytes, with_words, contains_word, with_word, Make}
use Rattle.rollout_machine.proofs.Common.{◌▸◌, CommandList, Bytes, Credential, TargetRow, Command, PutTargets, PutAttributes, put_target, step_records}
use Rattle.rollout_machine.proofs.Common.{new_target, put_targets, rollouts_in, action_in, needs_approval, modules, artifacts, sets, rollouts, attributes_in}
use Rattle.rollout_machine.proofs.Common.{tags_by_row, last_row_for, target_in, import_rows_of, with_attributes, Target, target_ids, last_row_of, tags_in}
use Rattle.rollout_machine.proofs.Common.{IsValid, verdict_row, verdict, list_any, option_or, unwrap_or, and_parts, or_parts, eqb-true, eq-eqb, ltb-true}
use Rattle.rollout_machine.proofs.Common.{lt-ltb, false≢true, not-false, cases_Bool, cases_order}
use Rattle.rollout_machine.specs.Records.{records}
use Rattle.std.specs.Prelude.{map, nat_eq, nat_lt, ⊤}
use Rattle.rollout_machine.proofs.EffectLaws.{calm_outcome}
use Rattle.rollout_machine.proofs.Actions.{append_none, calm_actions, map_same}
use Rattle.rollout_machine.proofs.Whole.{calm_everywhere, same_records}
use Rattle.rollout_machine.proofs.Valid.{none_holds}
use Rattle.rollout_machine.proofs.Induction.{accepted}
use Rattle.rollout_machine.proofs.TargetTies.{same_refl, same_true, has_with}

-- ---- byte order

below_trans : (a b c : Bytes) → bytes_below a b ≡ true → bytes_below b c ≡ true → bytes_below a c ≡ true
below_trans a [] c d e = cc
below_trans a (y ∷ b) [] d e = cc
below_trans [] (y ∷ b) (z ∷ c) d e = refl
below_trans (x ∷ a) (y ∷ b) (z ∷ c) d e = go (split _ _ _ d) (split _ _ _ e) (below_trans a b c)
  where
    split : (p q r : Bool) → (p || (q && r)) ≡ true → (p ≡ true) ⊎ ((q ≡ true) × (r ≡ true))
    split true q r k = inl refl
    split false true r k = inr (refl, k)
    split false false r k = cc

    first : (p q : Bool) → p ≡ true → (p || q) ≡ true
    first true q k = refl
    first false q k = cc

    second : (p q r : Bool) → q ≡ true → r ≡ true → (p || (q && r)) ≡ true
    second true q r k l = refl
    second false q r k l = rw (k, l) refl

    less : x < z → (nat_lt x z || (nat_eq x z && bytes_below a c)) ≡ true
    less l = first _ _ (lt-ltb _ _ l)

    go : (nat_lt x y ≡ true) ⊎ ((nat_eq x y ≡ true) × (bytes_below a b ≡ true)) → (nat_lt y z ≡ true) ⊎ ((nat_eq y z ≡ true) × (bytes_below b c ≡ true))
        → (bytes_below a b ≡ true → bytes_below b c ≡ true → bytes_below a c ≡ true) → (nat_lt x z || (nat_eq x z && bytes_below a c)) ≡ true
    go (inl p) (inl q) ih = less (let m : x < y = ltb-true _ _ p in let n : y < z = ltb-true _ _ q in omega (arith, m, n))
    go (inl p) (inr q) ih = less (let m : x < y = ltb-true _ _ p in let n : y ≡ z = eqb-true _ _ q.0 in omega (arith, m, n))
    go (inr p) (inl q) ih = less (let m : x ≡ y = eqb-true _ _ p.0 in let n : y < z = ltb-true _ _ q in omega (arith, m, n))
    go (inr p) (inr q) ih = second _ _ _ (eq-eqb _ _ (eqb-true _ _ p.0 ∙ eqb-true _ _ q.0)) (ih p.1 q.1)

pub below_other : (a b : Bytes) → same_bytes a b ≡ false → bytes_below a b ≡ false → bytes_below b a ≡ true
below_other [] [] d e = cc
below_other [] (y ∷ b) d e = cc
below_other (x ∷ a) [] d e = refl
below_other (x ∷ a) (y ∷ b) d e = elim (cases_order x y) [
  | inl same ↦ (let t : nat_eq x y ≡ true = eq-eqb x y same in
      let u : nat_eq y x ≡ true = eq-eqb y x (sym same) in
      let k : nat_lt y x ≡ false = irreflexive y x (sym same) in
      let m : nat_lt x y ≡ false = irreflexive x y same in
      rw (k, u) (below_other a b (rest_same _ _ t d) (rest_below _ _ _ m t e)))
  | inr (inl less) ↦ absurd (false≢true (sym (or_parts _ _ e).0 ∙ lt-ltb _ _ less))
  | inr (inr more) ↦ first _ _ (lt-ltb _ _ more)
]
  where
    irreflexive : (m n : ℕ) → m ≡ n → nat_lt m n ≡ false
    irreflexive m n s = elim (cases_Bool (nat_lt m n)) [ inr f ↦ f | inl t ↦ (let l : m < n = ltb-true _ _ t in absurd (omega (arith, l, s))) ]

    first : (p q : Bool) → p ≡ true → (p || q) ≡ true
    first true q k = refl
    first false q k = cc

    rest_same : (p q : Bool) → p ≡ true → (p && q) ≡ false → q ≡ false
    rest_same true q k l = l
    rest_same false q k l = cc

    rest_below : (l p q : Bool) → l ≡ false → p ≡ true → (l || (p && q)) ≡ false → q ≡ false
    rest_below false true q j k l = l
    rest_below true p q j k l = cc
    rest_below false false q j k l = cc

pub below_apart : (a b : Bytes) → bytes_below a b ≡ true → same_bytes a b ≡ false
below_apart a b e = elim (cases_Bool (same_bytes a b))
    [ inr f ↦ f | inl t ↦ absurd (false≢true (sym (not_self b) ∙ subst (λ (c : Bytes). bytes_below c b ≡ true) (same_true a b t) e)) ]
  where
    not_self : (c : Bytes) → bytes_below c c ≡ false
    not_self [] = refl
    not_self (x ∷ c) = rw (eq-eqb x x refl, not_self c) (none (nat_lt x x) (irreflexive x))
      where
        irreflexive : (m : ℕ) → nat_lt m m ≡ false
        irreflexive m = elim (cases_Bool (nat_lt m m)) [ inr f ↦ f | inl t ↦ (let l : m < m = ltb-true _ _ t in absurd (omega (arith, l))) ]

        none : (p : Bool) → p ≡ false → (p || (true && false)) ≡ false
        none true k = cc
        none false k = refl

-- ---- lists in byte order

abbrev pub AllAbove : Bytes → List Bytes → Type 0
AllAbove t [] = ⊤
AllAbove t (v ∷ vs) = (bytes_below t v ≡ true) × AllAbove t vs

abbrev pub IsSorted : List Bytes → Type 0
IsSorted [] = ⊤
IsSorted (v ∷ vs) = AllAbove v vs × IsSorted vs

pub above_more : (a b : Bytes) (vs : List Bytes) → bytes_below a b ≡ true → AllAbove b vs → AllAbove a vs
above_more a b [] e w = tt
above_more a b (v ∷ vs) e w = (below_trans a b v e w.0, above_more a b vs e w.1)

above_with : (t w : Bytes) (vs : List Bytes) → bytes_below t w ≡ true → AllAbove t vs → AllAbove t (with_word w vs)
above_with t w [] e a = (e, tt)
above_with t w (v ∷ vs) e a = go (same_bytes w v) (bytes_below w v) (above_with t w vs e a.1)
  where
    go : (s b : Bool) → AllAbove t (with_word w vs) → AllAbove t (cond s (v ∷ vs) (cond b (w ∷ v ∷ vs) (v ∷ with_word w vs)))
    go true b ih = a
    go false true ih = (e, a)
    go false false ih = (a.0, ih)

pub sorted_with : (w : Bytes) (vs : List Bytes) → IsSorted vs → IsSorted (with_word w vs)
sorted_with w [] a = (tt, tt)
sorted_with w (v ∷ vs) a = go (same_bytes w v) (bytes_below w v) refl refl (sorted_with w vs a.1)
  where
    go : (s b : Bool) → same_bytes w v ≡ s → bytes_below w v ≡ b → IsSorted (with_word w vs)
        → IsSorted (cond s (v ∷ vs) (cond b (w ∷ v ∷ vs) (v ∷ with_word w vs)))
    go true b d e ih = a
    go false true d e ih = ((e, above_more w v vs e a.0), a)
    go false false d e ih = (above_with v w vs (below_other w v d e) a.0, ih)

pub sorted_with_all : (ws vs : List Bytes) → IsSorted vs → IsSorted (with_words ws vs)
sorted_with_all [] vs a = a
sorted_with_all (w ∷ ws) vs a = sorted_with_all ws (with_word w vs) (sorted_with w vs a)

pub sorted_ids : (h : CommandList) → IsSorted (target_ids h)
sorted_ids (Make approval) = tt
sorted_ids (h ▸ c) = sorted_with_all (map (λ (row : TargetRow). row.id) (import_rows_of c)) (target_ids h) (sorted_ids h)

pub not_above : (t : Bytes) (vs : List Bytes) → AllAbove t vs → contains_word t vs ≡ false
not_above t [] a = refl
not_above t (v ∷ vs) a = rw (below_apart t v a.0, not_above t vs a.1) refl

-- a word that is there changes nothing
pub with_there : (w : Bytes) (vs : List Bytes) → IsSorted vs → contains_word w vs ≡ true → with_word w vs ≡ vs
with_there w [] s e = cc
with_there w (v ∷ vs) s e = go (same_bytes w v) (bytes_below w v) refl refl e (with_there w vs s.1)
  where
    go : (a b : Bool) → same_bytes w v ≡ a → bytes_below w v ≡ b → (a || contains_word w vs) ≡ true → (contains_word w vs ≡ true → with_word w vs ≡ vs)
        → cond a (v ∷ vs) (cond b (w ∷ v ∷ vs) (v ∷ with_word w vs)) ≡ v ∷ vs
    go true b d k e ih = refl
    go false true d k e ih = absurd (false≢true (sym (not_above w vs (above_more w v vs k s.0)) ∙ e))
    go false false d k e ih = ap (λ xs. v ∷ xs) (ih e)

-- ---- one row

-- a target after the last row that names it, if one does
abbrev pub by_row : Option TargetRow → Target → Target
by_row None x = x
by_row (Some row) x = record x { name = row.name; digest = row.digest; tags = sorted_words row.tags }

keeps_attributes : (o : Option TargetRow) (x : Target) → (by_row o x).attributes ≡ x.attributes
keeps_attributes o x = grind arith

abbrev pub names_it : TargetRow → Bytes → Option TargetRow
names_it row t = cond (same_bytes row.id t) (Some row) None

abbrev pub after_row : TargetRow → (Bytes → Target) → Bytes → Target
after_row row f t = by_row (names_it row t) (f t)

abbrev pub KeepsIds : (Bytes → Target) → Type 0
KeepsIds f = (t : Bytes) → (f t).id ≡ t

-- who isn't there has no attributes
abbrev pub MissingAreBare : (Bytes → Target) → List Bytes → Type 0
MissingAreBare f ids = (t : Bytes) → contains_word t ids ≡ false → (f t).attributes ≡ []

new_is : (row : TargetRow) (x : Target) → x.id ≡ row.id → x.attributes ≡ [] → new_target row ≡ by_row (Some row) x
new_is row x e d = rw (e, d) refl

old_is : (row : TargetRow) (x : Target) → x.id ≡ row.id → record (new_target row) { attributes = x.attributes } ≡ by_row (Some row) x
old_is row x e = rw e refl

others_same : (row : TargetRow) (f : Bytes → Target) (ids : List Bytes) → contains_word row.id ids ≡ false → map f ids ≡ map (after_row row f) ids
others_same row f [] e = refl
others_same row f (t ∷ ts) e = grind (arith, others_same row f ts, or_parts)

two : {X : Type 0} (x y : X) (xs ys : List X) → x ≡ y → xs ≡ ys → x ∷ xs ≡ y ∷ ys
two x y xs ys e d = rw (e, d) refl

apart_both : (w t : Bytes) (ts : List Bytes) → same_bytes w t ≡ false → contains_word w ts ≡ false → contains_word w (t ∷ ts) ≡ false
apart_both w t ts d n = rw (d, n) refl

put_one : (row : TargetRow) (f : Bytes → Target) (ids : List Bytes) → KeepsIds f → IsSorted ids
    → (contains_word row.id ids ≡ false → (f row.id).attributes ≡ []) → put_target row (map f ids) ≡ map (after_row row f) (with_word row.id ids)
put_one row f [] k s m = grind (arith, new_is, same_refl)
put_one row f (t ∷ ts) k s m =
    subst P (sym (k t)) (go (same_bytes row.id t) (bytes_below row.id t) refl refl (λ d. put_one row f ts k s.1 (λ n. m (apart_both row.id t ts d n))))
  where
    P : Bytes → Type 0
    P i = cond (same_bytes row.id i) (record (new_target row) { attributes = (f t).attributes } ∷ map f ts)
        (cond (bytes_below row.id i) (new_target row ∷ f t ∷ map f ts) (f t ∷ put_target row (map f ts))) ≡ map (after_row row f) (with_word row.id (t ∷ ts))

    go : (a b : Bool) → same_bytes row.id t ≡ a → bytes_below row.id t ≡ b
        → (same_bytes row.id t ≡ false → put_target row (map f ts) ≡ map (after_row row f) (with_word row.id ts))
        → cond a (record (new_target row) { attributes = (f t).attributes } ∷ map f ts)
        (cond b (new_target row ∷ f t ∷ map f ts) (f t ∷ put_target row (map f ts)))
        ≡ map (after_row row f) (cond a (t ∷ ts) (cond b (row.id ∷ t ∷ ts) (t ∷ with_word row.id ts)))
    go true b d e ih =
        let here : row.id ≡ t = same_true row.id t d in
        let off : contains_word row.id ts ≡ false = ap (λ i. contains_word i ts) here ∙ not_above t ts s.0 in
        two _ _ _ _ (old_is row (f t) (k t ∙ sym here) ∙ sym (ap (λ v. by_row (cond v (Some row) None) (f t)) d)) (others_same row f ts off)
    go false true d e ih =
        let off : contains_word row.id ts ≡ false = not_above row.id ts (above_more row.id t ts e s.0) in
        two _ _ _ _ (new_is row (f row.id) (k row.id) (m (apart_both row.id t ts d off))
        ∙ sym (ap (λ v. by_row (cond v (Some row) None) (f row.id)) (same_refl row.id))) (others_same row f (t ∷ ts) (apart_both row.id t ts d off))
    go false false d e ih = two _ _ _ _ (sym (ap (λ v. by_row (cond v (Some row) None) (f t)) d)) (ih d)

-- ---- all rows

abbrev pub after_rows : List TargetRow → (Bytes → Target) → Bytes → Target
after_rows [] f = f
after_rows (row ∷ rows) f = after_rows rows (after_row row f)

put_all : (rows : List TargetRow) (f : Bytes → Target) (ids : List Bytes) → KeepsIds f → IsSorted ids → MissingAreBare f ids → put_targets rows (map f ids)
    ≡ map (after_rows rows f) (with_words (map (λ (row : TargetRow). row.id) rows) ids)
put_all [] f ids k s m = refl
put_all (row ∷ rows) f ids k s m =
    grind (arith, put_all rows (after_row row f) (with_word row.id ids), put_one, sorted_with, keeps_attributes, or_parts, has_with)

-- the last row that names the target counts
rows_are_last : (rows : List TargetRow) (f : Bytes → Target) (t : Bytes) → after_rows rows f t ≡ by_row (last_row_for t rows) (f t)
rows_are_last [] f t = refl
rows_are_last (row ∷ rows) f t = grind (arith, rows_are_last rows (after_row row f) t)

abbrev target_by : CommandList → Bytes → Option TargetRow → Target
target_by h t o = record {
  id = t;
  name = unwrap_or (elim (option_or o (last_row_of t h)) [ None ↦ None | Some row ↦ Some row.name ]) [];
  digest = unwrap_or (elim (option_or o (last_row_of t h)) [ None ↦ None | Some row ↦ Some row.digest ]) [];
  tags = tags_by_row o (tags_in t h);
  attributes = attributes_in t h;
}

imported_is : (h : CommandList) (rows : List TargetRow) (t : Bytes) → after_rows rows (target_in h) t ≡ target_in (h ▸ PutTargets rows) t
imported_is h rows t = grind (arith, rows_are_last)

-- ---- who isn't there has no attributes

pub never_with : (t : Bytes) (ws vs : List Bytes) → contains_word t (with_words ws vs) ≡ false → contains_word t vs ≡ false
never_with t [] vs e = e
never_with t (w ∷ ws) vs e = (or_parts _ _ (sym (has_with t w vs) ∙ never_with t ws (with_word w vs) e)).1

known_there : (h : CommandList) (device : Credential) (ids : List Bytes)
    → list_any (λ (x : Target). same_bytes x.id device.id && same_bytes x.digest device.digest) (map (target_in h) ids) ≡ true → contains_word device.id ids
    ≡ true
known_there h device [] e = cc
known_there h device (t ∷ ts) e = go (split _ _ e) (known_there h device ts)
  where
    split : (p q : Bool) → (p || q) ≡ true → (p ≡ true) ⊎ (q ≡ true)
    split true q k = inl refl
    split false q k = inr k

    either : (p q : Bool) → q ≡ true → (p || q) ≡ true
    either true q k = refl
    either false q k = k

    go : ((same_bytes t device.id && same_bytes (target_in h t).digest device.digest) ≡ true)
        ⊎ (list_any (λ (x : Target). same_bytes x.id device.id && same_bytes x.digest device.digest) (map (target_in h) ts) ≡ true)
        → (list_any (λ (x : Target). same_bytes x.id device.id && same_bytes x.digest device.digest) (map (target_in h) ts) ≡ true → contains_word device.id ts
        ≡ true) → contains_word device.id (t ∷ ts) ≡ true
    go (inl p) ih = let parts : _ = and_parts _ _ p in let same : t ≡ device.id = same_true t device.id parts.0 in rw same (rw (same_refl device.id) refl)
    go (inr p) ih = either _ _ (ih p)

no_attributes : (h : CommandList) → IsValid h → MissingAreBare (target_in h) (target_ids h)
unfolding records
no_attributes (Make approval) v t e = refl
no_attributes (h ▸ PutTargets rows) v t e = no_attributes h v.0 t (never_with t (map (λ (row : TargetRow). row.id) rows) (target_ids h) e)
no_attributes (h ▸ PutAttributes device new) v t e = go (same_bytes t device.id) refl (no_attributes h v.0 t e)
  where
    known : contains_word device.id (target_ids h) ≡ true
    known = known_there h device (target_ids h) (not-false _ (none_holds (verdict_row (records h) (PutAttributes device new)) v.2).0)

    go : (b : Bool) → same_bytes t device.id ≡ b → attributes_in t h ≡ [] → cond b (with_attributes new (attributes_in t h)) (attributes_in t h) ≡ []
    go false d ih = ih
    go true d ih = absurd (false≢true (sym e ∙ subst (λ (i : Bytes). contains_word i (target_ids h) ≡ true) (sym (same_true t device.id d)) known))
no_attributes (h ▸ _) v t e = no_attributes h v.0 t e

-- ---- the whole records

pub import_is_step : (h : CommandList) (rows : List TargetRow) → IsValid h → verdict h (PutTargets rows) ≡ None → records (h ▸ PutTargets rows)
    ≡ step_records (records h) (PutTargets rows)
unfolding records
import_is_step h rows v e =
    let c : Command = PutTargets rows in
    same_records (needs_approval h) _ _ _ _ _ _ _ _ _ _ _ _ (append_none (modules h)) (append_none (artifacts h)) (append_none (sets h))
    (map_same (target_in (h ▸ c)) (after_rows rows (target_in h)) (λ t. sym (imported_is h rows t)) (target_ids (h ▸ c))
    ∙ sym (put_all rows (target_in h) (target_ids h) (λ t. refl) (sorted_ids h) (no_attributes h v)))
    (ap (rollouts_in (h ▸ c) 1) (append_none (rollouts h))
    ∙ calm_everywhere h c (accepted h c v e)
    (λ r. record { outcomes = λ j. calm_outcome h c r j refl; pauses = refl; resumes = refl; triggers = refl; starts = refl }) (λ r. refl))
    (ap (map (action_in (h ▸ c))) (append_none (action_places h)) ∙ calm_actions h c refl (action_places h))
