-- Rows of targets that are put one after the other, as far as the desk takes them.
use Rattle.desk_commands.proofs.Common.{◌≡◌, ◌≤◌, ◌<◌, ◌+◌, ℕ, suc, true, cond, nat_lt, List, [], ◌∷◌, ◌++◌, length, get_or, take, drop, Option, Some}
use Rattle.desk_commands.proofs.Common.{None, option_map, Ok, Err, refl, sym, ap, ◌∙◌, subst, arith, nat_tests, take_more, take_all, take-append-drop}
use Rattle.desk_commands.proofs.Common.{length-map, State, HasCleanDisk, Finds, Makes, Sees, Wears, HoldsLedger, ledger_of, stored_target, are_sorted, ids_of}
use Rattle.desk_commands.proofs.Common.{StoredTarget, with_word, with_words, CommandList, TargetRow, PutTargets, Records, records, put_target, put_targets}
use Rattle.desk_commands.proofs.Common.{step_records, Target, IsValid, check, target_of, same_sym, same_true, Refusal, Quota, HasCounted, IsTooMany, PutsAll}
use Rattle.desk_commands.proofs.Common.{Bytes, map, PutsRow, with_row, limits_hold, IsSorted, above_more}
use Rattle.campaign_core.proofs.CheckLemmas.{first_passes}
use Rattle.campaign_core.specs.Checks.{import_refusal}
use Rattle.desk_commands.proofs.TargetLemmas.{found, ids_sorted, none_above}

-- ---- how many there are

abbrev row_ids : List TargetRow → List Bytes
row_ids rows = map (λ (row : TargetRow). row.id) rows

put_ids : (row : TargetRow) (ts : List Target) → ids_of (put_target row ts) ≡ with_word row.id (ids_of ts)
put_ids row [] = refl
put_ids row (t ∷ ts) = grind (arith, same_true row.id t.id, put_ids row ts)

all_ids : (rows : List TargetRow) (ts : List Target) → ids_of (put_targets rows ts) ≡ with_words (row_ids rows) (ids_of ts)
all_ids [] ts = refl
all_ids (row ∷ rows) ts = all_ids rows (put_target row ts) ∙ ap (with_words (row_ids rows)) (put_ids row ts)

-- the desk's limit is all that refuses rows
by_count : (r : Records) (rows : List TargetRow) → check r (PutTargets rows) ≡ cond (nat_lt 10000 (length (put_targets rows r.targets))) (Some Quota) None
by_count r rows = ap (λ n. cond (nat_lt 10000 n) (Some Quota) None)
    (ap length (sym (all_ids rows r.targets)) ∙ length-map (put_targets rows r.targets) (λ (t : Target). t.id))

-- the row of a target that is there adds none
same_count : (row : TargetRow) (ts : List Target) (t : Target) → IsSorted (ids_of ts) → found row.id ts ≡ Some t → length (put_target row ts) ≡ length ts
same_count row [] t sorted is = grind arith
same_count row (x ∷ ts) t sorted is = grind (arith, same_count row ts t sorted.1, same_sym, above_more, none_above)

-- that of a new one adds it
new_count : (row : TargetRow) (ts : List Target) → found row.id ts ≡ None → length (put_target row ts) ≡ suc (length ts)
new_count row [] none = refl
new_count row (t ∷ ts) none = grind (arith, same_sym t.id row.id, new_count row ts)

-- no row takes one
grows_by : (row : TargetRow) (ts : List Target) → length ts ≤ length (put_target row ts)
grows_by row [] = omega arith
grows_by row (t ∷ ts) = grind (arith, grows_by row ts)

grows : (rows : List TargetRow) (ts : List Target) → length ts ≤ length (put_targets rows ts)
grows [] ts = omega arith
grows (row ∷ rows) ts = omega (arith, grows_by row ts, grows rows (put_target row ts))

put_then : (rows more : List TargetRow) (ts : List Target) → put_targets (rows ++ more) ts ≡ put_targets more (put_targets rows ts)
put_then [] more ts = refl
put_then (row ∷ rows) more ts = put_then rows more (put_target row ts)

-- ---- one row

pub count_kept : (row : TargetRow) (counted : Option ℕ) (r : Records) (stored : StoredTarget) → are_sorted r.targets ≡ true → Some stored
    ≡ option_map stored_target (target_of r row.id) → HasCounted counted r → HasCounted counted (with_row row r)
count_kept row counted r stored sorted is has = grind (arith, same_count, ids_sorted)

module _ (row : TargetRow) (r : Records) (count after : ℕ) (next : count ≤ 10000 → after ≡ count + 1)
    (is : None ≡ option_map stored_target (target_of r row.id)) (all : HasCounted (Some count) r) where
  missing : target_of r row.id ≡ None
  missing = grind (arith, is)

  pub count_grown : import_refusal (record { count_after = after }) ≡ None → HasCounted (Some after) (with_row row r)
  count_grown passes = grind (arith, first_passes, new_count, missing, nat_tests)

  pub too_many : (refusal : Refusal) → import_refusal (record { count_after = after }) ≡ Some refusal → (refusal ≡ Quota) × IsTooMany row r
  too_many refusal refuses = grind (arith, missing, nat_tests)

-- ---- the quota

pub within_quota : (r : Records) (rows : List TargetRow) → length (put_targets rows r.targets) ≤ 10000 → check r (PutTargets rows) ≡ None
within_quota r rows few = by_count r rows ∙ grind (arith, nat_tests, few)

-- one row that is too many refuses all
over_quota : (r : Records) (earlier : List TargetRow) (row : TargetRow) (later : List TargetRow) → IsTooMany row (step_records r (PutTargets earlier))
    → check r (PutTargets ((earlier ++ row ∷ []) ++ later)) ≡ Some Quota
over_quota r earlier row later many = grind (arith, put_then, new_count, grows, by_count, nat_tests)

-- ---- one row in a change

module _ {row : TargetRow} {counted : Option ℕ} {F : Type 0} where
  pub row_refused : {A E : Type 0} {a b : State} {x : A} {P : Records → A → Type 0} {refusal : Refusal} → Finds HoldsLedger ledger_of {E = E} a b (Ok x) P
      → ((r : Records) → P r x → HasCounted counted r → (refusal ≡ Quota) × IsTooMany row r)
      → PutsRow {E = F} a b row counted (Ok (Err refusal))
  row_refused read means = record { wears = read.wears; puts = λ now was clean. means now ((read.finds now was).1 clean) }

  pub row_put : {A E G : Type 0} {a b c : State} {x : A} {P : Records → A → Type 0} → Finds HoldsLedger ledger_of {E = E} a b (Ok x) P
      → (W : Records → Records → Type 0) → ((r : Records) → P r x → W r (with_row row r))
      → (then : Option ℕ) → Makes HoldsLedger ledger_of {A = Unit {0}} {E = G} b c (Ok tt) W
      → ((r : Records) → P r x → HasCounted counted r → HasCounted then (with_row row r)) → PutsRow {E = F} a c row counted (Ok (Ok then))
  row_put read h1 writes then write means = grind arith

-- ---- rows one after the other

-- one more of the rows
pub one_more : {X : Type 0} (xs : List X) (x : X) (k : ℕ) → k < length xs → x ≡ get_or xs k x → take (k + 1) xs ≡ take k xs ++ x ∷ []
one_more xs x k below is = take_more xs k x below ∙ ap (λ y. take k xs ++ y ∷ []) (sym is)

-- these rows are put
pub record PutsSoFar (old new : State) (rows : List TargetRow) (counted : Option ℕ) : Type 0 where
  pub wears : Wears old new
  pub puts : (h : CommandList) → IsValid h → Sees HoldsLedger old (ledger_of (records h))
      → Sees HoldsLedger new (ledger_of (step_records (records h) (PutTargets rows)))
      × (HasCleanDisk new → HasCounted counted (step_records (records h) (PutTargets rows)))

pub none_put : (a : State) → PutsSoFar a a [] None
none_put a = record { wears = omega arith; puts = λ h valid was. (was, λ clean. (limits_hold h valid).targets) }

module _ (a b c : State) (rows : List TargetRow) (row : TargetRow) (k : ℕ) (below : k < length rows) (is : row ≡ get_or rows k row) (counted : Option ℕ)
    (so_far : PutsSoFar a b (take k rows) counted) {E : Type 0} where
  pub row_refuses : (refusal : Refusal) → PutsRow {E = E} b c row counted (Ok (Err refusal)) → {F : Type 0} → PutsAll {E = F} a c rows (Ok (Some refusal))
  row_refuses refusal next = record {
    wears = omega (arith, so_far.wears, next.wears);
    puts = λ h valid was clean.
        let it = so_far.puts h valid was in
        let r = records h in
        let whole : (take k rows ++ row ∷ []) ++ drop (k + 1) rows ≡ rows = ap (λ xs. xs ++ drop (k + 1) rows) (sym (one_more rows row k below is))
        ∙ take-append-drop (k + 1) rows in
        let why = next.puts (step_records r (PutTargets (take k rows))) it.0 clean (it.1 (omega (arith, clean, next.wears))) in
        subst (λ l. check r (PutTargets l) ≡ Some refusal) whole (over_quota r (take k rows) row (drop (k + 1) rows) why.1 ∙ ap Some (sym why.0));
  }

  pub row_more : (then : Option ℕ) → PutsRow {E = E} b c row counted (Ok (Ok then)) → PutsSoFar a c (take (k + 1) rows) then
  row_more then next = record {
    wears = omega (arith, so_far.wears, next.wears);
    puts = λ h valid was.
        let it = so_far.puts h valid was in
        let r = records h in
        let done = next.puts (step_records r (PutTargets (take k rows))) it.0 in
        let same : with_row row (step_records r (PutTargets (take k rows))) ≡ step_records r (PutTargets (take (k + 1) rows)) =
        ap (λ (ts : List Target). record r { targets = ts })
        (sym (ap (λ l. put_targets l r.targets) (one_more rows row k below is) ∙ put_then (take k rows) (row ∷ []) r.targets)) in (
          subst (λ (s : Records). Sees HoldsLedger c (ledger_of s)) same done.0,
          λ clean. subst (λ (s : Records). HasCounted then s) same (done.1 clean (it.1 (omega (arith, clean, next.wears)))),
        );
  }

pub few_left : (counted : Option ℕ) (r : Records) → HasCounted counted r → length r.targets ≤ 10000
few_left counted r few = grind arith

pub all_put : (a b : State) (rows : List TargetRow) (k : ℕ) (counted : Option ℕ) → length rows ≤ k → PutsSoFar a b (take k rows) counted → {E : Type 0}
    → PutsAll {E = E} a b rows (Ok None)
all_put a b rows k counted past so_far =
    let all = rw (take_all k rows past) at so_far in record {
      wears = all.wears;
      puts = λ h valid was.
          let it = all.puts h valid was in
          (it.0, λ clean. within_quota (records h) rows (few_left counted (step_records (records h) (PutTargets rows)) (it.1 clean)));
    }
