-- The ledger behind a row of a put, and between its name and its tags, can be read.
use Rattle.sqlite.specs.State.{State}
use Rattle.desk_commands.proofs.Common.{◌≡◌, ◌≤◌, ◌<◌, ◌&&◌, ℕ, Bool, true, false, cond, List, take, get_or, length, Option, None, Result, Err, sym, subst}
use Rattle.desk_commands.proofs.Common.{arith, length-map, list_all, and_parts, ledger_of, Wears, Fault, Refusal, CommandList}
use Rattle.desk_commands.proofs.Common.{◌▸◌, IsValid, Records, records, records_step, step_records, put_targets, change_target, TargetRow, PutTargets, Target}
use Rattle.desk_commands.proofs.Common.{check, same_bytes, renamed, with_changed, Has, is_digest, is_tag_list, is_text, is_word, limits_hold, IsReadable}
use Rattle.desk_commands.proofs.Common.{seen_in, Calls, Ghosts, FailsWriting, TakesRow, TakesRows, kept_to, HoldsLedger}
use Rattle.desk_store.specs.Breaking.{TellsFirst}
use Rattle.desk_store.specs.Failing.{ReadableAs, nothing}
use Rattle.std.proofs.lemmas.List.Folds.{list_all_at}
use Rattle.rollout_model.specs.Rows.{is_target_row}
use Rattle.desk_records.proofs.Membership.{has_mapped}
use Rattle.desk_store.proofs.ReadableTargets.{KeepsTarget, readable_with}
use Rattle.desk_reads.proofs.TargetRules.{targets_keep}
use Rattle.desk_commands.proofs.FailureLemmas.{Exits}
use Rattle.desk_commands.proofs.PutLemmas.{PutsSoFar, few_left, within_quota}

-- ---- between two rows

module _ (h : CommandList) (valid : IsValid h) (rows : List TargetRow) (good : list_all is_target_row rows ≡ true)
    (few : length (step_records (records h) (PutTargets rows)).targets ≤ 10000) where
  accepted : check (records h) (PutTargets rows) ≡ None
  accepted = within_quota (records h) rows few

  -- it is that of the list with them
  pub put_valid : IsValid (h ▸ PutTargets rows)
  put_valid = (valid, good, accepted)

  pub put_is : step_records (records h) (PutTargets rows) ≡ records (h ▸ PutTargets rows)
  put_is = sym (records_step h (PutTargets rows) valid accepted)

  pub put_readable : IsReadable (ledger_of (records h)) → IsReadable (ledger_of (step_records (records h) (PutTargets rows)))
  put_readable w =
      readable_with (records h) w (put_targets rows (records h).targets)
      (λ x among. targets_keep (h ▸ PutTargets rows) put_valid x (subst (λ (r : Records). Has r.targets x) put_is among)) (omega (arith, few))

-- ---- within a row

pub renamed_readable : (h : CommandList) → IsValid h → (row : TargetRow) → is_target_row row ≡ true → IsReadable (ledger_of (records h))
    → IsReadable (ledger_of (with_changed (records h) row.id (renamed row.name row.digest)))
renamed_readable h valid row good w =
    readable_with (records h) w (change_target row.id (renamed row.name row.digest) (records h).targets) each
    (let size = length-map (records h).targets (λ (t : Target). cond (same_bytes t.id row.id) (renamed row.name row.digest t) t) in
    omega (arith, size, (limits_hold h valid).targets))
  where
    parts : (is_text row.name ≡ true) × (is_digest row.digest ≡ true)
    parts =
        let rest = and_parts (is_text row.name) (is_digest row.digest && is_tag_list row.tags) (and_parts (is_word row.id) _ good).1 in
        (rest.0, (and_parts (is_digest row.digest) (is_tag_list row.tags) rest.1).0)

    either : (b : Bool) (t : Target) → KeepsTarget t → KeepsTarget (cond b (renamed row.name row.digest t) t)
    either true t keeps = record { id = keeps.id; name = parts.0; digest = parts.1; tags = keeps.tags; attributes = keeps.attributes }
    either false t keeps = keeps

    each : (x : Target) → Has (change_target row.id (renamed row.name row.digest) (records h).targets) x → KeepsTarget x
    each x among =
        let source = has_mapped (λ (t : Target). cond (same_bytes t.id row.id) (renamed row.name row.digest t) t) (records h).targets x among in
        subst KeepsTarget (sym source.2) (either (same_bytes source.0.id row.id) source.0 (targets_keep h valid source.0 source.1))

-- ---- the exit of a row

good_at : {X : Type 0} (p : X → Bool) (xs : List X) (k : ℕ) (x : X) → k < length xs → x ≡ get_or xs k x → list_all p xs ≡ true → p x ≡ true
good_at p xs k x below is all = grind (arith, list_all_at p xs k x, below, is, all)

-- behind those that are put before it
rows_end_at : {was mid new : State} {fault : Fault} (rows : List TargetRow) (row : TargetRow) (k : ℕ)
    → k < length rows → row ≡ get_or rows k row → (left : Option ℕ) → PutsSoFar was mid (take k rows) left → Wears mid new
    → TellsFirst HoldsLedger (ReadableAs (TakesRow row)) nothing {A = Result (Option ℕ) Refusal} mid new (Err fault) → Exits (TakesRows rows) was new fault
rows_end_at rows row k below at left so_far wears w = grind (arith, kept_to, few_left, put_readable, put_valid, put_is, good_at)

pub rows_end : {S : Type 0} {g : Ghosts S} {was : State} {mid new : Calls S} {fault : Fault} (rows : List TargetRow) (row : TargetRow) (k : ℕ)
    → k < length rows → row ≡ get_or rows k row → (left : Option ℕ) → PutsSoFar was (seen_in g mid) (take k rows) left
    → Wears (seen_in g mid) (seen_in g new) → FailsWriting g (TakesRow row) {A = Result (Option ℕ) Refusal} mid new (Err fault)
    → Exits (TakesRows rows) was (seen_in g new) fault
rows_end rows row k below at left so_far wears w = rows_end_at rows row k below at left so_far wears (record { to = w.to })
