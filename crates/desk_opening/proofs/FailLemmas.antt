-- Why a migration of records that can be read is no failed store by itself.
use Rattle.desk_opening.proofs.Common.{◌≡◌, ◌<◌, ◌≤◌, ◌+◌, ◌^◌, ℕ, suc, List, [], ◌∷◌, length, Ok, Err, Result, inl, inr, refl, sym, subst, ◌∙◌, arith, Row}
use Rattle.desk_opening.proofs.Common.{State, Has}
use Rattle.desk_opening.proofs.Common.{HasCleanDisk, Fault, Wears, AllByRecursion, RolloutRecord, Records, Version, One, HoldsLedger, Ledger, Sees}
use Rattle.desk_opening.proofs.Common.{TellsFirst, bare_ledger, nothing}
use Rattle.std.specs.Prelude.{IsErrAnd}
use Rattle.std.proofs.lemmas.Bool.Decides.{nat_tests}
use Rattle.sql_calls.specs.Keyed.{rows_from}
use Rattle.sql_calls.specs.Standing.{Finds, Makes}
use Rattle.desk_records.specs.LedgerSteps.{with_rules}
use Rattle.desk_records.specs.Rollouts.{rollout_row}
use Rattle.desk_records.specs.Schema.{Rollouts}
use Rattle.desk_records.proofs.HeldCounts.{at_place}
use Rattle.desk_store.specs.BrokenRows.{BreaksColumn}
use Rattle.desk_store.specs.Readable.{KeepsColumns}
use Rattle.desk_opening.specs.Counting.{AreReadable, HasReadable, IsRolloutReadable}
use Rattle.desk_opening.specs.private.Filling.{GivenBare, GivenRules}
use Rattle.desk_opening.proofs.RuleLists.{WritesUpTo, rules_up_to}

-- ---- what is held can be read

kept_from : (n : ℕ) (xs : List RolloutRecord) → AllByRecursion IsRolloutReadable xs → n + length xs ≤ 2 ^ 32 → (row : Row)
    → Has (rows_from rollout_row n xs) row → BreaksColumn Rollouts row → ⊥
kept_from n [] keep few row among broken = among
kept_from n (x ∷ xs) keep few row (inr more) broken = kept_from (n + 1) xs keep.1 (omega (arith, few)) row more broken
kept_from n (x ∷ xs) keep few row (inl is) broken = grind (arith, nat_tests)

pub rollouts_keep : (v : Version) (r : Records) → AreReadable r → KeepsColumns Rollouts (bare_ledger v r)
rollouts_keep v r readable rows held row among =
    kept_from 1 r.rollouts readable.keep (omega (arith, readable.few)) row (subst (λ its. Has its row) held among)

bare_given : (v : Version) → v ≡ One → (l : Ledger) → GivenBare v l → GivenRules l
bare_given v is l given =
    record { none = grind arith; keep = subst (KeepsColumns Rollouts) (sym given.bare) (rollouts_keep v given.records given.readable) }

pub bare_fails : {old new : State} (v : Version) → v ≡ One → (out : Result (Unit {0}) Fault) → TellsFirst HoldsLedger GivenRules nothing old new out
    → TellsFirst HoldsLedger (GivenBare v) nothing old new out
bare_fails v is out h = grind (arith, bare_given v is)

-- ---- all of them

-- behind the number of the last, and the first k rollouts
pub rules_fail : {a b m z : State} (k last n : ℕ) → k < last → n ≡ suc k
    → Finds HoldsLedger (λ (l : Ledger). l) {E = Fault} a b (Ok last) (λ l last. last ≡ length l.records.rollouts)
    → Makes HoldsLedger (λ (l : Ledger). l) {A = Unit {0}} {E = Fault} b m (Ok tt) (WritesUpTo k) → Wears m z → (fault : Fault)
    → TellsFirst HoldsLedger (HasReadable n) nothing {A = Unit {0}} m z (Err fault) → (out : Result (Unit {0}) Fault) → IsErrAnd out (λ e. e ≡ fault)
    → TellsFirst HoldsLedger GivenRules nothing a z out
rules_fail k last n low next read made wears fault h (Ok x) is = absurd is
rules_fail {m = m} k last n low next read made wears fault h (Err e) is = record {
  to = λ l sees given. record {
    reason = λ broken clean.
        let xs = l.records.rollouts in
        let seen = read.finds l sees in
        let between : HasCleanDisk m = omega (arith, clean, wears) in
        let count = seen.1 (omega (arith, between, made.wears)) in
        let mid = with_rules l (rules_up_to k xs) in
        let now : Sees HoldsLedger m mid =
        made.makes l mid seen.0 (λ known. record { none = given.none; within = omega (arith, low, count); next_is = refl }) in
        let it = at_place xs k (omega (arith, low, count)) in
        let there : HasReadable (suc k) mid = record { keep = given.keep; rollout = it.0; is_there = it.1 } in
        (h.to mid now (subst (λ i. HasReadable i mid) (sym next) there)).reason (sym is ∙ broken) clean;
  };
}
