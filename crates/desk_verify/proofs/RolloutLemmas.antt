-- The loop over the rollouts, and what it comes to.
use Rattle.desk_verify.proofs.Common.{◌≡◌, ◌≤◌, ℕ, ◌+◌, Bool, true, length, sym, subst, ◌∙◌, arith, nat_eq}
use Rattle.desk_verify.proofs.Common.{nat_tests, add-one, Row, Has, all_pass, each_passes, has_at, within, Place, Tables, StoredRollout}
use Rattle.desk_verify.proofs.Common.{Settles, AreAllChecked, AreChecked, IsChecked, JudgesOne, HasRollout, IsThere}
use Rattle.std.proofs.lemmas.Bool.{or_cases}
use Rattle.std.specs.Bool.{then_some}
use Rattle.desk_verify.proofs.Counting.{is_within, joined, none_within, up_to_next}

pub rollout_there : (t : Tables) (number : ℕ) (rollout : StoredRollout) → HasRollout t number rollout → IsThere t number
rollout_there t number rollout it = record { row = it.is.said.row; among = it.is.said.among; numbered = it.is.said.passes }

-- what a test decides
pub settled : {P Q : Type 0} (b : Bool) → (b ≡ true → P) → (Q → b ≡ true) → Settles P Q b
settled b so back = grind arith

-- the row is of a rollout that is there
pub record IsOfRollout (t : Tables) (column : ℕ) (row : Row) : Type 0 where
  pub rollout : ℕ
  pub low : 1 ≤ rollout
  pub there : IsThere t rollout
  pub of : has_at column rollout row ≡ true

-- those of one rollout are counted where they are right
pub judged : (table : Place) (column : ℕ) (IsRight : Tables → Row → Type 0) (IsWhole : Tables → ℕ → Type 0) (Agrees : Tables → Type 0) (t : Tables)
    (r count : ℕ) (b : Bool) → (b ≡ true → IsChecked table column IsRight IsWhole t r count) → (Agrees t → b ≡ true)
    → JudgesOne table column IsRight IsWhole Agrees t r (then_some b count)
judged table column h2 h3 h4 t r count b so back = grind arith

module _ {table : Place} {column : ℕ} {IsRight : Tables → Row → Type 0} {IsWhole : Tables → ℕ → Type 0} {t : Tables} where
  pub none_yet : AreChecked table column IsRight IsWhole t 0 0
  none_yet = grind (arith, none_within column (t table))

  pub one_more : {n listed count : ℕ} (sum r : ℕ) → AreChecked table column IsRight IsWhole t n listed → r ≡ n + 1
      → IsChecked table column IsRight IsWhole t r count → sum ≡ listed + count → AreChecked table column IsRight IsWhole t (n + 1) sum
  one_more {n} {listed} {count} sum r so_far number judged is =
      let one = subst (λ k. IsChecked table column IsRight IsWhole t k count) (number ∙ add-one n) judged in
      subst (λ k. AreChecked table column IsRight IsWhole t k sum) (sym (add-one n))
      (record {
        rows = record {
          each = grind (arith, or_cases, so_far.rows.each, one.rows.each);
          all = (let it = joined column n (t table) in omega (arith, is, so_far.rows.all, one.rows.all, it));
        };
        whole = up_to_next (IsWhole t) n so_far.whole one.whole;
      })

  -- as many as there are: none is of a rollout that isn't there
  pub decided : (Passes Agrees : Tables → Type 0) (listed all : ℕ) → AreAllChecked table column IsRight IsWhole t listed → all ≡ length (t table)
      → (((row : Row) → Has (t table) row → IsRight t row) → ((rollout : ℕ) → 1 ≤ rollout → IsThere t rollout → IsWhole t rollout) → Passes t)
      → (Agrees t → (row : Row) → Has (t table) row → IsOfRollout t column row) → Settles (Passes t) (Agrees t) (nat_eq listed all)
  decided Passes Agrees listed all it is agree its = settled (nat_eq listed all)
      (λ same. agree (λ row among. grind (arith, nat_tests, it.checked.rows.each row among, it.checked.rows.all, all_pass (within column it.last) (t table)))
      (λ rollout low there. it.checked.whole rollout low (it.is_last.greatest rollout there)))
      (λ agrees. let e = each_passes (within column it.last) (t table) (λ row among. let of = its agrees row among in
      is_within column it.last of.rollout row of.low (it.is_last.greatest of.rollout of.there) of.of) in
      grind (arith, nat_tests, it.checked.rows.all, e))
