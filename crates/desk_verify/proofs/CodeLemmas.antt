-- What codes and numbers are read as that the program writes.
use Rattle.desk_verify.proofs.Common.{◌≡◌, ◌≤◌, ◌<◌, ◌^◌, ℕ, pos, Bool, true, false, [], ◌∷◌, nat_eq, nat_lt, Option, Some, None, refl, arith, ap, and_parts}
use Rattle.desk_verify.proofs.Common.{leb-true, nat_tests, is_some, Int, Said, Outcome, limits, is_feedback_number, is_percentage, is_small, kind_code}
use Rattle.desk_verify.proofs.Common.{outcome_code, word_code, has_size, approval_in, feedback_number_in, flag_in, group_count_in, outcome_in, percentage_in}
use Rattle.desk_verify.proofs.Common.{place_in, said_by, broken_group_column, approval_code, flag}
use Rattle.rollout_model.specs.declared.approval.Approval.{Approval}

-- ---- numbers

pub few_is : (n : ℕ) → n < 2 ^ 32 → nat_lt n (2 ^ 32) ≡ true
few_is n few = grind (arith, nat_tests, few)

pub is_sized : (n : ℕ) → n < 2 ^ 32 → has_size (Int (pos n)) ≡ true
is_sized n few = ap is_some (is_small n few)

pub place_is : (n : ℕ) → 1 ≤ n → n < 2 ^ 32 → place_in (Int (pos n)) ≡ Some n
place_is n low few = let some : nat_eq n 0 ≡ false = grind (arith, nat_tests, low) in rw (few_is n few, some) refl

pub percentage_is : (p : ℕ) → is_percentage p ≡ true → percentage_in (Int (pos p)) ≡ Some p
percentage_is p good = grind (arith, leb-true, and_parts, nat_tests)

pub group_count_is : (n : ℕ) → 1 ≤ n → n ≤ limits.groups → group_count_in (Int (pos n)) ≡ Some n
group_count_is n low high = grind (arith, nat_tests)

pub feedback_number_is : (n : ℕ) → is_feedback_number n ≡ true → feedback_number_in (Int (pos n)) ≡ Some n
feedback_number_is n good = let few : nat_lt n (2 ^ 32) ≡ true = grind (arith, nat_tests, good) in rw (few, good) refl

-- ---- codes

pub flag_is : (b : Bool) → flag_in (Int (pos (flag b))) ≡ Some b
flag_is b = grind arith

pub approval_is : (a : Approval) → approval_in (Int (pos (approval_code a))) ≡ Some a
approval_is a = grind arith

pub outcome_is : (o : Option Outcome) → outcome_in (Int (pos (outcome_code o))) ≡ Some o
outcome_is o = grind arith

-- the row of an entry says what was said
pub said_is : (s : Said) → said_by (flag_in (Int (pos (kind_code s)))) (Int (pos (word_code s))) ≡ Some s
said_is s = grind arith

pub kind_is : (s : Said) → is_some (flag_in (Int (pos (kind_code s)))) ≡ true
kind_is s = grind arith

-- ---- groups

pub kept_group : (i first last ok bad gone : ℕ) (b : Bool) → i < 2 ^ 32 → first < 2 ^ 32 → last < 2 ^ 32 → ok < 2 ^ 32 → bad < 2 ^ 32 → gone < 2 ^ 32
    → broken_group_column (Int (pos i) ∷ Int (pos first) ∷ Int (pos last) ∷ Int (pos (flag b)) ∷ Int (pos ok) ∷ Int (pos bad) ∷ Int (pos gone) ∷ []) ≡ None
kept_group i first last ok bad gone b a h8 c d e f = grind (arith, few_is)
