-- What a migration writes into the later tables.
use Rattle.desk_opening.proofs.Common.{◌≡◌, ◌++◌, ℕ, zero, suc, ◌+◌, List, [], ◌∷◌, length, set, Option, Some, None, option_map, refl, sym, ap, subst}
use Rattle.desk_opening.proofs.Common.{◌∙◌, arith, GroupRule, Ledger, Version, One, FillsLater, FillsRollout, WritesCopies, WritesRules}
use Rattle.desk_opening.proofs.Common.{same_some}
use Rattle.rollout_machine.specs.ByteStrings.{item_numbered}
use Rattle.rollout_machine.specs.Ranges.{each_from}
use Rattle.rollout_machine.proofs.Lists.{each_from_more, length_each}
use Rattle.desk_records.specs.LedgerSteps.{AddsRule, with_rules}
use Rattle.desk_records.specs.RolloutRow.{stored_rollout}
use Rattle.desk_records.specs.declared.rollout_row.StoredRollout.{StoredRollout}
use Rattle.desk_records.proofs.HeldCounts.{at_place}
use Rattle.desk_opening.proofs.RuleLists.{WritesUpTo, rules_up_to, all_even, all_said, got_set, none_said, none_yet, one_more, set_same}
use Rattle.std.proofs.Common.{set-set}

-- ---- of one rollout

module _ (rule : GroupRule) where
  abbrev copies : ℕ → List GroupRule
  copies n = each_from (λ i. rule) 1 n

  pub nothing_said : (n : ℕ) (l next : Ledger) → WritesCopies n 0 rule l next → next ≡ l
  nothing_said n l next w = grind (arith, set_same)

  pub parts : (m n : ℕ) (l next : Ledger) → WritesCopies m (n + 1) rule l next → (mid : Ledger) × WritesCopies m n rule l mid × AddsRule m (n + 1) rule mid next
  parts zero n l next w = absurd (let none = w.none in cc)
  parts (suc k) n l next w =
      let mid = with_rules l (set l.rules k (copies n)) in (
        mid,
        record { none = w.none; next_is = refl },
        record {
          its = copies n;
          is_there = got_set l.rules k [] (copies n) w.none;
          group_is = (let long = length_each (λ (i : ℕ). rule) 1 n in omega (arith, long));
          next_is = w.next_is ∙ ap (λ its. with_rules l (set l.rules k its)) (each_from_more (λ (i : ℕ). rule) 1 n (1 + n) rule refl refl)
              ∙ ap (with_rules l) (sym (set-set l.rules k (copies n) (copies n ++ rule ∷ [])));
        },
      )

module _ (number : ℕ) (found : StoredRollout) where
  abbrev copy : GroupRule
  copy = record { percentage = None; success = found.plan.success; error = found.plan.error }

  pub copies_of : (read : Option StoredRollout) → read ≡ Some found → (l next : Ledger)
      → read ≡ option_map stored_rollout (item_numbered l.records.rollouts number) → FillsRollout number l next
      → WritesCopies number found.plan.groups copy l next
  copies_of read there l next is fills = grind (arith, same_some, option_map)

-- ---- of all rollouts

pub nothing_yet : (l next : Ledger) → WritesUpTo 0 l next → next ≡ l
nothing_yet l next w = w.next_is ∙ ap (with_rules l) (none_said l.records.rollouts ∙ sym w.none)

pub one_filled_more : (k n : ℕ) → n ≡ suc k → (l next : Ledger) → WritesUpTo n l next → (mid : Ledger) × WritesUpTo k l mid × FillsRollout n mid next
one_filled_more k n is l next filled =
    let xs = l.records.rollouts in
    let w : WritesUpTo (suc k) l next = subst (λ m. WritesUpTo m l next) is filled in
    let it = at_place xs k (omega (arith, w.within)) in rw is (
      with_rules l (rules_up_to k xs),
      record { none = w.none; within = omega (arith, w.within); next_is = refl },
      record {
        rollout = it.0;
        is_there = it.1;
        none = none_yet k xs it.0 it.1;
        next_is = w.next_is ∙ ap (with_rules l) (sym (one_more k xs it.0 it.1));
      },
    )

pub all_filled : (k last : ℕ) → k ≡ last → (l next : Ledger) → last ≡ length l.records.rollouts → WritesRules l next → WritesUpTo k l next
all_filled k last reached l next is w = grind (arith, all_said)

-- ---- of all that is later

pub one_filled : (v : Version) → v ≡ One → (l next : Ledger) → FillsLater v l next → WritesRules l next
one_filled v is l next w = grind (arith, all_even)
