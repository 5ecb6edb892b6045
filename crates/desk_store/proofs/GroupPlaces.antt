-- The groups of a rollout that reach a member's place: the one that holds it, and all behind it.
use Rattle.desk_store.proofs.Common.{nat_tests, ◌≡◌, ◌≤◌, ℕ, zero, suc, ◌+◌, ◌-◌, List, [], ◌∷◌, drop, slice_get, refl, sym, ap, ◌∙◌, arith, le-leb, lt-leb}
use Rattle.desk_store.proofs.Common.{item_numbered, group_in, rollout_in, group_holding, number_of_group, GroupRecord, that_reach, group_and_next, GroupAndNext}
use Rattle.rollout_machine.proofs.Cuts.{group_of, in_its_group}
use Rattle.rollout_machine.proofs.Ties.{find_holding}
use Rattle.rollout_machine.specs.CommandList.{CommandList}
use Rattle.rollout_machine.specs.Effects.{HasSoundPlan, IsInGroup}
use Rattle.rollout_machine.specs.Ranges.{each_from}
use Rattle.rollout_machine.specs.Rollouts.{Rollout, last_of, size_of}

pub at_drop : {X : Type 0} (d i : ℕ) (xs : List X) (n : ℕ) → d + i ≡ n → slice_get (drop d xs) i ≡ slice_get xs n
at_drop zero i xs n at = let same : i ≡ n = omega (arith, at) in ap (slice_get xs) same
at_drop (suc d) i [] n at = refl
at_drop (suc d) i (x ∷ xs) zero at = absurd (omega (arith, at))
at_drop (suc d) i (x ∷ xs) (suc n) at = at_drop d i xs n (omega (arith, at))

abbrev pair : List GroupRecord → ℕ → GroupAndNext
pair gs i = record { group = item_numbered gs i; next = item_numbered gs (i + 1) }

pair_of_rest : (gs : List GroupRecord) (j d : ℕ) → that_reach j gs ≡ drop d gs → group_and_next j gs ≡ pair gs (suc d)
pair_of_rest gs j d reach = grind (arith, at_drop)

module _ (x : Rollout) (r : ℕ) (h : CommandList) (sound : HasSoundPlan x) where
  abbrev groups_from : ℕ → ℕ → List GroupRecord
  groups_from = each_from (group_in x r h)

  all_reach : (a n j : ℕ) → j ≤ last_of x a → that_reach j (groups_from a n) ≡ groups_from a n
  all_reach a zero j within = refl
  all_reach a (suc n) j within = grind (arith, all_reach (suc a) n j (omega (arith, within, sound.cut.rises a (suc a) (omega arith))), le-leb)

  rest_reach : (d a n g j : ℕ) → d ≤ n → a + d ≡ g → IsInGroup x g j → that_reach j (groups_from a n) ≡ drop d (groups_from a n)
  rest_reach zero a n g j within at it = grind (arith, nat_tests, all_reach)
  rest_reach (suc d) a zero g j within at it = absurd (omega (arith, within))
  rest_reach (suc d) a (suc n) g j within at it = grind (arith, nat_tests, rest_reach d (suc a) n g j (omega (arith, within)) (omega (arith, at)) it, lt-leb)

  -- the two that are read are the group that holds the place, and the group of the next number
  pub group_and_next_at : (j : ℕ) → 1 ≤ j → j ≤ size_of x
      → group_and_next j (rollout_in h r x).groups
      ≡ record {
        group = item_numbered (rollout_in h r x).groups (number_of_group (group_holding j (rollout_in h r x).groups));
        next = item_numbered (rollout_in h r x).groups (number_of_group (group_holding j (rollout_in h r x).groups) + 1);
      }
  group_and_next_at j low high =
      let g = group_of x j in
      let own = in_its_group x j sound low high in
      let found = find_holding x r h g j sound own in
      let number : suc (g - 1) ≡ g = omega (arith, own.first) in
      let reach = rest_reach (g - 1) 1 x.plan.groups.count g j (omega (arith, own.first, own.last)) (omega (arith, own.first)) own.within in
      pair_of_rest (groups_from 1 x.plan.groups.count) j (g - 1) reach ∙ ap (pair (groups_from 1 x.plan.groups.count)) (number ∙ sym (ap number_of_group found))
