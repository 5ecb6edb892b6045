-- The members of the rollouts of a list of accepted commands are ids.
use Rattle.desk_reads.proofs.Common.{arith, ◌≡◌, ◌⊎◌, inl, inr, ℕ, suc, true, List, [], ◌∷◌, map, Option, refl, and_parts, with_word, with_words, CommandList}
use Rattle.desk_reads.proofs.Common.{Make}
use Rattle.desk_reads.proofs.Common.{◌▸◌, rollouts_in, IsValid, RolloutRecord, import_rows_of, target_ids, targets, has_either, has_filtered, test_has, Has}
use Rattle.desk_reads.proofs.Common.{is_word, IsWellFormed, Bytes, Command, TargetRow, Rollout, chosen, created, rollouts, has_mapped}
use Rattle.rollout_machine.specs.Records.{records}
use Rattle.target_filter.specs.Grammar.{Tree}

-- ---- targets

with_word_has : (w : Bytes) (vs : List Bytes) (x : Bytes) → Has (with_word w vs) x → (x ≡ w) ⊎ Has vs x
with_word_has w [] x (inl same) = inl same
with_word_has w [] x (inr none) = absurd none
with_word_has w (v ∷ vs) x among = grind (arith, with_word_has w vs x)

with_words_has : (ws vs : List Bytes) (x : Bytes) → Has (with_words ws vs) x → Has ws x ⊎ Has vs x
with_words_has [] vs x among = inr among
with_words_has (w ∷ ws) vs x among = grind (arith, with_words_has ws (with_word w vs) x among, with_word_has)

new_words : (c : Command) → IsWellFormed c → (id : Bytes) → Has (map (λ (row : TargetRow). row.id) (import_rows_of c)) id → is_word id ≡ true
new_words c good id among = grind (arith, has_mapped, and_parts, test_has)

pub target_words : (h : CommandList) → IsValid h → (id : Bytes) → Has (target_ids h) id → is_word id ≡ true
target_words (Make approval) valid id among = absurd among
target_words (h ▸ c) valid id among = grind (
  arith,
  target_words h valid.0 id,
  new_words c valid.1 id,
  with_words_has (map (λ (row : TargetRow). row.id) (import_rows_of c)) (target_ids h) id among,
)

-- ---- rollouts

-- each is an id
abbrev pub AreIds : List Bytes → Type 0
AreIds members = (id : Bytes) → Has members id → is_word id ≡ true

are_chosen : (h : CommandList) → IsValid h → (filter_tree : Option Tree) → AreIds (chosen filter_tree (targets h))
are_chosen h valid filter_tree id among = grind (arith, has_mapped, has_filtered, target_words)

new_ids : (h : CommandList) (c : Command) → IsValid h → (x : Rollout) → Has (created h c) x → AreIds x.members
new_ids h c valid x among = grind (arith, are_chosen)

rollout_ids : (h : CommandList) → IsValid h → (x : Rollout) → Has (rollouts h) x → AreIds x.members
rollout_ids (Make approval) valid x among = absurd among
rollout_ids (h ▸ c) valid x among = grind (arith, rollout_ids h valid.0 x, new_ids h c valid.0 x, has_either (rollouts h) (created h c) x among)

records_ids : (h : CommandList) (r : ℕ) (xs : List Rollout) → ((y : Rollout) → Has xs y → AreIds y.members) → (x : RolloutRecord) → Has (rollouts_in h r xs) x
    → AreIds x.members
records_ids h r [] each x among = absurd among
records_ids h r (y ∷ xs) each x among = grind (arith, each y (inl refl), records_ids h (suc r) xs (λ z its. each z (inr its)) x)

pub member_ids : (h : CommandList) → IsValid h → (x : RolloutRecord) → Has (records h).rollouts x → AreIds x.members
unfolding records
member_ids h valid x among = records_ids h 1 (rollouts h) (rollout_ids h valid) x among
