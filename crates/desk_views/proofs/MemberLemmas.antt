-- The members of a rollout of a list of accepted commands are targets.
use Rattle.desk_views.proofs.Common.{arith, ◌≡◌, ℕ, zero, suc, Bool, true, List, [], ◌∷◌, map, filter, find, take, drop, Option, Some, None}
use Rattle.desk_views.proofs.Common.{refl, ap, ◌∙◌, list_all, is_some, unwrap_or, and_parts, filter_of, Tree}
use Rattle.desk_views.proofs.Common.{targets_of, contains_word, item_numbered, same_bytes, Bytes, Command, CreateRollout, matches}
use Rattle.desk_views.proofs.Common.{target_shown, targets_shown, Records, Target, target_ids, target_in, target_of, RolloutRecord, same_refl}
use Rattle.desk_views.proofs.Common.{same_sym, AreOfList, made, CommandList, Make, ◌▸◌, Rollout, chosen, created, rollouts, kept_to, kept_from, or-true}
use Rattle.rollout_machine.specs.Records.{records}
use Rattle.std.proofs.lemmas.List.Folds.{list_all-append}
use Rattle.sqlite_rules.proofs.ListLemmas.{has_got, test_has}
use Rattle.rollout_machine.proofs.Imports.{never_with}

-- ---- tests of lists

all_so : {X : Type 0} (p q : X → Bool) → ((x : X) → p x ≡ true → q x ≡ true) → (xs : List X) → list_all p xs ≡ true → list_all q xs ≡ true
all_so p q so [] all = refl
all_so p q so (x ∷ xs) all = let parts = and_parts _ _ all in rw (so x parts.0, all_so p q so xs parts.1) refl

-- ---- whom a list has chosen

abbrev AllIn : List Bytes → List Bytes → Type 0
AllIn ids ms = list_all (λ m. contains_word m ids) ms ≡ true

all_are_in : (ids : List Bytes) → AllIn ids ids
all_are_in [] = refl
all_are_in (u ∷ ids) = rw (same_refl u) (all_so (λ m. contains_word m ids) (λ m. contains_word m (u ∷ ids)) (λ m is. rw is (or-true (same_bytes m u))) ids
    (all_are_in ids))

chosen_in : (h : CommandList) (ids : List Bytes) (f : Tree) (us : List Bytes) → AllIn ids us
    → AllIn ids (map (λ (t : Target). t.id) (filter (matches f) (map (target_in h) us)))
chosen_in h ids f [] all = refl
chosen_in h ids f (u ∷ us) all = grind (arith, chosen_in h ids f us, and_parts)

abbrev members_in_list : List Bytes → Rollout → Bool
members_in_list ids y = list_all (λ m. contains_word m ids) y.members

created_in : (h : CommandList) (c : Command) → list_all (members_in_list (target_ids (h ▸ c))) (created h c) ≡ true
created_in h (CreateRollout plan) = rw (go (filter_of plan.filter_text)) refl where
  go : (o : Option Tree) → AllIn (target_ids h) (chosen o (map (target_in h) (target_ids h)))
  go None = refl
  go (Some f) = chosen_in h (target_ids h) f (target_ids h) (all_are_in (target_ids h))
created_in h _ = refl

rollouts_in_list : (h : CommandList) → list_all (members_in_list (target_ids h)) (rollouts h) ≡ true
rollouts_in_list (Make approval) = refl
rollouts_in_list (h ▸ c) = grind (arith, rollouts_in_list h, all_so, never_with, list_all-append, created_in)

-- ---- who is there

found_in : (h : CommandList) (t : Bytes) (ids : List Bytes) → is_some (find (λ (x : Target). same_bytes x.id t) (map (target_in h) ids)) ≡ contains_word t ids
found_in h t [] = refl
found_in h t (u ∷ ids) = grind (arith, found_in h t ids, same_sym, is_some)

abbrev pub is_there : Records → Bytes → Bool
is_there rs m = is_some (target_of rs m)

there_at : (h : CommandList) (m : Bytes) → contains_word m (target_ids h) ≡ true → is_there (records h) m ≡ true
unfolding records
there_at h m is = found_in h m (target_ids h) ∙ is

rollout_there : (h : CommandList) (r : ℕ) (y : Rollout) → item_numbered (rollouts h) r ≡ Some y → list_all (is_there (records h)) y.members ≡ true
rollout_there h zero y at = absurd cc
rollout_there h (suc i) y at = all_so (λ m. contains_word m (target_ids h)) (is_there (records h)) (there_at h) y.members
    (test_has (members_in_list (target_ids h)) (rollouts h) y (rollouts_in_list h) (has_got (rollouts h) i y at))

pub members_there : (rs : Records) → AreOfList rs → (r : ℕ) (x : RolloutRecord) → item_numbered rs.rollouts r ≡ Some x → list_all (is_there rs) x.members ≡ true
members_there rs of r x e =
    let it = made rs of r x e in
    ap (λ (q : RolloutRecord). list_all (is_there rs) q.members) it.is ∙ ap (λ (q : Records). list_all (is_there q) it.made.members) of.are
    ∙ rollout_there of.list r it.made it.there

-- ---- their targets

-- the target of an id that is there
abbrev pub target_at : Records → Bytes → Target
target_at rs m = unwrap_or (target_of rs m) (record { id = []; name = []; digest = []; tags = []; attributes = [] })

pub targets_there : (rs : Records) (ms : List Bytes) → list_all (is_there rs) ms ≡ true → targets_shown rs (targets_of rs ms)
    ≡ map (λ m. target_shown rs (target_at rs m)) ms
targets_there rs [] all = refl
targets_there rs (m ∷ ms) all = grind (arith, targets_there rs ms, and_parts)

pub part_there : (rs : Records) (n k : ℕ) (ms : List Bytes) → list_all (is_there rs) ms ≡ true → list_all (is_there rs) (take n (drop k ms)) ≡ true
part_there rs n k ms all = kept_to (is_there rs) n (drop k ms) (kept_from (is_there rs) k ms all)
