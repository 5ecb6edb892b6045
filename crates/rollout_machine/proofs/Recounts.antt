-- The counts of groups are those of their actions.
use Rattle.rollout_machine.proofs.Common.{◌≡◌, ℕ, zero, suc, ◌+◌, ◌-◌, ◌≤◌, ◌<◌, Bool, true, false, cond, ◌&&◌, ◌||◌, List, [], ◌∷◌, ◌++◌, refl, sym, ◌∙◌, ap}
use Rattle.rollout_machine.proofs.Common.{subst, arith, inl, inr, Option, Some, None, map, nat_eq, slice_get, ActionPlace, action_places, new_places}
use Rattle.rollout_machine.proofs.Common.{places_of, places_from, outcome, CommandList, Make, ◌▸◌, Command, Start, Outcome, Good, Bad, Gone, is_outcome, tally}
use Rattle.rollout_machine.proofs.Common.{IsCut, holds_position, is_rollout_started, is_start_of, is_paused, count_from, each_from, action_in, ActionRecord}
use Rattle.rollout_machine.proofs.Common.{group_in, rollout_in, rollouts_in, approval_of, GroupRecord, Rollout, rollout_at, rollouts, size_of, bounds_in}
use Rattle.rollout_machine.proofs.Common.{last_of, created, is_finished, IsValid, verdict, verdict_row, is_ready, Bounds, cases_eq, ne_eqb, eq-eqb, lt-leb}
use Rattle.rollout_machine.proofs.Common.{le-leb}
use Rattle.rollout_machine.specs.Kinds.{count_actions, counted_group, counted_rollout, uncounted_group, uncounted_rollout}
use Rattle.rollout_machine.specs.Promises.{StoredSayAll}
use Rattle.rollout_machine.specs.Records.{records}
use Rattle.rollout_machine.proofs.Counts.{count_same, count_none}
use Rattle.rollout_machine.proofs.Tallies.{none_is}
use Rattle.rollout_machine.proofs.Distinct.{position_at}
use Rattle.rollout_machine.proofs.Induction.{invariant_of, word_at, ready_not_begun, stays_numbered, found_rollout}
use Rattle.rollout_machine.proofs.Ties.{IsFollowed, groups_go}
use Rattle.rollout_machine.proofs.Valid.{NoneHolds, none_holds}
use Rattle.rollout_machine.proofs.Whole.{AllNumbered, from_numbers}

abbrev count_where : (ActionPlace → Bool) → List ActionPlace → ℕ
count_where P [] = 0
count_where P (p ∷ ps) = count_where P ps + cond (P p) 1 0

count_both : (P : ActionPlace → Bool) (ps qs : List ActionPlace) → count_where P (ps ++ qs) ≡ count_where P ps + count_where P qs
count_both P [] qs = omega arith
count_both P (p ∷ ps) qs = rw (count_both P ps qs) (omega arith)

-- ---- counts over a range, from its other end and in parts

count_first : (p : ℕ → Bool) (a n : ℕ) → count_from p a (suc n) ≡ count_from p (suc a) n + cond (p a) 1 0
count_first p a zero = let e : a + 0 ≡ a = omega arith in rw e (omega arith)
count_first p a (suc n) = let e : suc a + n ≡ a + suc n = omega arith in rw (count_first p a n, e) (omega arith)

count_parts : (p : ℕ → Bool) (a n k : ℕ) → count_from p a (n + k) ≡ count_from p a n + count_from p (a + n) k
count_parts p a n zero = let e : n + 0 ≡ n = omega arith in rw e (omega arith)
count_parts p a n (suc k) = let e : n + suc k ≡ suc (n + k) = omega arith in let f : a + n + k ≡ a + (n + k) = omega arith in
    rw (e, f, count_parts p a n k) (omega arith)

-- ---- places

of_others : (P : ActionPlace → Bool) (q a n : ℕ) → ((j : ℕ) → P (record { rollout = q; position = j }) ≡ false) → count_where P (places_from q a n) ≡ 0
of_others P q a zero none = refl
of_others P q a (suc n) none = rw (of_others P q (suc a) n none, none a) refl

of_own : (P : ActionPlace → Bool) (r a n : ℕ) → count_where P (places_from r a n) ≡ count_from (λ j. P (record { rollout = r; position = j })) a n
of_own P r a zero = refl
of_own P r a (suc n) = rw (count_first (λ j. P (record { rollout = r; position = j })) a n, of_own P r (suc a) n) refl

-- a test that takes places of rollout r alone
abbrev OnlyOf : ℕ → (ActionPlace → Bool) → Type 0
OnlyOf r P = (q j : ℕ) → (q ≡ r → ⊥) → P (record { rollout = q; position = j }) ≡ false

others_none : (P : ActionPlace → Bool) (r q : ℕ) (o : Option Rollout) → OnlyOf r P → (q ≡ r → ⊥) → count_where P (places_of q o) ≡ 0
others_none P r q None only ne = refl
others_none P r q (Some x) only ne = of_others P q 1 (size_of x) (λ j. only q j ne)

pub stays_there : (h : CommandList) (c : Command) (r : ℕ) (x : Rollout) → rollout_at h r ≡ Some x → rollout_at (h ▸ c) r ≡ Some x
stays_there h c r x e = stays_numbered (rollouts h) (created h c) r x e

-- before its start the rollout had not begun, and it is there
pub starts_fresh : (h : CommandList) (r : ℕ) → verdict h (Start r) ≡ None → (x : Rollout) × (rollout_at h r ≡ Some x) × (is_rollout_started r h ≡ false)
starts_fresh h r e =
    let row : NoneHolds (verdict_row (records h) (Start r)) = none_holds (verdict_row (records h) (Start r)) e in
    let (x, d) = found_rollout h r row.0 in
    (x, d, ready_not_begun (approval_of r h) (is_rollout_started r h) (is_finished (rollout_in h r x)) (is_paused x r h) (word_at h r is_ready x d row.1.0))

-- a new place is of a rollout that is there
pub new_rollout_there : (h : CommandList) (c : Command) (j : ℕ) (p : ActionPlace) → verdict h c ≡ None → slice_get (new_places h c) j ≡ Some p → (x : Rollout)
    × (rollout_at h p.rollout ≡ Some x)
new_rollout_there h (Start r) j p e g = go (rollout_at h r) refl g where
  go : (o : Option Rollout) → rollout_at h r ≡ o → slice_get (places_of r o) j ≡ Some p → (x : Rollout) × (rollout_at h p.rollout ≡ Some x)
  go None d f = cc
  go (Some x) d f = (x, ap (rollout_at h) (position_at r 1 (size_of x) j p f).0 ∙ d)
new_rollout_there h _ j p e g = cc

-- the places of a rollout of n members: none before its start, and then each once
placed_count : (P : ActionPlace → Bool) (r n : ℕ) → OnlyOf r P → (h : CommandList) → IsValid h → ((x : Rollout) → rollout_at h r ≡ Some x → size_of x ≡ n)
    → count_where P (action_places h) ≡ cond (is_rollout_started r h) (count_where P (places_from r 1 n)) 0
placed_count P r n only (Make approval) v s = refl
placed_count P r n only (h ▸ c) v s = count_both P (action_places h) (new_places h c)
    ∙ go c v.2 s (placed_count P r n only h v.0 (λ x d. s x (stays_there h c r x d))) where
      add : (a b d e : ℕ) → a ≡ d → b ≡ e → a + b ≡ d + e
      add a b d e f g = omega arith

      plain : (b : Bool) (k m : ℕ) → k ≡ cond b m 0 → k + 0 ≡ cond (b || false) m 0
      plain true k m e = omega arith
      plain false k m e = omega arith

      begun : (b : Bool) (k m : ℕ) → b ≡ false → k ≡ cond b m 0 → k + m ≡ cond (b || true) m 0
      begun false k m d e = omega arith
      begun true k m d e = cc

      go : (c : Command) → verdict h c ≡ None → ((x : Rollout) → rollout_at (h ▸ c) r ≡ Some x → size_of x ≡ n) → count_where P (action_places h)
          ≡ cond (is_rollout_started r h) (count_where P (places_from r 1 n)) 0 → count_where P (action_places h) + count_where P (new_places h c)
          ≡ cond (is_rollout_started r h || is_start_of r c) (count_where P (places_from r 1 n)) 0
      go (Start q) e t ih = elim (cases_eq q r) [
        | inl same ↦ own same
        | inr other ↦ (let none : count_where P (places_of q (rollout_at h q)) ≡ 0 = others_none P r q (rollout_at h q) only other in
            rw (none, ne_eqb q r other) (plain (is_rollout_started r h) _ _ ih))
      ]
        where
          own : q ≡ r → count_where P (action_places h) + count_where P (places_of q (rollout_at h q))
              ≡ cond (is_rollout_started r h || nat_eq q r) (count_where P (places_from r 1 n)) 0
          own same =
              let f : (x : Rollout) × (rollout_at h q ≡ Some x) × (is_rollout_started q h ≡ false) = starts_fresh h q e in
              let fresh : is_rollout_started r h ≡ false = ap (λ k. is_rollout_started k h) (sym same) ∙ f.2 in
              let size : size_of f.0 ≡ n = t f.0 (stays_there h (Start q) r f.0 (ap (rollout_at h) (sym same) ∙ f.1)) in
              let places : places_of q (rollout_at h q) ≡ places_from r 1 n = ap (places_of q) f.1 ∙ ap (λ k. places_from k 1 (size_of f.0)) same
              ∙ ap (places_from r 1) size in
              rw (places, eq-eqb q r same) (begun (is_rollout_started r h) _ _ fresh ih)
      go _ e t ih = plain (is_rollout_started r h) _ _ ih

-- ---- between bounds

out_of : (b : Bounds) (f : ℕ → Bool) (j : ℕ) → (j < b.first) → (holds_position j b && f j) ≡ false
out_of b f j l = rw (lt-leb b.first j l) refl

past : (b : Bounds) (f : ℕ → Bool) (j : ℕ) → (b.last < j) → (holds_position j b && f j) ≡ false
past b f j l = grind (arith, lt-leb)

within : (b : Bounds) (f : ℕ → Bool) (j : ℕ) → b.first ≤ j → j ≤ b.last → (holds_position j b && f j) ≡ f j
within b f j l u = rw (le-leb b.first j l, le-leb j b.last u) refl

-- k positions before the bounds, s between them and t behind them
between : (f : ℕ → Bool) (b : Bounds) (k s t : ℕ) → b.first ≡ 1 + k → b.last ≡ k + s → count_from (λ j. holds_position j b && f j) 1 (k + s + t)
    ≡ count_from f b.first s
between f b k s t e d =
    let g : ℕ → Bool = λ j. holds_position j b && f j in
    let front : count_from g 1 k ≡ 0 = count_none g 1 k (λ j l u. out_of b f j (omega (arith, e, u))) in
    let middle : count_from g (1 + k) s ≡ count_from f (1 + k) s =
    count_same g f (1 + k) s (λ j l u. within b f j (omega (arith, e, l)) (omega (arith, d, u))) in
    let back : count_from g (1 + (k + s)) t ≡ 0 = count_none g (1 + (k + s)) t (λ j l u. past b f j (omega (arith, d, l))) in
    count_parts g 1 (k + s) t ∙ (rw (count_parts g 1 k s, front, middle, back, e) (omega arith))

-- ---- the counts of a group

abbrev is_counted : Outcome → ℕ → Bounds → CommandList → ActionPlace → Bool
is_counted o r b h p = nat_eq p.rollout r && (holds_position p.position b && is_outcome o (outcome h p.rollout p.position))

over_places : (o : Outcome) (r : ℕ) (b : Bounds) (h : CommandList) (ps : List ActionPlace) → count_actions o r b (map (action_in h) ps)
    ≡ count_where (is_counted o r b h) ps
over_places o r b h [] = refl
over_places o r b h (p ∷ ps) = rw (over_places o r b h ps) refl

pub tally_is : (o : Outcome) (x : Rollout) (r i : ℕ) (h : CommandList) → IsValid h → rollout_at h r ≡ Some x → 1 ≤ i → i ≤ x.plan.groups.count
    → count_actions o r (bounds_in x i) (map (action_in h) (action_places h)) ≡ tally o x r i h
tally_is o x r i h v d a u = over_places o r (bounds_in x i) h (action_places h) ∙ placed_count (is_counted o r (bounds_in x i) h) r (size_of x) only h v
    same_size ∙ go (is_rollout_started r h) refl where
      only : OnlyOf r (is_counted o r (bounds_in x i) h)
      only q j ne = rw (ne_eqb q r ne) refl

      same_size : (y : Rollout) → rollout_at h r ≡ Some y → size_of y ≡ size_of x
      same_size y e = let both : Some y ≡ Some x = sym e ∙ d in let same : y ≡ x = cc in ap size_of same

      sound : IsFollowed x r h ((invariant_of h v).last r)
      sound = (invariant_of h v).follows r x d

      go : (b : Bool) → is_rollout_started r h ≡ b → cond b (count_where (is_counted o r (bounds_in x i) h) (places_from r 1 (size_of x))) 0 ≡ tally o x r i h
      go false e = sym (count_none _ _ _ (λ j l w. ap (is_outcome o) (((invariant_of h v).fresh r e).outcome j) ∙ none_is o))
      go true e =
          of_own (is_counted o r (bounds_in x i) h) r 1 (size_of x)
          ∙ count_same (λ j. is_counted o r (bounds_in x i) h (record { rollout = r; position = j }))
          (λ j. holds_position j (bounds_in x i) && is_outcome o (outcome h r j)) 1 (size_of x) (λ j l w. rw (eq-eqb r r refl) refl)
          ∙ parts
        where
          cut : IsCut (last_of x) (size_of x) x.plan.groups.count
          cut = sound.sound.cut

          split : (k l m : ℕ) → k ≤ l → l ≤ m → (s t : ℕ) × (l ≡ k + s) × (m ≡ k + s + t) × (s ≡ (l + 1) - (k + 1))
          split k l m a b = (l - k, m - l, omega arith, omega arith, omega arith)

          parts : count_from (λ j. holds_position j (bounds_in x i) && is_outcome o (outcome h r j)) 1 (size_of x) ≡ tally o x r i h
          parts =
              let (s, t, es, et, size) = split (last_of x (i - 1)) (last_of x i) (size_of x) (cut.rises (i - 1) i (omega arith))
              (subst (λ m. last_of x i ≤ m) cut.whole (cut.rises i x.plan.groups.count u)) in
              ap (count_from (λ j. holds_position j (bounds_in x i) && is_outcome o (outcome h r j)) 1) et
              ∙ between (λ j. is_outcome o (outcome h r j)) (bounds_in x i) (last_of x (i - 1)) s t (omega arith) es
              ∙ ap (count_from (λ j. is_outcome o (outcome h r j)) (bounds_in x i).first) size

-- ---- the records

map_both : {X Y Z : Type 0} (f : Y → Z) (g : X → Y) (xs : List X) → map f (map g xs) ≡ map (λ x. f (g x)) xs
map_both f g [] = refl
map_both f g (x ∷ xs) = ap (λ ys. f (g x) ∷ ys) (map_both f g xs)

group_again : (x : Rollout) (r i : ℕ) (h : CommandList) → IsValid h → rollout_at h r ≡ Some x → 1 ≤ i → i ≤ x.plan.groups.count → group_in x r h i
    ≡ counted_group (map (action_in h) (action_places h)) r (uncounted_group (group_in x r h i))
group_again x r i h v d a u = rw (tally_is Good x r i h v d a u, tally_is Bad x r i h v d a u, tally_is Gone x r i h v d a u) refl

rollout_again : (x : Rollout) (r : ℕ) (h : CommandList) → IsValid h → rollout_at h r ≡ Some x
    → counted_rollout (map (action_in h) (action_places h)) (uncounted_rollout (rollout_in h r x)) ≡ rollout_in h r x
rollout_again x r h v d =
    let groups : each_from (group_in x r h) 1 x.plan.groups.count
    ≡ map (λ (g : GroupRecord). counted_group (map (action_in h) (action_places h)) r (uncounted_group g)) (each_from (group_in x r h) 1 x.plan.groups.count) =
    groups_go (λ (g : GroupRecord). counted_group (map (action_in h) (action_places h)) r (uncounted_group g)) x r h h
    (λ i a u. group_again x r i h v d a u) in
    let again : map (counted_group (map (action_in h) (action_places h)) r) (map uncounted_group (each_from (group_in x r h) 1 x.plan.groups.count))
    ≡ each_from (group_in x r h) 1 x.plan.groups.count = map_both (counted_group (map (action_in h) (action_places h)) r) uncounted_group
    (each_from (group_in x r h) 1 x.plan.groups.count) ∙ sym groups in
    ap (λ gs. record (rollout_in h r x) { groups = gs }) again

rollouts_again : (h : CommandList) (actions : List ActionRecord) (a : ℕ) (xs : List Rollout)
    → AllNumbered (λ r x. counted_rollout actions (uncounted_rollout (rollout_in h r x)) ≡ rollout_in h r x) a xs
    → map (counted_rollout actions) (map uncounted_rollout (rollouts_in h a xs)) ≡ rollouts_in h a xs
unfolding AllNumbered
rollouts_again h actions a [] w = refl
rollouts_again h actions a (x ∷ xs) w = rw (w.0, rollouts_again h actions (suc a) xs w.1) refl

pub stored_say_all : StoredSayAll
unfolding records
stored_say_all h v = grind (arith, rollouts_again, from_numbers, rollout_again)
