-- A rollout's record after one more command, from its record before it.
use Rattle.rollout_machine.proofs.Common.{◌≡◌, ℕ, zero, suc, ◌+◌, ◌-◌, ◌<◌, ◌≤◌, Bool, true, false, cond, ◌||◌, ◌&&◌, not, List, [], ◌∷◌, refl, sym, ◌∙◌, ap}
use Rattle.rollout_machine.proofs.Common.{subst, arith, inl, inr, Option, Some, None, nat_lt, nat_eq, map, nat_le, and-false, or-false, or-true, option_or}
use Rattle.rollout_machine.proofs.Common.{cases_eq, cases_Bool, cases_lt, cases_order, ne_eqb, eq-eqb, ltb-true, ActionPlace, action_of, outcome, CommandList}
use Rattle.rollout_machine.proofs.Common.{◌▸◌, Command, Resume, TriggerNext, Pause, Start, Outcome, Good, Bad, Gone, tally}
use Rattle.rollout_machine.proofs.Common.{reaches, success_holds, is_outcome, IsInGroup, IsLast, HasSoundPlan, StartedOnly, OutcomesStarted, GetsOutcome}
use Rattle.rollout_machine.proofs.Common.{IsGroupView, IsView, feedback_pauses, good_after, next_if, starts_next, last_with, is_group_started, is_paused}
use Rattle.rollout_machine.proofs.Common.{is_pause_of, is_resume_of, is_trigger_of, is_start_of, is_rollout_started, each_from, is_item_number, start_group}
use Rattle.rollout_machine.proofs.Common.{counted, last_started, group_view, view_from_group, view_of, rollout_after, resumed, triggered, begin_rollout}
use Rattle.rollout_machine.proofs.Common.{Approval, Given, GroupRecord, RolloutRecord, group_in, rollout_in, approval_of, approval_by, decided, decision_on}
use Rattle.rollout_machine.proofs.Common.{needs_approval, Rollout, rule_at, first_of, last_of, size_in, bounds_in, group_holding, group_numbered, Bounds}
use Rattle.rollout_machine.proofs.Common.{lt-leb, Effects}
use Rattle.rollout_machine.proofs.Cuts.{IsOwnGroup, held}
use Rattle.rollout_machine.proofs.Starts.{starts_one_more, last_after}
use Rattle.rollout_machine.proofs.Tallies.{no_success, tally_same, tally_gains, tally_elsewhere, quiet, no_error_begins, outcomes_after}
use Rattle.rollout_machine.proofs.EffectLaws.{feedback_follows, resume_follows, trigger_follows, settled, calm_on, calm_outcome, calm_errors}

-- ---- lists over a range

pub same_each : {X : Type 0} (f g : ℕ → X) (a n : ℕ) → ((i : ℕ) → a ≤ i → i < a + n → f i ≡ g i) → each_from f a n ≡ each_from g a n
same_each f g a zero h = refl
same_each f g a (suc n) h =
    let rest : each_from f (suc a) n ≡ each_from g (suc a) n = same_each f g (suc a) n (λ i l u. h i (omega arith) (omega arith)) in
    let here : f a ≡ g a = h a (omega arith) (omega arith) in
    rw (here, rest) refl

pub map_each : {X Y : Type 0} (k : X → Y) (f : ℕ → X) (a n : ℕ) → map k (each_from f a n) ≡ each_from (λ i. k (f i)) a n
map_each k f a zero = refl
map_each k f a (suc n) = ap (λ xs. k (f a) ∷ xs) (map_each k f (suc a) n)

-- each group's record goes over to the one after the command
pub groups_go : (k : GroupRecord → GroupRecord) (x : Rollout) (r : ℕ) (h h' : CommandList)
    → ((i : ℕ) → 1 ≤ i → i ≤ x.plan.groups.count → group_in x r h' i ≡ k (group_in x r h i)) → each_from (group_in x r h') 1 x.plan.groups.count
    ≡ map k (each_from (group_in x r h) 1 x.plan.groups.count)
groups_go k x r h h' e = same_each (group_in x r h') (λ i. k (group_in x r h i)) 1 x.plan.groups.count (λ i l u. e i l (omega arith))
    ∙ sym (map_each k (group_in x r h) 1 x.plan.groups.count)

pub find_group : (x : Rollout) (r : ℕ) (h : CommandList) (a n i : ℕ) → a ≤ i → i < a + n → group_numbered i (each_from (group_in x r h) a n)
    ≡ Some (group_in x r h i)
find_group x r h a zero i l u = absurd (omega arith)
find_group x r h a (suc n) i l u = elim (cases_eq a i) [
  | inl same ↦ rw (eq-eqb a i same, same) refl
  | inr other ↦ rw (ne_eqb a i other) (find_group x r h (suc a) n i (omega (arith, apart a i l other)) (omega arith))
]
  where
    apart : (a i : ℕ) → a ≤ i → (a ≡ i → ⊥) → suc a ≤ i
    apart a i l ne = omega arith

holding_from : (x : Rollout) (r : ℕ) (h : CommandList) (a n g j : ℕ) → HasSoundPlan x → a ≤ g → g < a + n → IsInGroup x g j
    → group_holding j (each_from (group_in x r h) a n) ≡ Some (group_in x r h g)
holding_from x r h a zero g j s l u w = absurd (omega arith)
holding_from x r h a (suc n) g j s l u w = elim (cases_eq a g) [
  | inl same ↦ rw same (rw (held x g j w) refl)
  | inr other ↦ (let less : suc a ≤ g = omega (arith, apart a g l other) in
      let past : nat_le j (last_of x a) ≡ false = lt-leb _ _ (omega (arith, s.cut.rises a (g - 1) (omega arith), w.low)) in
      rw past (rw (and-false (nat_le (first_of x a) j)) (holding_from x r h (suc a) n g j s less (omega arith) w)))
]
  where
    apart : (a i : ℕ) → a ≤ i → (a ≡ i → ⊥) → suc a ≤ i
    apart a i l ne = omega arith

-- the group that holds a position is found by its bounds
pub find_holding : (x : Rollout) (r : ℕ) (h : CommandList) (g j : ℕ) → HasSoundPlan x → IsOwnGroup x g j
    → group_holding j (each_from (group_in x r h) 1 x.plan.groups.count) ≡ Some (group_in x r h g)
find_holding x r h g j s w = holding_from x r h 1 x.plan.groups.count g j s w.first (omega (arith, w.last)) w.within

none_last : (x : Rollout) (r l : ℕ) (h : CommandList) → IsLast x r h l → (a n : ℕ) → l < a → last_started (each_from (group_in x r h) a n) ≡ 0
none_last x r l h w a zero u = refl
none_last x r l h w a (suc n) u =
    let rest : last_started (each_from (group_in x r h) (suc a) n) ≡ 0 = none_last x r l h w (suc a) n (omega arith) in
    rw (rest, w.beyond a u) refl

some_last : (x : Rollout) (r l : ℕ) (h : CommandList) → IsLast x r h l → (a n : ℕ) → 1 ≤ a → a ≤ l → l < a + n → last_started (each_from (group_in x r h) a n)
    ≡ l
some_last x r l h w a zero p q u = absurd (omega arith)
some_last x r l h w a (suc n) p q u = elim (cases_eq a l) [
  | inl same ↦ (let rest : last_started (each_from (group_in x r h) (suc a) n) ≡ 0 = none_last x r l h w (suc a) n (omega arith) in
      rw (rest, w.up_to a p q) same)
  | inr other ↦ (let rest : last_started (each_from (group_in x r h) (suc a) n) ≡ l = some_last x r l h w (suc a) n (omega arith) (omega arith) (omega arith) in
      rw (rest, ne_eqb l 0 (λ e. absurd (omega arith))) refl)
]

-- the record's last started group is the history's
pub last_is : (x : Rollout) (r l : ℕ) (h : CommandList) → IsLast x r h l → last_started (each_from (group_in x r h) 1 x.plan.groups.count) ≡ l
last_is x r l h w = elim (cases_eq l 0) [
  | inl none ↦ none_last x r l h w 1 x.plan.groups.count (omega arith) ∙ sym none
  | inr some ↦ some_last x r l h w 1 x.plan.groups.count (omega arith) (omega arith) (omega (arith, w.within))
]

-- ---- views

-- what holds of a rollout at a history of accepted commands
pub record IsFollowed (x : Rollout) (r : ℕ) (h : CommandList) (l : ℕ) : Type 0 where
  pub sound : HasSoundPlan x
  pub is_last : IsLast x r h l
  pub outcomes : OutcomesStarted x r h

group_views : (x : Rollout) (r i : ℕ) (h : CommandList) → 1 ≤ i → i ≤ x.plan.groups.count → IsGroupView (group_view (rollout_in h r x) i) x r i h
group_views x r i h a b = go (group_numbered i (each_from (group_in x r h) 1 x.plan.groups.count)) (find_group x r h 1 x.plan.groups.count i a (omega arith))
  where
    go : (o : Option GroupRecord) → o ≡ Some (group_in x r h i) → IsGroupView (view_from_group x.plan i o) x r i h
    go o e = rw e (record { number = refl; size = refl; ok = refl; bad = refl; success = refl; error = refl })

pub views : (x : Rollout) (r g l : ℕ) (h : CommandList) → IsFollowed x r h l → 1 ≤ l → 1 ≤ g → g ≤ x.plan.groups.count
    → IsView (view_of (rollout_in h r x) g) x r g l h
views x r g l h w pos a b = record {
  sound = w.sound;
  paused = refl;
  groups = refl;
  own = group_views x r g h a b;
  last = rw (last_is x r l h w.is_last) (group_views x r l h pos w.is_last.within);
  is_last = w.is_last;
  outcomes = w.outcomes;
}

-- ---- which groups are started, by the last one

pub same_started : (x : Rollout) (r l : ℕ) (h h' : CommandList) → IsLast x r h l → IsLast x r h' l → (i : ℕ) → 1 ≤ i → is_group_started x r i h'
    ≡ is_group_started x r i h
same_started x r l h h' w w' i a = elim (cases_lt l i) [
  | inl more ↦ w'.beyond i more ∙ sym (w.beyond i more)
  | inr le ↦ w'.up_to i a le ∙ sym (w.up_to i a le)
]

pub started_by : (x : Rollout) (r l n : ℕ) (h h' : CommandList) (b : Bool) → n ≡ l → IsLast x r h l → IsLast x r h' (last_with (next_if b n) l) → (i : ℕ)
    → 1 ≤ i → is_group_started x r i h' ≡ (is_group_started x r i h || is_item_number i (next_if b n))
started_by x r l n h h' false e w w' i a = same_started x r l h h' w w' i a ∙ sym (or-false (is_group_started x r i h))
started_by x r l n h h' true e w w' i a = elim (cases_order i (n + 1)) [
  | inl same ↦ (let now : is_group_started x r i h' ≡ true = w'.up_to i a (omega arith) in
      let was : is_group_started x r i h ≡ false = w.beyond i (omega arith) in
      now ∙ sym (rw (was, eq-eqb (n + 1) i (sym same)) refl))
  | inr (inl less) ↦ (let now : is_group_started x r i h' ≡ true = w'.up_to i a (omega arith) in
      let was : is_group_started x r i h ≡ true = w.up_to i a (omega arith) in
      now ∙ sym (rw was refl))
  | inr (inr more) ↦ (let now : is_group_started x r i h' ≡ false = w'.beyond i more in
      let was : is_group_started x r i h ≡ false = w.beyond i (omega arith) in
      now ∙ sym (rw (was, ne_eqb (n + 1) i (λ e. omega arith)) refl))
]

-- ---- records from their parts

abbrev pub rollout_from : ℕ → Rollout → Approval → Bool → Bool → List GroupRecord → RolloutRecord
rollout_from r x a b p gs = record { number = r; plan = x.plan; members = x.members; approval = a; started = b; paused = p; groups = gs }

pub same_parts : (r : ℕ) (x : Rollout) (a a' : Approval) (b b' p p' : Bool) (gs gs' : List GroupRecord) → a ≡ a' → b ≡ b' → p ≡ p' → gs ≡ gs'
    → rollout_from r x a b p gs ≡ rollout_from r x a' b' p' gs'
same_parts r x a a' b b' p p' gs gs' e f g k = rw (e, f, g, k) refl

abbrev pub group_from : ℕ → Bounds → Bool → ℕ → ℕ → ℕ → GroupRecord
group_from i n s a b c = record { number = i; bounds = n; started = s; ok = a; bad = b; gone = c }

pub same_group : (i : ℕ) (n : Bounds) (s s' : Bool) (a a' b b' c c' : ℕ) → s ≡ s' → a ≡ a' → b ≡ b' → c ≡ c' → group_from i n s a b c
    ≡ group_from i n s' a' b' c'
same_group i n s s' a a' b b' c c' e f g k = rw (e, f, g, k) refl

pub same_approval : (r : ℕ) (h : CommandList) (c : Command) → decision_on r c ≡ None → approval_of r (h ▸ c) ≡ approval_of r h
same_approval r h c e = ap (λ o. cond (needs_approval h) (approval_by o) Given) (ap (λ o. option_or (decided r h) o) e ∙ or_none (decided r h))
  where
    or_none : (o : Option Bool) → option_or o None ≡ o
    or_none None = refl
    or_none (Some x) = refl

-- ---- commands that change nothing of the rollout

-- nothing is said of the rollout, and none of its actions' outcomes changes
pub record IsCalm (r : ℕ) (h : CommandList) (c : Command) : Type 0 where
  pub outcomes : (j : ℕ) → outcome (h ▸ c) r j ≡ outcome h r j
  pub pauses : is_pause_of r c ≡ false
  pub resumes : is_resume_of r c ≡ false
  pub triggers : is_trigger_of r c ≡ false
  pub starts : is_start_of r c ≡ false

calm_paused : (x : Rollout) (r : ℕ) (h : CommandList) (c : Command) → IsCalm r h c → is_paused x r (h ▸ c) ≡ is_paused x r h
calm_paused x r h c w = rw (w.pauses, no_error_begins x r h c w.outcomes, w.resumes) refl

calm_tally : (q : Outcome) (x : Rollout) (r i : ℕ) (h : CommandList) (c : Command) → IsCalm r h c → tally q x r i (h ▸ c) ≡ tally q x r i h
calm_tally q x r i h c w = tally_same q x r i h c (λ j v. w.outcomes j)

calm_opens : (x : Rollout) (r l : ℕ) (h : CommandList) (c : Command) → IsFollowed x r h l → IsCalm r h c → starts_one_more x r h c l ≡ false
calm_opens x r zero h c f w = w.starts
calm_opens x r (suc k) h c f w = elim (cases_Bool (nat_lt (suc k) x.plan.groups.count)) [
  | inr above ↦ rw above refl
  | inl below ↦ (let owed : (not (is_paused x r h) && success_holds x r (suc k) h) ≡ false =
      settled x r (suc k) h (omega arith) f.sound f.is_last (ltb-true _ _ below) in
      let same : success_holds x r (suc k) (h ▸ c) ≡ success_holds x r (suc k) h = ap (λ n. reaches n (size_in x (suc k)) (rule_at x.plan (suc k)).success)
      (calm_tally Good x r (suc k) h c w) in
      quiet_test _ _ _ _ _ _ (calm_paused x r h c w) same owed w.triggers)
]
  where
    quiet_test : (lt p p' s s' t : Bool) → p' ≡ p → s' ≡ s → (not p && s) ≡ false → t ≡ false → (lt && ((not p' && s') || t)) ≡ false
    quiet_test true p p' s s' t a b d e = rw (a, b, d, e) refl
    quiet_test false p p' s s' t a b d e = refl

pub last_goes : (x : Rollout) (r l : ℕ) (h : CommandList) (c : Command) → IsFollowed x r h l → StartedOnly x r h c
    → IsLast x r (h ▸ c) (cond (starts_one_more x r h c l) (suc l) l)
last_goes x r l h c f s =
    last_after x r h c l f.sound.some_groups f.is_last (no_success x r h c f.sound s f.outcomes (suc l) (omega arith) (f.is_last.beyond (suc l) (omega arith)))

pub calm_last : (x : Rollout) (r l : ℕ) (h : CommandList) (c : Command) → IsFollowed x r h l → StartedOnly x r h c → IsCalm r h c → IsLast x r (h ▸ c) l
calm_last x r l h c f s w = let moved : IsLast x r (h ▸ c) (cond (starts_one_more x r h c l) (suc l) l) = last_goes x r l h c f s in
    by_test (starts_one_more x r h c l) (calm_opens x r l h c f w) moved
  where
    by_test : (b : Bool) → b ≡ false → IsLast x r (h ▸ c) (cond b (suc l) l) → IsLast x r (h ▸ c) l
    by_test true e m = cc
    by_test false e m = m

pub calm_rollout : (x : Rollout) (r l : ℕ) (h : CommandList) (c : Command) (a : Approval) → IsFollowed x r h l → StartedOnly x r h c → IsCalm r h c
    → approval_of r (h ▸ c) ≡ a → rollout_in (h ▸ c) r x ≡ record (rollout_in h r x) { approval = a }
calm_rollout x r l h c a f s w e =
    same_parts r x _ _ _ _ _ _ _ _ e (rw w.starts (or-false (is_rollout_started r h))) (calm_paused x r h c w)
    (same_each (group_in x r (h ▸ c)) (group_in x r h) 1 x.plan.groups.count (λ i b u.
    same_group i (bounds_in x i) _ _ _ _ _ _ _ _ (same_started x r l h (h ▸ c) f.is_last (calm_last x r l h c f s w) i b)
    (calm_tally Good x r i h c w) (calm_tally Bad x r i h c w) (calm_tally Gone x r i h c w)))

-- ---- a command that gives an outcome

pub silent : (h : CommandList) (c : Command) (p : ActionPlace) (r : ℕ) → action_of h c ≡ Some p → decision_on r c ≡ None
silent h c p r e = grind arith

twice : {X : Type 0} (f k : X → X) (xs : List X) → map k (map f xs) ≡ map (λ x. k (f x)) xs
twice f k [] = refl
twice f k (x ∷ xs) = ap (λ ys. k (f x) ∷ ys) (twice f k xs)

counted_at : (o : Outcome) (x : Rollout) (r g j i : ℕ) (h : CommandList) (c : Command) (n : Option ℕ) → HasSoundPlan x → GetsOutcome x r g j h c o → 1 ≤ i
    → is_group_started x r i (h ▸ c) ≡ (is_group_started x r i h || is_item_number i n) → group_in x r (h ▸ c) i
    ≡ start_group n (counted o g (group_in x r h i))
counted_at o x r g j i h c n s w a e = elim (cases_eq i g) [
  | inl same ↦ (let test : nat_eq i g ≡ true = eq-eqb i g same in
      let count : (q : Outcome) → tally q x r i (h ▸ c) ≡ tally q x r i h + cond (is_outcome q (Some o)) 1 0 = λ q. rw same (tally_gains q x r g j h c o w) in
      rw test (same_group i (bounds_in x i) _ _ _ _ _ _ _ _ e (count Good) (count Bad) (count Gone)))
  | inr other ↦ (let test : nat_eq i g ≡ false = ne_eqb i g other in
      let count : (q : Outcome) → tally q x r i (h ▸ c) ≡ tally q x r i h = λ q. tally_elsewhere q x r g j h c o s w i a other in
      rw test (same_group i (bounds_in x i) _ _ _ _ _ _ _ _ e (count Good) (count Bad) (count Gone)))
]

pub outcome_rollout : (o : Outcome) (x : Rollout) (r g j l : ℕ) (h : CommandList) (c : Command) → IsFollowed x r h l → StartedOnly x r h c → 1 ≤ l
    → GetsOutcome x r g j h c o → rollout_in (h ▸ c) r x ≡ rollout_after o g (rollout_in h r x)
outcome_rollout o x r g j l h c f s pos w =
    let v = view_of (rollout_in h r x) g in
    let view : IsView v x r g l h = views x r g l h f pos w.first w.last in
    let e : Effects = record { pauses = feedback_pauses v o; starts = starts_next v (v.paused || feedback_pauses v o) (good_after v o) } in
    let after : (is_paused x r (h ▸ c) ≡ (e.pauses || is_paused x r h)) × IsLast x r (h ▸ c) (last_with e.starts l) =
    feedback_follows v o e refl refl x r g j l h c view s w in
    let calm : (is_pause_of r c ≡ false) × (is_resume_of r c ≡ false) × (is_trigger_of r c ≡ false) × (is_start_of r c ≡ false) = quiet h c _ r w.on in
    same_parts r x _ _ _ _ _ _ _ _ (same_approval r h c (undecided w.on)) (rw calm.3 (or-false (is_rollout_started r h))) after.0
    (groups_go (λ q. start_group e.starts (counted o g q)) x r h (h ▸ c) (λ i a u.
    counted_at o x r g j i h c e.starts f.sound w a (started_by x r l v.last.number h (h ▸ c) _ (view.last.number) f.is_last after.1 i a))
    ∙ sym (twice (counted o g) (start_group e.starts) (each_from (group_in x r h) 1 x.plan.groups.count)))
  where
    undecided : {p : ActionPlace} → action_of h c ≡ Some p → decision_on r c ≡ None
    undecided e = silent h c _ r e

-- ---- resume, trigger, pause, start, approve, deny

same_counts : (x : Rollout) (r i : ℕ) (h : CommandList) (c : Command) (n : Option ℕ) → action_of h c ≡ None → is_group_started x r i (h ▸ c)
    ≡ (is_group_started x r i h || is_item_number i n) → group_in x r (h ▸ c) i ≡ start_group n (group_in x r h i)
same_counts x r i h c n t e =
    let count : (q : Outcome) → tally q x r i (h ▸ c) ≡ tally q x r i h = λ q. tally_same q x r i h c (λ j v. calm_outcome h c r j t) in
    same_group i (bounds_in x i) _ _ _ _ _ _ _ _ e (count Good) (count Bad) (count Gone)

pub resume_rollout : (x : Rollout) (r l : ℕ) (h : CommandList) → IsFollowed x r h l → 1 ≤ l → rollout_in (h ▸ Resume r) r x ≡ resumed (rollout_in h r x)
resume_rollout x r l h f pos =
    let last : last_started (each_from (group_in x r h) 1 x.plan.groups.count) ≡ l = last_is x r l h f.is_last in
    let v = view_of (rollout_in h r x) (last_started (each_from (group_in x r h) 1 x.plan.groups.count)) in
    let P : ℕ → Type 0 = λ n. IsView (view_of (rollout_in h r x) n) x r l l h in
    let view : IsView v x r l l h = subst P (sym last) (views x r l l h f pos pos f.is_last.within) in
    let e : Effects = record { pauses = false; starts = starts_next v false v.last.ok } in
    let after : (is_paused x r (h ▸ Resume r) ≡ e.pauses) × IsLast x r (h ▸ Resume r) (last_with e.starts l) =
    resume_follows v e refl refl x r l l h pos view in
    same_parts r x _ _ _ _ _ _ _ _ (same_approval r h (Resume r) refl) (or-false (is_rollout_started r h)) after.0
    (groups_go (start_group e.starts) x r h (h ▸ Resume r) (λ i a u.
    same_counts x r i h (Resume r) e.starts refl (started_by x r l v.last.number h (h ▸ Resume r) _ view.last.number f.is_last after.1 i a)))

pub trigger_rollout : (x : Rollout) (r l : ℕ) (h : CommandList) → IsFollowed x r h l → 1 ≤ l → rollout_in (h ▸ TriggerNext r) r x ≡ triggered (rollout_in h r x)
trigger_rollout x r l h f pos =
    let last : last_started (each_from (group_in x r h) 1 x.plan.groups.count) ≡ l = last_is x r l h f.is_last in
    let v = view_of (rollout_in h r x) l in
    let view : IsView v x r l l h = views x r l l h f pos pos f.is_last.within in
    let e : Effects = record { pauses = false; starts = next_if (nat_lt v.last.number v.groups) v.last.number } in
    let after : (is_paused x r (h ▸ TriggerNext r) ≡ (e.pauses || is_paused x r h)) × IsLast x r (h ▸ TriggerNext r) (last_with e.starts l) =
    trigger_follows v e refl refl x r l l h pos view in
    let number : v.last.number ≡ last_started (each_from (group_in x r h) 1 x.plan.groups.count) = view.last.number ∙ sym last in
    same_parts r x _ _ _ _ _ _ _ _ (same_approval r h (TriggerNext r) refl) (or-false (is_rollout_started r h)) after.0
    (groups_go (start_group e.starts) x r h (h ▸ TriggerNext r) (λ i a u.
    same_counts x r i h (TriggerNext r) e.starts refl (started_by x r l v.last.number h (h ▸ TriggerNext r) _ view.last.number f.is_last after.1 i a))
    ∙ ap (λ n. map (start_group (next_if (nat_lt n x.plan.groups.count) n)) (each_from (group_in x r h) 1 x.plan.groups.count)) number)

paused_last : (x : Rollout) (r l : ℕ) (h : CommandList) → IsFollowed x r h l → is_paused x r (h ▸ Pause r) ≡ true → IsLast x r (h ▸ Pause r) l
paused_last x r l h f e = by_test (starts_one_more x r h (Pause r) l) (shut l) (last_goes x r l h (Pause r) f (calm_on x r h (Pause r) refl))
  where
    by_test : (b : Bool) → b ≡ false → IsLast x r (h ▸ Pause r) (cond b (suc l) l) → IsLast x r (h ▸ Pause r) l
    by_test true e m = cc
    by_test false e m = m

    none : (lt p s : Bool) → p ≡ true → (lt && ((not p && s) || false)) ≡ false
    none true true s e = refl
    none true false s e = cc
    none false p s e = refl

    shut : (k : ℕ) → starts_one_more x r h (Pause r) k ≡ false
    shut zero = refl
    shut (suc k) = none (nat_lt (suc k) x.plan.groups.count) (is_paused x r (h ▸ Pause r)) (success_holds x r (suc k) (h ▸ Pause r)) e

pub pause_rollout : (x : Rollout) (r l : ℕ) (h : CommandList) → IsFollowed x r h l → rollout_in (h ▸ Pause r) r x ≡ record (rollout_in h r x) { paused = true }
pause_rollout x r l h f =
    let now : is_paused x r (h ▸ Pause r) ≡ true = rw (eq-eqb r r refl) refl in
    let count : (q : Outcome) (i : ℕ) → tally q x r i (h ▸ Pause r) ≡ tally q x r i h =
    λ q i. tally_same q x r i h (Pause r) (λ j v. calm_outcome h (Pause r) r j refl) in
    same_parts r x _ _ _ _ _ _ _ _ (same_approval r h (Pause r) refl) (or-false (is_rollout_started r h)) now
    (same_each (group_in x r (h ▸ Pause r)) (group_in x r h) 1 x.plan.groups.count (λ i b u.
    same_group i (bounds_in x i) _ _ _ _ _ _ _ _ (same_started x r l h (h ▸ Pause r) f.is_last (paused_last x r l h f now) i b) (count Good i) (count Bad i)
    (count Gone i)))

pub start_rollout : (x : Rollout) (r : ℕ) (h : CommandList) → IsFollowed x r h 0 → rollout_in (h ▸ Start r) r x ≡ begin_rollout (rollout_in h r x)
start_rollout x r h f =
    let moved : IsLast x r (h ▸ Start r) 1 = by_test (nat_eq r r) (eq-eqb r r refl) (last_goes x r 0 h (Start r) f (calm_on x r h (Start r) refl)) in
    same_parts r x _ _ _ _ _ _ _ _ (same_approval r h (Start r) refl) (rw (eq-eqb r r refl) (or-true (is_rollout_started r h)))
    (rw (calm_errors x r h (Start r) refl) refl)
    (groups_go (start_group (Some 1)) x r h (h ▸ Start r) (λ i a u.
    same_counts x r i h (Start r) (Some 1) refl (started_by x r 0 0 h (h ▸ Start r) true refl f.is_last moved i a)))
  where
    by_test : (b : Bool) → b ≡ true → IsLast x r (h ▸ Start r) (cond b 1 0) → IsLast x r (h ▸ Start r) 1
    by_test true e m = m
    by_test false e m = cc

-- ---- what is followed goes on being so

pub follow_on : (x : Rollout) (r l : ℕ) (h : CommandList) (c : Command) → IsFollowed x r h l → StartedOnly x r h c
    → IsFollowed x r (h ▸ c) (cond (starts_one_more x r h c l) (suc l) l)
follow_on x r l h c f s = record { sound = f.sound; is_last = last_goes x r l h c f s; outcomes = outcomes_after x r h c s f.outcomes }
