-- An action's record after one more command, from its record before it.
use native.Mathlib.Omega.{arith}
use Rattle.rollout_machine.proofs.Common.{◌≡◌, ℕ, zero, suc, Bool, true, false, cond, ◌&&◌, ◌||◌, not, List, [], ◌∷◌, ◌++◌, refl, sym, ◌∙◌, ap, Option, Some}
use Rattle.rollout_machine.proofs.Common.{None, nat_eq, is_none, is_some, map, slice_get, and-false, option_or, unwrap_or, option_map, ActionPlace, action_of}
use Rattle.rollout_machine.proofs.Common.{is_on_action, is_action_place, is_heard, outcome}
use Rattle.rollout_machine.proofs.Common.{history, reports, item_numbered, CommandList, Make, ◌▸◌, Command, Outcome, action_after, is_same_action}
use Rattle.rollout_machine.proofs.Common.{ActionRecord, action_in, Reported, entries_in, is_again, reported_by, eq-eqb, eqb-true, and_parts}
use Rattle.rollout_machine.proofs.Tallies.{or_none}

abbrev pub action_from : ActionPlace → Bool → Option Outcome → List Reported → ActionRecord
action_from p b o es = record { rollout = p.rollout; position = p.position; canceling = b; outcome = o; history = es }

pub same_action : (p : ActionPlace) (b b' : Bool) (o o' : Option Outcome) (es es' : List Reported) → b ≡ b' → o ≡ o' → es ≡ es' → action_from p b o es
    ≡ action_from p b' o' es'
same_action p b b' o o' es es' e f g = rw (e, f, g) refl

pub append_none : {X : Type 0} (xs : List X) → xs ++ [] ≡ xs
append_none [] = refl
append_none (x ∷ xs) = ap (λ ys. x ∷ ys) (append_none xs)

abbrev place : ℕ → ℕ → ActionPlace
place r j = record { rollout = r; position = j }

-- what a command says of canceling, for an action that has or gets an outcome and for one that has none
abbrev stands_after : Bool → Option Bool → Bool → Bool
stands_after on said b = cond (on && is_some said) (elim said [ None ↦ false | Some v ↦ v ]) b

cancels : (o gv : Option Outcome) (said : Option Bool) (b : Bool) → (is_none (option_or o gv) && stands_after true said b)
    ≡ (is_none (option_or o gv) && unwrap_or said (is_none o && b))
cancels o gv said b = grind arith

-- ---- what is heard

-- while an action is open, its history is all that was reported on it
pub open_reports : (h : CommandList) (r j : ℕ) → outcome h r j ≡ None → reports h r j ≡ history h r j
open_reports (Make approval) r j e = refl
open_reports (h ▸ c) r j e =
    let was : outcome h r j ≡ None = none_before (outcome h r j) _ e in
    rw (open_reports h r j was, was) (go (is_on_action h c r j && not (is_again (history h r j) c)))
  where
    none_before : (o gv : Option Outcome) → option_or o gv ≡ None → o ≡ None
    none_before None gv d = refl
    none_before (Some x) gv d = cc

    go : (b : Bool) → history h r j ++ cond b (reported_by c) [] ≡ history h r j ++ cond (b && true) (reported_by c) []
    go true = refl
    go false = refl

-- what isn't sent again to an open action is heard there
pub heard_open : (h : CommandList) (c : Command) (r j : ℕ) → is_on_action h c r j ≡ true → outcome h r j ≡ None → is_again (history h r j) c ≡ false
    → is_heard h c r j ≡ true
heard_open h c r j on e n = rw (on, open_reports h r j e, n) refl

pub sent_again : (h : CommandList) (c : Command) (r j : ℕ) → outcome h r j ≡ None → is_again (history h r j) c ≡ true → is_heard h c r j ≡ false
sent_again h c r j e n = rw (open_reports h r j e, n) (and-false (is_on_action h c r j))

pub on_own : (h : CommandList) (c : Command) (q : ActionPlace) → action_of h c ≡ Some q → is_on_action h c q.rollout q.position ≡ true
on_own h c q t = rw (t, eq-eqb q.rollout q.rollout refl, eq-eqb q.position q.position refl) refl

-- ---- an action's record

-- what isn't heard on an action leaves its record
pub unheard : (h : CommandList) (c : Command) (p : ActionPlace) → is_heard h c p.rollout p.position ≡ false → action_in (h ▸ c) p ≡ action_in h p
unheard h c p e = grind (arith, same_action, or_none, append_none)

pub off_action : (h : CommandList) (c : Command) (p : ActionPlace) → is_on_action h c p.rollout p.position ≡ false → action_in (h ▸ c) p ≡ action_in h p
off_action h c p e = unheard h c p (rw e refl)

-- so does each command on a closed one
pub closed_action : (h : CommandList) (c : Command) (p : ActionPlace) (o : Outcome) → outcome h p.rollout p.position ≡ Some o → action_in (h ▸ c) p
    ≡ action_in h p
closed_action h c p o e = grind (arith, same_action, and-false, append_none)

closed_after : (h : CommandList) (c : Command) (p : ActionPlace) (o : Outcome) → outcome h p.rollout p.position ≡ Some o → action_after c (action_in h p)
    ≡ action_in h p
closed_after h c p o e = same_action p _ _ _ _ _ _ (rw e refl) (rw e refl) (rw e (append_none (history h p.rollout p.position)))

heard_action : (h : CommandList) (c : Command) (p : ActionPlace) → is_heard h c p.rollout p.position ≡ true → action_in (h ▸ c) p
    ≡ action_after c (action_in h p)
heard_action h c p e = grind (arith, same_action, cancels)

pub is_some_and : (h : CommandList) (c : Command) (p : ActionPlace) → is_on_action h c p.rollout p.position ≡ true → is_again (history h p.rollout p.position) c
    ≡ false → action_in (h ▸ c) p ≡ action_after c (action_in h p)
is_some_and h c p on n = go (outcome h p.rollout p.position) refl
  where
    go : (o : Option Outcome) → outcome h p.rollout p.position ≡ o → action_in (h ▸ c) p ≡ action_after c (action_in h p)
    go (Some o) e = closed_action h c p o e ∙ sym (closed_after h c p o e)
    go None e = heard_action h c p (heard_open h c p.rollout p.position on e n)

-- a place that a command on place q is on is q
same_place : (h : CommandList) (c : Command) (q p : ActionPlace) → action_of h c ≡ Some q → is_on_action h c p.rollout p.position ≡ true → q ≡ p
same_place h c q p t f =
    let both : (nat_eq q.rollout p.rollout && nat_eq q.position p.position) ≡ true = sym (ap (λ s. is_action_place s p.rollout p.position) t) ∙ f in
    let parts : (nat_eq q.rollout p.rollout ≡ true) × (nat_eq q.position p.position ≡ true) = and_parts _ _ both in
    made _ _ _ _ (eqb-true _ _ parts.0) (eqb-true _ _ parts.1)
  where
    made : (r s i k : ℕ) → r ≡ s → i ≡ k → place r i ≡ place s k
    made r s i k e f = rw (e, f) refl

pub one_action : (h : CommandList) (c : Command) (q p : ActionPlace) → action_of h c ≡ Some q → is_again (history h q.rollout q.position) c ≡ false
    → action_in (h ▸ c) p ≡ cond (is_same_action (action_in h p) (action_in h q)) (action_after c (action_in h p)) (action_in h p)
one_action h c q p t n = go (is_same_action (action_in h p) (action_in h q)) refl
  where
    go : (b : Bool) → (nat_eq q.rollout p.rollout && nat_eq q.position p.position) ≡ b → action_in (h ▸ c) p
        ≡ cond b (action_after c (action_in h p)) (action_in h p)
    go true e =
        let on : is_on_action h c p.rollout p.position ≡ true = ap (λ o. is_action_place o p.rollout p.position) t ∙ e in
        is_some_and h c p on (sym (ap (λ (s : ActionPlace). is_again (history h s.rollout s.position) c) (same_place h c q p t on)) ∙ n)
    go false e = off_action h c p (ap (λ o. is_action_place o p.rollout p.position) t ∙ e)

-- what finds its action closed, or is sent again, leaves all
pub had_action : (h : CommandList) (c : Command) (q : ActionPlace) → action_of h c ≡ Some q
    → (is_some (outcome h q.rollout q.position) || is_again (history h q.rollout q.position) c) ≡ true → (p : ActionPlace) → action_in (h ▸ c) p ≡ action_in h p
had_action h c q t had p = go (is_on_action h c p.rollout p.position) refl
  where
    open_or : (o : Option Outcome) → outcome h p.rollout p.position ≡ o → (is_some o || is_again (history h p.rollout p.position) c) ≡ true
        → action_in (h ▸ c) p ≡ action_in h p
    open_or (Some o) e d = closed_action h c p o e
    open_or None e d = unheard h c p (sent_again h c p.rollout p.position e d)

    go : (b : Bool) → is_on_action h c p.rollout p.position ≡ b → action_in (h ▸ c) p ≡ action_in h p
    go false f = off_action h c p f
    go true f = open_or (outcome h p.rollout p.position) refl
        (sym (ap (λ (s : ActionPlace). is_some (outcome h s.rollout s.position) || is_again (history h s.rollout s.position) c) (same_place h c q p t f)) ∙ had)

pub map_append : {X Y : Type 0} (f : X → Y) (xs ys : List X) → map f (xs ++ ys) ≡ map f xs ++ map f ys
map_append f [] ys = refl
map_append f (x ∷ xs) ys = ap (λ zs. f x ∷ zs) (map_append f xs ys)

pub entries_both : (xs ys : List Reported) → entries_in (xs ++ ys) ≡ entries_in xs ++ entries_in ys
entries_both xs ys = map_append (λ (it : Reported). it.entry) xs ys

pub map_same : {X Y : Type 0} (f g : X → Y) → ((x : X) → f x ≡ g x) → (xs : List X) → map f xs ≡ map g xs
map_same f g e [] = refl
map_same f g e (x ∷ xs) = rw (e x, map_same f g e xs) refl

pub map_twice : {X Y Z : Type 0} (f : X → Y) (k : Y → Z) (xs : List X) → map k (map f xs) ≡ map (λ x. k (f x)) xs
map_twice f k [] = refl
map_twice f k (x ∷ xs) = ap (λ ys. k (f x) ∷ ys) (map_twice f k xs)

-- the records of all actions after a command on one of them
pub all_actions : (h : CommandList) (c : Command) (q : ActionPlace) → action_of h c ≡ Some q → is_again (history h q.rollout q.position) c ≡ false
    → (ps : List ActionPlace) → map (action_in (h ▸ c)) ps ≡ map (λ (b : ActionRecord). cond (is_same_action b (action_in h q)) (action_after c b) b)
    (map (action_in h) ps)
all_actions h c q t n ps =
    map_same (action_in (h ▸ c)) (λ p. cond (is_same_action (action_in h p) (action_in h q)) (action_after c (action_in h p)) (action_in h p))
    (λ p. one_action h c q p t n) ps
    ∙ sym (map_twice (action_in h) (λ (b : ActionRecord). cond (is_same_action b (action_in h q)) (action_after c b) b) ps)

-- and after a command on none
pub calm_actions : (h : CommandList) (c : Command) → action_of h c ≡ None → (ps : List ActionPlace) → map (action_in (h ▸ c)) ps ≡ map (action_in h) ps
calm_actions h c t ps = map_same (action_in (h ▸ c)) (action_in h) (λ p. off_action h c p (ap (λ o. is_action_place o p.rollout p.position) t)) ps

pub get_map : {X Y : Type 0} (f : X → Y) (xs : List X) (i : ℕ) → slice_get (map f xs) i ≡ option_map f (slice_get xs i)
get_map f [] i = refl
get_map f (x ∷ xs) zero = refl
get_map f (x ∷ xs) (suc i) = get_map f xs i

pub numbered_map : {X Y : Type 0} (f : X → Y) (xs : List X) (k : ℕ) → item_numbered (map f xs) k ≡ option_map f (item_numbered xs k)
numbered_map f xs k = grind (arith, get_map)
