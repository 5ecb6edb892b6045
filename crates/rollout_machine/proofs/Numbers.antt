-- The numbers of the feedback on an action rise.
use Rattle.rollout_machine.proofs.Common.{◌≡◌, ℕ, zero, suc, ◌<◌, Bool, true, false, cond, ◌&&◌, List, [], ◌∷◌, ◌++◌, refl, sym, ◌∙◌, ap, subst, arith, Option}
use Rattle.rollout_machine.proofs.Common.{Some, None, is_none, nat_eq, nat_lt, slice_get, option_or, ltb-true, action_place, history, is_heard, outcome}
use Rattle.rollout_machine.proofs.Common.{reports, CommandList, Make, ◌▸◌, CancelFeedback, Command, Feedback, Outcome, ActionRecord, action_in, records, Again}
use Rattle.rollout_machine.proofs.Common.{Fresh, HistoryEntry, Numbered, OfCancel, OfDeployment, Old, Reported, Standing, against, bearing, is_again}
use Rattle.rollout_machine.proofs.Common.{numbered_if, reported, reported_by, same_entry, says_again, says_old, standing_by, standing_of, IsValid, is_old}
use Rattle.rollout_machine.proofs.Common.{is_some_and, verdict, verdict_row}
use Rattle.rollout_machine.specs.Promises.{NumbersRise, NumbersRiseIn}
use Rattle.rollout_machine.proofs.Actions.{append_none, open_reports}
use Rattle.rollout_machine.proofs.AtNumbers.{has_place}
use Rattle.rollout_machine.proofs.Meanings.{placed}
use Rattle.rollout_machine.proofs.Valid.{found_action, none_holds}

-- a number, if it is one, is below another
abbrev Below : Option ℕ → ℕ → Type 0
Below None n = Unit {0}
Below (Some m) n = m < n

abbrev AreBelow : List Reported → ℕ → Type 0
AreBelow [] n = Unit {0}
AreBelow (it ∷ more) n = Below it.number n × AreBelow more n

-- .. below each of these
abbrev BelowAll : Option ℕ → List Reported → Type 0
BelowAll m [] = Unit {0}
BelowAll m (it ∷ more) = ((n : ℕ) → it.number ≡ Some n → Below m n) × BelowAll m more

abbrev Rise : List Reported → Type 0
Rise [] = Unit {0}
Rise (it ∷ more) = BelowAll it.number more × Rise more

-- what is below all is below the last that bears a number
below_bearing : (m : ℕ) (reports : List Reported) (b : Numbered) → BelowAll (Some m) reports → bearing reports ≡ Some b → m < b.number
below_bearing m [] b w e = cc
below_bearing m (it ∷ more) b w e = go (bearing more) it.number refl refl e (λ d. below_bearing m more b w.1 d)
  where
    go : (o : Option Numbered) (n : Option ℕ) → bearing more ≡ o → it.number ≡ n → option_or o (numbered_if it.entry n) ≡ Some b
        → (bearing more ≡ Some b → m < b.number) → m < b.number
    go (Some x) n d k e ih = ih (d ∙ e)
    go None None d k e ih = cc
    go None (Some n) d k e ih = let its : n ≡ b.number = number_is n b e in subst (λ (i : ℕ). m < i) its (w.0 n k)
      where
        number_is : (n : ℕ) (b : Numbered) → numbered_if it.entry (Some n) ≡ Some b → n ≡ b.number
        number_is n b e = cc

is_fresh : (last : Numbered) (n : ℕ) (entry : HistoryEntry) → against (Some last) n entry ≡ Fresh → last.number < n
is_fresh last n entry e = go (nat_lt last.number n) refl e
  where
    other : (b : Bool) → cond b Again Old ≡ Fresh → last.number < n
    other true d = cc
    other false d = cc

    go : (b : Bool) → nat_lt last.number n ≡ b → cond b Fresh (cond (nat_eq last.number n && same_entry last.entry entry) Again Old) ≡ Fresh → last.number < n
    go true d e = ltb-true _ _ d
    go false d e = other (nat_eq last.number n && same_entry last.entry entry) e

-- a fresh number is above all that came before
fresh_above : (reports : List Reported) (n : ℕ) (entry : HistoryEntry) → Rise reports → against (bearing reports) n entry ≡ Fresh → AreBelow reports n
fresh_above [] n entry w e = tt
fresh_above (it ∷ more) n entry w e = go (bearing more) it.number refl refl e (λ d. fresh_above more n entry w.1 d)
  where
    own : (m : Option ℕ) → it.number ≡ m → ((k : ℕ) → it.number ≡ Some k → k < n) → Below m n
    own None d lower = tt
    own (Some m) d lower = lower m d

    go : (o : Option Numbered) (m : Option ℕ) → bearing more ≡ o → it.number ≡ m → against (option_or o (numbered_if it.entry m)) n entry ≡ Fresh
        → (against (bearing more) n entry ≡ Fresh → AreBelow more n) → Below it.number n × AreBelow more n
    go (Some b) m d k e ih =
        let last : b.number < n = is_fresh b n entry e in (
          own it.number refl (λ i f. let less : i < b.number = below_bearing i more b (subst (λ o. BelowAll o more) f w.0) d in omega (arith, less, last)),
          ih (ap (λ o. against o n entry) d ∙ e),
        )
    go None None d k e ih = (subst (λ o. Below o n) (sym k) tt, ih (ap (λ o. against o n entry) d))
    go None (Some m) d k e ih =
        let last : m < n = is_fresh (record { entry = it.entry; number = m }) n entry e in
        (subst (λ o. Below o n) (sym k) last, ih (ap (λ o. against o n entry) d))

-- one more behind those that it is above
below_behind : (m : Option ℕ) (reports : List Reported) (new : Reported) → BelowAll m reports → ((n : ℕ) → new.number ≡ Some n → Below m n)
    → BelowAll m (reports ++ new ∷ [])
below_behind m [] new w d = (d, tt)
below_behind m (it ∷ more) new w d = (w.0, below_behind m more new w.1 d)

rise_behind : (reports : List Reported) (new : Reported) → Rise reports → ((n : ℕ) → new.number ≡ Some n → AreBelow reports n) → Rise (reports ++ new ∷ [])
rise_behind [] new w d = (tt, tt)
rise_behind (it ∷ more) new w d = (below_behind it.number more new w.0 (λ n e. (d n e).0), rise_behind more new w.1 (λ n e. (d n e).1))

-- ---- a list of accepted commands

fresh_rises : (reports : List Reported) (new : Reported) → Rise reports → standing_of reports new ≡ Fresh → Rise (reports ++ new ∷ [])
fresh_rises reports new w e = rise_behind reports new w (λ n d. fresh_above reports n new.entry w (sym (ap (standing_by reports new.entry) d) ∙ e))

fresh_by : (s : Standing) → says_again s ≡ false → says_old s ≡ false → s ≡ Fresh
fresh_by s a b = grind arith

is_new_by : (a : ActionRecord) (new : Reported) → a.outcome ≡ None → is_old new a ≡ false → says_old (standing_of a.history new) ≡ false
is_new_by a new e d = sym (ap (λ (o : Option _). is_none o && says_old (standing_of a.history new)) e) ∙ d

-- what is heard on an open action, and was accepted
heard_rises : (h : CommandList) (c : Command) (r j : ℕ) → verdict h c ≡ None → is_heard h c r j ≡ true → outcome h r j ≡ None → Rise (history h r j)
    → Rise (history h r j ++ reported_by c)
heard_rises h (Feedback feedback) r j v d e w =
    let c : Command = Feedback feedback in
    let new : Reported = reported OfDeployment feedback in
    let p : (action_place h feedback.action ≡ Some (record { rollout = r; position = j })) × (is_again (reports h r j) c ≡ false) = placed h c r j d in
    let old : is_old new (action_in h (record { rollout = r; position = j })) ≡ false =
    sym (ap (is_some_and (is_old new)) (found_action h feedback.action _ p.0))
    ∙ (none_holds (verdict_row (records h) c) v).1.1.1.0 in
    fresh_rises (history h r j) new w
    (fresh_by _ (sym (ap (λ heard. is_again heard c) (open_reports h r j e)) ∙ p.1)
    (is_new_by (action_in h (record { rollout = r; position = j })) new e old))
heard_rises h (CancelFeedback feedback) r j v d e w =
    let c : Command = CancelFeedback feedback in
    let new : Reported = reported OfCancel feedback in
    let p : (action_place h feedback.action ≡ Some (record { rollout = r; position = j })) × (is_again (reports h r j) c ≡ false) = placed h c r j d in
    let old : is_old new (action_in h (record { rollout = r; position = j })) ≡ false =
    sym (ap (is_some_and (is_old new)) (found_action h feedback.action _ p.0))
    ∙ (none_holds (verdict_row (records h) c) v).1.1.1.0 in
    fresh_rises (history h r j) new w
    (fresh_by _ (sym (ap (λ heard. is_again heard c) (open_reports h r j e)) ∙ p.1)
    (is_new_by (action_in h (record { rollout = r; position = j })) new e old))
heard_rises h _ r j v d e w = subst Rise (sym (append_none (history h r j))) w

rises : (h : CommandList) (r j : ℕ) → IsValid h → Rise (history h r j)
rises (Make approval) r j v = tt
rises (h ▸ c) r j v = go (is_heard h c r j) (outcome h r j) refl refl (rises h r j v.0)
  where
    go : (b : Bool) (o : Option Outcome) → is_heard h c r j ≡ b → outcome h r j ≡ o → Rise (history h r j)
        → Rise (history h r j ++ cond (b && is_none o) (reported_by c) [])
    go false o d e ih = subst Rise (sym (append_none (history h r j))) ih
    go true (Some o) d e ih = subst Rise (sym (append_none (history h r j))) ih
    go true None d e ih = heard_rises h c r j v.2 d e ih

-- ---- by places

get_below : (m : ℕ) (reports : List Reported) → BelowAll (Some m) reports → (j n : ℕ) (b : Reported) → slice_get reports j ≡ Some b → b.number ≡ Some n → m < n
get_below m [] w j n b e d = cc
get_below m (it ∷ more) w zero n b e d = let same : it ≡ b = cc in w.0 n (ap (λ (x : Reported). x.number) same ∙ d)
get_below m (it ∷ more) w (suc j) n b e d = get_below m more w.1 j n b e d

get_rise : (reports : List Reported) → Rise reports → (i j m n : ℕ) (a b : Reported) → i < j → slice_get reports i ≡ Some a → slice_get reports j ≡ Some b
    → a.number ≡ Some m → b.number ≡ Some n → m < n
get_rise [] w i j m n a b less e f d k = cc
get_rise (it ∷ more) w i zero m n a b less e f d k = absurd (omega (arith, less))
get_rise (it ∷ more) w zero (suc j) m n a b less e f d k =
    let same : it ≡ a = cc in
    get_below m more (subst (λ o. BelowAll o more) (ap (λ (x : Reported). x.number) same ∙ d) w.0) j n b f k
get_rise (it ∷ more) w (suc i) (suc j) m n a b less e f d k = get_rise more w.1 i j m n a b (omega (arith, less)) e f d k

rise_in : (reports : List Reported) → Rise reports → NumbersRiseIn reports
rise_in reports w zero j m n a b less e f d k = cc
rise_in reports w i zero m n a b less e f d k = cc
rise_in reports w (suc i) (suc j) m n a b less e f d k = get_rise reports w i j m n a b (omega (arith, less)) e f d k

pub numbers_rise : NumbersRise
numbers_rise h k a v e = let at = has_place h k a e in subst (λ (b : ActionRecord). NumbersRiseIn b.history) (sym at.is)
    (rise_in _ (rises h at.place.rollout at.place.position v))
