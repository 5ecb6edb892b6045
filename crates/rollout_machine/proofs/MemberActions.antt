-- The actions are those of the members of the started rollouts, in the members' order.
use Rattle.rollout_machine.proofs.Common.{◌≡◌, ℕ, ◌+◌, ◌≤◌, true, ◌||◌, [], refl, sym, ◌∙◌, ap, subst, arith, inl, inr, Some, option_map, cases_Bool, eqb-true}
use Rattle.rollout_machine.proofs.Common.{ActionPlace, action_place, action_places, new_places, item_numbered, CommandList, Make, ◌▸◌, Bytes, Command, Start}
use Rattle.rollout_machine.proofs.Common.{started_sizes, is_rollout_started, is_start_of, ActionRecord, RolloutRecord, action_in, rollout_in, Rollout, created}
use Rattle.rollout_machine.proofs.Common.{rollout_at, rollouts, size_of, IsValid}
use Rattle.rollout_machine.specs.Records.{records}
use Rattle.rollout_machine.proofs.Actions.{numbered_map}
use Rattle.rollout_machine.proofs.AtNumbers.{has_place, item_in, item_within, of_rollout, recorded}
use Rattle.rollout_machine.proofs.Distinct.{one_number}
use Rattle.rollout_machine.proofs.Induction.{admitted, invariant_of, stays_numbered}
use Rattle.rollout_machine.proofs.Meanings.{numbers_actions}
use Rattle.rollout_machine.proofs.Valid.{IsPlace}
use Rattle.std.specs.Prelude.{◌<◌}
use Rattle.rollout_machine.specs.Records.{Records}

-- the action is of a member of a started rollout
pub record IsOfMember (rs : Records) (a : ActionRecord) : Type 0 where
  pub rollout : RolloutRecord
  pub there : item_numbered rs.rollouts a.rollout ≡ Some rollout
  pub started : rollout.started ≡ true
  pub target : Bytes
  pub member : item_numbered rollout.members a.position ≡ Some target

-- rollout r has an action for its member at position j
pub record HasAction (rs : Records) (r j : ℕ) : Type 0 where
  pub number : ℕ
  pub action : ActionRecord
  pub numbered : item_numbered rs.actions number ≡ Some action
  pub rollout : action.rollout ≡ r
  pub position : action.position ≡ j

-- Each action is of a member of a started rollout, and each such member has an action. No two actions of one rollout are at one position, and
-- the one at the later position has the greater number.
pub record FollowMembers (rs : Records) : Type 0 where
  pub of_members : (k : ℕ) (a : ActionRecord) → item_numbered rs.actions k ≡ Some a → IsOfMember rs a
  pub each_member : (r : ℕ) (x : RolloutRecord) (j : ℕ) (t : Bytes) → item_numbered rs.rollouts r ≡ Some x → x.started ≡ true
      → item_numbered x.members j ≡ Some t → HasAction rs r j
  pub apart : (j k : ℕ) (a b : ActionRecord) → item_numbered rs.actions j ≡ Some a → item_numbered rs.actions k ≡ Some b → a.rollout ≡ b.rollout
      → a.position ≡ b.position → j ≡ k
  pub in_order : (j k : ℕ) (a b : ActionRecord) → item_numbered rs.actions j ≡ Some a → item_numbered rs.actions k ≡ Some b → a.rollout ≡ b.rollout
      → a.position < b.position → j < k

abbrev pub ActionsFollowMembers : Type 0
ActionsFollowMembers = (h : CommandList) → IsValid h → FollowMembers (records h)

-- ---- the actions of a started rollout stand in a row

-- behind the action of number `before`, in the order of their members
record StandInARow (h : CommandList) (r : ℕ) (x : Rollout) : Type 0 where
  there : rollout_at h r ≡ Some x
  before : ℕ
  at : (j : ℕ) → 1 ≤ j → j ≤ size_of x → action_place h (before + j) ≡ Some (record { rollout = r; position = j })

still : (h : CommandList) (c : Command) (r : ℕ) (x : Rollout) → StandInARow h r x → StandInARow (h ▸ c) r x
still h c r x w = record {
  there = stays_numbered (rollouts h) (created h c) r x w.there;
  before = w.before;
  at = λ j low high. stays_numbered (action_places h) (new_places h c) (w.before + j) _ (w.at j low high);
}

begun : (h : CommandList) (c : Command) (r : ℕ) (x : Rollout) → is_start_of r c ≡ true → rollout_at h r ≡ Some x → StandInARow (h ▸ c) r x
begun h (Start q) r x is there =
    let started : StandInARow (h ▸ Start r) r x =
    record { there = stays_numbered (rollouts h) [] r x there; before = started_sizes h; at = λ j low high. numbers_actions h r x [] j there low high } in
    subst (λ (k : ℕ). StandInARow (h ▸ Start k) r x) (sym (eqb-true q r is)) started
begun h _ r x is there = cc

in_a_row : (h : CommandList) → IsValid h → (r : ℕ) → is_rollout_started r h ≡ true → (x : Rollout) × StandInARow h r x
in_a_row (Make approval) valid r started = cc
in_a_row (h ▸ c) valid r started = elim (cases_Bool (is_rollout_started r h)) [
  | inl old ↦ (let (x, row) = in_a_row h valid.0 r old in (x, still h c r x row))
  | inr none ↦ (let w = invariant_of h valid.0 in let starts : is_start_of r c ≡ true = sym (ap (λ b. b || is_start_of r c) none) ∙ started in
      let (x, there) = (admitted h c w valid.1 valid.2).begins r starts in (x, begun h c r x starts there))
]

-- ---- the actions by their numbers

-- the action of number k of a rollout whose actions stand in a row behind number `before`
record IsInTheRow (before : ℕ) (x : Rollout) (k position : ℕ) : Type 0 where
  low : 1 ≤ position
  high : position ≤ size_of x
  number : k ≡ before + position

place_in_row : (h : CommandList) → IsValid h → (x : Rollout) (k : ℕ) (p : ActionPlace) (row : StandInARow h p.rollout x) → action_place h k ≡ Some p
    → IsInTheRow row.before x k p.position
place_in_row h valid x k p row numbered =
    let placed : IsPlace h p = (invariant_of h valid).placed k p numbered in
    let both : Some placed.rollout ≡ Some x = sym placed.there ∙ row.there in
    let same : placed.rollout ≡ x = cc in
    let high : p.position ≤ size_of x = subst (λ (y : Rollout). p.position ≤ size_of y) same placed.high in
    record { low = placed.low; high = high; number = one_number h k (row.before + p.position) p valid numbered (row.at p.position placed.low high) }

in_row : (h : CommandList) → IsValid h → (x : Rollout) (k : ℕ) (a : ActionRecord) (row : StandInARow h a.rollout x) → item_numbered (records h).actions k
    ≡ Some a → IsInTheRow row.before x k a.position
in_row h valid x k a row e =
    let at = has_place h k a e in
    let P : ActionRecord → Type 0 = λ b. (row : StandInARow h b.rollout x) → IsInTheRow row.before x k b.position in
    let here : P (action_in h at.place) = λ row. place_in_row h valid x k at.place row at.numbered in
    subst P (sym at.is) here row

begun_for : (h : CommandList) → IsValid h → (k : ℕ) (a : ActionRecord) → item_numbered (records h).actions k ≡ Some a → is_rollout_started a.rollout h ≡ true
begun_for h valid k a e =
    let at = has_place h k a e in
    ap (λ b. is_rollout_started b.rollout h) at.is ∙ (invariant_of h valid).acted k at.place at.numbered

-- two actions of one rollout are as far apart as their positions
as_far_apart : (h : CommandList) → IsValid h → (j k : ℕ) (a b : ActionRecord) → item_numbered (records h).actions j ≡ Some a
    → item_numbered (records h).actions k ≡ Some b → a.rollout ≡ b.rollout → j + b.position ≡ k + a.position
as_far_apart h valid j k a b d e same =
    let (x, row) = in_a_row h valid b.rollout (begun_for h valid k b e) in
    let P : ℕ → Type 0 = λ r. (row : StandInARow h r x) → IsInTheRow row.before x j a.position in
    let first : IsInTheRow row.before x j a.position = subst P same (λ own. in_row h valid x j a own d) row in
    let second : IsInTheRow row.before x k b.position = in_row h valid x k b row e in
    omega (arith, first.number, second.number)

of_member : (h : CommandList) → IsValid h → (k : ℕ) (a : ActionRecord) → item_numbered (records h).actions k ≡ Some a → IsOfMember (records h) a
of_member h valid k a e =
    let started = begun_for h valid k a e in
    let (x, row) = in_a_row h valid a.rollout started in
    let place : IsInTheRow row.before x k a.position = in_row h valid x k a row e in
    let (t, member) = item_in x.members [] a.position place.low place.high in
    record { rollout = rollout_in h a.rollout x; there = recorded h a.rollout x row.there; started = started; target = t; member = member }

has_action : (h : CommandList) → IsValid h → (r : ℕ) (x : Rollout) (j : ℕ) → rollout_at h r ≡ Some x → is_rollout_started r h ≡ true → 1 ≤ j → j ≤ size_of x
    → HasAction (records h) r j
unfolding records
has_action h valid r x j there started low high =
    let (y, row) = in_a_row h valid r started in
    let both : Some x ≡ Some y = sym there ∙ row.there in
    let same : x ≡ y = cc in
    let here : action_place h (row.before + j) ≡ Some (record { rollout = r; position = j }) =
    row.at j low (subst (λ (z : Rollout). j ≤ size_of z) same high) in
    record {
      number = row.before + j;
      action = action_in h (record { rollout = r; position = j });
      numbered =
          numbered_map (action_in h) (action_places h) (row.before + j) ∙ ap (option_map (action_in h)) here;
      rollout = refl;
      position = refl;
    }

each_member : (h : CommandList) → IsValid h → (r : ℕ) (x : RolloutRecord) (j : ℕ) (t : Bytes) → item_numbered (records h).rollouts r ≡ Some x → x.started ≡ true
    → item_numbered x.members j ≡ Some t → HasAction (records h) r j
each_member h valid r x j t there started member =
    let of = of_rollout h r x there in
    let started_then : is_rollout_started r h ≡ true = sym (ap (λ y. y.started) of.is) ∙ started in
    let within = item_within of.rollout.members j t (sym (ap (λ y. item_numbered y.members j) of.is) ∙ member) in
    has_action h valid r of.rollout j of.there started_then within.0 within.1

pub actions_follow_members : ActionsFollowMembers
actions_follow_members h valid = record {
  of_members = of_member h valid;
  each_member = each_member h valid;
  apart = λ j k a b d e same at. omega (arith, as_far_apart h valid j k a b d e same, at);
  in_order = λ j k a b d e same less. omega (arith, as_far_apart h valid j k a b d e same, less);
}
