-- The table of actions agrees where records of accepted commands are held.
use Rattle.desk_verify.proofs.Common.{◌≡◌, inl, inr, ◌<◌, ℕ, zero, suc, ◌+◌, true, List, [], ◌∷◌, map, slice_get, zip, Some, refl, sym, ap, subst, arith}
use Rattle.desk_verify.proofs.Common.{and_from, nat_tests, Null, Row, Has, outcome_said, item_numbered, CommandList, Bytes, records, IsValid, Outcome}
use Rattle.desk_verify.proofs.Common.{ActionRecord, RolloutRecord, actions_follow_members, action_row, entries_of, entry_row, tally_of, ledger_of, IsHeld}
use Rattle.desk_verify.proofs.Common.{stored_action, member_row, rollout_row, told_rollout, Actions, Feedbacks, Members, Place, Rollouts, IsAction, Tables}
use Rattle.desk_verify.proofs.Common.{SequencedEntry, StoredAction, has_own_number, is_at, number_in_is, number_is, one_number, small_is, rise, IsGiven}
use Rattle.desk_verify.proofs.Common.{AgreesActions, AreInOrder, FitsEntries, EntryGivesOutcome, HasActions, HasMember, IsRightAction, IsStarted, HistoryEntry}
use Rattle.rollout_machine.specs.private.Histories.{first_outcome}
use Rattle.rollout_machine.proofs.Histories.{outcomes_fit_histories}
use Rattle.desk_verify.specs.Actions.{HasActionAt}
use Rattle.desk_verify.proofs.ActionLemmas.{same_action}
use Rattle.desk_verify.proofs.CodeLemmas.{flag_is, said_is}
use Rattle.desk_verify.proofs.GroupLaw.{one_rowid}
use Rattle.desk_verify.proofs.HeldRows.{item_lies, item_of, part_lies, part_of}
use Rattle.desk_verify.proofs.HistoryLemmas.{Gives, fits_given, given_by}
use Rattle.desk_verify.proofs.MemberLaw.{members_in}
use Rattle.desk_verify.proofs.RecordRows.{actor_is, is_action, is_member, its_tally, of_member, with_tally}

-- ---- histories

-- entries with their places, the first of which has this one
abbrev sequenced : ℕ → List HistoryEntry → List SequencedEntry
sequenced n [] = []
sequenced n (e ∷ es) = record { sequence = n; entry = e } ∷ sequenced (n + 1) es

they_rise : (last n : ℕ) (es : List HistoryEntry) → last < n → rise last (map (λ (e : SequencedEntry). e.sequence) (sequenced n es)) ≡ true
they_rise last n [] less = refl
they_rise last n (e ∷ es) less = and_from _ _ (grind (arith, nat_tests, less)) (they_rise n (n + 1) es (omega arith))

own_entries : (n : ℕ) (es : List HistoryEntry) → map (λ (e : SequencedEntry). e.entry) (sequenced n es) ≡ es
own_entries n [] = refl
own_entries n (e ∷ es) = ap (λ l. e ∷ l) (own_entries (n + 1) es)

place_of : (n : ℕ) (es : List HistoryEntry) (e : SequencedEntry) → Has (sequenced n es) e → (k : ℕ) × (e.sequence ≡ n + k) × (slice_get es k ≡ Some e.entry)
place_of n [] e among = absurd among
place_of n (x ∷ es) e (inl same) = grind (arith)
place_of n (x ∷ es) e (inr among) = let it = place_of (n + 1) es e among in (suc it.0, omega (arith, it.1), it.2)

lies_there : (n i : ℕ) (es : List HistoryEntry) (e : HistoryEntry) → slice_get es i ≡ Some e → Has (sequenced n es) (record { sequence = n + i; entry = e })
lies_there n i [] e at = absurd cc
lies_there n zero (x ∷ es) e at = grind (arith)
lies_there n (suc i) (x ∷ es) e at = grind (arith, lies_there (n + 1) i es e at)

-- ---- the law

module _ (h : CommandList) (valid : IsValid h) (t : Tables) (held : (p : Place) → IsHeld (ledger_of (records h)) p (t p)) where
  -- ---- rollouts and members

  is_started : (r : ℕ) {x : RolloutRecord} → item_numbered (records h).rollouts r ≡ Some x → x.started ≡ true → IsStarted t r
  is_started zero there started = absurd cc
  is_started (suc d) {x} there started = let lies = item_lies rollout_row (records h).rollouts (held Rollouts) d x there in
      grind (arith, has_own_number (suc d) (Null ∷ told_rollout x), flag_is x.started)

  has_member : (r p : ℕ) {x : RolloutRecord} {id : Bytes} → item_numbered (records h).rollouts r ≡ Some x → item_numbered x.members p ≡ Some id
      → HasMember t r p id
  has_member zero p there at = absurd cc
  has_member (suc d) zero there at = absurd cc
  has_member (suc d) (suc k) {x} {id} there at = let row = part_lies member_row members_in (records h).rollouts (held Members) d k x id there at in
      grind (arith, is_member h valid d there row.0 k at)

  -- the started rollout of a number
  record ItsRollout (r : ℕ) : Type 0 where
    one : RolloutRecord
    got : item_numbered (records h).rollouts r ≡ Some one
    started : one.started ≡ true

  its_rollout : (r : ℕ) → IsStarted t r → ItsRollout r
  its_rollout r has = let it = item_of rollout_row (records h).rollouts (held Rollouts) has.row has.among in
      grind (arith, flag_is it.one.started, one_rowid (suc it.d) r (Null ∷ told_rollout it.one))

  -- it has this member
  its_member : (r place : ℕ) (id : Bytes) (it : ItsRollout r) → HasMember t r place id → (target : Bytes) × (item_numbered it.one.members place ≡ Some target)
  its_member r place id it has = let m = part_of member_row members_in (records h).rollouts (held Members) has.row has.among in
      grind (arith, m.is, m.got, m.lies, number_in_is, small_is, one_number)

  -- ---- one action

  module _ (d : ℕ) {a : ActionRecord} (got : slice_get (records h).actions d ≡ Some a) where
    pub among : Has (t Actions) (action_row (records h).rollouts (suc d) (a, tally_of a))
    among = item_lies (action_row (records h).rollouts) (zip (records h).actions (map tally_of (records h).actions)) (held Actions) d (a, tally_of a)
        (with_tally (records h).actions d a got)

    -- ---- its entries

    gives : (e : SequencedEntry) (o : Outcome) → Has (sequenced 1 (entries_of a)) e → outcome_said e.entry.said ≡ Some o
        → EntryGivesOutcome t (suc d) e.sequence o
    gives e o among said = let its = place_of 1 (entries_of a) e among in
        grind (arith, part_lies entry_row entries_of (records h).actions (held Feedbacks) d its.0 a e.entry got its.2, is_at, said_is)

    gave : (sequence : ℕ) (o : Outcome) → EntryGivesOutcome t (suc d) sequence o → Gives (sequenced 1 (entries_of a)) sequence o
    gave sequence o it = let e = part_of entry_row entries_of (records h).actions (held Feedbacks) it.row it.among in
        grind (arith, said_is, number_is, one_number, lies_there 1 e.k (entries_of a) e.one)

    fits : FitsEntries t (suc d) a.outcome
    fits = let its = outcomes_fit_histories h (suc d) a got in
        fits_given t (suc d) (first_outcome (entries_of a)) a.outcome (subst (IsGiven t (suc d)) (ap first_outcome (own_entries 1 (entries_of a)))
        (given_by t (suc d) (sequenced 1 (entries_of a)) (they_rise 0 1 (entries_of a) (omega arith)) gives gave _ refl)) its.given its.not_given

    right : IsRightAction t (action_row (records h).rollouts (suc d) (a, tally_of a))
    right = grind (arith, is_action h valid d got, of_member h valid d got, is_started, has_member, actor_is h valid d got, fits)

  -- ---- all of them

  pub record ItsAction (row : Row) : Type 0 where
    pub d : ℕ
    pub one : ActionRecord
    pub got : slice_get (records h).actions d ≡ Some one
    pub is : row ≡ action_row (records h).rollouts (suc d) (one, tally_of one)
    pub says : IsAction row (suc d) (stored_action (records h).rollouts (one, tally_of one))

  pub its_action : (row : Row) → Has (t Actions) row → ItsAction row
  its_action row among =
      let it = item_of (action_row (records h).rollouts) (zip (records h).actions (map tally_of (records h).actions)) (held Actions) row among in
      let own = its_tally (records h).actions it.d it.one it.got in
      grind (arith, is_action h valid it.d own.1, it.is, own.2)

  all : (rollout : ℕ) → IsStarted t rollout → HasActions t rollout
  all rollout started place id has =
      let it = its_rollout rollout started in
      let member = its_member rollout place id it has in
      let acts = (actions_follow_members h valid).each_member rollout it.one place member.0 it.got it.started member.1 in
      its_place acts.number acts.action acts.numbered acts.rollout acts.position
    where
      its_place : (n : ℕ) (a : ActionRecord) → item_numbered (records h).actions n ≡ Some a → a.rollout ≡ rollout → a.position ≡ place
          → HasActionAt t rollout place
      its_place zero a at of is = absurd cc
      its_place (suc d) a at of is = grind (arith, among d at, is_action h valid d at)

  in_order : (row other : Row) (j k : ℕ) (a b : StoredAction) → Has (t Actions) row → Has (t Actions) other → IsAction row j a → IsAction other k b → a.rollout
      ≡ b.rollout → AreInOrder j k a b
  in_order row other j k a b among others says says_other same =
      let c = its_action row among in
      let d = its_action other others in
      let one = same_action says c.says in
      let two = same_action says_other d.says in
      record {
        apart = λ at. grind (arith, (actions_follow_members h valid).apart (suc c.d) (suc d.d) c.one d.one c.got d.got);
        order = λ less. grind (arith, (actions_follow_members h valid).in_order (suc c.d) (suc d.d) c.one d.one c.got d.got);
      }

  pub actions_agree : AgreesActions t
  actions_agree = record {
    each = λ row among. let it = its_action row among in subst (IsRightAction t) (sym it.is) (right it.d it.got);
    all = all;
    in_order = in_order;
  }
