-- The creation of a rollout, from what is read to what is written.
use Rattle.desk_commands.proofs.Common.{◌≡◌, ◌<◌, ℕ, zero, suc, ◌+◌, true, false, not, nat_eq, List, [], ◌∷◌, ◌++◌, map, get_or, take, length}
use Rattle.desk_commands.proofs.Common.{set, slice_get, Some, None, refl, sym, ap, subst, ◌∙◌, arith, list_all, and_parts, nat_tests, length-append}
use Rattle.desk_commands.proofs.Common.{length-map, length-take-le, map-append, command_reply, item_numbered, CommandList, Bytes, CreateRollout}
use Rattle.desk_commands.proofs.Common.{RolloutPlan, GroupRule, rule_at, rules_of, first_offer, Records, action_in, rollouts_in, new_group, new_rollout}
use Rattle.desk_commands.proofs.Common.{step_records, chosen, rollouts, RolloutWord, IsValid, check, reply_of, Bounds, ActionRecord}
use Rattle.desk_commands.proofs.Common.{RolloutRecord, each_from_more, length_each, numbered_each, filter_of, IsPlanView, approval_at, plan_refusal}
use Rattle.desk_commands.proofs.Common.{Ledger, ledger_of, AddsGroup, AddsMembers, AddsRule, cut_group, set_numbered, with_rollouts, with_rules}
use Rattle.desk_commands.proofs.Common.{same_ledger, CreatesRollout, IsChosen, IsWordOf, and_rollout}
use Rattle.desk_commands.proofs.Common.{in_part, shown_new, invariant_of, not-true}
use Rattle.rollout_machine.specs.Records.{records}
use Rattle.std.proofs.lemmas.Option.{slice_get-get_or, slice_get_within}
use Rattle.rollout_machine.specs.Actions.{ActionPlace, action_places}
use Rattle.rollout_machine.specs.Groupings.{bounds_by, cut_by}
use Rattle.rollout_machine.specs.Rollouts.{Rollout as MadeRollout}
use Rattle.rollout_model.specs.declared.request.Reply.TheVariants as reply
use Rattle.rollout_model.specs.declared.rollout.Rollout.{Rollout}
use Rattle.campaign_core.specs.declared.rollout_checks.plans.NewRollout.{NewRollout}
use Rattle.campaign_core.specs.declared.rollout_checks.plans.PlanView.{PlanView}
use Rattle.desk_commands.specs.declared.creation.Chosen.{Chosen}
use Rattle.std.proofs.lemmas.List.{append-nil, append_assoc, length-drop}
use Rattle.std.proofs.Math.Seq.{take-add}
use Rattle.std.specs.Simd.{first_chunks}
use Rattle.std.specs.Prelude.{drop, ◌*◌, ◌≤◌}
use Rattle.desk_records.specs.LedgerSteps.{and_members}
use Rattle.desk_commands.proofs.ItemSteps.{set_is_there, set_same, set_twice}
use Rattle.desk_commands.proofs.ArtifactLemmas.{last_there}
use Rattle.desk_commands.proofs.PutLemmas.{one_more}
use Rattle.rollout_machine.specs.Ranges.{each_from}

-- what is said of so many of its groups
abbrev pub first_rules : RolloutPlan → ℕ → List GroupRule
first_rules plan groups = each_from (rule_at plan) 1 groups

-- ---- the verdict

-- the verdict is that of the view
pub judged : (r : Records) (plan : RolloutPlan) (view : PlanView) → IsPlanView view plan r → check r (CreateRollout plan) ≡ plan_refusal view plan.groups
judged r plan view is = rw (is.bad_filter, is.misses_set, is.same_name, is.members, is.count) refl

-- ---- the rollout that is the last one

last_set : {X : Type 0} (xs : List X) (x y : X) → set (xs ++ x ∷ []) (length xs) y ≡ xs ++ y ∷ []
last_set [] x y = refl
last_set (z ∷ xs) x y = ap (λ l. z ∷ l) (last_set xs x y)

numbered_last : {X : Type 0} (xs : List X) (x : X) (n : ℕ) → n ≡ length xs + 1 → item_numbered (xs ++ x ∷ []) n ≡ Some x
numbered_last xs x n is = let next : n ≡ suc (length xs) = omega (arith, is) in ap (item_numbered (xs ++ x ∷ [])) next ∙ last_there xs x

set_last : {X : Type 0} (xs : List X) (x y : X) (n : ℕ) → n ≡ length xs + 1 → set_numbered (xs ++ x ∷ []) n y ≡ xs ++ y ∷ []
set_last xs x y n is = let next : n ≡ suc (length xs) = omega (arith, is) in ap (λ k. set_numbered (xs ++ x ∷ []) k y) next ∙ last_set xs x y

-- of each group there are bounds
pub within : (plan : RolloutPlan) (size : ℕ) (cuts : List Bounds) → cuts ≡ cut_by plan.groups size → (k : ℕ) → k < plan.groups.count → k < length cuts
within plan size cuts are k below = subst (λ n. k < n) (sym (ap length are ∙ length_each (bounds_by plan.groups size) 1 plan.groups.count)) below

module _ (n : NewRollout) (plan : RolloutPlan) (size : ℕ) where
  -- the groups before an index, and the one there, of which nothing is said yet
  pub one_group : (cuts : List Bounds) → cuts ≡ cut_by plan.groups size → (k : ℕ) (d : Bounds) → k < plan.groups.count → (l next : Ledger)
      → CreatesRollout (in_part n plan size (k + 1) []) (first_rules plan k) l next
      → (mid : Ledger) × CreatesRollout (in_part n plan size k []) (first_rules plan k) l mid × AddsGroup n.number (k + 1) (get_or cuts k d) mid next
  one_group cuts are k d below l next h =
      let was = in_part n plan size k [] in
      let there = ap (λ bs. slice_get bs k) (sym are) ∙ slice_get-get_or cuts k d (within plan size cuts are k below) in
      let its : get_or cuts k d ≡ bounds_by plan.groups size (k + 1) =
      (numbered_each (bounds_by plan.groups size) plan.groups.count (suc k) (get_or cuts k d) there).2 ∙ ap (bounds_by plan.groups size) (omega arith) in (
        and_rollout was (first_rules plan k) l,
        record { number_is = h.number_is; ruled = h.ruled; unacted = h.unacted; next_is = refl },
        record {
          rollout = was;
          is_there = numbered_last l.records.rollouts was n.number h.number_is;
          group_is = ap (λ m. m + 1) (sym (length_each (new_group plan size) 1 k));
          next_is = h.next_is ∙ ap (λ gs. and_rollout (record was { groups = gs }) (first_rules plan k) l)
              (each_from_more (new_group plan size) 1 k (k + 1) (cut_group (k + 1) (get_or cuts k d)) (omega arith) (ap (cut_group (k + 1)) its))
              ∙ ap (with_rollouts (and_rollout was (first_rules plan k) l)) (sym (set_last l.records.rollouts was _ n.number h.number_is));
        },
      )

  -- .. and then something is
  pub one_rule : (k : ℕ) (l next : Ledger) → CreatesRollout (in_part n plan size (k + 1) []) (first_rules plan (k + 1)) l next
      → (mid : Ledger) × CreatesRollout (in_part n plan size (k + 1) []) (first_rules plan k) l mid × AddsRule n.number (k + 1) (rule_at plan (k + 1)) mid next
  one_rule k l next h =
      let x = in_part n plan size (k + 1) [] in
      let its = first_rules plan k in
      let last : n.number ≡ length l.rules + 1 = h.number_is ∙ ap (λ m. m + 1) (sym h.ruled) in (
        and_rollout x its l,
        record { number_is = h.number_is; ruled = h.ruled; unacted = h.unacted; next_is = refl },
        record {
          its = its;
          is_there = numbered_last l.rules its n.number last;
          group_is = ap (λ m. m + 1) (sym (length_each (rule_at plan) 1 k));
          next_is = h.next_is ∙ ap (λ rules. and_rollout x rules l) (each_from_more (rule_at plan) 1 k (k + 1) (rule_at plan (k + 1)) (omega arith) refl)
              ∙ ap (with_rules (and_rollout x its l)) (sym (set_last l.rules its _ n.number last));
        },
      )

  -- its groups, and then its members
  pub then_members : (k : ℕ) (rules : List GroupRule) (members : List Bytes) (l next : Ledger) → CreatesRollout (in_part n plan size k members) rules l next
      → (mid : Ledger) × CreatesRollout (in_part n plan size k []) rules l mid × AddsMembers n.number 1 members mid next
  then_members k rules members l next h =
      let was = in_part n plan size k [] in (
        and_rollout was rules l,
        record { number_is = h.number_is; ruled = h.ruled; unacted = h.unacted; next_is = refl },
        record {
          rollout = was;
          is_there = numbered_last l.records.rollouts was n.number h.number_is;
          place_is = refl;
          unacted = h.unacted;
          next_is = h.next_is ∙ ap (with_rollouts (and_rollout was rules l)) (sym (set_last l.records.rollouts was _ n.number h.number_is));
        },
      )

-- ---- its members

pub no_members : (number place : ℕ) (l next : Ledger) → AddsMembers number place [] l next → next ≡ l
no_members number place l next h =
    let rs = l.records.rollouts in
    h.next_is ∙ ap (λ ids. with_rollouts l (set_numbered rs number (record h.rollout { members = ids }))) (append-nil h.rollout.members)
    ∙ ap (with_rollouts l) (set_same number rs h.rollout h.is_there)

-- some, and then more
pub more_members : (number place : ℕ) (some more : List Bytes) (l next : Ledger) → AddsMembers number place (some ++ more) l next
    → (mid : Ledger) × AddsMembers number place some l mid × AddsMembers number (place + length some) more mid next
more_members number place some more l next h =
    let rs = l.records.rollouts in
    let x = h.rollout in
    let y = and_members x some in (
      with_rollouts l (set_numbered rs number y),
      record { rollout = x; is_there = h.is_there; place_is = h.place_is; unacted = h.unacted; next_is = refl },
      record {
        rollout = y;
        is_there = set_is_there rs number x y h.is_there;
        place_is = let size = length-append x.members some in omega (arith, size, h.place_is);
        unacted = h.unacted;
        next_is = h.next_is
            ∙ ap (λ ids. with_rollouts l (set_numbered rs number (record x { members = ids }))) (sym (append_assoc x.members some more))
            ∙ ap (with_rollouts l) (sym (set_twice number rs y (and_members y more)));
      },
    )

-- by so many: those before, and those there, are those before the next
chunk_next : (many count k : ℕ) (ids some d : List Bytes) → k < count → some ≡ get_or (first_chunks many count ids) k d
    → take (k * many) ids ++ some ≡ take ((k + 1) * many) ids
chunk_next many zero k ids some d below is = absurd (omega (arith, below))
chunk_next many (suc count) zero ids some d below is =
    let none : zero * many ≡ zero = omega arith in
    let one : many ≡ (zero + 1) * many = omega arith in
    ap (λ n. take n ids ++ some) none ∙ is ∙ ap (λ n. take n ids) one
chunk_next many (suc count) (suc k) ids some d below is =
    let was : suc k * many ≡ many + k * many = omega arith in
    let now : (suc k + 1) * many ≡ many + (k + 1) * many = omega arith in
    let rest = drop many ids in
    ap (λ n. take n ids ++ some) was ∙ ap (λ l. l ++ some) (take-add many (k * many) ids)
    ∙ append_assoc (take many ids) (take (k * many) rest) some
    ∙ ap (λ l. take many ids ++ l) (chunk_next many count k rest some d (omega (arith, below)) is)
    ∙ sym (take-add many ((k + 1) * many) ids) ∙ ap (λ n. take n ids) (sym now)

-- of all members: sixteen at once, behind those before them
pub sixteen_more : (number : ℕ) (all ids : List Bytes) (count k : ℕ) → k < count → count * 16 ≤ length all
    → ids ≡ get_or (first_chunks 16 count all) k ids → (l next : Ledger) → AddsMembers number 1 (take ((k + 1) * 16) all) l next
    → (mid : Ledger) × AddsMembers number 1 (take (k * 16) all) l mid × AddsMembers number (k * 16 + 1) ids mid next
sixteen_more number all ids count k below many is l next h =
    let size : length (take (k * 16) all) ≡ k * 16 = length-take-le (k * 16) all (omega (arith, below, many)) in
    let place : 1 + length (take (k * 16) all) ≡ k * 16 + 1 = omega (arith, size) in
    subst (λ p. (mid : Ledger) × AddsMembers number 1 (take (k * 16) all) l mid × AddsMembers number p ids mid next) place
    (more_members number 1 (take (k * 16) all) ids l next
    (subst (λ its. AddsMembers number 1 its l next) (sym (chunk_next 16 count k all ids ids below is)) h))

-- .. and then one by one
pub one_more_member : (number : ℕ) (all : List Bytes) (before j : ℕ) (id : Bytes) → before ≤ length all → j < length (drop before all)
    → id ≡ get_or (drop before all) j id → (l next : Ledger) → AddsMembers number 1 (take (before + (j + 1)) all) l next
    → (mid : Ledger) × AddsMembers number 1 (take (before + j) all) l mid × AddsMembers number (before + j + 1) (id ∷ []) mid next
one_more_member number all before j id low below is l next h =
    let rest = length-drop before all in
    let size : length (take (before + j) all) ≡ before + j = length-take-le (before + j) all (omega (arith, below, low, rest)) in
    let place : 1 + length (take (before + j) all) ≡ before + j + 1 = omega (arith, size) in
    let more : take (before + (j + 1)) all ≡ take (before + j) all ++ id ∷ [] =
    take-add before (j + 1) all ∙ ap (λ l. take before all ++ l) (one_more (drop before all) id j below is)
    ∙ sym (append_assoc (take before all) (take j (drop before all)) (id ∷ [])) ∙ ap (λ l. l ++ id ∷ []) (sym (take-add before j all)) in
    subst (λ p. (mid : Ledger) × AddsMembers number 1 (take (before + j) all) l mid × AddsMembers number p (id ∷ []) mid next) place
    (more_members number 1 (take (before + j) all) (id ∷ []) l next (subst (λ its. AddsMembers number 1 its l next) more h))

-- ---- no action is its

behind : {X : Type 0} (xs : List X) (x : X) (n : ℕ) → nat_eq n (length xs + 1) ≡ false → item_numbered (xs ++ x ∷ []) n ≡ item_numbered xs n
behind xs x zero apart = refl
behind [] x (suc zero) apart = absurd cc
behind [] x (suc (suc n)) apart = refl
behind (y ∷ xs) x (suc zero) apart = refl
behind (y ∷ xs) x (suc (suc n)) apart = behind xs x (suc n) (grind (arith, nat_tests, apart))

-- so each target keeps its offer
same_offers : (r : Records) (x : RolloutRecord) (t : Bytes) (k : ℕ) (as' : List ActionRecord)
    → list_all (λ (a : ActionRecord). not (nat_eq a.rollout (length r.rollouts + 1))) as' ≡ true
    → first_offer (record r { rollouts = r.rollouts ++ x ∷ [] }) t k as' ≡ first_offer r t k as'
same_offers r x t k [] none = refl
same_offers r x t k (a ∷ more) none = grind (arith, same_offers r x t (suc k) more, and_parts, behind, not-true)

at_lists : (h : CommandList) (n : ℕ) (ps : List ActionPlace) → ((i : ℕ) (p : ActionPlace) → slice_get ps i ≡ Some p → nat_eq p.rollout n ≡ false)
    → list_all (λ (a : ActionRecord). not (nat_eq a.rollout n)) (map (action_in h) ps) ≡ true
at_lists h n [] none = refl
at_lists h n (p ∷ ps) none = rw (none 0 p refl) (at_lists h n ps (λ i q at. none (suc i) q at))

as_many : (h : CommandList) (a : ℕ) (xs : List MadeRollout) → length (rollouts_in h a xs) ≡ length xs
as_many h a [] = refl
as_many h a (x ∷ xs) = ap suc (as_many h (suc a) xs)

none_acts : (h : CommandList) → IsValid h → list_all (λ (a : ActionRecord). not (nat_eq a.rollout (length (records h).rollouts + 1))) (records h).actions ≡ true
unfolding records
none_acts h valid = at_lists h (length (records h).rollouts + 1) (action_places h) (λ i p at.
    let place = (invariant_of h valid).placed (suc i) p at in
    let apart : nat_eq p.rollout (length (rollouts_in h 1 (rollouts h)) + 1) ≡ false =
    grind (arith, nat_tests, slice_get_within, place.there, as_many h 1 (rollouts h)) in
    apart)

-- ---- a command

-- what was read of a plan that is accepted
pub record IsReady (plan : RolloutPlan) (n : NewRollout) (members : List Bytes) (r : Records) : Type 0 where
  pub accepted : check r (CreateRollout plan) ≡ None
  pub number_is : n.number ≡ length r.rollouts + 1
  pub approval_is : n.approval ≡ approval_at r.approval
  pub members_are : members ≡ chosen (filter_of plan.filter_text) r.targets

abbrev made : RolloutPlan → Records → RolloutRecord
made plan r = new_rollout r.approval (suc (length r.rollouts)) plan (chosen (filter_of plan.filter_text) r.targets)

module _ (plan : RolloutPlan) (n : NewRollout) (members : List Bytes) where
  -- the ledger of the records after it is the one that is written
  pub creates : (h : CommandList) → IsValid h → IsReady plan n members (records h)
      → CreatesRollout (in_part n plan (length members) plan.groups.count members) (rules_of plan) (ledger_of (records h))
      (ledger_of (step_records (records h) (CreateRollout plan)))
  creates h valid is =
      let r = records h in
      let same : made plan r ≡ in_part n plan (length members) plan.groups.count members = grind (arith, is) in
      record {
        number_is = is.number_is;
        ruled = length-map r.rollouts (λ (x : RolloutRecord). rules_of x.plan);
        unacted = ap (λ k. list_all (λ (a : ActionRecord). not (nat_eq a.rollout k)) r.actions) is.number_is ∙ none_acts h valid;
        next_is = same_ledger _ _ (ap (λ x. record r { rollouts = r.rollouts ++ x ∷ [] }) same) refl
            (λ t. same_offers r (made plan r) t 1 r.actions (none_acts h valid))
            (map-append (λ (x : RolloutRecord). rules_of x.plan) r.rollouts (made plan r ∷ [])) refl;
      }

  pub shown_added : (r : Records) → IsReady plan n members r → (count : ℕ) → count ≡ length members → (shown : Rollout) → (word : RolloutWord)
      × IsWordOf n.approval word × (shown ≡ shown_new plan n.number word count)
      → reply_of (reply.RolloutAdded shown) ≡ command_reply (CreateRollout plan) (step_records r (CreateRollout plan))
  shown_added r is count size shown it = grind (arith, numbered_last, length-append)

-- the view is of the plan, and the verdict lets it pass
pub ready : (plan : RolloutPlan) (n : NewRollout) (found : Chosen) (view : PlanView) (r : Records) → IsChosen plan.filter_text r found
    → (IsChosen plan.filter_text r found → IsPlanView view plan r) → plan_refusal view plan.groups ≡ None
    → n ≡ record { number = view.count + 1; approval = approval_at view.approval } → IsReady plan n found.members.items r
ready plan n found view r chosen sees passes is = grind (arith, judged)
