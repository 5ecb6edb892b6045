-- What a desk knows of the ids of its targets, from one request to the next.
use Rattle.rollout_desk.proofs.Common.{◌≡◌, ◌⊎◌, inl, inr, suc, Bool, length, List, [], ◌∷◌, Option, Some, None, refl, sym, subst, ap, ◌∙◌}
use Rattle.rollout_desk.proofs.Common.{arith, Database, State, Answer, MayAnswer, CommandList, ◌▸◌}
use Rattle.rollout_desk.proofs.Common.{followed_by, Command, Records, Reply, Request, Query, Ask, Asks, Do, one, AppliesAt}
use Rattle.rollout_desk.proofs.Common.{IsInDoubt, StandsFor, query_answer, desk_state_at}
use Rattle.std.specs.Prelude.{map}
use Rattle.rollout_machine.specs.Answers.{answer}
use Rattle.rollout_machine.specs.Records.{records}
use Rattle.rollout_machine.specs.Targets.{Target}
use Rattle.rollout_machine.specs.Verdicts.{verdict}
use Rattle.desk_records.specs.Targets.{ids_of}
use Rattle.rollout_machine.specs.Commands.{Bytes}
use Rattle.rollout_machine.specs.Targets.{target_ids, target_in}
use Rattle.rollout_desk.specs.Desks.{AreIdsOf, Known, desk_state_knowing}
use Rattle.rollout_desk.specs.private.Knowing.{known_behind}
use Rattle.rollout_machine.proofs.Words.{command_answer, targets_shown}

-- ---- with what is known, and without it

module _ (Holds : Database → Records → Type 0) (known : Known) (is_stopped : Bool) (s : State) (h : CommandList) where
  pub unknowing : StandsFor (desk_state_knowing Holds known is_stopped s) h → StandsFor (desk_state_at Holds is_stopped s) h
  unknowing it = record { runs = it.runs; valid = it.valid; shows = it.shows.0; crash = it.crash }

  pub knowing : StandsFor (desk_state_at Holds is_stopped s) h → AreIdsOf known (records h) → StandsFor (desk_state_knowing Holds known is_stopped s) h
  knowing it is = record { runs = it.runs; valid = it.valid; shows = (it.shows, is); crash = it.crash }

-- ---- what the machine accepts

accepted_by : (h : CommandList) (c : Command) → ((answer h (Asks (Do c))).accepted ≡ None) ⊎ ((answer h (Asks (Do c))).accepted ≡ Some c)
unfolding answer
accepted_by h c = elim (verdict h c) as (λ v. ((command_answer h c v).accepted ≡ None) ⊎ ((command_answer h c v).accepted ≡ Some c))
    [ None ↦ inr refl | Some refusal ↦ inl refl ]

-- whatever is answered, the command is what may be accepted
may_accept : (h : CommandList) (c : Command) (reply : Reply) (accepted : Option Command) → MayAnswer h (Asks (Do c)) reply accepted
    → (accepted ≡ None) ⊎ (accepted ≡ Some c)
may_accept h c reply accepted may = elim may [
  | inl none ↦ inl none.1
  | inr other ↦ elim other [
    | inl failed ↦ elim (accepted_by h c) [ inl it ↦ inl (failed.1 ∙ it) | inr it ↦ inr (failed.1 ∙ it) ]
    | inr found ↦ let is = ap (λ (a : Answer). a.accepted) found.1 in elim (accepted_by h c) [ inl it ↦ inl (is ∙ it) | inr it ↦ inr (is ∙ it) ]
  ]
]

-- a query appends nothing
none_accepted : (h : CommandList) (query : Query) (reply : Reply) (accepted : Option Command) → MayAnswer h (Asks (Ask query)) reply accepted → accepted ≡ None
none_accepted h query reply accepted may =
    let none : (answer h (Asks (Ask query))).accepted ≡ None = ap (λ (a : Answer). a.accepted) (query_answer h query) in elim may [
      | inl it ↦ it.1
      | inr other ↦ elim other [ inl it ↦ it.1 ∙ none | inr it ↦ ap (λ (a : Answer). a.accepted) it.1 ∙ none ]
    ]

-- ---- which ids the targets have

its_ids : (h : CommandList) (us : List Bytes) → map (λ (t : Target). t.id) (map (target_in h) us) ≡ us
its_ids h [] = refl
its_ids h (u ∷ us) = ap (λ l. u ∷ l) (its_ids h us)

ids_are : (h : CommandList) → ids_of (records h).targets ≡ target_ids h
unfolding records
ids_are h = its_ids h (target_ids h)

-- an import alone brings targets
same_ids : (h : CommandList) (c : Command) (known : Known) → AreIdsOf known (records h) → AreIdsOf (known_behind known c) (records (h ▸ c))
same_ids h c known is = grind (arith, ids_are h, ids_are (h ▸ c))

forgotten : (r : Records) (c : Command) (known : Known) → AreIdsOf known r → AreIdsOf (known_behind known c) r
forgotten r c known is = grind arith

pub shown_length : (r : Records) (ts : List Target) → length (targets_shown r ts) ≡ length ts
shown_length r [] = refl
shown_length r (t ∷ ts) = ap suc (shown_length r ts)

-- ---- a request

-- what is known next holds behind the request, whatever is accepted
abbrev pub HoldsBehind : Known → CommandList → Request → Reply → Type 0
HoldsBehind next h request reply = (accepted : Option Command) → MayAnswer h (Asks request) reply accepted
    → AreIdsOf next (records (followed_by h (one accepted)))

-- what is known stays so, whatever is accepted
abbrev pub StaysKnown : Known → Known → Request → Reply → Type 0
StaysKnown known next request reply = (h : CommandList) → AreIdsOf known (records h) → HoldsBehind next h request reply

pub behind : (known : Known) (c : Command) (reply : Reply) → StaysKnown known (known_behind known c) (Do c) reply
behind known c reply h is accepted may = elim (may_accept h c reply accepted may) [
  | inl none ↦ subst (λ o. AreIdsOf (known_behind known c) (records (followed_by h (one o)))) (sym none) (forgotten (records h) c known is)
  | inr some ↦ subst (λ o. AreIdsOf (known_behind known c) (records (followed_by h (one o)))) (sym some) (same_ids h c known is)
]

-- a query changes no records
pub after : (next : Known) (query : Query) (reply : Reply) (h : CommandList) → AreIdsOf next (records h) → HoldsBehind next h (Ask query) reply
after next query reply h is accepted may =
    subst (λ o. AreIdsOf next (records (followed_by h (one o)))) (sym (none_accepted h query reply accepted may)) is

module _ (Holds : Database → Records → Type 0) (next : Known) (s : State) where
  doubtful : (is_stopped : Bool) (h : CommandList) (accepted : Option Command) → IsInDoubt (desk_state_at Holds is_stopped s) h accepted
      → IsInDoubt (desk_state_knowing Holds next is_stopped s) h accepted
  doubtful is_stopped h accepted it = record { stopped = it.stopped; crash = it.crash }

  -- one request at a list, of a desk that knows
  pub applied : (is_stopped : Bool) (request : Request) (reply : Reply) (h : CommandList) → HoldsBehind next h request reply
      → AppliesAt h (desk_state_at Holds is_stopped s) (Asks request) reply
      → AppliesAt h (desk_state_knowing Holds next is_stopped s) (Asks request) reply
  applied is_stopped request reply h stays it = record {
    accepted = it.accepted;
    answers = it.answers;
    becomes = record {
      in_doubt = λ failed. doubtful is_stopped h it.accepted (it.becomes.in_doubt failed);
      stands = λ other. knowing Holds next is_stopped s (followed_by h (one it.accepted)) (it.becomes.stands other) (stays it.accepted it.answers);
    };
  }
