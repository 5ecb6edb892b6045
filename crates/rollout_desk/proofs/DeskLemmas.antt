-- From one request of a desk's store to the desk, which may be stopped.
use Rattle.rollout_desk.proofs.Common.{◌≡◌, Bool, true, false, sym, subst, ◌∙◌, false≢true, Database, HasCleanDisk, State, CommandList, Records}
use Rattle.rollout_desk.proofs.Common.{Reply, Request, Asks, AppliesAt, Applies, StandsFor, StaysStopped, desk_state_at, is_failed_store, Handles}
use Rattle.rollout_desk.specs.Desks.{Known, desk_state_knowing}
use Rattle.rollout_desk.proofs.KnowingLemmas.{HoldsBehind, StaysKnown, applied, unknowing}

module _ (Holds : Database → Records → Type 0) (known next : Known) (old new : State) where
  abbrev AtEach : (CommandList → Type 0) → Type 0
  AtEach P = (h : CommandList) → HasCleanDisk new → StandsFor (desk_state_knowing Holds known false old) h → P h

  -- a running desk answers by its store, and is stopped after a failed one
  pub answers_learning : (was stopped : Bool) (request : Request) (reply : Reply) → was ≡ false
      → AtEach (λ h. AppliesAt h (desk_state_at Holds (is_failed_store reply) new) (Asks request) reply) → stopped ≡ is_failed_store reply
      → AtEach (λ h. HoldsBehind next h request reply)
      → Applies (desk_state_knowing Holds known was old) (desk_state_knowing Holds next stopped new) (Asks request) reply
  answers_learning was stopped request reply runs handles is learns h clean standing =
      let stood = subst (λ (b : Bool). StandsFor (desk_state_knowing Holds known b old) h) runs standing in
      applied Holds next new stopped request reply h (learns h clean stood)
      (subst (λ (b : Bool). AppliesAt h (desk_state_at Holds b new) (Asks request) reply) (sym is) (handles h clean stood))

  pub answers_knowing : (was stopped : Bool) (request : Request) (reply : Reply) → was ≡ false
      → AtEach (λ h. AppliesAt h (desk_state_at Holds (is_failed_store reply) new) (Asks request) reply) → stopped ≡ is_failed_store reply
      → StaysKnown known next request reply
      → Applies (desk_state_knowing Holds known was old) (desk_state_knowing Holds next stopped new) (Asks request) reply
  answers_knowing was stopped request reply runs handles is stays =
      answers_learning was stopped request reply runs handles is (λ h clean standing. stays h standing.shows.1)

  pub answers : (was stopped : Bool) (request : Request) (reply : Reply) → was ≡ false → Handles Holds old new request reply → stopped ≡ is_failed_store reply
      → StaysKnown known next request reply → Applies (desk_state_knowing Holds known was old) (desk_state_knowing Holds next stopped new) (Asks request) reply
  answers was stopped request reply runs handles =
      answers_knowing was stopped request reply runs (λ h clean standing. handles.handles h clean (unknowing Holds known false old h standing))

-- a stopped desk answers nothing else
module _ (Holds : Database → Records → Type 0) (known : Known) (s : State) where
  pub refuses : (was : Bool) (asked : Rattle.rollout_machine.specs.Requests.Asked) (reply : Reply) → was ≡ true
      → Applies (desk_state_knowing Holds known was s) (desk_state_knowing Holds known was s) asked reply
  refuses was asked reply stopped list clean standing = absurd (false≢true (sym standing.runs ∙ stopped))

  pub stays : (was : Bool) → was ≡ true → StaysStopped (desk_state_knowing Holds known was s) (desk_state_knowing Holds known was s)
  stays was stopped = record { stopped = stopped; crash = λ file left. left; holds = λ file list h. h }
