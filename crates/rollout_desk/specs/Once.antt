-- Runs in which something comes again: feedback on an action that has its outcome, or an import that directly follows an equal one.
use Rattle.std.specs.Option.{option_to_list}
use Rattle.std.specs.Prelude.{◌⊎◌, List, [], ◌∷◌, ◌++◌, map, IfOk, Result, Vec}
use Rattle.std.specs.declared.alloc.Global.{Global}
use Rattle.sqlite.specs.Store.{Ghosts}
use Rattle.rollout_model.specs.declared.refusal.Refusal.{Refusal}
use Rattle.rollout_model.specs.declared.request.Reply as model
use Rattle.rollout_machine.specs.Answers.{MayAnswer}
use Rattle.rollout_machine.specs.CommandList.{CommandList, followed_by}
use Rattle.rollout_machine.specs.Repeats.{without_repeats}
use Rattle.rollout_machine.specs.Replies.{Reply}
use Rattle.rollout_machine.specs.Requests.{Request, Asks}
use Rattle.rollout_machine.specs.Standing.{DeskState, StandsFor, IsInDoubt}
use Rattle.rollout_machine.specs.Views.{reply_of}
use Rattle.rollout_desk.specs.DeskStates.{desk_state}
use Rattle.rollout_desk.specs.Promises.{IsPromised}
use Rattle.rollout_desk.specs.Runs.{RequestExchange, RunsThrough, BreaksOff, accepted_of}
use Rattle.rollout_desk.specs.declared.desk.Desk.{Desk}

-- each request is answered as at the list so far without its repeats
abbrev pub AnswersOnce : CommandList → List RequestExchange → Type 0
AnswersOnce h [] = Unit {0}
AnswersOnce h (x ∷ xs) = MayAnswer (without_repeats h) (Asks x.request) x.reply x.accepted × AnswersOnce (followed_by h (option_to_list x.accepted)) xs

-- every request was answered, and what came again left no trace: the desk stands for the list without its repeats
pub record RunsOnce {File : Type 0} (h : CommandList) (s : DeskState File) (requests : List Request) (replies : List Reply) : Type 0 where
  pub through : RunsThrough h s requests replies
  pub answers : AnswersOnce h through.run
  pub stands : StandsFor s (without_repeats (followed_by h (accepted_of through.run)))

-- the store failed at a request: a crash leaves the list without its repeats, or that with what was asked
pub record BreaksOffOnce {File : Type 0} (h : CommandList) (s : DeskState File) (requests : List Request) (replies : List Reply) : Type 0 where
  pub broken : BreaksOff h s requests replies
  pub answers : AnswersOnce h (broken.before ++ broken.last ∷ [])
  pub in_doubt : IsInDoubt s (without_repeats (followed_by h (accepted_of broken.before))) broken.last.accepted

-- how a run over requests ends, for a desk that stood for h, where nothing counts twice
abbrev pub EndsOnce : {File : Type 0} → CommandList → DeskState File → List Request → List Reply → Type 0
EndsOnce h s requests replies = RunsOnce h s requests replies ⊎ BreaksOffOnce h s requests replies

-- Whatever list the desk stands for: what comes again in a run leaves no trace.
abbrev pub AnswersAllOnce : {S : Type 0} → Ghosts S → Desk S → Desk S → List Request → Result (Vec model.Reply Global) Refusal → Type 0
AnswersAllOnce g old new requests result = IsPromised (desk_state g old) (desk_state g new) (λ h. IfOk result
    (λ replies. EndsOnce h (desk_state g new) requests (map reply_of replies.items)))
