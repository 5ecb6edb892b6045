-- Runs of a desk over a list of requests.
use Rattle.std.specs.Option.{option_to_list}
use Rattle.std.specs.Prelude.{◌≡◌, ◌≢◌, ◌⊎◌, List, [], ◌∷◌, ◌++◌, map, Option, Result, Vec, All, MatchResult}
use Rattle.std.specs.declared.alloc.Global.{Global}
use Rattle.std.specs.List.{flat_map}
use Rattle.sqlite.specs.Store.{Ghosts}
use Rattle.rollout_model.specs.declared.refusal.Refusal.{Refusal}
use Rattle.rollout_model.specs.declared.refusal.Refusal.TheVariants.{NoMemory, StoreFailed}
use Rattle.rollout_model.specs.declared.request.Reply as model
use Rattle.rollout_machine.specs.Answers.{MayAnswer}
use Rattle.rollout_machine.specs.Commands.{Command}
use Rattle.rollout_machine.specs.CommandList.{CommandList, followed_by}
use Rattle.rollout_machine.specs.Replies.{Reply, Refused}
use Rattle.rollout_machine.specs.Requests.{Request, Asks}
use Rattle.rollout_machine.specs.Standing.{DeskState, StandsFor, IsInDoubt}
use Rattle.rollout_machine.specs.Validity.{IsValid}
use Rattle.rollout_machine.specs.Views.{reply_of}
use Rattle.rollout_desk.specs.DeskStates.{desk_state}
use Rattle.rollout_desk.specs.Promises.{IsPromised}
use Rattle.rollout_desk.specs.declared.desk.Desk.{Desk}

-- a request, its reply, and the command that was accepted for it
pub record RequestExchange : Type 0 where
  pub request : Request
  pub reply : Reply
  pub accepted : Option Command

abbrev pub requests_of : List RequestExchange → List Request
requests_of run = map (λ x. x.request) run

abbrev pub replies_of : List RequestExchange → List Reply
replies_of run = map (λ x. x.reply) run

abbrev pub accepted_of : List RequestExchange → List Command
accepted_of run = flat_map (λ x. option_to_list x.accepted) run

-- each request is answered at the list so far
abbrev pub IsRun : CommandList → List RequestExchange → Type 0
IsRun h [] = Unit {0}
IsRun h (x ∷ xs) = MayAnswer h (Asks x.request) x.reply x.accepted × IsRun (followed_by h (option_to_list x.accepted)) xs

-- no store failed
abbrev pub GoesOn : List RequestExchange → Type 0
GoesOn run = All (λ (x : RequestExchange). x.reply ≢ Refused StoreFailed) run

-- every request was answered, and the desk stands for the list followed by what was accepted
pub record RunsThrough {File : Type 0} (h : CommandList) (s : DeskState File) (requests : List Request) (replies : List Reply) : Type 0 where
  pub run : List RequestExchange
  pub requests_are : requests_of run ≡ requests
  pub replies_are : replies_of run ≡ replies
  pub is_run : IsRun h run
  pub goes_on : GoesOn run
  pub stands : StandsFor s (followed_by h (accepted_of run))

-- the store failed at a request: its reply is the last one, and what it asked may be kept or not
pub record BreaksOff {File : Type 0} (h : CommandList) (s : DeskState File) (requests : List Request) (replies : List Reply) : Type 0 where
  pub before : List RequestExchange
  pub last : RequestExchange
  pub unanswered : List Request
  pub requests_are : requests_of (before ++ last ∷ []) ++ unanswered ≡ requests
  pub replies_are : replies_of (before ++ last ∷ []) ≡ replies
  pub is_run : IsRun h (before ++ last ∷ [])
  pub goes_on : GoesOn before
  pub valid : IsValid (followed_by h (accepted_of before))
  pub failed : last.reply ≡ Refused StoreFailed
  pub in_doubt : IsInDoubt s (followed_by h (accepted_of before)) last.accepted

-- how a run over requests ends, for a desk that stood for h
abbrev pub EndsRun : {File : Type 0} → CommandList → DeskState File → List Request → List Reply → Type 0
EndsRun h s requests replies = RunsThrough h s requests replies ⊎ BreaksOff h s requests replies

-- Requests are answered in order, at whatever list the desk stands for; or memory was wanted, and nothing was done.
abbrev pub AnswersAll : {S : Type 0} → Ghosts S → Desk S → Desk S → List Request → Result (Vec model.Reply Global) Refusal → Type 0
AnswersAll g old new requests result = IsPromised (desk_state g old) (desk_state g new) (λ h. MatchResult result
    (λ replies. EndsRun h (desk_state g new) requests (map reply_of replies.items))
    (λ refusal. (refusal ≡ NoMemory) × StandsFor (desk_state g new) h))
