-- Runs of a desk over messages.
use Rattle.std.specs.Prelude.{◌≡◌, ◌≢◌, ℕ, List, [], ◌∷◌, map, Option}
use Rattle.std.specs.List.{flat_map}
use Rattle.http_wire.specs.Messages.{WireMessage}
use Rattle.rollout_model.specs.declared.refusal.Refusal.TheVariants.{StoreFailed}
use Rattle.rollout_machine.specs.Commands.{Command}
use Rattle.rollout_machine.specs.CommandList.{CommandList, followed_by}
use Rattle.rollout_machine.specs.Replies.{Reply, Refused}
use Rattle.rollout_machine.specs.Answers.{MayAnswer}
use Rattle.rollout_machine.specs.Repeats.{without_repeats}
use Rattle.std.specs.Option.{option_to_list}
use Rattle.stream_server.specs.declared.interface.Interface.{Interface}
use Rattle.stream_server.specs.Interfaces.{reading, reply_text}

-- a message, its reply, and the command that was accepted for it
pub record Exchange : Type 0 where
  pub message : WireMessage
  pub reply : Reply
  pub accepted : Option Command

abbrev pub messages_of : List Exchange → List WireMessage
messages_of xs = map (λ x. x.message) xs

abbrev pub accepted_in : List Exchange → List Command
accepted_in xs = flat_map (λ x. option_to_list x.accepted) xs

-- the bytes of the replies
abbrev pub texts_of : List Exchange → List ℕ
texts_of xs = flat_map (λ x. reply_text x.message x.reply) xs

-- which reply, and which accepted command, a message may get after these commands
abbrev pub Answering : Type 1
Answering = CommandList → WireMessage → Reply → Option Command → Type 0

-- The rollout machine's answer to what the message asks; or want of memory; or a failed store. It is so at the list, and at the list without its
-- repeats: what comes again leaves no trace in any answer.
pub record ByMachine (interface : Interface) (h : CommandList) (message : WireMessage) (reply : Reply) (accepted : Option Command) : Type 0 where
  pub answers : MayAnswer h (reading interface message) reply accepted
  pub once : MayAnswer (without_repeats h) (reading interface message) reply accepted

-- each message is answered at the list so far, and after a failed store there is no further reply
abbrev pub IsRun : Answering → CommandList → List Exchange → Type 0
IsRun Answers h [] = Unit {0}
IsRun Answers h (x ∷ xs) =
    Answers h x.message x.reply x.accepted
    × (x.reply ≡ Refused StoreFailed → xs ≡ [])
    × IsRun Answers (followed_by h (option_to_list x.accepted)) xs

-- no store failed
abbrev pub GoesOn : List Exchange → Type 0
GoesOn [] = Unit {0}
GoesOn (x ∷ xs) = (x.reply ≢ Refused StoreFailed) × GoesOn xs
