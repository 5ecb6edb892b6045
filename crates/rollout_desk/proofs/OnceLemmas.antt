-- What comes again in a run leaves no trace.
use Rattle.rollout_desk.proofs.Common.{arith, inl, inr, Bool, List, [], ◌∷◌, ◌++◌, Option, subst, Database, State, Trees, HoldIn, MayAnswer, CommandList}
use Rattle.rollout_desk.proofs.Common.{◌▸◌}
use Rattle.rollout_desk.proofs.Common.{followed_by, Command, Records, Reply, Asked, Asks, Request, one, StandsFor, IsInDoubt, IsValid, records_step}
use Rattle.rollout_desk.proofs.Common.{HoldsReadable, HoldsList, EndsRun, RequestExchange, IsRun, accepted_of}
use Rattle.rollout_machine.specs.Repeats.{without_repeats, IsTraceless}
use Rattle.rollout_machine.proofs.Once.{repeats_leave_no_trace}
use Rattle.rollout_desk.specs.Desks.{Known, desk_state_knowing}
use Rattle.rollout_desk.specs.Once.{AnswersOnce, EndsOnce}
use Rattle.rollout_desk.proofs.RunLemmas.{followed_append}

-- ---- answers

-- what may be answered at a list may be at the list without its repeats
may_answer : (h : CommandList) (asked : Asked) (reply : Reply) (accepted : Option Command) → IsValid h → MayAnswer h asked reply accepted
    → MayAnswer (without_repeats h) asked reply accepted
may_answer h asked reply accepted valid may = grind (arith, repeats_leave_no_trace)

-- a list of accepted commands begins with one
valid_before : (h : CommandList) (cs : List Command) → IsValid (followed_by h cs) → IsValid h
valid_before h [] valid = valid
valid_before h (c ∷ cs) valid = (valid_before (h ▸ c) cs valid).0

-- the list after the first exchange of a run
after_first : (h : CommandList) (x : RequestExchange) (xs : List RequestExchange) → IsValid (followed_by h (accepted_of (x ∷ xs)))
    → IsValid (followed_by (followed_by h (one x.accepted)) (accepted_of xs))
after_first h x xs valid = subst IsValid (followed_append h (one x.accepted) (accepted_of xs)) valid

all_once : (h : CommandList) (run : List RequestExchange) → IsRun h run → IsValid (followed_by h (accepted_of run)) → AnswersOnce h run
all_once h [] is valid = tt
all_once h (x ∷ xs) is valid = (
  may_answer h (Asks x.request) x.reply x.accepted (valid_before h (accepted_of (x ∷ xs)) valid) is.0,
  all_once (followed_by h (one x.accepted)) xs is.1
      (after_first h x xs valid),
)

-- up to an exchange whose command may not be kept
last_once : (h : CommandList) (before : List RequestExchange) (last : RequestExchange) → IsRun h (before ++ last ∷ [])
    → IsValid (followed_by h (accepted_of before))
    → AnswersOnce h (before ++ last ∷ [])
last_once h [] last is valid = (may_answer h (Asks last.request) last.reply last.accepted valid is.0, tt)
last_once h (x ∷ xs) last is valid = (
  may_answer h (Asks x.request) x.reply x.accepted (valid_before h (accepted_of (x ∷ xs)) valid) is.0,
  last_once (followed_by h (one x.accepted)) xs last
      is.1 (after_first h x xs valid),
)

-- ---- what the desk stands for

module _ (Holds : Database → Records → Type 0) (known : Known) (stopped : Bool) (s : State) where
  holds_calm : (file : Trees) (h : CommandList) → HoldsList file h → HoldsList file (without_repeats h)
  holds_calm file h holds = let it : IsTraceless h = repeats_leave_no_trace h holds.0 in (it.valid, subst (HoldIn HoldsReadable file) it.same holds.1)

  -- with one more command after it
  holds_more : (file : Trees) (h : CommandList) (accepted : Option Command) → HoldsList file (followed_by h (one accepted))
      → HoldsList file (followed_by (without_repeats h) (one accepted))
  holds_more file h accepted holds = grind (arith, holds_calm, repeats_leave_no_trace, records_step)

  stands_calm : (h : CommandList) → StandsFor (desk_state_knowing Holds known stopped s) h
      → StandsFor (desk_state_knowing Holds known stopped s) (without_repeats h)
  stands_calm h standing = grind (arith, repeats_leave_no_trace, holds_calm)

  doubt_calm : (h : CommandList) (accepted : Option Command) → IsInDoubt (desk_state_knowing Holds known stopped s) h accepted
      → IsInDoubt (desk_state_knowing Holds known stopped s) (without_repeats h) accepted
  doubt_calm h accepted doubt = record {
    stopped = doubt.stopped;
    crash = λ file left. elim (doubt.crash file left) [ inl it ↦ inl (holds_calm file h it) | inr it ↦ inr (holds_more file h accepted it) ];
  }

  pub ends_once : (h : CommandList) (requests : List Request) (replies : List Reply) → EndsRun h (desk_state_knowing Holds known stopped s) requests replies
      → EndsOnce h (desk_state_knowing Holds known stopped s) requests replies
  ends_once h requests replies (inl it) = inl (record { through = it; answers = all_once h it.run it.is_run it.stands.valid; stands = stands_calm _ it.stands })
  ends_once h requests replies (inr it) =
      inr (record { broken = it; answers = last_once h it.before it.last it.is_run it.valid; in_doubt = doubt_calm _ it.last.accepted it.in_doubt })
