-- Worked examples, computed over the records.
use Rattle.rollout_machine.proofs.Common.{◌≡◌, ℕ, true, false, List, [], ◌∷◌, ◌++◌, Some, None, refl, Command, Pause, Resume, Cancel, CreateRollout, Start}
use Rattle.rollout_machine.proofs.Common.{ClosedAction, WrongState, FinishedRollout, PausedRollout, RunningRollout, check}
use Rattle.rollout_machine.proofs.Examples.Fleet.{rolled_out, everyone, only, device, plan_for, succeeds, fails, rejects, run_of, all_accepted, shown, offered}
use Rattle.rollout_machine.proofs.RecordRuns.{no_records}

abbrev R : ℕ → ℕ → ℕ → List Command
R groups success error = rolled_out everyone groups success error

all_are_accepted : all_accepted (no_records false) (R 3 50 100 ++ succeeds 1 1 ∷ succeeds 2 2 ∷ []) ≡ true
all_are_accepted = refl

first_success_alone : shown (run_of (R 3 50 100 ++ succeeds 1 1 ∷ [])) 1 ≡ Some (RunningRollout, (true, 1, 0, 0) ∷ (false, 0, 0, 0) ∷ (false, 0, 0, 0) ∷ [])
first_success_alone = refl

second_success_starts : shown (run_of (R 3 50 100 ++ succeeds 1 1 ∷ succeeds 2 2 ∷ [])) 1
    ≡ Some (RunningRollout, (true, 2, 0, 0) ∷ (true, 0, 0, 0) ∷ (false, 0, 0, 0) ∷ [])
second_success_starts = refl

error_below_threshold : shown (run_of (R 3 100 34 ++ fails 1 1 ∷ [])) 1 ≡ Some (RunningRollout, (true, 0, 1, 0) ∷ (false, 0, 0, 0) ∷ (false, 0, 0, 0) ∷ [])
error_below_threshold = refl

error_at_threshold : shown (run_of (R 3 100 33 ++ fails 1 1 ∷ [])) 1 ≡ Some (PausedRollout, (true, 0, 1, 0) ∷ (false, 0, 0, 0) ∷ (false, 0, 0, 0) ∷ [])
error_at_threshold = refl

nothing_while_paused : offered (run_of (R 3 50 100 ++ Pause 1 ∷ succeeds 1 1 ∷ succeeds 2 2 ∷ [])) 4 ≡ None
nothing_while_paused = refl

offered_after_resume : offered (run_of (R 3 50 100 ++ Pause 1 ∷ succeeds 1 1 ∷ succeeds 2 2 ∷ Resume 1 ∷ [])) 4 ≡ Some (4, false)
offered_after_resume = refl

no_second_pause : shown (run_of (R 3 100 33 ++ fails 1 1 ∷ Resume 1 ∷ fails 2 2 ∷ [])) 1
    ≡ Some (RunningRollout, (true, 0, 2, 0) ∷ (false, 0, 0, 0) ∷ (false, 0, 0, 0) ∷ [])
no_second_pause = refl

repeat_counts_once : shown (run_of (R 3 50 100 ++ succeeds 1 1 ∷ succeeds 1 1 ∷ [])) 1
    ≡ Some (RunningRollout, (true, 1, 0, 0) ∷ (false, 0, 0, 0) ∷ (false, 0, 0, 0) ∷ [])
repeat_counts_once = refl

repeat_is_accepted : check (run_of (R 3 50 100 ++ succeeds 1 1 ∷ [])) (succeeds 1 1) ≡ None
repeat_is_accepted = refl

other_outcome_is_refused : check (run_of (R 3 50 100 ++ succeeds 1 1 ∷ succeeds 1 1 ∷ [])) (fails 1 1) ≡ Some ClosedAction
other_outcome_is_refused = refl

-- two rollouts of one device
abbrev two : List Command
two = rolled_out (only 1) 1 50 100 ++ CreateRollout (plan_for (only 1) 2 1 50 100) ∷ Start 2 ∷ []

least_is_offered : offered (run_of two) 1 ≡ Some (1, false)
least_is_offered = refl

offered_as_cancel : offered (run_of (two ++ Cancel (device 1) 1 false ∷ [])) 1 ≡ Some (1, true)
offered_as_cancel = refl

offered_again : offered (run_of (two ++ Cancel (device 1) 1 false ∷ rejects 1 1 ∷ [])) 1 ≡ Some (1, false)
offered_again = refl

rejected_once : check (run_of (two ++ Cancel (device 1) 1 false ∷ rejects 1 1 ∷ [])) (rejects 1 1) ≡ Some WrongState
rejected_once = refl

canceled_once : check (run_of (two ++ Cancel (device 1) 1 false ∷ rejects 1 1 ∷ Cancel (device 1) 1 false ∷ [])) (Cancel (device 1) 1 false) ≡ Some WrongState
canceled_once = refl

next_is_offered : offered (run_of (two ++ Cancel (device 1) 1 false ∷ rejects 1 1 ∷ Cancel (device 1) 1 false ∷ Cancel (device 1) 1 true ∷ [])) 1
    ≡ Some (2, false)
next_is_offered = refl

finished_with_error : shown (run_of (rolled_out (only 1) 1 100 100 ++ fails 1 1 ∷ [])) 1 ≡ Some (FinishedRollout, (true, 0, 1, 0) ∷ [])
finished_with_error = refl
