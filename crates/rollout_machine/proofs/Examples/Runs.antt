use Rattle.rollout_machine.proofs.Common.{map, ◌≡◌, ℕ, List, [], ◌∷◌, ◌++◌, Some, None, true, false, refl, ◌▸◌, Cancel, Command, PutTargets, CreateRollout}
use Rattle.rollout_machine.proofs.Common.{Start, Pause, Resume, TriggerNext, PutAttributes, Tag, step_records, without_repeats, RunningRollout, PausedRollout}
use Rattle.rollout_machine.proofs.Examples.Fleet.{fleet, run_of, only}
use Rattle.rollout_machine.specs.Records.{records}
use Rattle.rollout_machine.proofs.Examples.Fleet.{device, row_for, plan_for, everyone, set_up, rolled_out, by, succeeds, fails, history_of, shown, offered}

abbrev R : ℕ → ℕ → ℕ → List Command
R groups success error = rolled_out everyone groups success error

-- group 1's error held and was resumed; group 2, started by a trigger, begins its own
second_error : shown (records (history_of (R 3 100 33 ++ fails 1 1 ∷ Resume 1 ∷ fails 2 2 ∷ TriggerNext 1 ∷ fails 4 4 ∷ []))) 1
    ≡ Some (PausedRollout, (true, 0, 2, 0) ∷ (true, 0, 1, 0) ∷ (false, 0, 0, 0) ∷ [])
unfolding records
second_error = refl

-- a trigger of a rollout whose first group has success at 0 feedback doesn't run on; then the first's success starts nothing
trigger_early : shown (records (history_of (R 3 50 100 ++ TriggerNext 1 ∷ succeeds 1 1 ∷ succeeds 2 2 ∷ []))) 1
    ≡ Some (RunningRollout, (true, 2, 0, 0) ∷ (true, 0, 0, 0) ∷ (false, 0, 0, 0) ∷ [])
unfolding records
trigger_early = refl

-- success while paused starts nothing until the resume, and one only
resumed_one : shown (records (history_of (R 3 50 100 ++ TriggerNext 1 ∷ Pause 1 ∷ succeeds 4 4 ∷ succeeds 5 5 ∷ succeeds 1 1 ∷ succeeds 2 2 ∷ Resume 1 ∷ []))) 1
    ≡ Some (RunningRollout, (true, 2, 0, 0) ∷ (true, 2, 0, 0) ∷ (true, 0, 0, 0) ∷ [])
unfolding records
resumed_one = refl

-- another rollout's failure pauses that one alone
other : shown (records (history_of (R 1 100 10 ++ CreateRollout (plan_for everyone 2 1 100 10) ∷ Start 2 ∷ fails 3 13 ∷ []))) 1
    ≡ Some (RunningRollout, (true, 0, 0, 0) ∷ [])
unfolding records
other = refl

other_too : shown (records (history_of (R 1 100 10 ++ CreateRollout (plan_for everyone 2 1 100 10) ∷ Start 2 ∷ fails 3 13 ∷ []))) 2
    ≡ Some (PausedRollout, (true, 0, 1, 0) ∷ [])
unfolding records
other_too = refl

-- started in another order: rollout 2 has the numbers 1 to 10
order : offered (records (history_of (set_up ++ CreateRollout (plan_for everyone 1 3 50 100) ∷ CreateRollout (plan_for everyone 2 1 50 100) ∷ Start 2 ∷ Start 1
    ∷ succeeds 3 3 ∷ []))) 3 ≡ Some (13, false)
unfolding records
order = refl

-- PutTargets: the step and the history agree where a command names a target twice, before and after others
abbrev mixed : List Command
mixed = PutTargets (row_for 5 ∷ row_for 2 ∷ []) ∷ Tag (device 5) (3 ∷ []) ∷ PutAttributes (by 5) (record { key = 1 ∷ []; value = 9 ∷ [] } ∷ []) ∷ []

abbrev import_twice : Command
import_twice = PutTargets (record { id = device 5; name = 1 ∷ []; digest = 1 ∷ []; tags = (7 ∷ []) ∷ [] } ∷ row_for 9 ∷ row_for 1
    ∷ record { id = device 5; name = 2 ∷ []; digest = 2 ∷ []; tags = (8 ∷ []) ∷ (6 ∷ []) ∷ (8 ∷ []) ∷ [] } ∷ row_for 3 ∷ [])

imports_agree : records (history_of mixed ▸ import_twice) ≡ step_records (records (history_of mixed)) import_twice
unfolding records
imports_agree = refl

-- one device succeeds and one is canceled: who is offered what
abbrev run : List Command
run = rolled_out everyone 3 50 100 ++ succeeds 1 1 ∷ Cancel (device 2) 2 false ∷ []

counts_of_run : shown (run_of run) 1 ≡ Some (RunningRollout, (true, 1, 0, 0) ∷ (false, 0, 0, 0) ∷ (false, 0, 0, 0) ∷ [])
counts_of_run = refl

offers_of_run : map (offered (run_of run)) (1 ∷ 2 ∷ 3 ∷ 4 ∷ []) ≡ None ∷ Some (2, true) ∷ Some (3, false) ∷ None ∷ []
offers_of_run = refl

-- a list without repeats
calm_list : without_repeats (history_of (PutTargets fleet ∷ rolled_out (only 1) 1 50 100 ++ succeeds 1 1 ∷ succeeds 1 1 ∷ fails 1 1 ∷ []))
    ≡ history_of (rolled_out (only 1) 1 50 100 ++ succeeds 1 1 ∷ [])
calm_list = refl
