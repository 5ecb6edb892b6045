-- The same examples, computed over the history: nothing is stored.
use Rattle.rollout_machine.proofs.Common.{◌≡◌, ℕ, true, false, List, [], ◌∷◌, ◌++◌, Some, refl, Command, Pause, Resume, TriggerNext, Cancel, CreateRollout}
use Rattle.rollout_machine.proofs.Common.{Start, FinishedRollout, RunningRollout, IsValid}
use Rattle.rollout_machine.specs.Records.{records}
use Rattle.std.specs.Str.{is_utf8, chars}
use lib.Utf8.{encode}
use Rattle.rollout_machine.proofs.Examples.Fleet.{rolled_out, everyone, only, device, plan_for, succeeds, fails, rejects, history_of, shown, offered}

abbrev R : ℕ → ℕ → ℕ → List Command
R groups success error = rolled_out everyone groups success error

finished_with_error : shown (records (history_of (rolled_out (only 1) 1 100 100 ++ fails 1 1 ∷ []))) 1 ≡ Some (FinishedRollout, (true, 0, 1, 0) ∷ [])
unfolding records
finished_with_error = refl

second_success_starts : shown (records (history_of (R 3 50 100 ++ succeeds 1 1 ∷ succeeds 2 2 ∷ []))) 1
    ≡ Some (RunningRollout, (true, 2, 0, 0) ∷ (true, 0, 0, 0) ∷ (false, 0, 0, 0) ∷ [])
unfolding records
second_success_starts = refl

offered_after_resume : offered (records (history_of (R 3 50 100 ++ Pause 1 ∷ succeeds 1 1 ∷ succeeds 2 2 ∷ Resume 1 ∷ []))) 4 ≡ Some (4, false)
unfolding records
offered_after_resume = refl

next_is_offered : offered
    (records (history_of (rolled_out (only 1) 1 50 100 ++ CreateRollout (plan_for (only 1) 2 1 50 100) ∷ Start 2 ∷ Cancel (device 1) 1 false ∷ rejects 1 1
    ∷ Cancel (device 1) 1 false ∷ Cancel (device 1) 1 true ∷ []))) 1 ≡ Some (2, false)
unfolding records
next_is_offered = refl

-- twenty commands
abbrev long : List Command
long = R 3 50 100 ++ succeeds 1 1 ∷ Pause 1 ∷ fails 3 3 ∷ succeeds 2 2 ∷ Resume 1 ∷ succeeds 4 4 ∷ succeeds 4 4 ∷ Cancel (device 5) 5 false ∷ rejects 5 5
    ∷ fails 5 5 ∷ Pause 1 ∷ Resume 1 ∷ TriggerNext 1 ∷ succeeds 7 7 ∷ succeeds 8 8 ∷ []

twenty : shown (records (history_of long)) 1 ≡ Some (RunningRollout, (true, 2, 1, 0) ∷ (true, 1, 1, 0) ∷ (true, 2, 0, 0) ∷ [])
unfolding records
twenty = refl

-- such histories are valid
valid_list : IsValid (history_of (R 3 50 100 ++ succeeds 1 1 ∷ succeeds 2 2 ∷ []))
unfolding is_utf8 chars encode records
valid_list = (((((((tt, refl, refl), refl, refl), refl, refl), refl, refl), refl, refl), refl, refl), refl, refl)
