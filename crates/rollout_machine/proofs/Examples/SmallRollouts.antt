-- Small rollouts worked by hand: how members are cut, too few of them, the words of groups, and feedback.
use Rattle.rollout_machine.proofs.Common.{◌≡◌, ℕ, List, [], ◌∷◌, ◌++◌, Option, Some, None, refl, map, codes, option_map, query_reply, item_numbered, Bytes}
use Rattle.rollout_machine.proofs.Common.{Command, CreateRollout, Pause, Resume, cut, RolloutRecord, ShownGroup, ReportShown, ShowReport, RolloutWord}
use Rattle.rollout_machine.proofs.Common.{FinishedRollout, PausedRollout, RunningRollout, GroupWord, FinishedGroup, RunningGroup, ScheduledGroup, rollout_word}
use Rattle.rollout_machine.proofs.Common.{group_word, check, Bounds, TooFewTargets}
use Rattle.rollout_machine.proofs.Examples.Fleet.{plan_for, everyone, only, set_up, rolled_out, succeeds, fails, run_of}

abbrev three_groups : List Command
three_groups = rolled_out everyone 3 50 100

-- ---- members and groups

abbrev from_to : ℕ → ℕ → Bounds
from_to first last = record { first = first; last = last }

ten_in_three : cut 10 3 ≡ from_to 1 3 ∷ from_to 4 6 ∷ from_to 7 10 ∷ []
ten_in_three = refl

abbrev three_devices : Bytes
three_devices = only 1 ++ codes "," ++ only 2 ++ codes "," ++ only 3

-- three members in 3 groups, and in 4
three_in_four : map (λ groups. check (run_of set_up) (CreateRollout (plan_for three_devices 1 groups 50 100))) (3 ∷ 4 ∷ []) ≡ None ∷ Some TooFewTargets ∷ []
three_in_four = refl

-- ---- the words of a rollout and its groups

abbrev words_of : RolloutRecord → RolloutWord × List GroupWord
words_of x = (rollout_word x, map (group_word x) x.groups)

abbrev words : List Command → Option (RolloutWord × List GroupWord)
words cs = option_map words_of (item_numbered (run_of cs).rollouts 1)

first_success_leaves_the_second : words (three_groups ++ succeeds 1 1 ∷ []) ≡ Some (RunningRollout, RunningGroup ∷ ScheduledGroup ∷ ScheduledGroup ∷ [])
first_success_leaves_the_second = refl

second_success_starts_it : words (three_groups ++ succeeds 1 1 ∷ succeeds 2 2 ∷ []) ≡ Some (RunningRollout, RunningGroup ∷ RunningGroup ∷ ScheduledGroup ∷ [])
second_success_starts_it = refl

paused_starts_nothing : words (three_groups ++ Pause 1 ∷ succeeds 1 1 ∷ succeeds 2 2 ∷ [])
    ≡ Some (PausedRollout, RunningGroup ∷ ScheduledGroup ∷ ScheduledGroup ∷ [])
paused_starts_nothing = refl

resume_starts_it : words (three_groups ++ Pause 1 ∷ succeeds 1 1 ∷ succeeds 2 2 ∷ Resume 1 ∷ [])
    ≡ Some (RunningRollout, RunningGroup ∷ RunningGroup ∷ ScheduledGroup ∷ [])
resume_starts_it = refl

-- the only member fails: the error begins, and all is over
failure_ends_both : words (rolled_out (only 1) 1 100 100 ++ fails 1 1 ∷ []) ≡ Some (FinishedRollout, FinishedGroup ∷ [])
failure_ends_both = refl

-- ---- feedback

abbrev reported : ℕ → ℕ → ℕ → GroupWord → ShownGroup
reported i size ok word = record { number = i; size = size; ok = ok; bad = 0; gone = 0; success = 50; error = 100; word = word }

report : query_reply (run_of (three_groups ++ succeeds 1 1 ∷ succeeds 2 2 ∷ [])) (ShowReport 1) ≡ ReportShown (record {
  rollout = record { number = 1; name = codes "a"; set_number = 1; filter_text = everyone; word = RunningRollout; groups = 3; targets = 10 };
  groups = reported 1 3 2 RunningGroup ∷ reported 2 3 0 RunningGroup ∷ reported 3 4 0 ScheduledGroup ∷ [];
})
report = refl
