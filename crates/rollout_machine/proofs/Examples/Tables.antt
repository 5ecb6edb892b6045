-- Each test of each row of the table of verdicts at its border, and the order of the tests.
use Rattle.rollout_machine.proofs.Common.{◌≡◌, ℕ, ◌/◌, ◌%◌, Bool, true, false, List, [], ◌∷◌, ◌++◌, Option, Some, None, refl, map, replicate, Bytes}
use Rattle.rollout_machine.proofs.Common.{ModuleLabel, Upload, SetLabel, Command, AddModule, AddArtifact, AddSet, PutTargets, Tag, Untag, PutAttributes}
use Rattle.rollout_machine.proofs.Common.{CreateRollout, Approve, Deny, Start, Pause, Resume, TriggerNext, Cancel, each_from, step_records}
use Rattle.rollout_machine.proofs.Common.{ArtifactRecord, Records, RolloutRecord, GroupRecord, Given, Waiting, Denied, Refusal, Unauthorized}
use Rattle.rollout_machine.proofs.Common.{NotFound, Exists, Locked, WrongState, ClosedAction, Quota, BadFilter, TooFewTargets, WrongDigest, rollout_word}
use Rattle.rollout_machine.proofs.Common.{group_word, FinishedRollout, PausedRollout, ApprovalDenied, WaitingForApproval, ReadyGroup, FinishedGroup}
use Rattle.rollout_machine.proofs.Common.{ErrorGroup, RunningGroup, target_word, Unknown, Pending, check}
use Rattle.rollout_model.specs.Refusals.{refusal_row}
use Rattle.sha2.specs.Sha256.{sha256, digest_bytes}
use Rattle.rollout_machine.proofs.Examples.Fleet.{token, device, plan_for, only, everyone, set_up, rolled_out, by, succeeds, fails, run_of}
use Rattle.rollout_machine.proofs.RecordRuns.{no_records, run_records}

abbrev base : Records
base = no_records false

-- AddModule: 5, 10
abbrev app : ModuleLabel
app = record { name = 1 ∷ []; kind = 1 ∷ []; version = 1 ∷ [] }

abbrev other_app : ModuleLabel
other_app = record { name = 1 ∷ []; kind = 1 ∷ []; version = 2 ∷ [] }

m1 : check (record base { modules = replicate 999 other_app }) (AddModule app) ≡ None
m1 = refl

m2 : check (record base { modules = replicate 1000 other_app }) (AddModule app) ≡ Some Quota
m2 = refl

m3 : check (record base { modules = replicate 1000 app }) (AddModule app) ≡ Some Exists
m3 = refl

-- AddArtifact: 3, 6, 5, 10, 13
abbrev file : ℕ → ℕ → Option Bytes → Upload
file m name sha = record { module_number = m; filename = name ∷ []; expected = sha; contents = 5 ∷ [] }

abbrev kept : ℕ → ℕ → ArtifactRecord
kept m name = record { module_number = m; filename = name ∷ []; size = 1; digest = []; contents = 5 ∷ [] }

abbrev with_files : List SetLabel → List ArtifactRecord → Records
with_files ss files = record base { modules = app ∷ other_app ∷ []; sets = ss; artifacts = files }

abbrev r1 : SetLabel
r1 = record { name = 1 ∷ []; version = 1 ∷ []; modules = 2 ∷ 1 ∷ [] }

a1 : check (with_files [] []) (AddArtifact (file 3 1 None)) ≡ Some NotFound
a1 = refl

a2 : check (with_files (r1 ∷ []) (kept 1 1 ∷ [])) (AddArtifact (file 1 1 None)) ≡ Some Locked
a2 = refl

a3 : check (with_files [] (replicate 8 (kept 1 1))) (AddArtifact (file 1 1 None)) ≡ Some Exists
a3 = refl

a4 : check (with_files [] (replicate 8 (kept 1 9))) (AddArtifact (file 1 1 (Some []))) ≡ Some Quota
a4 = refl

a5 : check (with_files [] (replicate 7 (kept 1 9))) (AddArtifact (file 1 1 None)) ≡ None
a5 = refl

a6 : check (with_files [] (replicate 256 (kept 2 9))) (AddArtifact (file 1 1 None)) ≡ Some Quota
a6 = refl

a7 : check (with_files [] (replicate 255 (kept 2 9))) (AddArtifact (file 1 1 None)) ≡ None
a7 = refl

a8 : check (with_files [] (replicate 7 (kept 1 9))) (AddArtifact (file 1 1 (Some []))) ≡ Some WrongDigest
unfolding sha256 digest_bytes
a8 = refl

a9 : check (with_files [] (kept 2 1 ∷ [])) (AddArtifact (file 1 1 None)) ≡ None
a9 = refl

-- AddSet: 3, 5, 10
s1 : check (with_files (r1 ∷ []) []) (AddSet (record { name = 1 ∷ []; version = 1 ∷ []; modules = 1 ∷ 3 ∷ [] })) ≡ Some NotFound
s1 = refl

s2 : check (with_files (replicate 1000 r1) []) (AddSet r1) ≡ Some Exists
s2 = refl

s3 : check (with_files (replicate 1000 r1) []) (AddSet (record r1 { version = 2 ∷ [] })) ≡ Some Quota
s3 = refl

s4 : check (with_files (replicate 999 r1) []) (AddSet (record r1 { version = 2 ∷ [] })) ≡ None
s4 = refl

-- Tag, Untag: 3, 10
abbrev tagged : ℕ → Records
tagged n = record base {
  targets =
      record {
        id = device 1;
        name = [];
        digest = token 1;
        tags = each_from (λ k. k ∷ []) 1 n;
        attributes =
            each_from (λ k. record { key = k ∷ []; value = [] }) 1 n;
      } ∷ [];
}

t1 : check (tagged 16) (Tag (device 2) (1 ∷ [])) ≡ Some NotFound
t1 = refl

t2 : check (tagged 16) (Tag (device 1) (1 ∷ [])) ≡ None
t2 = refl

t3 : check (tagged 16) (Tag (device 1) (17 ∷ [])) ≡ Some Quota
t3 = refl

t4 : check (tagged 15) (Tag (device 1) (17 ∷ [])) ≡ None
t4 = refl

t5 : check (tagged 16) (Untag (device 1) (17 ∷ [])) ≡ None
t5 = refl

t6 : check base (Untag (device 1) (17 ∷ [])) ≡ Some NotFound
t6 = refl

-- PutAttributes: 2, 10 afterwards
p1 : check (tagged 32) (PutAttributes (record { id = device 1; digest = [] }) (record { key = 99 ∷ []; value = [] } ∷ [])) ≡ Some Unauthorized
p1 = refl

p2 : check (tagged 32) (PutAttributes (by 1) (record { key = 99 ∷ []; value = [] } ∷ [])) ≡ Some Quota
p2 = refl

p3 : check (tagged 32) (PutAttributes (by 1) (record { key = 32 ∷ []; value = 1 ∷ [] } ∷ record { key = 1 ∷ []; value = [] } ∷ [])) ≡ None
p3 = refl

p4 : check (tagged 31) (PutAttributes (by 1) (record { key = 99 ∷ []; value = [] } ∷ record { key = 99 ∷ []; value = [] } ∷ record { key = 3 ∷ []; value = [] }
    ∷ [])) ≡ None
p4 = refl

p5 : check (tagged 31) (PutAttributes (by 1) (record { key = 99 ∷ []; value = [] } ∷ record { key = 98 ∷ []; value = [] } ∷ [])) ≡ Some Quota
p5 = refl

-- PutTargets: 10 with more than 10,000 afterwards
abbrev wide : ℕ → Bytes
wide k = k / 256 ∷ k % 256 ∷ []

abbrev fleet_of : ℕ → Records
fleet_of n = record base { targets = each_from (λ k. record { id = wide k; name = []; digest = []; tags = []; attributes = [] }) 1 n }

abbrev import : List ℕ → Command
import ks = PutTargets (map (λ k. record { id = wide k; name = []; digest = []; tags = [] }) ks)

i1 : check (fleet_of 9999) (import (3 ∷ 10000 ∷ 10000 ∷ 1 ∷ [])) ≡ None
i1 = refl

i2 : check (fleet_of 9999) (import (3 ∷ 10000 ∷ 10001 ∷ [])) ≡ Some Quota
i2 = refl

i3 : check (fleet_of 10000) (import (5 ∷ [])) ≡ None
i3 = refl

-- CreateRollout: 11, 3, 5, 12, 10
abbrev a_rollout : RolloutRecord
a_rollout = record { number = 1; plan = plan_for everyone 1 1 50 50; members = []; approval = Given; started = false; paused = false; groups = [] }

abbrev with_rollouts : ℕ → Records
with_rollouts n = record (run_of set_up) { rollouts = replicate n a_rollout }

c1 : check (with_rollouts 1000) (CreateRollout (record (plan_for [] 1 11 50 50) { set_number = 2 })) ≡ Some BadFilter
c1 = refl

c2 : check (with_rollouts 1000) (CreateRollout (record (plan_for everyone 1 11 50 50) { set_number = 2 })) ≡ Some NotFound
c2 = refl

c3 : check (with_rollouts 1000) (CreateRollout (plan_for everyone 1 11 50 50)) ≡ Some Exists
c3 = refl

c4 : check (with_rollouts 1000) (CreateRollout (plan_for everyone 2 11 50 50)) ≡ Some TooFewTargets
c4 = refl

c5 : check (with_rollouts 1000) (CreateRollout (plan_for everyone 2 10 50 50)) ≡ Some Quota
c5 = refl

c6 : check (with_rollouts 999) (CreateRollout (plan_for everyone 2 10 50 50)) ≡ None
c6 = refl

-- words, at the border of two of them
abbrev group : Bool → ℕ → ℕ → ℕ → ℕ → GroupRecord
group started size ok bad gone = record { number = 1; bounds = record { first = 1; last = size }; started = started; ok = ok; bad = bad; gone = gone }

abbrev begun_with : Bool → GroupRecord → RolloutRecord
begun_with paused g = record a_rollout { started = true; paused = paused; groups = g ∷ [] }

w1 : rollout_word (record a_rollout { approval = Denied }) ≡ ApprovalDenied
w1 = refl

w2 : rollout_word (record a_rollout { approval = Waiting }) ≡ WaitingForApproval
w2 = refl

w3 : rollout_word (begun_with true (group true 3 1 1 1)) ≡ FinishedRollout
w3 = refl

w4 : rollout_word (begun_with true (group true 3 1 1 0)) ≡ PausedRollout
w4 = refl

w5 : group_word (begun_with true (group true 3 0 3 0)) (group true 3 0 3 0) ≡ FinishedGroup
w5 = refl

w6 : group_word (begun_with true (group true 3 0 2 0)) (group true 3 0 2 0) ≡ ErrorGroup
w6 = refl

w7 : group_word (begun_with true (group true 3 0 1 0)) (group true 3 0 1 0) ≡ RunningGroup
w7 = refl

w8 : group_word a_rollout (group false 3 0 0 0) ≡ ReadyGroup
w8 = refl

w9 : target_word (run_of (rolled_out (only 1) 1 50 100 ++ Cancel (device 1) 1 true ∷ Cancel (device 1) 1 true ∷ [])) (device 1) ≡ Unknown
w9 = refl

w10 : target_word (run_of (rolled_out (only 1) 1 50 100 ++ succeeds 1 1 ∷ CreateRollout (plan_for (only 1) 2 1 50 100) ∷ Start 2 ∷ [])) (device 1) ≡ Pending
w10 = refl

-- the commands on a rollout: 3, then 7 at each word but one
abbrev no_rollout : Records
no_rollout = run_of set_up

x1 : map (λ (c : ℕ → Command). check no_rollout (c 1)) (Approve ∷ Deny ∷ Start ∷ Pause ∷ Resume ∷ TriggerNext ∷ []) ≡ replicate 6 (Some NotFound)
x1 = refl

x0 : map (λ (c : ℕ → Command). check (run_of (rolled_out everyone 3 50 100)) (c 0)) (Approve ∷ Deny ∷ Start ∷ Pause ∷ Resume ∷ TriggerNext ∷ [])
    ≡ replicate 6 (Some NotFound)
x0 = refl

abbrev all_told : Records → List (Option Refusal)
all_told rs = map (λ (c : ℕ → Command). check rs (c 1)) (Approve ∷ Deny ∷ Start ∷ Pause ∷ Resume ∷ TriggerNext ∷ [])

abbrev no : Option Refusal
no = Some WrongState

abbrev strict : Records
strict = run_records (no_records true) (set_up ++ CreateRollout (plan_for everyone 1 3 50 100) ∷ [])

x_waiting : all_told strict ≡ None ∷ None ∷ no ∷ no ∷ no ∷ no ∷ []
x_waiting = refl

x_denied : all_told (step_records strict (Deny 1)) ≡ replicate 6 no
x_denied = refl

x_ready : all_told (step_records strict (Approve 1)) ≡ no ∷ no ∷ None ∷ no ∷ no ∷ no ∷ []
x_ready = refl

abbrev running : Records
running = run_of (rolled_out everyone 3 50 100)

x_running : all_told running ≡ no ∷ no ∷ no ∷ None ∷ no ∷ None ∷ []
x_running = refl

x_paused : all_told (step_records running (Pause 1)) ≡ no ∷ no ∷ no ∷ no ∷ None ∷ no ∷ []
x_paused = refl

x_all_started : all_told (step_records (step_records running (TriggerNext 1)) (TriggerNext 1)) ≡ no ∷ no ∷ no ∷ None ∷ no ∷ no ∷ []
x_all_started = refl

x_finished : all_told (run_of (rolled_out (only 1) 1 100 100 ++ fails 1 1 ∷ [])) ≡ replicate 6 no
x_finished = refl

-- Cancel: 3, 8, 7
k1 : check running (Cancel (device 99) 1 false) ≡ Some NotFound
k1 = refl

k2 : check running (Cancel (device 2) 1 false) ≡ Some NotFound
k2 = refl

k3 : check (step_records running (succeeds 1 1)) (Cancel (device 1) 1 true) ≡ Some ClosedAction
k3 = refl

k4 : check (step_records running (Cancel (device 1) 1 false)) (Cancel (device 1) 1 false) ≡ Some WrongState
k4 = refl

k5 : check (step_records running (Cancel (device 1) 1 false)) (Cancel (device 1) 1 true) ≡ None
k5 = refl

k6 : check running (Cancel (device 4) 4 true) ≡ Some WrongState
k6 = refl

-- the refusals of verdicts have the numbers of the table of verdicts
verdict_numbers : map (λ f. (refusal_row f).number) (Unauthorized ∷ NotFound ∷ Exists ∷ Locked ∷ WrongState ∷ ClosedAction ∷ Quota ∷ BadFilter ∷ TooFewTargets
    ∷ WrongDigest ∷ []) ≡ 2 ∷ 3 ∷ 5 ∷ 6 ∷ 7 ∷ 8 ∷ 10 ∷ 11 ∷ 12 ∷ 13 ∷ []
verdict_numbers = refl
