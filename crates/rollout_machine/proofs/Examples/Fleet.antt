-- A fleet of ten devices, and runs over it: what the worked examples speak of.
use Rattle.rollout_machine.proofs.Common.{ℕ, codes, ◌+◌, replicate, Bool, true, false, ◌&&◌, List, [], ◌∷◌, ◌++◌, map, Option, None, is_none, option_map}
use Rattle.rollout_machine.proofs.Common.{item_numbered, CommandList, Make, followed_by, Bytes, Credential, TargetRow, RolloutPlan, Command, AddModule, AddSet}
use Rattle.rollout_machine.proofs.Common.{PutTargets, CreateRollout, Start, Feedback, CancelFeedback, Succeeded, Failed, RejectedCancel, offer, Offer}
use Rattle.rollout_machine.proofs.Common.{step_records, GroupRecord, RolloutRecord, Records, RolloutWord, rollout_word, check}
use Rattle.rollout_model.specs.Groupings.{evenly}
use Rattle.rollout_machine.proofs.RecordRuns.{no_records, run_records}

abbrev pub device : ℕ → Bytes
device k = 100 ∷ (96 + k) ∷ []

abbrev pub token : ℕ → Bytes
token k = replicate 32 k

abbrev pub row_for : ℕ → TargetRow
row_for k = record { id = device k; name = device k; digest = token k; tags = [] }

abbrev pub fleet : List TargetRow
fleet = map row_for (1 ∷ 2 ∷ 3 ∷ 4 ∷ 5 ∷ 6 ∷ 7 ∷ 8 ∷ 9 ∷ 10 ∷ [])

abbrev pub plan_for : Bytes → ℕ → ℕ → ℕ → ℕ → RolloutPlan
plan_for text name groups success error = record {
  name = (96 + name) ∷ [];
  set_number = 1;
  filter_text = text;
  groups = evenly groups;
  success = success;
  error = error;
}

-- all of the fleet, and one device
abbrev pub everyone : Bytes
everyone = codes "name==*"

abbrev pub only : ℕ → Bytes
only k = codes "controllerid==" ++ device k

abbrev pub set_up : List Command
set_up = PutTargets fleet ∷ AddModule (record { name = 97 ∷ []; kind = 97 ∷ []; version = 97 ∷ [] })
    ∷ AddSet (record { name = 97 ∷ []; version = 97 ∷ []; modules = 1 ∷ [] }) ∷ []

abbrev pub rolled_out : Bytes → ℕ → ℕ → ℕ → List Command
rolled_out text groups success error = set_up ++ CreateRollout (plan_for text 1 groups success error) ∷ Start 1 ∷ []

abbrev pub by : ℕ → Credential
by k = record { id = device k; digest = token k }

abbrev pub succeeds : ℕ → ℕ → Command
succeeds k a = Feedback (record { credential = by k; action = a; word = Succeeded; details = []; number = None })

abbrev pub fails : ℕ → ℕ → Command
fails k a = Feedback (record { credential = by k; action = a; word = Failed; details = []; number = None })

abbrev pub rejects : ℕ → ℕ → Command
rejects k a = CancelFeedback (record { credential = by k; action = a; word = RejectedCancel; details = []; number = None })

-- ---- runs by the records, and by the history
abbrev pub run_of : List Command → Records
run_of cs = run_records (no_records false) cs

abbrev pub history_of : List Command → CommandList
history_of cs = followed_by (Make false) cs

-- each command is accepted where it stands
abbrev pub all_accepted : Records → List Command → Bool
all_accepted rs [] = true
all_accepted rs (c ∷ cs) = is_none (check rs c) && all_accepted (step_records rs c) cs

-- what a rollout shows: its word, and for each group whether it started, with its counts
abbrev pub shown_group : GroupRecord → Bool × ℕ × ℕ × ℕ
shown_group g = (g.started, g.ok, g.bad, g.gone)

abbrev pub shown : Records → ℕ → Option (RolloutWord × List (Bool × ℕ × ℕ × ℕ))
shown rs r = option_map (λ (x : RolloutRecord). (rollout_word x, map shown_group x.groups)) (item_numbered rs.rollouts r)

abbrev pub offered : Records → ℕ → Option (ℕ × Bool)
offered rs k = option_map (λ (o : Offer). (o.action, o.canceling)) (offer rs (device k))
