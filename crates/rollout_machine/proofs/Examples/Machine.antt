-- Single definitions at their borders: targets, tags, attributes, artifacts, outcomes, cancels, notes, patterns.
use Rattle.rollout_machine.proofs.Common.{◌≡◌, true, false, [], ◌∷◌, ◌++◌, Some, None, refl, replicate, codes, outcome, CommandList, Make, ◌▸◌, Command}
use Rattle.rollout_machine.proofs.Common.{PutTargets, Tag, Untag, PutAttributes, AddModule, AddArtifact, CreateRollout, Start, Pause, Cancel, Feedback}
use Rattle.rollout_machine.proofs.Common.{CancelFeedback, Proceeding, Rejected, Noted, NotedCancel, CanceledCancel, Bad, Gone, Succeeded, members_of}
use Rattle.rollout_machine.proofs.Common.{step_records, Records, NotFound, Unauthorized, ClosedAction, WrongState, Quota, target_word, InError, target_in}
use Rattle.rollout_machine.proofs.Common.{target_ids, verdict, check}
use Rattle.rollout_machine.specs.Digests.{digest_of}
use Rattle.rollout_machine.specs.Records.{records}
use Rattle.rollout_machine.proofs.TargetTies.{same_refl}
use Rattle.rollout_machine.proofs.Examples.Fleet.{device, row_for, plan_for, only, everyone, rolled_out, by, succeeds, fails, rejects, history_of, run_of}

-- one command names the target twice
abbrev twice : CommandList
twice = Make false ▸ Tag (device 1) (9 ∷ []) ▸ PutTargets
    (record { id = device 1; name = 1 ∷ []; digest = 1 ∷ []; tags = (7 ∷ []) ∷ [] } ∷ record { id = device 2; name = 5 ∷ []; digest = 5 ∷ []; tags = [] }
    ∷ record { id = device 1; name = 2 ∷ []; digest = 2 ∷ []; tags = (8 ∷ []) ∷ (6 ∷ []) ∷ (8 ∷ []) ∷ [] } ∷ [])

t_twice_name : (target_in twice (device 1)).name ≡ 2 ∷ []
t_twice_name = refl

t_twice_tags : (target_in twice (device 1)).tags ≡ (6 ∷ []) ∷ (8 ∷ []) ∷ []
t_twice_tags = refl

t_ids : target_ids twice ≡ device 1 ∷ device 2 ∷ []
t_ids = refl

-- tags: a row after a Tag, a Tag after a row, Untag
tagged : (target_in (twice ▸ Tag (device 1) (7 ∷ []) ▸ Untag (device 1) (8 ∷ [])) (device 1)).tags ≡ (6 ∷ []) ∷ (7 ∷ []) ∷ []
tagged = refl

retagged : (target_in (twice ▸ Tag (device 1) (7 ∷ []) ▸ PutTargets (row_for 1 ∷ [])) (device 1)).tags ≡ []
retagged = refl

-- attributes stay at PutTargets; last value counts; step agrees
abbrev attr : CommandList
attr = Make false ▸ PutTargets (row_for 1 ∷ []) ▸ PutAttributes (by 1)
    (record { key = 2 ∷ []; value = 1 ∷ [] } ∷ record { key = 1 ∷ []; value = 1 ∷ [] } ∷ record { key = 2 ∷ []; value = [] } ∷ []) ▸ PutTargets
    (row_for 1 ∷ row_for 2 ∷ [])

attrs : (target_in attr (device 1)).attributes ≡ record { key = 1 ∷ []; value = 1 ∷ [] } ∷ record { key = 2 ∷ []; value = [] } ∷ []
attrs = refl

attrs_step : step_records (records (Make false ▸ PutTargets (row_for 2 ∷ row_for 1 ∷ []))) (PutTargets (row_for 3 ∷ row_for 1 ∷ []))
    ≡ records (Make false ▸ PutTargets (row_for 2 ∷ row_for 1 ∷ []) ▸ PutTargets (row_for 3 ∷ row_for 1 ∷ []))
unfolding records
attrs_step = refl

-- what the request said of the digest decides whether the artifact is taken
abbrev one_module : CommandList
one_module = Make false ▸ AddModule (record { name = 1 ∷ []; kind = 1 ∷ []; version = 1 ∷ [] })

abbrev with_digest : CommandList
with_digest = one_module ▸ AddArtifact (record { module_number = 1; filename = 1 ∷ []; expected = Some (digest_of (5 ∷ [])); contents = 5 ∷ [] })

abbrev without_digest : CommandList
without_digest = one_module ▸ AddArtifact (record { module_number = 1; filename = 1 ∷ []; expected = None; contents = 5 ∷ [] })

both_accepted : (verdict one_module (AddArtifact (record { module_number = 1; filename = 1 ∷ []; expected = Some (digest_of (5 ∷ [])); contents = 5 ∷ [] })))
    ≡ None
unfolding records
both_accepted = rw (same_refl (digest_of (5 ∷ []))) refl

-- so what it said is no part of the artifact's record
same_artifact : (records with_digest).artifacts ≡ (records without_digest).artifacts
unfolding records
same_artifact = refl

-- force first time is no outcome, second time gone; feedback in between stands
force_once : outcome (history_of (rolled_out (only 1) 1 50 100 ++ Cancel (device 1) 1 true ∷ [])) 1 1 ≡ None
force_once = refl

force_again : outcome (history_of (rolled_out (only 1) 1 50 100 ++ Cancel (device 1) 1 true ∷ Cancel (device 1) 1 true ∷ [])) 1 1 ≡ Some Gone
force_again = refl

force_rejected : outcome (history_of (rolled_out (only 1) 1 50 100 ++ Cancel (device 1) 1 true ∷ rejects 1 1 ∷ Cancel (device 1) 1 true ∷ [])) 1 1 ≡ None
force_rejected = refl

first_counts : outcome (history_of (rolled_out (only 1) 1 50 100 ++ Cancel (device 1) 1 false ∷ fails 1 1 ∷ succeeds 1 1 ∷ [])) 1 1 ≡ Some Bad
first_counts = refl

-- verdicts of feedback: 2 before 3 before 8 before 10
v_unknown : verdict (history_of (rolled_out (only 1) 1 50 100))
    (Feedback (record { credential = record { id = device 1; digest = device 2 }; action = 77; word = Succeeded; details = []; number = None }))
    ≡ Some Unauthorized
unfolding records
v_unknown = refl

v_other : verdict (history_of (rolled_out (only 1) 1 50 100)) (succeeds 2 1) ≡ Some NotFound
unfolding records
v_other = refl

v_zero : verdict (history_of (rolled_out (only 1) 1 50 100)) (succeeds 1 0) ≡ Some NotFound
unfolding records
v_zero = refl

v_closed : verdict (history_of (rolled_out (only 1) 1 50 100 ++ succeeds 1 1 ∷ [])) (fails 1 1) ≡ Some ClosedAction
unfolding records
v_closed = refl

v_repeat : verdict (history_of (rolled_out (only 1) 1 50 100 ++ succeeds 1 1 ∷ [])) (succeeds 1 1) ≡ None
unfolding records
v_repeat = refl

v_note_closed : verdict (history_of (rolled_out (only 1) 1 50 100 ++ succeeds 1 1 ∷ []))
    (Feedback (record { credential = by 1; action = 1; word = Noted Proceeding; details = []; number = None })) ≡ Some ClosedAction
unfolding records
v_note_closed = refl

v_cancel_scheduled : verdict (history_of (rolled_out everyone 3 50 100)) (Cancel (device 5) 5 true) ≡ Some WrongState
unfolding records
v_cancel_scheduled = refl

v_feedback_scheduled : verdict (history_of (rolled_out everyone 3 50 100)) (succeeds 5 5) ≡ Some NotFound
unfolding records
v_feedback_scheduled = refl

v_gone : verdict (history_of (rolled_out (only 1) 1 50 100 ++ Cancel (device 1) 1 true ∷ Cancel (device 1) 1 true ∷ []))
    (CancelFeedback (record { credential = by 1; action = 1; word = CanceledCancel; details = []; number = None })) ≡ None
unfolding records
v_gone = refl

v_gone_reject : verdict (history_of (rolled_out (only 1) 1 50 100 ++ Cancel (device 1) 1 true ∷ Cancel (device 1) 1 true ∷ [])) (rejects 1 1)
    ≡ Some ClosedAction
unfolding records
v_gone_reject = refl

v_not_canceling : verdict (history_of (rolled_out (only 1) 1 50 100)) (rejects 1 1) ≡ Some WrongState
unfolding records
v_not_canceling = refl

v_pause_finished : verdict (history_of (rolled_out (only 1) 1 50 100 ++ succeeds 1 1 ∷ [])) (Pause 1) ≡ Some WrongState
unfolding records
v_pause_finished = refl

-- notes: 100 are taken, the next is refused, whatever its kind; a final one isn't
abbrev note : Command
note = Feedback (record { credential = by 1; action = 1; word = Rejected; details = []; number = None })

abbrev noted : Records
noted = run_of (rolled_out (only 1) 1 50 100 ++ replicate 99 note)

n_ok : check noted note ≡ None
n_ok = refl

n_more : check (step_records noted note) note ≡ Some Quota
n_more = refl

n_final : check (step_records noted note) (succeeds 1 1) ≡ None
n_final = refl

n_cancel_note : check (step_records (step_records noted note) (Cancel (device 1) 1 false))
    (CancelFeedback (record { credential = by 1; action = 1; word = NotedCancel Proceeding; details = []; number = None })) ≡ Some Quota
n_cancel_note = refl

n_rejects : check (step_records (step_records noted note) (Cancel (device 1) 1 false)) (rejects 1 1) ≡ None
n_rejects = refl

n_order : check (step_records noted note)
    (CancelFeedback (record { credential = by 1; action = 1; word = NotedCancel Proceeding; details = []; number = None })) ≡ Some WrongState
n_order = refl

-- the word of the target by its last started action
tw : target_word (records (history_of (rolled_out (only 1) 1 50 100 ++ CreateRollout (plan_for (only 1) 2 1 50 100) ∷ Start 2 ∷ succeeds 1 1 ∷ fails 1 2 ∷ [])))
    (device 1) ≡ InError
unfolding records
tw = refl

-- what a filter sees of a target, and `!=` of an attribute that isn't there
absent : members_of (codes "attribute.k!=x") attr ≡ device 1 ∷ device 2 ∷ []
absent = refl
