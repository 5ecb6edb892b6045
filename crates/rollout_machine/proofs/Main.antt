-- The law of the records, for each command.
use Rattle.rollout_machine.proofs.Common.{◌≡◌, None, CommandList, ◌▸◌, Command, AddModule, AddArtifact, AddSet, PutTargets, Tag, Untag, PutAttributes}
use Rattle.rollout_machine.proofs.Common.{CreateRollout, Approve, Deny, Start, Pause, Resume, TriggerNext, Cancel, Feedback, CancelFeedback, step_records}
use Rattle.rollout_machine.proofs.Common.{records, IsValid, verdict}
use Rattle.rollout_machine.proofs.Induction.{feedback_is_step, cancel_feedback_is_step, cancel_is_step, resume_is_step, trigger_is_step, pause_is_step}
use Rattle.rollout_machine.proofs.Induction.{start_is_step, module_is_step}
use Rattle.rollout_machine.proofs.TargetTies.{tag_is_step, untag_is_step, attributes_is_step}
use Rattle.rollout_machine.proofs.Imports.{import_is_step}
use Rattle.rollout_machine.proofs.Creates.{approve_is_step, deny_is_step, artifact_is_step, set_is_step, create_is_step}

pub records_step : (h : CommandList) (c : Command) → IsValid h → verdict h c ≡ None → records (h ▸ c) ≡ step_records (records h) c
records_step h (AddModule label) v e = module_is_step h label v e
records_step h (AddArtifact u) v e = artifact_is_step h u v e
records_step h (AddSet s) v e = set_is_step h s v e
records_step h (CreateRollout plan) v e = create_is_step h plan v e
records_step h (Approve q) v e = approve_is_step h q v e
records_step h (Deny q) v e = deny_is_step h q v e
records_step h (Start q) v e = start_is_step h q v e
records_step h (Pause q) v e = pause_is_step h q v e
records_step h (Resume q) v e = resume_is_step h q v e
records_step h (TriggerNext q) v e = trigger_is_step h q v e
records_step h (Cancel t k force) v e = cancel_is_step h t k force v e
records_step h (Feedback feedback) v e = feedback_is_step h feedback v e
records_step h (CancelFeedback feedback) v e = cancel_feedback_is_step h feedback v e
records_step h (PutTargets rows) v e = import_is_step h rows v e
records_step h (Tag t x) v e = tag_is_step h t x v e
records_step h (Untag t x) v e = untag_is_step h t x v e
records_step h (PutAttributes device attributes) v e = attributes_is_step h device attributes v e
