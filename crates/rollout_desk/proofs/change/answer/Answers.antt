use Rattle.desk_reads.proofs.ListLemmas.{at_lists}
use Rattle.rollout_desk.proofs.SizeLemmas.{always, other_answered}
use Rattle.rollout_desk.proofs.change.answer.Goals as goal

pub returns-in-Modules-clause-answers : goal.returns-in-Modules-clause-answers
returns-in-Modules-clause-answers g c = rw c.in-Modules.is (other_answered (at_lists _ c.show_modules.ensures.reads) (λ t reply. (tt, tt)))

pub returns-in-Module-clause-answers : goal.returns-in-Module-clause-answers
returns-in-Module-clause-answers g c = rw c.in-Module.is (other_answered (at_lists _ c.show_module.ensures.reads) (λ t reply. (tt, tt)))

pub returns-in-Artifacts-clause-answers : goal.returns-in-Artifacts-clause-answers
returns-in-Artifacts-clause-answers g c = rw c.in-Artifacts.is (other_answered (at_lists _ c.show_artifacts.ensures.reads) (λ t reply. (tt, tt)))

pub returns-in-Artifact-clause-answers : goal.returns-in-Artifact-clause-answers
returns-in-Artifact-clause-answers g c = rw c.in-Artifact.is (other_answered (at_lists _ c.show_artifact.ensures.reads) (λ t reply. (tt, tt)))

pub returns-in-Contents-clause-answers : goal.returns-in-Contents-clause-answers
returns-in-Contents-clause-answers g c =
    rw c.in-Contents.is (record { shows = at_lists _ c.show_contents.ensures.reads; sized = c.show_contents.ensures.sized; kept = always (λ t reply. tt) })

pub returns-in-Sets-clause-answers : goal.returns-in-Sets-clause-answers
returns-in-Sets-clause-answers g c = rw c.in-Sets.is (other_answered (at_lists _ c.show_sets.ensures.reads) (λ t reply. (tt, tt)))

pub returns-in-Set-clause-answers : goal.returns-in-Set-clause-answers
returns-in-Set-clause-answers g c = rw c.in-Set.is (other_answered (at_lists _ c.show_set.ensures.reads) (λ t reply. (tt, tt)))

pub returns-in-Targets-clause-answers : goal.returns-in-Targets-clause-answers
returns-in-Targets-clause-answers g c = rw c.in-Targets.is (other_answered (at_lists _ c.show_targets.ensures.reads) (λ t reply. (tt, tt)))

pub returns-in-Target-clause-answers : goal.returns-in-Target-clause-answers
returns-in-Target-clause-answers g c = rw c.in-Target.is (other_answered (at_lists _ c.show_target.ensures.reads) (λ t reply. (tt, tt)))

pub returns-in-Poll-clause-answers : goal.returns-in-Poll-clause-answers
returns-in-Poll-clause-answers g c =
    rw c.in-Poll.is (record { shows = at_lists _ c.show_poll.ensures.reads; sized = always (λ t reply. tt); kept = c.show_poll.ensures.kept })

pub returns-in-Deployment-clause-answers : goal.returns-in-Deployment-clause-answers
returns-in-Deployment-clause-answers g c =
    rw c.in-Deployment.is (record { shows = at_lists _ c.show_deployment.ensures.reads; sized = always (λ t reply. tt); kept = c.show_deployment.ensures.kept })

pub returns-in-CancelOf-clause-answers : goal.returns-in-CancelOf-clause-answers
returns-in-CancelOf-clause-answers g c =
    rw c.in-CancelOf.is (record { shows = at_lists _ c.show_cancel.ensures.reads; sized = always (λ t reply. tt); kept = c.show_cancel.ensures.kept })

pub returns-in-Download-clause-answers : goal.returns-in-Download-clause-answers
returns-in-Download-clause-answers g c =
    rw c.in-Download.is (record {
      shows = at_lists _ c.show_download.ensures.reads;
      sized = c.show_download.ensures.sized;
      kept = c.show_download.ensures.kept;
    })

pub returns-in-Actions-clause-answers : goal.returns-in-Actions-clause-answers
returns-in-Actions-clause-answers g c = rw c.in-Actions.is (other_answered c.show_target_actions.ensures.shows (λ t reply. (tt, tt)))

pub returns-in-Action-clause-answers : goal.returns-in-Action-clause-answers
returns-in-Action-clause-answers g c = rw c.in-Action.is (other_answered c.show_action.ensures.shows (λ t reply. (tt, tt)))

pub returns-in-History-clause-answers : goal.returns-in-History-clause-answers
returns-in-History-clause-answers g c = rw c.in-History.is (other_answered c.show_history.ensures.shows (λ t reply. (tt, tt)))

pub returns-in-Rollouts-clause-answers : goal.returns-in-Rollouts-clause-answers
returns-in-Rollouts-clause-answers g c = rw c.in-Rollouts.is (other_answered c.show_rollouts.ensures.shows (λ t reply. (tt, tt)))

pub returns-in-Rollout-clause-answers : goal.returns-in-Rollout-clause-answers
returns-in-Rollout-clause-answers g c = rw c.in-Rollout.is (other_answered c.show_rollout.ensures.shows (λ t reply. (tt, tt)))

pub returns-in-Groups-clause-answers : goal.returns-in-Groups-clause-answers
returns-in-Groups-clause-answers g c = rw c.in-Groups.is (other_answered c.show_groups.ensures.shows (λ t reply. (tt, tt)))

pub returns-in-Group-clause-answers : goal.returns-in-Group-clause-answers
returns-in-Group-clause-answers g c = rw c.in-Group.is (other_answered c.show_group.ensures.shows (λ t reply. (tt, tt)))

pub returns-in-GroupTargets-clause-answers : goal.returns-in-GroupTargets-clause-answers
returns-in-GroupTargets-clause-answers g c = rw c.in-GroupTargets.is (other_answered c.show_group_targets.ensures.shows (λ t reply. (tt, tt)))

pub returns-in-Report-clause-answers : goal.returns-in-Report-clause-answers
returns-in-Report-clause-answers g c = rw c.in-Report.is (other_answered c.show_report.ensures.shows (λ t reply. (tt, tt)))

pub returns-in-ActionsTable-clause-answers : goal.returns-in-ActionsTable-clause-answers
returns-in-ActionsTable-clause-answers g c = rw c.in-ActionsTable.is (other_answered c.show_actions_table.ensures.shows (λ t reply. (tt, tt)))
