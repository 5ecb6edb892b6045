use Rattle.rollout_machine.proofs.Elsewhere.{one_group_starts, others_stay}
use Rattle.rollout_machine.proofs.Finals.{final_is_all}
use Rattle.rollout_machine.proofs.GroupCounts.{groups_are_counted}
use Rattle.rollout_machine.proofs.Meanings.{started_is}
use Rattle.rollout_machine.proofs.Pauses.{first_started_is, paused_is}
use Rattle.rollout_machine.proofs.Progressing.{no_group_is_left}
use Rattle.rollout_machine.proofs.laws.rollouts.Goals as goal

pub returns-clause-paused_is : goal.returns-clause-paused_is
returns-clause-paused_is c = paused_is

pub returns-clause-first_started_is : goal.returns-clause-first_started_is
returns-clause-first_started_is c = first_started_is

pub returns-clause-started_is : goal.returns-clause-started_is
returns-clause-started_is c = started_is

pub returns-clause-final_is_all : goal.returns-clause-final_is_all
returns-clause-final_is_all c = final_is_all

pub returns-clause-groups_are_counted : goal.returns-clause-groups_are_counted
returns-clause-groups_are_counted c = groups_are_counted

pub returns-clause-one_group_starts : goal.returns-clause-one_group_starts
returns-clause-one_group_starts c = one_group_starts

pub returns-clause-others_stay : goal.returns-clause-others_stay
returns-clause-others_stay c = others_stay

pub returns-clause-no_group_is_left : goal.returns-clause-no_group_is_left
returns-clause-no_group_is_left c = no_group_is_left
