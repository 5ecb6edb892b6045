use Rattle.rollout_machine.proofs.Main.{records_step}
use Rattle.rollout_machine.proofs.Once.{repeats_leave_no_trace}
use Rattle.rollout_machine.proofs.Orders.{lists_rise_in_order}
use Rattle.rollout_machine.proofs.Recounts.{stored_say_all}
use Rattle.rollout_machine.proofs.laws.lists.Goals as goal

pub returns-clause-records_follow : goal.returns-clause-records_follow
returns-clause-records_follow c = records_step

pub returns-clause-stored_say_all : goal.returns-clause-stored_say_all
returns-clause-stored_say_all c = stored_say_all

pub returns-clause-lists_rise_in_order : goal.returns-clause-lists_rise_in_order
returns-clause-lists_rise_in_order c = lists_rise_in_order

pub returns-clause-repeats_leave_no_trace : goal.returns-clause-repeats_leave_no_trace
returns-clause-repeats_leave_no_trace c = repeats_leave_no_trace
