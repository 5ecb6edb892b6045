use Rattle.rollout_machine.proofs.AnyGroup.{started_by_any, started_by_any_then}
use Rattle.rollout_machine.proofs.OfferActors.{offers_after_none, offers_after_start}
use Rattle.rollout_machine.proofs.OfferStarts.{offers_after_group, offers_after_no_group}
use Rattle.rollout_machine.proofs.laws.offers_of_a_store.Goals as goal

pub returns-clause-after_start : goal.returns-clause-after_start
returns-clause-after_start c = offers_after_start

pub returns-clause-after_none : goal.returns-clause-after_none
returns-clause-after_none c = offers_after_none

pub returns-clause-after_group : goal.returns-clause-after_group
returns-clause-after_group c = offers_after_group

pub returns-clause-after_no_group : goal.returns-clause-after_no_group
returns-clause-after_no_group c = offers_after_no_group

pub returns-clause-any_group_tells : goal.returns-clause-any_group_tells
returns-clause-any_group_tells c = started_by_any

pub returns-clause-any_group_tells_then : goal.returns-clause-any_group_tells_then
returns-clause-any_group_tells_then c = started_by_any_then
