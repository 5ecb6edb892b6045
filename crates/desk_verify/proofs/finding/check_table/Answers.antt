use Rattle.desk_verify.proofs.finding.check_table.Goals as goal

pub returns-in-Artifact-clause-blames : goal.returns-in-Artifact-clause-blames
returns-in-Artifact-clause-blames g c = rw c.in-Artifact.is c.check_artifacts.ensures.blames

pub returns-in-Member-clause-blames : goal.returns-in-Member-clause-blames
returns-in-Member-clause-blames g c = rw c.in-Member.is c.check_members.ensures.blames

pub returns-in-RolloutGroup-clause-blames : goal.returns-in-RolloutGroup-clause-blames
returns-in-RolloutGroup-clause-blames g c = rw c.in-RolloutGroup.is c.check_groups.ensures.blames

pub returns-in-Action-clause-blames : goal.returns-in-Action-clause-blames
returns-in-Action-clause-blames g c = rw c.in-Action.is c.check_actions.ensures.blames

pub returns-in-Offer-clause-blames : goal.returns-in-Offer-clause-blames
returns-in-Offer-clause-blames g c = rw c.in-Offer.is c.check_offers.ensures.blames
