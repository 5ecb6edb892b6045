use Rattle.campaign_core.proofs.OwnGroups.{own_group_decides as law}
use Rattle.campaign_core.proofs.own_group.own_group_decides.Goals as goal

pub returns : goal.returns
returns c = law
