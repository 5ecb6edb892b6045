use Rattle.rollout_desk.proofs.MigrationLemmas.{can_be_migrated}
use Rattle.rollout_desk.proofs.laws.records_can_be_migrated.Goals as goal

pub returns : goal.returns
returns c = can_be_migrated
