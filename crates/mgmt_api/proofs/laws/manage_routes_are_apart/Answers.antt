use Rattle.mgmt_api.proofs.Facts.{manage_table_is_good}
use Rattle.mgmt_api.proofs.laws.manage_routes_are_apart.Goals as goal

pub returns : goal.returns
returns c = manage_table_is_good
