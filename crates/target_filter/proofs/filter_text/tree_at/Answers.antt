use Rattle.target_filter.proofs.Common.{tree_of}
use Rattle.target_filter.proofs.Profiles.{tree_found, none_missing}
use Rattle.target_filter.proofs.filter_text.tree_at.Goals as goal

pub unreachable-requires : goal.unreachable-requires
unreachable-requires c = none_missing c.args.text.now c.in-Err-Missing.field-0 c.requires c.in-Err-Missing.field-0-is c.in-Err-Missing.ensures

pub returns-in-Ok : goal.returns-in-Ok
returns-in-Ok c = tree_found c.args.text.now (tree_of c.in-Ok.tree) c.in-Ok.field-0-1.now c.requires c.in-Ok.ensures
