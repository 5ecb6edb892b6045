use Rattle.target_filter.proofs.Common.{◌*◌, ◌+◌}
use Rattle.target_filter.proofs.parser.+parser.Given as goal

abbrev pub decreases-and_at : goal.decreases-and_at
decreases-and_at l = 2 * l.fuel

abbrev pub decreases-atom_at : goal.decreases-atom_at
decreases-atom_at l = 2 * l.fuel

abbrev pub decreases-more_ands : goal.decreases-more_ands
decreases-more_ands l = 2 * l.fuel

abbrev pub decreases-more_ors : goal.decreases-more_ors
decreases-more_ors l = 2 * l.fuel

abbrev pub decreases-or_at : goal.decreases-or_at
decreases-or_at l = 2 * l.fuel

abbrev pub decreases-group_at : goal.decreases-group_at
decreases-group_at l = 2 * l.fuel + 1
