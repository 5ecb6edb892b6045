use Rattle.desk_reads.proofs.Common.{◌≡◌, Some}
use Rattle.std.specs.Prelude.{◌++◌}
use Rattle.target_filter.specs.Grammar.{Tree}
use Rattle.target_filter.specs.Profile.{filter_of}
use Rattle.desk_reads.specs.Matches.{ids_matched}
use Rattle.desk_reads.proofs.matching.add_matching.Given as goal

-- the ids of those that match of the ones that were gone through are added
abbrev pub invariant-loop-target : goal.invariant-loop-target
invariant-loop-target l = (f : Tree) → filter_of l.filter ≡ Some f → l.ids.items ≡ l.fn.ids.items ++ ids_matched f l.yielded
