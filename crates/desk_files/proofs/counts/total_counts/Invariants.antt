use Rattle.desk_files.proofs.Common.{◌≡◌, ◌*◌, ◌^◌, take}
use Rattle.desk_files.specs.Counts.{total_counts, AreUpTo}
use Rattle.desk_files.proofs.counts.total_counts.Given as goal

abbrev pub invariant-loop-group : goal.invariant-loop-group
invariant-loop-group l = (l.total ≡ total_counts (take l.group-index l.groups)) × AreUpTo (l.group-index * 2 ^ 32) l.total
