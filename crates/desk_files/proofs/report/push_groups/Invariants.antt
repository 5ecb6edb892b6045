use Rattle.desk_files.proofs.Common.{◌≡◌, ◌++◌, string_bytes, take, flat_map}
use Rattle.desk_files.specs.Reports.{group_line}
use Rattle.desk_files.proofs.report.push_groups.Given as goal

abbrev pub invariant-loop-group : goal.invariant-loop-group
invariant-loop-group l = string_bytes l.text ≡ string_bytes l.fn.text ++ flat_map group_line (take l.group-index l.groups)
