use Rattle.desk_files.proofs.Common.{append_assoc}
use Rattle.desk_files.proofs.report.push_group.Goals as goal

pub returns : goal.returns
returns c =
    rw (
      c.in_ok-push_str-3.ensures.bytes,
      c.in_ok-push_str-2.ensures.bytes,
      c.as_str.ensures,
      c.in_ok-push_str.ensures.bytes,
      c.in_ok-push_counts.ensures,
      c.group_counts.ensures.value,
      c.in_ok-push_right.ensures,
      c.from.ensures,
    ) (simp append_assoc)
