use Rattle.desk_files.proofs.Common.{append_assoc}
use Rattle.desk_files.proofs.report.push_total.Goals as goal

pub returns : goal.returns
returns c =
    rw (
      c.in_ok-push_str-4.ensures.bytes,
      c.in_ok-push_str-3.ensures.bytes,
      c.as_str.ensures,
      c.in_ok-push_str-2.ensures.bytes,
      c.in_ok-push_counts.ensures,
      c.total_counts.ensures,
      c.in_ok-push_str.ensures.bytes,
    ) (simp append_assoc)
