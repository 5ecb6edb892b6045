use Rattle.desk_files.proofs.Common.{append_assoc}
use Rattle.desk_files.proofs.report.push_heading.Goals as goal

pub returns : goal.returns
returns c =
    rw (
      c.in_ok-push_str-7.ensures.bytes,
      c.in_ok-push_str-6.ensures.bytes,
      c.as_str-3.ensures,
      c.in_ok-push_str-5.ensures.bytes,
      c.in_ok-push_str-4.ensures.bytes,
      c.as_str-2.ensures.value,
      c.in_ok-push_str-3.ensures.bytes,
      c.in_ok-push_str-2.ensures.bytes,
      c.as_str.ensures.value,
      c.in_ok-push_str.ensures.bytes,
      c.in_ok-number.ensures.ok,
      c.get-number.ensures.value,
    ) (simp append_assoc)
