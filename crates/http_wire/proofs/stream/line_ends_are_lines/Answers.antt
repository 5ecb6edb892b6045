use Rattle.http_wire.proofs.LineLemmas.{line_ends_are_lines}
use Rattle.http_wire.proofs.stream.line_ends_are_lines.Goals as goal

pub returns : goal.returns
returns c = line_ends_are_lines
