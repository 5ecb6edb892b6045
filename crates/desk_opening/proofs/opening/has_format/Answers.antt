use Rattle.desk_opening.proofs.Common.{codes, refl}
use Rattle.desk_opening.proofs.RowLemmas.{within_row}
use Rattle.desk_opening.proofs.opening.has_format.Goals as goal

pub returns-in-Err-clause-unreadable : goal.returns-in-Err-clause-unreadable
unfolding lib.Utf8.encode
returns-in-Err-clause-unreadable c = λ is text. c.in-Err.ensures.kind (c.unread.ensures.memory is) (within_row _ 0 _ text (λ no. cc))
    (codes "fwdesk", text, (codes "fwdesk", (refl, refl)))
