use Rattle.desk_opening.proofs.Common.{state}
use Rattle.desk_opening.proofs.OpeningLemmas.{ended, not_begun, not_ended, tells_before}
use Rattle.desk_opening.proofs.opening.find_version.Goals as goal

pub returns-in_err-begin-clause-keeps : goal.returns-in_err-begin-clause-keeps
returns-in_err-begin-clause-keeps g c = not_begun _ _ c.in_err-begin.ensures.runs c.from_residual.result c.from_residual.ensures.0

pub returns-in-Err-clause-keeps : goal.returns-in-Err-clause-keeps
returns-in-Err-clause-keeps g c = not_ended _ _ c.in_ok-begin.ensures.runs _ c.see_version-seen.ensures.took _ _ c.first_fault.result
    c.in-Err.ensures.runs

pub returns-in-Ok-clause-keeps : goal.returns-in-Ok-clause-keeps
returns-in-Ok-clause-keeps g c = ended _ _ c.in_ok-begin.ensures.runs _ c.see_version-seen.ensures.took _ c.see_version-seen.result c.in-Ok.ensures.runs

pub returns-in-Ok-clause-tells : goal.returns-in-Ok-clause-tells
returns-in-Ok-clause-tells g c = λ clean. tells_before _ _ c.in_ok-begin.ensures.runs _ c.see_version-seen.ensures.took
    (state g.S.Store c.roll_back.new.self.conn)
    c.see_version-seen.result c.in-Ok.ensures.runs.survives.clean c.see_version-seen.ensures.tells clean
