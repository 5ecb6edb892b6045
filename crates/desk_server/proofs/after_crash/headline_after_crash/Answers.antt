use Rattle.desk_server.proofs.AfterCrashLemmas.{keeps_headline}
use Rattle.desk_server.proofs.after_crash.headline_after_crash.Goals as goal

pub returns-clause-before : goal.returns-clause-before
returns-clause-before g c = λ clean. keeps_headline _ _ _ (c.goes_on_after_crash.ensures.before clean)

pub returns-clause-after : goal.returns-clause-after
returns-clause-after g c = λ clean. keeps_headline _ _ _ (λ all. c.goes_on_after_crash.ensures.after clean)
