use Rattle.desk_store.proofs.Answering.{HoldsLedger, HoldsTables, begin_is, begins, fails_to_begin, refl, rules}
use Rattle.desk_store.specs.private.Texts.{begin_text}
use Rattle.desk_store.proofs.store.DeskStore.begin.Goals as goal

pub returns-in-Err : goal.returns-in-Err
returns-in-Err g c =
    let fails = fails_to_begin HoldsLedger begin_text _ _ (begin_is _) c.in-Err.fault c.in-Err.ensures.runs in
    ((refl, (λ w. tt), (fails, c.in-Err.ensures.work, c.in-Err.ensures.grows, c.in-Err.ensures.failures)), search rules)

pub returns-in-Ok : goal.returns-in-Ok
returns-in-Ok g c =
    let begun = begins HoldsLedger begin_text _ _ (begin_is _) c.in-Ok.ensures.runs in
    let tables = begins HoldsTables begin_text _ _ (begin_is _) c.in-Ok.ensures.runs in
    ((refl, (λ w. refl), tt), search (rules, begun, tables))
