use Rattle.desk_verify.proofs.Common.{sym, subst, both_found, finds_as, FitsItsEntries, PassesHistory, Settles}
use Rattle.desk_verify.proofs.HistoryLemmas.{settles}
use Rattle.desk_verify.proofs.histories.fits_history.Goals as goal

pub returns-clause-judges : goal.returns-clause-judges
returns-clause-judges g c =
    finds_as (both_found c.in_ok-given.ensures.reads c.in_ok-read_numbers.ensures.tells)
    (λ t is. subst (Settles (PassesHistory t c.args.action.now) (FitsItsEntries t c.args.action.now)) (sym c.is_fit.ensures)
    (settles t c.args.action.now c.in_ok-given.given _ is.0 is.1))
