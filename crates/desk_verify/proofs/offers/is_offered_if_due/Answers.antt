use Rattle.desk_verify.proofs.Common.{sym, ◌∙◌, Fault, found_then, known}
use Rattle.desk_verify.proofs.OfferLemmas.{if_due}
use Rattle.desk_verify.proofs.offers.is_offered_if_due.Goals as goal

pub returns-clause-judges : goal.returns-clause-judges
returns-clause-judges g c =
    found_then {A = Unit {0}} {E = Fault} {x = tt} {P = λ t u. Unit {0}} (known (λ t. tt)) c.is_offered.result c.is_offered.ensures.judges
    (λ t offered any is. if_due t c.args.groups.now c.args.listed.now (sym c.is_due.ensures ∙ c.if-not-is_due.false) offered is)
