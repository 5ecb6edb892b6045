use Rattle.desk_verify.proofs.Common.{◌≡◌, Err, None, sym, subst, ◌∙◌, Broken, known, kept_if, is_number, missing_rollout, blamed, unread, IsUpTo}
use Rattle.desk_verify.proofs.Causes.{past_limit, same_number}
use Rattle.desk_verify.proofs.rollouts.rollout_of.Goals as goal

pub returns-in_default-clause-blames : goal.returns-in_default-clause-blames
returns-in_default-clause-blames g c =
    let none : kept_if is_number c.args.number ≡ None = sym c.new.ensures ∙ c.in_default.is in
    blamed {A = Unit {0}} {x = tt} {P = λ t u. Unit {0}} (known (λ t. tt)) (Err Broken) (λ reading is given. past_limit reading c.args.number none given)

pub returns-in-None-clause-blames : goal.returns-in-None-clause-blames
returns-in-None-clause-blames g c =
    let same : c.in-Some.number ≡ c.args.number = same_number c.args.number c.in-Some.number (sym c.new.ensures ∙ c.in-Some.is) in
    blamed (rw c.in-None.is at c.in_ok-rollout.ensures.reads) (Err Broken)
    (λ reading none given. let up = subst (λ n. IsUpTo n reading.tables) (sym same) given.up in
    unread reading (missing_rollout c.in-Some.number up.last up.low up.high up.there (λ it. none it.row it.among it.numbered)) given.rollouts)
