use Rattle.desk_verify.proofs.Common.{◌≡◌, Err, Some, sym, ◌∙◌, Broken, blamed, known}
use Rattle.desk_verify.proofs.GroupLemmas.{fails_broken}
use Rattle.desk_verify.proofs.OfferLemmas.{kept_is}
use Rattle.desk_verify.proofs.offers.keep_groups.Goals as goal

pub returns-then-is_of-clause-reads : goal.returns-then-is_of-clause-reads
returns-then-is_of-clause-reads g c =
    let same : c.args.kept.now.rollout ≡ Some c.args.rollout = kept_is c.args.kept.now.rollout c.args.rollout (sym c.is_of.ensures ∙ c.if-is_of.true) in
    known (λ t kept. (kept c.args.rollout same, kept))

pub returns-in_default-clause-blames : goal.returns-in_default-clause-blames
returns-in_default-clause-blames g c = blamed (rw c.in_default.is at c.in_ok-groups.ensures.reads) (Err Broken)
    (λ reading is given. absurd (fails_broken reading.tables c.args.rollout is given.agree.1.1.0))
