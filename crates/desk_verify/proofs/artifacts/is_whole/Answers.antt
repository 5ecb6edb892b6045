use Rattle.desk_verify.proofs.Common.{◌+◌, nat_eq, refl, ap, ◌∙◌, both_found, finds_as}
use Rattle.desk_verify.proofs.ArtifactLemmas.{are_other, are_same, by_end, other_digest}
use Rattle.desk_verify.proofs.artifacts.is_whole.Goals as goal

pub returns-then-ne-clause-judges : goal.returns-then-ne-clause-judges
returns-then-ne-clause-judges g c =
    finds_as (rw c.in-Some.is at c.in_ok-digest.ensures.judges)
    (λ t is. other_digest t c.args.checked.now c.in-Some.digest is
    (are_other c.in-Some.digest c.args.checked.now.artifact.digest c.ne.result c.ne.ensures c.if-ne.true))

pub returns-clause-judges : goal.returns-clause-judges
returns-clause-judges g c =
    let same = are_same c.in-Some.digest c.args.checked.now.artifact.digest c.ne.result c.ne.ensures c.if-ne.false in
    let none = c.is_empty.ensures ∙ ap (λ n. nat_eq n 0) c.in_ok-behind.behind.ok.0 in
    finds_as (both_found (rw c.in-Some.is at c.in_ok-digest.ensures.judges) c.in_ok-behind.ensures.reads)
    (λ t is. by_end t c.args.checked.now c.in-Some.digest c.in_ok-behind.behind.items c.count_pieces.result (c.count_pieces.result + 1) c.is_empty.result is.0
    same c.count_pieces.ensures.count refl is.1 none)
