use Rattle.desk_opening.proofs.Common.{◌≡◌, true, false, inl, refl, image_at}
use Rattle.desk_opening.proofs.SparingLemmas.{left_alone, one_image, spares}
use Rattle.desk_opening.proofs.path.open_at.Goals as goal

pub returns-in-Err-default-Some-clause-refused : goal.returns-in-Err-default-Some-clause-refused
returns-in-Err-default-Some-clause-refused g c =
    let cause = rw c.in-Err-default-Some.field-0-1-is at c.in-Err-default-Some.ensures.cause in
    λ approval clean. spares _ (λ f. inl refl) cause.0 (λ left. left ≡ image_at g.S.Start)
    (one_image c.in-Err-default-Some.left cause.0 (image_at g.S.Start) (left_alone cause.0.log true cause.0.log.key cause.1.0 cause.1.1)
    (left_alone cause.0.db false cause.0.db.key cause.2.0 cause.2.1))
    c.in-Err-default-Some.error c.in-Err-default-Some.left c.refused_open.result c.refused_open.ensures.opened c.refused_open.ensures.named
    c.refused_open.ensures.memory (cause.3 clean)
