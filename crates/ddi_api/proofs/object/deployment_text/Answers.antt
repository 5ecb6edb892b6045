use Rattle.ddi_api.proofs.Common.{IfOk-weaker, deployment}
use Rattle.ddi_api.proofs.ObjectLemmas.{deployment_has_no_float}
use Rattle.ddi_api.proofs.object.deployment_text.Goals as goal

pub returns : goal.returns
returns c =
    IfOk-weaker c.to_vec.result _ _ (λ s text. (rw c.in_ok-value.ensures at text) (deployment_has_no_float (deployment c.args.plan.now))) c.to_vec.ensures.text
