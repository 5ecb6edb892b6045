use Rattle.ddi_api.proofs.LettersLemmas.{cancel_spelled, deployment_spelled, poll_spelled}
use Rattle.ddi_api.proofs.laws.letters.Goals as goal

pub returns-clause-poll : goal.returns-clause-poll
returns-clause-poll c = poll_spelled

pub returns-clause-cancel : goal.returns-clause-cancel
returns-clause-cancel c = cancel_spelled

pub returns-clause-deployment : goal.returns-clause-deployment
returns-clause-deployment c = deployment_spelled
