use Rattle.stream_server.proofs.Common.{[], None, Err}
use Rattle.stream_server.proofs.PartLemmas.{serves_nil}
use Rattle.stream_server.proofs.HeadlineLemmas.{both}
use Rattle.stream_server.proofs.ExitLemmas.{exits_unserved}
use Rattle.stream_server.proofs.serving.serve_interface.Goals as goal

pub returns-in_default-clause-serves : goal.returns-in_default-clause-serves
returns-in_default-clause-serves g c = both _ _ _ _ _ _ _ _ [] None (Err _) (λ C answers. exits_unserved _ C _ _ _ _ answers) (serves_nil _ _ _)
