-- The ledger of accepted commands can be read, where the histories can be counted.
use Rattle.desk_verify.proofs.Common.{arith, CommandList, IsValid, ledger_of, records, Place, IsReadable, AreCounted}
use Rattle.desk_verify.proofs.ReadableActions.{actions_readable}
use Rattle.desk_verify.proofs.ReadableArtifacts.{artifacts_readable}
use Rattle.desk_verify.proofs.ReadableRollouts.{rollouts_readable}
use Rattle.desk_verify.proofs.ReadableRows.{Keeps}
use Rattle.desk_verify.proofs.ReadableTargets.{few_targets, targets_readable}

keeps_each : (h : CommandList) → IsValid h → AreCounted (records h) → (p : Place) → Keeps (records h) p
keeps_each h valid counted = grind (arith, artifacts_readable, targets_readable, rollouts_readable, actions_readable)

pub readable : (h : CommandList) → IsValid h → AreCounted (records h) → IsReadable (ledger_of (records h))
readable h valid counted = record { keep = keeps_each h valid counted; few = few_targets h valid }
