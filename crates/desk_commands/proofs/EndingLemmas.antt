-- What follows from the outcome of an action, write by write.
use Rattle.desk_commands.proofs.Common.{arith, ◌≡◌, eq-eqb, refl, counted, Outcome, GroupRecord, Ledger, SetsGroup, SeenAction, Then, FollowsSo}
use Rattle.desk_commands.proofs.Common.{with_outcome, with_rollout}
use Rattle.desk_records.specs.LedgerSteps.{group_counted as set_counts}
use Rattle.campaign_core.specs.declared.rollout_checks.actions.Ending.{Ending}
use Rattle.desk_commands.specs.private.Endings.{FollowsEnding}

-- ---- the counts

-- what an outcome in a group leaves of it
counts_own : (o : Outcome) (g : GroupRecord) → ((counted o g.number g).number ≡ g.number)
    × (set_counts (counted o g.number g).started (counted o g.number g).ok (counted o g.number g).bad (counted o g.number g).gone g ≡ counted o g.number g)
counts_own o g = rw (eq-eqb g.number g.number refl) (refl, refl)

-- the group with its count, and then what follows
pub ending_parts : (seen : SeenAction) (e : Ending) (g : GroupRecord) → g ≡ counted e.outcome seen.own.number seen.own → (l next : Ledger)
    → FollowsEnding seen e l next
    → Then (SetsGroup seen.action.rollout g.number g.started g.ok g.bad g.gone) (FollowsSo seen e.following) l next
ending_parts seen e g is l next w = (
  with_rollout l seen.action.rollout (with_outcome seen e.outcome w.rollout),
  grind (arith, counts_own),
  w.follows,
)
