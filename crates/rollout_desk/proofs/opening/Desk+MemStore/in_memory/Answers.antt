use Rattle.rollout_desk.proofs.Common.{state, HoldsRecords, Make, StandsFor}
use Rattle.rollout_desk.specs.Desks.{desk_state_knowing}
use Rattle.sqlite.specs.Steps.{over_memory}
use Rattle.sqlite.proofs.Callers.{memory_is_clean}
use Rattle.desk_opening.proofs.EmptyLemmas.{fails_alone}
use Rattle.rollout_desk.proofs.OpeningLemmas.{over_it, made_desk}
use Rattle.rollout_desk.proofs.opening.Desk+MemStore.in_memory.Goals as goal

pub returns-in-Ok-open_desk-clause-made : goal.returns-in-Ok-open_desk-clause-made
returns-in-Ok-open_desk-clause-made c = over_it _ c.new.result c.in-Ok-open_desk.conn c.new.ensures.conn c.over.result c.over.ensures
    (λ k b x. StandsFor (desk_state_knowing HoldsRecords k b (state over_memory x)) (Make c.args.approval))
    (made_desk (state over_memory c.in-Ok.conn) (state over_memory c.in-Ok-open_desk.conn) c.args.approval c.in-Ok-open_desk.conn c.open_desk.ensures.settled
    c.in-Ok.ensures.empty c.in-Ok-open_desk.ensures.opened (memory_is_clean c.in-Ok-open_desk.conn))

pub returns-clause-refused : goal.returns-clause-refused
returns-clause-refused c = fails_alone (state over_memory c.in-Ok.conn) (state over_memory c.in-Err.field-0-1.conn) c.args.approval c.in-Err.fault
    c.in-Ok.ensures.empty (memory_is_clean c.in-Err.field-0-1.conn) c.in-Err.ensures.refused
