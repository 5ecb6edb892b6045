use Rattle.rollout_desk.proofs.Common.{file_state, HoldsRecords, BeginsPlain, ReopensDesk}
use Rattle.rollout_desk.specs.Desks.{desk_state_knowing}
use Rattle.sqlite.specs.WalFiles.{image_at}
use Rattle.rollout_desk.proofs.OpeningLemmas.{over_it, reopened_desk}
use Rattle.rollout_desk.proofs.opening.Desk+FileStore+FileFrom+S.reopen_path.Goals as goal

pub returns-in-Ok-clause-reopened : goal.returns-in-Ok-clause-reopened
returns-in-Ok-clause-reopened g c = over_it _ c.new.result c.in-Ok.conn c.new.ensures.conn c.over.result c.over.ensures
    (λ k b x. ReopensDesk (image_at g.S.Start) (desk_state_knowing HoldsRecords k b (file_state x)) c.args.approval_if_new)
    (reopened_desk (image_at g.S.Start) c.args.approval_if_new (file_state c.in-Ok.conn) c.in-Ok.ensures.reopened)

pub returns-in-Ok-clause-plain : goal.returns-in-Ok-clause-plain
returns-in-Ok-clause-plain g c = over_it _ c.new.result c.in-Ok.conn c.new.ensures.conn c.over.result c.over.ensures
    (λ k b x. BeginsPlain (image_at g.S.Start) c.args.approval_if_new x) c.in-Ok.ensures.plain
