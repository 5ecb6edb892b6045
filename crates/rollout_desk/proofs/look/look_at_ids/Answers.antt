use Rattle.desk_reads.specs.AtLists.{IsOfList}
use Rattle.desk_store.specs.Failing.{ReadableAs}
use Rattle.rollout_desk.specs.Looks.{HasPage}
use Rattle.rollout_desk.proofs.CauseLemmas.{of_list}
use Rattle.rollout_desk.proofs.LookLemmas.{fails_at, looks_at}
use Rattle.rollout_desk.proofs.look.look_at_ids.Goals as goal

pub returns-clause-looks : goal.returns-clause-looks
returns-clause-looks g c = looks_at _ _ (λ r found. HasPage c.args.page r found.0.items found.1.items)
    (λ b a x finds r seen. (finds.reads.finds r seen).1) _ c.look.ensures

pub returns-clause-fails : goal.returns-clause-fails
returns-clause-fails g c = fails_at _ _ (ReadableAs IsOfList) (λ b a finds. finds.fails) of_list _ c.look.ensures
