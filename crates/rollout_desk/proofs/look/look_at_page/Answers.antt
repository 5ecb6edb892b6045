use Rattle.desk_reads.specs.AtLists.{IsOfList}
use Rattle.desk_store.specs.Failing.{ReadableAs}
use Rattle.std.specs.Prelude.{◌≡◌}
use Rattle.desk_records.specs.Targets.{ids_of}
use Rattle.desk_views.specs.Targets.{IsContentOf}
use Rattle.rollout_desk.proofs.CauseLemmas.{of_list}
use Rattle.rollout_desk.proofs.LookLemmas.{fails_at, looks_at}
use Rattle.rollout_desk.proofs.look.look_at_page.Goals as goal

pub returns-clause-looks : goal.returns-clause-looks
returns-clause-looks g c = looks_at _ _ (λ r content. c.args.ids.now ≡ ids_of r.targets → IsContentOf c.args.page r content.items)
    (λ b a x finds r seen. (finds.reads.finds r seen).1) _ c.look.ensures

pub returns-clause-fails : goal.returns-clause-fails
returns-clause-fails g c = fails_at _ _ (ReadableAs IsOfList) (λ b a finds. finds.fails) of_list _ c.look.ensures
