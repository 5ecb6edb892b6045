use Rattle.campaign_core.proofs.Common.{◌≡◌, subst, IfOk}
use Rattle.campaign_core.proofs.GroupingLemmas.{split_is_cut}
use Rattle.campaign_core.proofs.groupings.cut_grouping.Goals as goal

pub returns-in_default : goal.returns-in_default
returns-in_default c =
    subst (λ groups. IfOk c.split_defined.result (λ cuts. cuts.items ≡ groups))
    (split_is_cut c.args.groups.now c.args.members c.definitions.result.now c.definitions.ensures.value c.definitions.ensures.definitions
    c.in_default.len_at_least)
    c.split_defined.ensures
