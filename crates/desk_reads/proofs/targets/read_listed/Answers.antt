use Rattle.desk_reads.proofs.Common.{true≢false, sym, ap, ◌∙◌, both_found, finds_as, is_tag_list}
use Rattle.desk_reads.proofs.ListFailLemmas.{fails_never_at}
use Rattle.desk_reads.proofs.TargetRules.{tags_keep}
use Rattle.desk_reads.proofs.targets.read_listed.Goals as goal

pub returns-clause-reads : goal.returns-clause-reads
returns-clause-reads g c = finds_as (both_found c.in_ok-words.ensures.reads c.in_ok-attributes.ensures.reads)
    (λ r is i. record {
      id = c.args.listed.id;
      name = c.args.listed.name;
      tags = (c.in_ok-tags.ensures ∙ is.0) i;
      attributes = is.1 i;
    })

-- its tags are a list of tags
pub returns-in_err-tags-clause-fails : goal.returns-in_err-tags-clause-fails
returns-in_err-tags-clause-fails g c =
    fails_never_at c.in_ok-words.ensures.reads _ c.from_residual-in_err-tags.ensures.0
    (λ h valid is. true≢false (sym (tags_keep h valid c.args.listed.id) ∙ sym (ap is_tag_list is) ∙ c.in_err-tags.ensures.1))
