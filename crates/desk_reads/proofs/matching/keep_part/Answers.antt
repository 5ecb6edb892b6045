use Rattle.desk_reads.proofs.Common.{ap, ◌∙◌, both_found, finds_as, inl, inr}
use Rattle.std.proofs.Common.{rules}
use Rattle.std.specs.Prelude.{◌++◌}
use Rattle.desk_reads.proofs.ListFailLemmas.{fails_never_at, fails_out}
use Rattle.desk_reads.proofs.Matches.{kept_matched}
use Rattle.desk_reads.proofs.Owned.{never_wrong}
use Rattle.desk_reads.specs.Matches.{ids_matched}
use Rattle.desk_reads.proofs.matching.keep_part.Goals as goal

pub returns-clause-reads : goal.returns-clause-reads
returns-clause-reads g c =
    finds_as (both_found c.in_ok-tags.ensures.reads c.in_ok-attributes.ensures.reads)
    (λ r is ordered f tree.
    let own = (rw (c.deref-3.ensures.value, c.deref-4.ensures.value) at c.in_ok-targets.ensures.ok) ordered is.0.rise is.1.rise in
    c.in_ok-add_matching.ensures.ok f tree ∙ ap (λ ts. c.args.ids.now.items ++ ids_matched f ts) own
    ∙ ap (λ ids. c.args.ids.now.items ++ ids) (kept_matched r f c.in_ok-tags.tags.items c.in_ok-attributes.attributes.items c.args.part.items
    ((rw c.deref.ensures.value at is.0).each f tree ordered) ((rw c.deref-2.ensures.value at is.1).each f tree ordered)))

-- what each target's own tags are is a list of tags
pub returns-in_err-targets-clause-fails : goal.returns-in_err-targets-clause-fails
returns-in_err-targets-clause-fails g c = elim c.in_err-targets.ensures.err [
  | inl memory ↦ fails_out (search (c.in_ok-tags.ensures.fails, c.in_ok-attributes.ensures.fails, rules)) _ memory _ c.from_residual-in_err-targets.ensures.1
  | inr broken ↦ fails_never_at (both_found c.in_ok-tags.ensures.reads c.in_ok-attributes.ensures.reads) _ c.from_residual-in_err-targets.ensures.0
      (λ h valid is. never_wrong h valid _ is.0.lists ((rw c.deref-3.ensures.value at broken.1) is.0.rise))
]
