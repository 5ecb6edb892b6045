use Rattle.desk_commands.proofs.Answering.{◌∙◌, ap, length, both_found, finds_as, missing, shown_count}
use Rattle.desk_commands.proofs.artifacts.read_view.Goals as goal

pub returns-clause-reads : goal.returns-clause-reads
returns-clause-reads g c =
    let digest = rw c.as_slice.ensures.value at c.describe-described.ensures.digest in
    finds_as
    (both_found
    (both_found (both_found (both_found c.in_ok-last_module.ensures.reads c.in_ok-locked.ensures.reads) c.in_ok-same.ensures.reads)
    c.in_ok-of_module.ensures.reads)
    c.in_ok-count.ensures.reads)
    (λ r is. record {
      misses_module = rw c.get.ensures.value (missing r.modules _ _ (rw c.get.ensures.value at c.get.ensures.least) is.0.0.0.0);
      locked = is.0.0.0.1;
      same = is.0.0.1;
      module_count = c.len.ensures ∙ c.in_ok-of_module.of_module.ok.0 ∙ ap length is.0.1 ∙ shown_count c.args.upload.now.module_number 1 r.artifacts;
      count = is.1;
      wrong_digest = c.names_another.ensures digest;
      size = rw c.as_slice.ensures.value at c.describe-described.ensures.size;
      digest = digest;
    })
