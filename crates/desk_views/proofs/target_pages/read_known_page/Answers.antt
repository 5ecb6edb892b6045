use Rattle.desk_views.proofs.Answering.{both_found, finds_as, found_held, content_is}
use Rattle.sql_calls.proofs.Composing.{known}
use Rattle.std.proofs.Common.{ap, ◌∙◌, map}
use Rattle.desk_records.specs.TargetRow.{listed_target}
use Rattle.desk_records.specs.Targets.{in_byte_order}
use Rattle.desk_reads.specs.Targets.{listed_ids}
use Rattle.desk_reads.proofs.Owned.{part_ordered}
use Rattle.desk_views.proofs.KnownPages.{page_between, page_empty}
use Rattle.desk_views.proofs.target_pages.read_known_page.Goals as goal

-- nothing is on the page
pub returns-in_default-clause-reads : goal.returns-in_default-clause-reads
returns-in_default-clause-reads g c =
    known (λ r ids. page_empty r c.args.page c.args.ids.now _ ids c.ids_on-on.ensures c.in_default.ensures c.new.result.items c.new.ensures.items)

pub returns-clause-reads : goal.returns-clause-reads
returns-clause-reads g c =
    finds_as (found_held (λ db r holds. holds.sorted) (both_found c.in_ok-entries.ensures.reads c.in_ok-content.ensures.reads))
    (λ r is ids.
    let listed = (rw (c.as_str.ensures.value, c.as_str-2.ensures.value) at is.1.0)
    ∙ ap (map listed_target) (page_between r c.args.page c.args.ids.now _ ids c.ids_on-on.ensures is.0 _ _ c.in-Some.ensures) in
    content_is r c.args.page c.in_ok-entries.entries.items c.in_ok-content.content.items is.0 listed
    (is.1.1 (ap (λ l. in_byte_order (listed_ids l)) listed ∙ part_ordered r is.0 c.args.page.limit c.args.page.offset)))
