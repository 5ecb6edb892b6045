use Rattle.mgmt_objects.proofs.Common.{◌≡◌, map, ap, ◌∙◌, IfOk-weaker, view, page_data, items_have_float-map}
use Rattle.mgmt_objects.proofs.PageLemmas.{has_float-page_data}
use Rattle.mgmt_objects.proofs.shown.page_text.Goals as goal

pub returns : goal.returns
returns g c =
    let shown = map g.T.Shown.shows c.args.records.now in
    let none = items_have_float-map g.T.Shown.shows g.T.Shown.has_no_float c.args.records.now in
    let is : view c.in_ok-page.page ≡ page_data shown c.args.total = c.in_ok-page.ensures ∙ ap (λ ds. page_data ds c.args.total) c.in_ok-values.ensures in
    IfOk-weaker c.to_string.result _ _ (λ s text. (rw is at text) (has_float-page_data shown c.args.total none)) c.to_string.ensures.text
