use Rattle.mgmt_objects.proofs.Common.{◌≡◌, map, ap, ◌∙◌, IfOk-weaker, array, view, items_of, Array, view-Array, items_have_float-map}
use Rattle.mgmt_objects.proofs.shown.array_text.Goals as goal

pub returns : goal.returns
returns g c =
    let shown = map g.T.Shown.shows c.args.records.now in
    let none = items_have_float-map g.T.Shown.shows g.T.Shown.has_no_float c.args.records.now in
    let is : view (Array c.in_ok-values.values) ≡ array (items_of shown) = view-Array c.in_ok-values.values
    ∙ ap (λ ds. array (items_of ds)) c.in_ok-values.ensures in
    IfOk-weaker c.to_string.result _ _ (λ s text. (rw is at text) none) c.to_string.ensures.text
