use Rattle.ddi_api.proofs.Common.{view, is_detail, text_in}
use Rattle.mgmt_objects.proofs.TraverseLemmas.{array_listed}
use Rattle.ddi_api.proofs.feedback_body.read_list.Goals as goal

pub returns-in-Some : goal.returns-in-Some
returns-in-Some c =
    rw (← array_listed (text_in is_detail) (view c.args.value.now) c.in-Some.values.now.items c.in-Some.ensures, ← c.deref.ensures.value) c.read_all.ensures
