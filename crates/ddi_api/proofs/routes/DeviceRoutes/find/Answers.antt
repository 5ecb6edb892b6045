use Rattle.ddi_api.proofs.Common.{◌∙◌, sym, ap, route_in, device_table}
use Rattle.request_target.proofs.RouteLemmas.{route_of-text, route_of-no_text}
use Rattle.ddi_api.proofs.Facts.{device_table_is_good}
use Rattle.ddi_api.proofs.routes.DeviceRoutes.find.Goals as goal

pub returns-in-Ok : goal.returns-in-Ok
returns-in-Ok c =
    c.route_of.ensures device_table device_table_is_good c.args.self.now.by_table
    ∙ ap (route_in device_table) c.in-Ok.ensures.cases.0
    ∙ sym (route_of-text device_table c.args.path.now c.in-Ok.ensures.cases.1)

pub returns-in-Err : goal.returns-in-Err
returns-in-Err c = sym (route_of-no_text device_table c.args.path.now c.in-Err.ensures.cases.0)
