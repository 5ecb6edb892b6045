use Rattle.std.proofs.Common.{◌∙◌, sym, ap}
use Rattle.request_target.specs.Routes.{route_in}
use Rattle.mgmt_api.specs.Routes.{manage_table}
use Rattle.request_target.proofs.RouteLemmas.{route_of-text, route_of-no_text}
use Rattle.mgmt_api.proofs.Facts.{manage_table_is_good}
use Rattle.mgmt_api.proofs.routes.ManageRoutes.find.Goals as goal

pub returns-in-Ok : goal.returns-in-Ok
returns-in-Ok c =
    c.route_of.ensures manage_table manage_table_is_good c.args.self.now.by_table
    ∙ ap (route_in manage_table) c.in-Ok.ensures.cases.0
    ∙ sym (route_of-text manage_table c.args.path.now c.in-Ok.ensures.cases.1)

pub returns-in-Err : goal.returns-in-Err
returns-in-Err c = sym (route_of-no_text manage_table c.args.path.now c.in-Err.ensures.cases.0)
