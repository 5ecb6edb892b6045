use Rattle.request_target.proofs.Common.{◌≡◌, [], map, drop, rows_with}
use Rattle.request_target.proofs.routes.router_of.Given as goal

abbrev pub invariant-loop-route : goal.invariant-loop-route
invariant-loop-route g l = rows_with (map (λ t. (t.0.now, t.1)) (drop l.route-index l.table)) l.router ≡ rows_with (map (λ t. (t.0.now, t.1)) l.table) []
