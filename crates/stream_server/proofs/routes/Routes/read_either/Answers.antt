use Rattle.stream_server.proofs.Common.{◌≡◌, ◌⊎◌, ℕ, List, None, IfOk, IfErr, sym, subst, message_of, NoMemory, Asked, Asks, Rejected, manage_table, route_of}
use Rattle.stream_server.specs.Interfaces.{reading}
use Rattle.rollout_machine.specs.Views.{request_of}
use Rattle.stream_server.proofs.RouteLemmas.{as_of_device}
use Rattle.stream_server.proofs.routes.Routes.read_either.Goals as goal

pub returns-then-begins_as_devices-clause-ok : goal.returns-then-begins_as_devices-clause-ok
unfolding reading
returns-then-begins_as_devices-clause-ok c =
    let none = subst (λ (path : List ℕ). route_of manage_table path ≡ None) c.path.ensures (c.begins_as_devices.ensures.devices c.if-begins_as_devices.true) in
    subst (λ (asked : Asked). IfOk c.read_device.result (λ request. asked ≡ Asks (request_of request)))
    (sym (as_of_device (message_of c.args.message.now) none)) c.read_device.ensures.ok

pub returns-then-begins_as_devices-clause-err : goal.returns-then-begins_as_devices-clause-err
unfolding reading
returns-then-begins_as_devices-clause-err c =
    let none = subst (λ (path : List ℕ). route_of manage_table path ≡ None) c.path.ensures (c.begins_as_devices.ensures.devices c.if-begins_as_devices.true) in
    subst (λ (asked : Asked). IfErr c.read_device.result (λ refusal. (refusal ≡ NoMemory) ⊎ (asked ≡ Rejected refusal)))
    (sym (as_of_device (message_of c.args.message.now) none)) c.read_device.ensures.err
