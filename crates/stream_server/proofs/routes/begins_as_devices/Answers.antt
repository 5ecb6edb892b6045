use Rattle.stream_server.proofs.Common.{◌≡◌, true, false, bytes_eq, codes, rules}
use Rattle.stream_server.proofs.RouteLemmas.{not_of_management, not_of_devices, without_word}
use Rattle.stream_server.proofs.routes.begins_as_devices.Goals as goal

pub returns-in-Some-clause-devices : goal.returns-in-Some-clause-devices
returns-in-Some-clause-devices c is =
    let same : bytes_eq c.in-Some.word.now (codes "DEFAULT") ≡ true = search rules in
    not_of_management _ _ c.in-Some.ensures same

pub returns-in-Some-clause-others : goal.returns-in-Some-clause-others
returns-in-Some-clause-others c is =
    let other : bytes_eq c.in-Some.word.now (codes "DEFAULT") ≡ false = search rules in
    not_of_devices _ _ c.in-Some.ensures other

pub returns-in-None-clause-others : goal.returns-in-None-clause-others
returns-in-None-clause-others c is = without_word _ c.in-None.ensures
