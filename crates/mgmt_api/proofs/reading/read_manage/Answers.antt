use Rattle.http_wire.specs.Inbox.{message_of}
use Rattle.mgmt_api.specs.Reading.{manage_reading}
use Rattle.mgmt_api.proofs.Facts.{told_apart}
use Rattle.mgmt_api.proofs.reading.read_manage.Goals as goal

pub returns-clause-ok : goal.returns-clause-ok
returns-clause-ok c = (told_apart (manage_reading (message_of c.args.message.now)) c.read_routed.result c.read_routed.ensures).0

pub returns-clause-err : goal.returns-clause-err
returns-clause-err c = (told_apart (manage_reading (message_of c.args.message.now)) c.read_routed.result c.read_routed.ensures).1

pub returns-clause-no_store : goal.returns-clause-no_store
returns-clause-no_store c = (told_apart (manage_reading (message_of c.args.message.now)) c.read_routed.result c.read_routed.ensures).2

pub returns-clause-no_stop : goal.returns-clause-no_stop
returns-clause-no_stop c = (told_apart (manage_reading (message_of c.args.message.now)) c.read_routed.result c.read_routed.ensures).3
