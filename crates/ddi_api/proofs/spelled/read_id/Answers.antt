use Rattle.ddi_api.proofs.Facts.{spelled-no_text}
use Rattle.ddi_api.proofs.spelled.read_id.Goals as goal

pub returns-in-Err : goal.returns-in-Err
returns-in-Err c = spelled-no_text 1 64 c.args.bytes.now c.in-Err.ensures.cases.0
