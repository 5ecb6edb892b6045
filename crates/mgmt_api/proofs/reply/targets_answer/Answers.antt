use Rattle.mgmt_api.proofs.Facts.{page_reply-targets}
use Rattle.mgmt_api.proofs.reply.targets_answer.Goals as goal

pub returns : goal.returns
returns c = rw (page_reply-targets c.args.page.now) c.page_answer.ensures
