use Rattle.rollout_desk.proofs.DownloadLemmas.{goes_on as law}
use Rattle.rollout_desk.proofs.download.downloads_go_on.Goals as goal

pub returns : goal.returns
returns c = law
