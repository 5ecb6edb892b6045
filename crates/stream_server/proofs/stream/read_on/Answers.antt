use Rattle.stream_server.proofs.Common.{◌++◌, take}
use Rattle.stream_server.proofs.stream.read_on.Goals as goal

pub returns-in_default-feed-clause-read : goal.returns-in_default-feed-clause-read
returns-in_default-feed-clause-read g c =
    let piece = take c.in-Ok.count c.read.new.buf in (piece, c.in-Ok.ensures.bytes.0, c.args.inbox.now ++ piece, c.in_default-feed.ensures.first)
