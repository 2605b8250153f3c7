use Rattle.dav_server.proofs.Heard.{more_read}
use Rattle.dav_server.proofs.next_request.NextRequestMessage.is_more.Goals as goal

pub returns : goal.returns
returns c =
    more_read c.args.bytes.now c.in_ok-read.read c.is_more.result c.in_ok-read.ensures
    c.is_more.ensures
