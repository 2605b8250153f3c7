use Rattle.webdav_calls.proofs.OneReply.{one_reply}
use Rattle.webdav_calls.proofs.laws.a_response_is_one_reply.Goals as goal

pub returns : goal.returns
returns c = one_reply
