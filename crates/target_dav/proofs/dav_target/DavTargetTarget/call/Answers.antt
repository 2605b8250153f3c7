use Rattle.target_dav.proofs.Asked.{reply_shape}
use Rattle.target_dav.proofs.dav_target.DavTargetTarget.call.Goals as goal

pub returns-in-Ok-clause-shape : goal.returns-in-Ok-clause-shape
returns-in-Ok-clause-shape g c = reply_shape _ _ _ _ _ _ _ c.in-Ok.ensures.asks
