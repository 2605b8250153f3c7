use Rattle.target_webdav.proofs.Served.{reply_blob, reply_shape}
use Rattle.target_webdav.proofs.webdav_target.WebDavTargetTarget.call.Goals as goal

pub returns-in-Ok-clause-shape : goal.returns-in-Ok-clause-shape
returns-in-Ok-clause-shape g c = reply_shape _ _ _ _ _ _ _ c.in-Ok.ensures.answers.0

pub returns-in-Ok-clause-blob : goal.returns-in-Ok-clause-blob
returns-in-Ok-clause-blob g c = reply_blob _ _ _ _ _ _ _ c.in-Ok.ensures.answers.0
