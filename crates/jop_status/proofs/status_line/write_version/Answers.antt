use Rattle.std.proofs.Common.{append_assoc}
use Rattle.jop_status.proofs.status_line.write_version.Goals as goal

pub returns : goal.returns
returns g c = simp append_assoc c.write_pieces.ensures
