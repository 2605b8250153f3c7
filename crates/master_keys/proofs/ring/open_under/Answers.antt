use Rattle.master_keys.proofs.Found.{valid_at}
use Rattle.master_keys.proofs.ring.open_under.Goals as goal

pub open_chunk-requires : goal.open_chunk-requires
open_chunk-requires c =
    valid_at c.args.locked.now c.args.id.now c.in-Some.key.now c.requires c.in-Some.ensures
