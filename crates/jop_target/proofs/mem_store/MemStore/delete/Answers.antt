use Rattle.jop_target.proofs.SoundStore.{IsSound-without}
use Rattle.jop_target.proofs.mem_store.MemStore.delete.Goals as goal

pub invariant_of-self : goal.invariant_of-self
invariant_of-self c =
    rw (c.cut-file.ensures.rest, c.cut_blob.ensures)
    (IsSound-without _ c.args.path.now c.self.invariant)
