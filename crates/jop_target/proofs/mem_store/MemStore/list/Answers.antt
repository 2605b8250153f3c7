use Rattle.jop_target.proofs.SoundStore.{is_listing}
use Rattle.jop_target.proofs.mem_store.MemStore.list.Goals as goal

pub returns-clause-shape : goal.returns-clause-shape
returns-clause-shape c =
    rw (c.in_ok-entries.ensures, c.as_slice.ensures)
    (is_listing _ c.args.dir c.args.now c.self.invariant c.requires)
