use Rattle.jop_target.proofs.SoundStore.{IsSound-with_folder}
use Rattle.jop_target.proofs.mem_store.MemStore.make_dir.Goals as goal

pub invariant_of-self-2 : goal.invariant_of-self-2
invariant_of-self-2 c =
    rw c.in_ok-put.ensures.ok (IsSound-with_folder _ c.args.dir c.self.invariant)
