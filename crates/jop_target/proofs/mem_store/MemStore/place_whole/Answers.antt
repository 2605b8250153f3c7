use Rattle.jop_target.proofs.SoundStore.{IsSound-whole}
use Rattle.jop_target.proofs.mem_store.MemStore.place_whole.Goals as goal

pub invariant_of-self-2 : goal.invariant_of-self-2
invariant_of-self-2 c =
    rw c.in_ok-put.ensures.ok
    (IsSound-whole _ c.args.path c.args.content c.args.stamp
    c.self.invariant c.prove_valid.ensures c.requires.plain c.requires.early)
