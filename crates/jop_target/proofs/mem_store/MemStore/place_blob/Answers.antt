use Rattle.jop_target.proofs.SoundStore.{IsSound-sized}
use Rattle.jop_target.proofs.mem_store.MemStore.place_blob.Goals as goal

pub invariant_of-self-2 : goal.invariant_of-self-2
invariant_of-self-2 c =
    rw (c.in_ok-put_both.ensures.ok.0, c.in_ok-put_both.ensures.ok.1, c.len.ensures)
    (IsSound-sized _ c.args.id c.args.content c.args.stamp
    c.self.invariant c.prove_valid.ensures c.requires)
