use Rattle.std.proofs.Common.{sym, subst}
use Rattle.std.proofs.lemmas.Result.{IfOk-weaker}
use Rattle.jop_target.specs.declared.call.Call.TheVariants.{Get}
use Rattle.jop_target.specs.Replies.{IsReplyTo}
use Rattle.jop_target.proofs.SoundStore.{got_fits}
use Rattle.jop_target.proofs.mem_store.MemStore.get.Goals as goal

pub returns-clause-shape : goal.returns-clause-shape
returns-clause-shape c =
    let path = c.args.path.now in
    let may = c.requires in
    let fits = got_fits _ path c.args.now c.self.invariant c.prove_valid.ensures may.plain may.early in
    IfOk-weaker c.got.result _ (IsReplyTo (Get path)) (λ reply is.
    subst (IsReplyTo (Get path)) (sym (rw (c.at.ensures, c.limit_of.ensures) at is)) fits)
    c.got.ensures
