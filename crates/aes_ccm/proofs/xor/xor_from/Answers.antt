use Rattle.std.proofs.Common.{arith, sym, take-append-drop, drop}
use Rattle.aes_ccm.proofs.Xored.{xored-nil, xored_step, xored_end}
use Rattle.aes_ccm.proofs.xor.xor_from.Goals as goal

pub loop-n-init : goal.loop-n-init
loop-n-init c = rw (xored-nil (drop c.args.place c.args.text.now)) (sym (take-append-drop c.args.place c.args.text.now))

pub loop-n-preserved : goal.loop-n-preserved
loop-n-preserved c = xored_step c.args.text.now c.loop-n.text c.args.other.now c.args.place c.loop-n.n c.loop-n.invariant c.requires (omega arith) (omega arith)

pub returns : goal.returns
returns c = xored_end c.args.text.now c.loop-n.text c.args.other.now c.args.place c.loop-n.n c.loop-n.invariant (omega arith)
