use Rattle.std.proofs.Common.{◌<◌, ◌-◌, ◌/◌, slice_index, arith}
use Rattle.std.proofs.Math.Nat.{div-lt_iff_lt-mul}
use Rattle.aes_ccm.specs.declared.schedule.TheConstants.{POWERS}
use Rattle.aes_ccm.proofs.Bytes.{powers}
use Rattle.aes_ccm.proofs.Words.{turned_first}
use Rattle.aes_ccm.proofs.schedule.turned.Goals as goal

pub returns-then-i-n-eq0 : goal.returns-then-i-n-eq0
returns-then-i-n-eq0 c =
    let some : 0 < c.args.n = omega arith in
    let below : c.args.i / c.args.n < 11 = (div-lt_iff_lt-mul {k = c.args.n} {x = c.args.i} {y = 11} some).1 (omega arith) in
    let lt : c.args.i / c.args.n - 1 < 10 = omega (arith, below) in
    turned_first c.args.n c.args.i (slice_index POWERS (c.args.i / c.args.n - 1)) c.args.word c.sub_word.result c.if-i-n-eq0.true c.sub_word.ensures (powers (c.args.i / c.args.n - 1) lt)
