use Rattle.std.proofs.Common.{◌≡◌, ◌-◌}
use Rattle.aes_ccm.specs.Hmac.{turn, turns}
use Rattle.aes_ccm.proofs.password_key.pbkdf2.Given as goal

abbrev pub invariant-loop-n : goal.invariant-loop-n
invariant-loop-n l = record {
  turn : l.turn ≡ turn l.fn.password l.fn.salt (l._n - 1);
  sum : l.sum ≡ turns l.fn.password l.fn.salt (l._n - 1);
}
