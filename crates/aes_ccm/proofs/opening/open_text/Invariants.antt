use Rattle.std.proofs.Common.{◌≡◌, ◌+◌}
use Rattle.aes_ccm.specs.Aes.{aes}
use Rattle.aes_ccm.specs.Lists.{xored}
use Rattle.aes_ccm.specs.Ccm.{chained, counter, stream}
use Rattle.aes_ccm.proofs.opening.open_text.Given as goal

abbrev pub invariant-loop-n : goal.invariant-loop-n
invariant-loop-n l = record {
  text : l.text ≡ xored l.initial.text (stream l.key l.nonce l.n);
  chain : l.chain ≡ chained l.key l.fn.start l.text l.n;
  ahead : l.ahead ≡ aes l.key (counter l.nonce (l.n + 1));
}
