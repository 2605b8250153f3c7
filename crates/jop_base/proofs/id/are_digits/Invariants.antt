use Rattle.std.proofs.Common.{◌≡◌, ℕ, ◌<◌, get_or, true}
use Rattle.jop_base.specs.Id.{is_digit}
use Rattle.jop_base.proofs.id.are_digits.Given as goal

abbrev pub invariant-loop-byte : goal.invariant-loop-byte
invariant-loop-byte l = (k : ℕ) → k < l.byte-index → is_digit (get_or l.text k 0) ≡ true
