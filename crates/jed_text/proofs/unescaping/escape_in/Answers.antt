use Rattle.std.proofs.Common.{◌≡◌, ◌-◌, List, ℕ, false, length, take, drop, slice_index, nat_lt, arith}
use Rattle.std.proofs.lemmas.Bool.Decides.{nat_tests}
use Rattle.std.proofs.lemmas.List.{take_rest}
use Rattle.jed_text.proofs.unescaping.escape_in.Goals as goal

pub returns-then-units-eq117 : goal.returns-then-units-eq117
returns-then-units-eq117 c =
    let units : List ℕ = c.args.units.now in
    let cut : take (length units - 1) (drop 1 units) ≡ drop 1 units = take_rest units 1 in
    let long : nat_lt (length units) 2 ≡ false = grind (arith, nat_tests) in
    let sign : slice_index units 0 ≡ 117 = c.if-units-eq117.true in
    rw (long, sign) (rw cut at c.long_escape.ensures)
