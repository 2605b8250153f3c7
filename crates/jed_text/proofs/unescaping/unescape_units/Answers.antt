use Rattle.std.proofs.Common.{◌≡◌, ◌+◌, ◌-◌, List, ℕ, length, take, drop, sym, ◌∙◌, arith}
use Rattle.std.proofs.lemmas.List.{take_rest}
use Rattle.jed_text.specs.Escape.{unescaped_behind}
use Rattle.jed_text.proofs.UnescapeSteps.{unescaped_end, unescaped_further, unescaped-plain}
use Rattle.jed_text.proofs.unescaping.unescape_units.Goals as goal

pub returns-then-not-contains : goal.returns-then-not-contains
returns-then-not-contains c =
    c.in_ok-plain.ensures.items ∙ unescaped-plain c.args.units.now (sym c.contains.ensures.value ∙ c.if-not-contains.true)

pub loop-n-preserved : goal.loop-n-preserved
loop-n-preserved c =
    let units : List ℕ = c.args.units.now in
    let n : ℕ = c.loop-n.n in
    let cut : take (length units - (n + 1)) (drop (n + 1) units) ≡ drop (n + 1) units = take_rest units (n + 1) in
    unescaped_further units c.loop-n.out.items c.unescape_one.new.out.items (unescaped_behind 0 units) n c.loop-n.skipped c.in_ok-more.more (omega arith) c.loop-n.invariant
    (rw cut at c.in_ok-more.ensures)

pub returns : goal.returns
returns c = unescaped_end c.args.units.now c.loop-n.out.items (unescaped_behind 0 c.args.units.now) c.loop-n.n c.loop-n.skipped (omega arith) c.loop-n.invariant
