use Rattle.std.proofs.Common.{ℕ, List, Some, sym, ap, ◌∙◌, Option, Bor, subst}
use Rattle.item_text.specs.Lines.{lines}
use Rattle.item_text.specs.Steps.{lines_of}
use Rattle.item_text.proofs.Walked.{Walked, walked_fault, cut_here}
use Rattle.item_text.proofs.block.cut_block.Goals as goal

pub returns-then-not-has_text : goal.returns-then-not-has_text
returns-then-not-has_text c =
    let P : Option (Bor (List ℕ))
    → Type 0 = λ rest. Walked (lines c.args.text.now) (lines_of rest) in
    cut_here c.args.text.now c.in-Some.part.now c.last_line.result.1.now c.last_line.result.0
    c.below.result
    (subst P c.in-Some.is c.loop-rest.invariant.0) c.last_line.ensures.cut
    (sym c.if-not-has_text.ensures) c.below.ensures

pub returns-then-not-has : goal.returns-then-not-has
returns-then-not-has c =
    let P : Option (Bor (List ℕ))
    → Type 0 = λ rest. Walked (lines c.args.text.now) (lines_of rest) in
    let lacks = rw c.as_bytes.ensures.value at (sym c.if-not-has.ensures) in
    walked_fault _ _ _ c.last_line.result.1.now
    (subst P c.in-Some.is c.loop-rest.invariant.0) c.last_line.ensures.cut
    (sym c.if-not-has_text.ensures) lacks
    ∙ ap Some (sym c.no_colon.ensures)
