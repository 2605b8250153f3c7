use Rattle.std.proofs.Common.{◌∷◌, List, ℕ, Option, Bor, rules, ap, ◌∙◌}
use Rattle.item_text.specs.Steps.{lines_of}
use Rattle.item_text.proofs.Whole.{lines_step, lines_last}
use Rattle.item_text.proofs.canonical.put_lines.Goals as goal

pub returns-in_default : goal.returns-in_default
returns-in_default c =
    let line = c.first_line.result.0.now in
    let cut = c.first_line.ensures.cut
    ∙ ap (λ (b : Option (Bor (List ℕ))). line ∷ lines_of b) c.in_default.is in
    lines_last c.lines.out _ _ line _ c.in_ok-put_line.ensures cut c.lines.invariant.1

pub lines-preserved : goal.lines-preserved
lines-preserved c =
    let line = c.first_line.result.0.now in
    let cut = c.first_line.ensures.cut
    ∙ ap (λ (b : Option (Bor (List ℕ))). line ∷ lines_of b) c.in-Some.is in
    let step = lines_step c.lines.out _ _ _ line c.in-Some.more.now _ c.in_ok-put_line.ensures
    c.in_ok-append.ensures.ok cut
    c.lines.invariant.1 in
    (search rules, step)
