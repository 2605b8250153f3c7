use Rattle.std.proofs.Common.{◌++◌, List, ℕ, Option, Bor, sym, ap, ◌∙◌, append-nil}
use Rattle.item_text.specs.Steps.{lines_of, block_text}
use Rattle.item_text.proofs.Whole.{no_lines_text}
use Rattle.item_text.proofs.canonical.put_block.Goals as goal

pub returns-in-None : goal.returns-in-None
returns-in-None c =
    let out = c.args.out.now in
    sym (ap (λ (b : Option (Bor (List ℕ))). out ++ block_text (lines_of b)) c.in-None.is
    ∙ ap (λ (x : List ℕ). out ++ x) no_lines_text ∙ append-nil out)
