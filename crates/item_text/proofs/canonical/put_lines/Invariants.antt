use Rattle.std.proofs.Common.{◌≡◌, ◌++◌, length}
use denote.Text.{Utf8}
use denote.Shadow.{shadow}
use Rattle.item_text.specs.Lines.{lines}
use Rattle.item_text.specs.Steps.{block_text}
use Rattle.item_text.proofs.canonical.put_lines.Given as goal

abbrev pub invariant-lines : goal.invariant-lines
invariant-lines l =
    shadow (Utf8 l.rest)
    × (l.out ++ block_text (lines l.rest) ≡ l.fn.out ++ block_text (lines l.fn.block))

abbrev pub decreases-lines : goal.decreases-lines
decreases-lines l = length l.rest
