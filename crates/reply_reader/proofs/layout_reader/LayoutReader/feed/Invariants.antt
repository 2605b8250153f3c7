use Rattle.std.proofs.Common.{◌≡◌, List, ℕ, ◌++◌, length}
use Rattle.reply_reader.specs.Layouts.{HasReadLayout}
use Rattle.reply_reader.proofs.layout_reader.LayoutReader.feed.Given as goal

-- so much of the piece was taken
abbrev pub invariant-loop-line : goal.invariant-loop-line
invariant-loop-line l =
    (taken : List ℕ) × (l.piece ≡ taken ++ l.rest)
    × ((done : List ℕ) → HasReadLayout l.fn.self done → HasReadLayout l.self (done ++ taken))
    × (l.self.dir ≡ l.fn.self.dir)

abbrev pub decreases-loop-line : goal.decreases-loop-line
decreases-loop-line l = length l.rest
