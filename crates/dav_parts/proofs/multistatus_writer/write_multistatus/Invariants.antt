use Rattle.std.proofs.Common.{ℕ, List, ◌++◌, drop}
use Rattle.dav_parts.specs.Multistatus.{AreLines, IsMultistatus}
use Rattle.dav_parts.proofs.multistatus_writer.write_multistatus.Given as goal

-- whatever lines stand for the rest complete the body
abbrev pub invariant-loop-entry : goal.invariant-loop-entry
invariant-loop-entry l = (rest : List ℕ) → AreLines l.dir (drop l.entry-index l.entries) rest
    → IsMultistatus l.dir l.entries (l.text ++ rest)
