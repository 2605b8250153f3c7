use Rattle.std.proofs.Common.{◌≡◌, List, ◌++◌, length, None}
use Rattle.jop_target.specs.declared.reply.Entry.{Entry}
use Rattle.dav_parts.specs.Multistatus.{ReadsLines}
use Rattle.dav_parts.proofs.multistatus_reader.lines_at.Given as goal

-- what the rest reads as completes the whole, and each whole is so completed
abbrev pub invariant-loop-rest : goal.invariant-loop-rest
invariant-loop-rest l = record {
  sound : (more : List Entry) → ReadsLines l.dir l.before more l.rest
      → ReadsLines l.dir None (l.entries ++ more) l.text;
  only : (all : List Entry) → ReadsLines l.dir None all l.text → (more : List Entry)
      × (all ≡ l.entries ++ more) × ReadsLines l.dir l.before more l.rest;
}

abbrev pub decreases-loop-rest : goal.decreases-loop-rest
decreases-loop-rest l = length l.rest
