use Rattle.std.proofs.Common.{take}
use Rattle.std.specs.Fmt.{HasWritten, IsPlainFormatter}
use Rattle.jop_target.specs.Texts.{entries_text}
use Rattle.jop_target.proofs.reply.ListingDisplay.fmt.Given as goal

-- the entries so far have been written
abbrev pub invariant-loop-entry : goal.invariant-loop-entry
invariant-loop-entry g l =
    IsPlainFormatter l.initial.f
    → HasWritten g.W.Write.write_str_gives l.initial.f
    (entries_text (take l.entry-index l.entry-items)) l.f
