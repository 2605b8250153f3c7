use Rattle.std.proofs.Common.{◌≡◌, take, false}
use Rattle.reply_reader.specs.Layouts.{has_feed}
use Rattle.reply_reader.proofs.line.split_line.Given as goal

abbrev pub invariant-loop-place : goal.invariant-loop-place
invariant-loop-place l = has_feed (take l.place l.text) ≡ false
