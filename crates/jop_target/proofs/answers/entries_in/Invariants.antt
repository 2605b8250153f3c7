use Rattle.std.proofs.Common.{◌≡◌, drop, ◌++◌}
use Rattle.jop_target.specs.Store.{entries_in}
use Rattle.jop_target.proofs.answers.entries_in.Given as goal

abbrev pub invariant-loop-file : goal.invariant-loop-file
invariant-loop-file l =
    l.entries ++ entries_in (drop l.file-index l.files) l.dir ≡ entries_in l.files l.dir
