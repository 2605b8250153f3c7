use Rattle.std.proofs.Common.{◌≡◌, drop}
use Rattle.keeper_records.specs.Writes.{after_writes, all_fit}
use Rattle.keeper_records.proofs.writing.make_all.Given as goal

abbrev pub invariant-loop-write : goal.invariant-loop-write
invariant-loop-write l = record {
  made : after_writes l.tables (drop l.write-index l.writes) ≡ after_writes l.initial.tables l.writes;
  fit : all_fit l.tables (drop l.write-index l.writes) ≡ all_fit l.initial.tables l.writes;
}
