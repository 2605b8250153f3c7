use Rattle.std.proofs.Common.{rules}
use Rattle.keeper_records.proofs.Sound.{written_tables_sound}
use Rattle.keeper_records.proofs.mem_records.MemRecords.written.Goals as goal

pub returns-in-Ok-clause-sound : goal.returns-in-Ok-clause-sound
returns-in-Ok-clause-sound c =
    written_tables_sound c.self.inside.tables c.make_all.new.tables c.self.inside.blobs c.args.writes.now
    c.self.invariant (search rules) c.requires
