use Rattle.std.proofs.Common.{rules}
use Rattle.keeper_records.proofs.Sound.{found_row}
use Rattle.keeper_records.proofs.mem_records.MemRecordsRecordStore.row.Goals as goal

pub returns-clause-sound : goal.returns-clause-sound
returns-clause-sound c =
    found_row c.self.inside.tables c.args.id.now c.in_ok-row-in-Some.row c.self.invariant.tables
    (search rules)
