use Rattle.jop_status.proofs.status.write_line.Goals as goal

pub returns-in-TargetFault : goal.returns-in-TargetFault
returns-in-TargetFault g c = rw (c.in-TargetFault.is) c.write_word-in-TargetFault.ensures

pub returns-in-KeeperFault : goal.returns-in-KeeperFault
returns-in-KeeperFault g c = rw (c.in-KeeperFault.is) c.write_word-in-KeeperFault.ensures

pub returns-in-SourceFault : goal.returns-in-SourceFault
returns-in-SourceFault g c = rw (c.in-SourceFault.is) c.write_word-in-SourceFault.ensures

pub returns-in-EntropyFault : goal.returns-in-EntropyFault
returns-in-EntropyFault g c = rw (c.in-EntropyFault.is) c.write_word-in-EntropyFault.ensures
