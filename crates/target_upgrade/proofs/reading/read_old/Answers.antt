use Rattle.std.proofs.Common.{ap, arith}
use Rattle.target_upgrade.specs.Steps.{ReadsOld, after_old}
use Rattle.target_upgrade.proofs.Standing.{come_at, old_there}
use Rattle.target_upgrade.proofs.reading.read_old.Goals as goal

pub returns-in-Absent-clause-ok : goal.returns-in-Absent-clause-ok
returns-in-Absent-clause-ok g c = come_at _ _ _ _ ReadsOld _ _ _ c.requires c.in_ok-ask.ensures.ok
    c.last.ensures (ap after_old c.in-Absent.is)

pub returns-in_default : goal.returns-in_default
returns-in_default g c = record {
  ok = old_there _ _ _ _ _ c.requires c.in_ok-ask.ensures.ok c.last.ensures c.in_default.not-Absent;
  small = omega arith;
  err = tt;
  goes = c.ask.ensures.goes;
  keeps = c.ask.ensures.keeps;
}
