use Rattle.std.proofs.Common.{refl}
use Rattle.lease.specs.Discipline.{session_from}
use Rattle.test_program.proofs.Stories.{honest_in_time, honest_too_late, keep_in_time, keep_too_late, timely_in_time, timely_too_late, versions_in_time, versions_too_late}
use Rattle.test_program.proofs.histories.renews_before_the_end_alone.Goals as goal

pub returns-clause-kept : goal.returns-clause-kept
returns-clause-kept c = unfold session_from in refl

pub returns-clause-lost : goal.returns-clause-lost
returns-clause-lost c = unfold session_from in refl

pub returns-clause-honest : goal.returns-clause-honest
returns-clause-honest c = (honest_in_time, honest_too_late)

pub returns-clause-keep : goal.returns-clause-keep
returns-clause-keep c = (keep_in_time, keep_too_late)

pub returns-clause-timely : goal.returns-clause-timely
returns-clause-timely c = (timely_in_time, timely_too_late)

pub returns-clause-versions : goal.returns-clause-versions
returns-clause-versions c = (versions_in_time, versions_too_late)

pub returns-clause-exclusive : goal.returns-clause-exclusive
returns-clause-exclusive c = (
  c.exclusive.ensures.exclusive _ honest_in_time timely_in_time keep_in_time versions_in_time,
  c.exclusive.ensures.exclusive _ honest_too_late timely_too_late keep_too_late versions_too_late,
)
