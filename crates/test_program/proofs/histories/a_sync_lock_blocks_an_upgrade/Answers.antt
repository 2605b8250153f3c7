use Rattle.test_program.proofs.Stories.{honest_behind, keep_behind, timely_behind, upgrader_blocked, versions_behind}
use Rattle.test_program.proofs.histories.a_sync_lock_blocks_an_upgrade.Goals as goal

pub returns-clause-honest : goal.returns-clause-honest
returns-clause-honest c = honest_behind

pub returns-clause-busy : goal.returns-clause-busy
returns-clause-busy c = upgrader_blocked

pub returns-clause-keep : goal.returns-clause-keep
returns-clause-keep c = keep_behind

pub returns-clause-timely : goal.returns-clause-timely
returns-clause-timely c = timely_behind

pub returns-clause-versions : goal.returns-clause-versions
returns-clause-versions c = versions_behind

pub returns-clause-exclusive : goal.returns-clause-exclusive
returns-clause-exclusive c =
    c.exclusive.ensures.exclusive _ honest_behind timely_behind keep_behind versions_behind
