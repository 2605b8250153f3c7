use Rattle.test_program.proofs.Stories.{honest_two, keep_two, first_blocked, second_blocked, timely_two, versions_two}
use Rattle.test_program.proofs.histories.two_upgraders_block_each_other.Goals as goal

pub returns-clause-honest : goal.returns-clause-honest
returns-clause-honest c = honest_two

pub returns-clause-keep : goal.returns-clause-keep
returns-clause-keep c = keep_two

pub returns-clause-first : goal.returns-clause-first
returns-clause-first c = first_blocked

pub returns-clause-second : goal.returns-clause-second
returns-clause-second c = second_blocked

pub returns-clause-timely : goal.returns-clause-timely
returns-clause-timely c = timely_two

pub returns-clause-versions : goal.returns-clause-versions
returns-clause-versions c = versions_two

pub returns-clause-exclusive : goal.returns-clause-exclusive
returns-clause-exclusive c =
    c.exclusive.ensures.exclusive _ honest_two timely_two keep_two versions_two
