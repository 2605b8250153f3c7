use Rattle.lease.proofs.WholeSessions.{begun_stands}
use Rattle.test_program.proofs.exclusive.go_for_an_upgrade.Goals as goal

pub acquire-requires : goal.acquire-requires
acquire-requires c = begun_stands _ _ _ c.in_ok-begin.ensures.ok
