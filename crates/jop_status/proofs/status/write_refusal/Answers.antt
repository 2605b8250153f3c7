use Rattle.jop_status.proofs.status.write_refusal.Goals as goal

pub returns-in-FailSafe : goal.returns-in-FailSafe
returns-in-FailSafe g c = rw (c.in-FailSafe.is) c.write_within.ensures
