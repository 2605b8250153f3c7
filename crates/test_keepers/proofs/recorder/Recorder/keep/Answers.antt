use Rattle.test_keepers.proofs.Recorded.{said_within}
use Rattle.test_keepers.proofs.recorder.Recorder.keep.Goals as goal

pub returns-in_ok-push-in-Some-clause-ok : goal.returns-in_ok-push-in-Some-clause-ok
returns-in_ok-push-in-Some-clause-ok c = said_within c.args.self.now.made c.args.self.now.waiting
    c.in-Some.waiting c.push.new.self c.args.line c.in-Some.is c.in_ok-push-in-Some.ensures.ok
