use Rattle.std.proofs.Common.{ap, subst}
use Rattle.jop_outside.specs.Outside.{SinkNow}
use Rattle.jop_start.proofs.Started.{begins_as}
use Rattle.jop_start.specs.Starting.{StreamsNow}
use Rattle.jop_status.specs.Reports.{Reports}
use Rattle.jop_start.proofs.starting.run_on.Goals as goal

pub returns : goal.returns
returns g c =
    let is = c.streams.view_is in
    record {
      runs = record {
        status = c.run-status.result;
        trail = _;
        made = _;
        does = begins_as _ _ _ (record {
          keeper = g.K.Keeper.state c.args.keeper.now;
          target = g.T.Target.state c.args.target.now;
        }) _ _ _ _ is c.new-diary.ensures c.new-made.ensures c.run-status.ensures.does;
        reports = subst (λ (err : SinkNow). Reports err c.run-status.result
            (g.E.Sink.state c.run-status.new.err)) (ap (λ (s : StreamsNow). s.err) is)
            c.run-status.ensures.err;
        exit_is = c.exit.ensures;
      };
    }
