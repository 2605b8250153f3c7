-- The promise of the whole is part of what is promised of each run.
use Rattle.std.specs.Prelude.{Option, Some, None}
use Rattle.std.proofs.Common.{inl, inr}
use Rattle.client.specs.Outside.{OutsideNow}
use Rattle.jop_cli.specs.Commands.{used}
use Rattle.jop_cli.specs.Commands.Sessions.{NamedSession}
use Rattle.jop_cli.specs.Headline.{IsSafe, IsSafeSession, RunsHaveHeadline}
use Rattle.jop_cli.specs.Run.{RunsSession, Sessions}
use Rattle.jop_status.specs.declared.status.Status.{Status}
use Rattle.local_store.specs.Tale.{plain}

safe_session : (session : NamedSession) (status : Status) (after : OutsideNow)
    → RunsSession session after.keeper after.line.trail status → IsSafeSession session status after
safe_session session status after runs = record {
  client = runs.client;
  of = runs.of;
  before = runs.before;
  changes = runs.changes;
  events = runs.events;
  trail = runs.trail_is;
  exclusive = λ tale honest timely ends others.
      runs.keeps.exclusive (plain tale) honest timely ends others;
  busy = λ tale lock now is honest ends. runs.keeps.busy lock now is (plain tale) honest ends;
}

safe : (session : Option NamedSession) (status : Status) (after : OutsideNow)
    → Sessions session after.keeper after.line.trail status → IsSafe session status after
safe None status after h = h
safe (Some session) status after (inl uncalled) = inl uncalled
safe (Some session) status after (inr runs) = inr (safe_session session status after runs)

pub headline : RunsHaveHeadline
headline verb before after status h = record {
  safe = safe (used verb).session status after h.sessions;
  kept = λ k told tale client id served ends others.
      (h.notes k told).kept client id tale served ends others;
}
