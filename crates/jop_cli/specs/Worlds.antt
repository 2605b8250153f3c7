-- What a command does with the outside: it runs a session on the target, or prints.
use Rattle.std.specs.Prelude.{ℕ, ◌≡◌, ◌++◌, List, false, Result}
use Rattle.client.specs.Outside.{OutsideNow}
use Rattle.client.specs.Sites.{SiteNow}
use Rattle.conflicts.specs.declared.report.SyncReport.{SyncReport}
use Rattle.download.specs.Emptied.{HeedsEmptied}
use Rattle.jop_base.specs.declared.lock_name.LockKind.TheVariants as kinds
use Rattle.jop_outside.specs.Clocks.{ClockNow}
use Rattle.jop_outside.specs.Outside.{SinkNow, SourceNow}
use Rattle.jop_outside.specs.Random.{EntropyNow}
use Rattle.jop_status.specs.Outcomes.{Emits, Outcome}
use Rattle.jop_status.specs.declared.status.Status.{Status}
use Rattle.jop_target.specs.Replies.{TargetNow}
use Rattle.jop_target.specs.Runs.{Continues}
use Rattle.jop_target.specs.declared.event.Event.{Event}
use Rattle.keeper.specs.Keepers.{KeeperNow}
use Rattle.law_licences.specs.Deeds.{deeds_of}
use Rattle.law_licences.specs.Licences.{MergesInfo, ObeysData}
use Rattle.law_licences.specs.Sealing.{no_keys}
use Rattle.law_licences.specs.Views.{at_rest}
use Rattle.lease.specs.Calls.{IsLeaseEvent}
use Rattle.local_store.specs.declared.change.Change.{Change}
use Rattle.local_store.specs.declared.tables.Tables.{Tables}
use Rattle.session.specs.Steps.{IsStep}
use Rattle.session_opening.specs.Headway.{headway_of}
use Rattle.session_opening.specs.Verdict.{HeedsVerdict, last_calls, verdict_of}
use Rattle.sync_run.specs.Checks.{AddsCheck}
use Rattle.sync_run.specs.Leases.{KeepsLease, blocked_in, is_done}
use Rattle.sync_run.specs.Ordering.{RunsTaskInOrder}
use Rattle.sync_run.specs.Sessions.{IsMarkOr}
use Rattle.sync_run.specs.Upgrades.{AddsUpgrade}
use Rattle.sync_run.specs.declared.session_err.SessionErr.{SessionErr}
use Rattle.sync_session.specs.Ordering.{EndsAtKeeper, GivesDue, HeedsKey}
use Rattle.sync_session.specs.Syncing.{AddsFrom, blocked_by}
use Rattle.sync_session.specs.Working.{is_sync}
use Rattle.sync_session.specs.declared.sync_err.SyncErr.{SyncErr}
use Rattle.target_upgrade.specs.Answers.{IsCall}

-- ---- what it is made of

abbrev pub outside_of : List Event → TargetNow → KeeperNow → List Change → SourceNow → SinkNow →
    ClockNow → EntropyNow → OutsideNow
outside_of trail target keeper made input out clock entropy = record {
  line = record { trail = trail; target = target };
  keeper = keeper;
  made = made;
  input = input;
  out = out;
  clock = clock;
  entropy = entropy;
}

-- ---- sessions

-- A session of the client was added that takes a sync lock and releases it. It keeps what a lease promises, and leaves
-- all but the target and the trail as it was.
pub record RanCheck (client : List ℕ) (old : OutsideNow) (result : Result (Unit {0}) SessionErr)
    (new : OutsideNow) : Type 0 where
  pub session : AddsCheck client old.line.trail new.line.trail result
  pub line : Continues (IsMarkOr (IsLeaseEvent client)) old.line new.line
  pub keeps : KeepsLease kinds.Sync client (blocked_in result) false line.more
  pub same : new ≡ record old { line = new.line }

-- So was one that upgrades the target. The refusal that is due by its calls is given, and nothing is
-- called behind them.
pub record RanUpgrade (client : List ℕ) (old : OutsideNow) (result : Result ℕ SessionErr)
    (new : OutsideNow) : Type 0 where
  pub session : AddsUpgrade client old.line.trail new.line.trail result
  pub line : Continues (IsMarkOr IsCall) old.line new.line
  pub keeps : KeepsLease kinds.Exclusive client (blocked_in result) (is_done result) line.more
  pub order : RunsTaskInOrder result line.more
  pub same : new ≡ record old { line = new.line }

-- a client's site with these tables
abbrev pub site_in : Tables → OutsideNow → SiteNow
site_in t o = record { line = o.line; keeper = o.keeper; tables = t; made = o.made }

-- So was one that brings these tables and the target together. Each call and each change has its
-- licence, from these tables on. The refusal that is due by its calls is given, and nothing is called
-- behind them; one that wants a key is refused for it, and so is one to which the target looks emptied.
-- It leaves the streams, the clock and the random source as they were.
pub record RanSync (client : List ℕ) (t : Tables) (old : OutsideNow)
    (result : Result SyncReport SyncErr) (new : OutsideNow) : Type 0 where
  pub late : Tables
  pub session : AddsFrom client (site_in t old) result (site_in late new)
  pub line : Continues (IsMarkOr (IsStep is_sync client)) old.line new.line
  pub keeps : KeepsLease kinds.Sync client (blocked_by result) false line.more
  pub licensed : (changes : List Change) → new.made ≡ old.made ++ changes →
      ObeysData (at_rest no_keys t) (deeds_of line.more changes)
      × MergesInfo (at_rest no_keys t) (deeds_of line.more changes)
  pub order : HeedsVerdict (GivesDue result) (verdict_of (last_calls line.more))
  pub key : HeedsKey (GivesDue result) (EndsAtKeeper result) t
      (headway_of t.info (last_calls line.more))
  pub emptied : (changes : List Change) → new.made ≡ old.made ++ changes →
      HeedsEmptied (GivesDue result) (at_rest no_keys t) (deeds_of line.more changes)
  pub same : new ≡ record old { line = new.line; keeper = new.keeper; made = new.made }

-- ---- prints

-- an outcome is printed, or told as a status; all but the output is as it was
pub record EmitsTo (outcome : Outcome) (old : OutsideNow) (status : Status) (new : OutsideNow)
    : Type 0 where
  pub emits : Emits outcome old.out status new.out
  pub same : new ≡ record old { out = new.out }
