-- What a sync comes to.
use Rattle.std.proofs.Common.{◌≡◌, ◌≤◌, refl, sym, ap, subst, arith, inl, inr, ℕ, List, [], ◌∷◌, ◌++◌, true, false, Some, None, Result, Ok, Err}
use Rattle.client.specs.Outside.{AreKeptTables, OutsideNow}
use Rattle.client.specs.Owning.{NamesClient, Owns}
use Rattle.client.specs.Sites.{SiteNow}
use Rattle.client.specs.declared.own_err.OwnErr.{OwnErr}
use Rattle.conflicts.specs.declared.report.SyncReport.{SyncReport}
use Rattle.jop_base.specs.declared.lock_name.LockKind.{LockKind}
use Rattle.jop_base.specs.declared.lock_name.LockKind.TheVariants as kinds
use Rattle.jop_cli.proofs.OwnLicences.{licensed_behind}
use Rattle.jop_cli.proofs.Owned.{comes_unowned, owned}
use Rattle.jop_cli.proofs.Runs.{Comes, IsToldAs, unfailed_session, uses_behind}
use Rattle.jop_cli.proofs.Sessions.{any_done, failed_session}
use Rattle.jop_cli.proofs.SyncCauses.{late_trail, refused}
use Rattle.jop_cli.proofs.SyncSides.{added, keeps_acts, licensed_kept, names_after}
use Rattle.jop_cli.specs.Causes.{HasEnded, HasLeftHaving, IsExplained, WasRefused}
use Rattle.jop_cli.specs.Commands.Sessions.{IsUncalled, lock_named, went_well}
use Rattle.jop_cli.specs.Commands.Sync.{sync_outcome, sync_status}
use Rattle.jop_cli.specs.Run.{IsFreshOutside, UsesTarget}
use Rattle.jop_cli.specs.Worlds.{RanSync, site_in}
use Rattle.jop_outside.specs.Outside.{HasRisen}
use Rattle.jop_status.specs.Refusals.{own_status}
use Rattle.jop_status.specs.Statuses.{is_early}
use Rattle.jop_status.specs.declared.status.Status.{Status}
use Rattle.jop_target.specs.Replies.{TargetNow}
use Rattle.jop_target.specs.Trail.{LineNow}
use Rattle.jop_target.specs.declared.event.Event.{Event}
use Rattle.jop_target.specs.declared.event.Event.TheVariants.{Began, Ended}
use Rattle.jop_words.specs.declared.target_name.TargetName.{TargetName}
use Rattle.jop_words.specs.declared.verb.Verb.TheVariants.{Sync}
use Rattle.law_licences.specs.Views.{Heard}
use Rattle.keeper.specs.Keepers.{KeeperNow}
use Rattle.lease.specs.Calls.{EndsFailed}
use Rattle.lease.specs.Outcomes.{HasMissed, IsBlocked}
use Rattle.lease.specs.Phase.{Phase}
use Rattle.local_store.specs.declared.change.Change.{Change}
use Rattle.local_store.specs.declared.tables.Tables.{Tables}
use Rattle.session.specs.Steps.{IsStep}
use Rattle.sync_run.specs.Leases.{KeepsLease}
use Rattle.sync_run.specs.Sessions.{IsMarkOr}
use Rattle.sync_session.specs.Syncing.{AddsFrom, IsWholeSync, blocked_by}
use Rattle.sync_session.specs.Working.{is_sync}
use Rattle.sync_session.specs.declared.sync_err.SyncErr.{SyncErr}
use Rattle.sync_session.specs.declared.sync_err.SyncErr.TheVariants.{Busy, LeaseLost, Refused, TargetFault, KeeperFault, NoMemory}

-- ---- statuses

pub early_sync : (error : SyncErr) → is_early (sync_status error) ≡ true
early_sync (Busy lock now) = refl
early_sync (LeaseLost seen) = refl
early_sync (Refused why) = refl
early_sync TargetFault = refl
early_sync KeeperFault = refl
early_sync NoMemory = refl

refused_lease : (client : List ℕ) (error : SyncErr) (events : List Event) →
    KeepsLease kinds.Sync client (blocked_by (Err error)) false events →
    KeepsLease kinds.Sync client (lock_named (sync_status error)) (went_well (sync_status error)) events
refused_lease client (Busy lock now) events h = h
refused_lease client (LeaseLost seen) events h = h
refused_lease client (Refused why) events h = h
refused_lease client TargetFault events h = h
refused_lease client KeeperFault events h = h
refused_lease client NoMemory events h = h

-- what is promised by the session's answer is so by the status that it is told as
told_lease : (client : List ℕ) (result : Result SyncReport SyncErr) (status : Status)
    (events : List Event) → IsToldAs (sync_outcome result) status →
    KeepsLease kinds.Sync client (blocked_by result) false events →
    KeepsLease kinds.Sync client (lock_named status) (went_well status) events
told_lease client (Ok report) status events (inl went) h =
    subst (λ (s : Status). KeepsLease kinds.Sync client (lock_named s) (went_well s) events)
    (sym went) (any_done client None false true events h)
told_lease client (Ok report) status events (inr cut) h =
    subst (λ (s : Status). KeepsLease kinds.Sync client (lock_named s) (went_well s) events)
    (sym cut) (any_done client None false true events h)
told_lease client (Err error) status events told h =
    subst (λ (s : Status). KeepsLease kinds.Sync client (lock_named s) (went_well s) events)
    (sym told) (refused_lease client error events h)

-- ---- why a session ended so

-- a count that has risen since has risen from before
risen_before : (a b c : ℕ) → a ≤ b → HasRisen b c → HasRisen a c
risen_before a b c le rose = omega arith

ended : (target : TargetName) (client : List ℕ) (named after : OutsideNow) (middle : List Event)
    (Came : LockKind → List ℕ → List Event → Type 0) → IsUncalled named.line.trail →
    NamesClient after.keeper.kept (Some client) →
    after.line.trail ≡ named.line.trail ++ Began ∷ (middle ++ Ended ∷ []) →
    Came kinds.Sync client (named.line.trail ++ Began ∷ middle) →
    HasEnded (Some (Sync target)) after.keeper after.line.trail Came
ended target client named after middle Came uncalled names whole came = record {
  session = record { kind = kinds.Sync; client = None };
  uses = refl;
  client = client;
  of = names;
  before = named.line.trail;
  changes = uncalled;
  calls = middle;
  whole = whole;
  came = came;
}

-- the keeper is the session's last one
last_keeper : (client : List ℕ) (old new : SiteNow) (result : Result SyncReport SyncErr)
    (h : IsWholeSync client old result new) → h.last.keeper ≡ new.keeper
last_keeper client old new result h = ap (λ (s : SiteNow). s.keeper) (sym h.ended)

explained_refusal : (target : TargetName) (client : List ℕ) (before named after : OutsideNow)
    (t late : Tables) (error : SyncErr) →
    AddsFrom client (site_in t named) (Err error) (site_in late after) →
    before.keeper.faults ≤ named.keeper.faults → IsUncalled named.line.trail →
    NamesClient after.keeper.kept (Some client) →
    UsesTarget before.line.target after.line.trail after.line.target →
    IsExplained (Some (Sync target)) before (sync_status error) after
explained_refusal target client before named after t late error h later uncalled names uses =
    by error h where
      old : SiteNow
      old = site_in t named

      new : SiteNow
      new = site_in late after

      -- the lease was left behind calls that had come to this
      left_behind : (e : SyncErr) (h : IsWholeSync client old (Err e) new)
          (Had : LockKind → List Heard → Type 0) →
          HasLeftHaving Had kinds.Sync client h.last.line.trail →
          HasEnded (Some (Sync target)) after.keeper after.line.trail (HasLeftHaving Had)
      left_behind e h Had left =
          ended target client named after h.whole.middle
          (HasLeftHaving Had) uncalled names h.whole.trail
          (subst (λ (es : List Event). HasLeftHaving Had kinds.Sync client es)
          (late_trail client old new (Err e) h) left)

      by : (e : SyncErr) → AddsFrom client old (Err e) new →
          IsExplained (Some (Sync target)) before (sync_status e) after
      by (Busy lock now) h =
          ended target client named after h.whole.middle
          (λ kind client events. IsBlocked kind client events lock now) uncalled names h.whole.trail
          (subst (λ (es : List Event). IsBlocked kinds.Sync client es lock now)
          (late_trail client old new (Err (Busy lock now)) h) h.answers.0)
      by (LeaseLost seen) h =
          ended target client named after h.whole.middle
          (λ kind client events. (at : Phase) × HasMissed kind client at events seen) uncalled names
          h.whole.trail
          (subst (λ (es : List Event). (at : Phase) × HasMissed kinds.Sync client at es seen)
          (late_trail client old new (Err (LeaseLost seen)) h) h.answers)
      by (Refused why) h =
          left_behind (Refused why) h (WasRefused after.keeper why)
          (subst (λ (k : KeeperNow).
          HasLeftHaving (WasRefused k why) kinds.Sync client h.last.line.trail)
          (last_keeper client old new (Err (Refused why)) h)
          (refused client _ h.last why h.answers))
      by TargetFault h =
          let failed = failed_session (IsStep is_sync client) client named.line.trail
          after.line.trail h.whole
          (subst (λ (es : List Event). EndsFailed client es)
          (late_trail client old new (Err TargetFault) h) h.answers.failed) in
          (failed, uses.fault failed)
      by KeeperFault h =
          risen_before before.keeper.faults named.keeper.faults after.keeper.faults later
          (subst (λ (k : KeeperNow). HasRisen named.keeper.faults k.faults)
          (last_keeper client old new (Err KeeperFault) h) h.answers.1)
      by NoMemory h =
          unfailed_session named.line.trail h.begun.more after.line.trail h.begun.trail uncalled
          h.heard

explained : (target : TargetName) (client : List ℕ) (before named after : OutsideNow)
    (t late : Tables) (result : Result SyncReport SyncErr) (error : Status) →
    AddsFrom client (site_in t named) result (site_in late after) →
    before.keeper.faults ≤ named.keeper.faults → IsUncalled named.line.trail →
    NamesClient after.keeper.kept (Some client) →
    UsesTarget before.line.target after.line.trail after.line.target →
    sync_outcome result ≡ Err error → IsExplained (Some (Sync target)) before error after
explained target client before named after t late (Ok report) error h later uncalled names uses is =
    absurd (cc is)
explained target client before named after t late (Err refusal) error h later uncalled names uses is =
    let same : sync_status refusal ≡ error = cc is in
    subst (λ (s : Status). IsExplained (Some (Sync target)) before s after) same
    (explained_refusal target client before named after t late refusal h later uncalled names uses)

-- ---- the whole

-- the outside once a session has gone on, which leaves the streams, the clock and the random source
abbrev gone_on : OutsideNow → LineNow → KeeperNow → List Change → OutsideNow
gone_on named line keeper made = record named { line = line; keeper = keeper; made = made }

synced : (target : TargetName) (client : List ℕ) (before named : OutsideNow) (line : LineNow)
    (keeper : KeeperNow) (made : List Change) (t : Tables) (result : Result SyncReport SyncErr) →
    IsFreshOutside before → Owns before (Ok client) named → AreKeptTables named.keeper t →
    RanSync client t named result (gone_on named line keeper made) →
    Comes (Sync target) before (sync_outcome result) (gone_on named line keeper made)
synced target client before named line keeper made t result fresh owns kept h =
    let after = gone_on named line keeper made in
    let known = owned client before named fresh owns in
    let old = site_in t named in
    let new = site_in h.late after in
    let uses = subst (λ (t : TargetNow). UsesTarget t line.trail line.target) known.target
    (uses_behind (IsMarkOr (IsStep is_sync client)) named.line line known.uncalled h.line) in
    let more = added client old new result h.session in
    let licensed = licensed_kept old new h.line.more kept.told h.licensed in
    let names = names_after client old new result h.line.more h.line.trail licensed h.session
    known.names in
    record {
      comes = inr (record {
        client = client;
        named = named;
        owns = owns;
        result = result;
        ran = (t, kept, h);
        is = refl;
      });
      quiet = known.out;
      explained = λ error is.
          explained target client before named after t h.late result error h.session known.later
          known.uncalled names uses is;
      sessions = λ status told. inr (record {
        client = client;
        of = names;
        before = named.line.trail;
        changes = known.uncalled;
        events = h.line.more;
        trail_is = h.line.trail;
        keeps = told_lease client result status h.line.more told h.keeps;
      });
      tables = keeps_acts before.keeper old new known.tables more;
      target = uses;
      alone = record {
        input = known.input;
        target = tt;
        tables = tt;
        clock = known.clock;
        random = tt;
      };
      licensed = licensed_behind client before named after h.line.more more.changes fresh owns
          h.line.trail more.made (λ k told. (licensed k more.changes told more.made).0);
    }

pub comes_synced : (target : TargetName) (client : List ℕ) (before named mid : OutsideNow)
    (t : Tables) (result : Result SyncReport SyncErr) → IsFreshOutside before →
    Owns before (Ok client) named → AreKeptTables named.keeper t →
    RanSync client t named result mid →
    Comes (Sync target) before (sync_outcome result) mid
comes_synced target client before named mid t result fresh owns kept h =
    subst (λ (m : OutsideNow). Comes (Sync target) before (sync_outcome result) m) (sym h.same)
    (synced target client before named mid.line mid.keeper mid.made t result fresh owns kept
    (subst (λ (m : OutsideNow). RanSync client t named result m) h.same h))

-- the client isn't known
pub comes_not_synced : (target : TargetName) (before mid : OutsideNow) (error : OwnErr) →
    IsFreshOutside before → Owns before (Err error) mid →
    Comes (Sync target) before (Err (own_status error)) mid
comes_not_synced target before mid error fresh owns =
    comes_unowned (Sync target) (record { kind = kinds.Sync; client = None }) before mid error fresh
    refl refl refl refl refl (inl (record { error = error; owns = owns; is = refl })) owns
