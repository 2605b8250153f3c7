-- What a sync promises by what it added.
use Rattle.std.specs.Prelude.{ℕ, ◌≡◌, List, ◌++◌, length, false, Some, Result, Ok, Err}
use Rattle.std.proofs.Common.{sym, ◌∙◌, ap, subst}
use Rattle.std.proofs.lemmas.List.{append_cancel_left}
use Rattle.std.proofs.lemmas.Option.{same_Some}
use Rattle.sync_run.specs.Leases.{KeepsLeaseFrom}
use Rattle.conflicts.specs.declared.refusal.Refusal.{Refusal}
use Rattle.conflicts.specs.declared.report.SyncReport.{SyncReport}
use Rattle.download.specs.Emptied.{HeedsEmptied}
use Rattle.jop_base.specs.declared.lock_name.LockKind.TheVariants.{Sync}
use Rattle.jop_target.specs.declared.event.Event.{Event}
use Rattle.lease.specs.Blocked.{NamesALiveLock}
use Rattle.lease.specs.Outcomes.{IsBlocked}
use Rattle.lease.specs.declared.lock.Lock.{Lock}
use Rattle.law_licences.specs.Deeds.{changes_in, deeds_of, events_of}
use Rattle.law_licences.specs.Licences.{MergesInfo, ObeysData}
use Rattle.law_licences.specs.Sealing.{no_keys}
use Rattle.law_licences.specs.Views.{at_rest}
use Rattle.local_store.specs.declared.change.Change.{Change}
use Rattle.client.specs.Sites.{SiteNow}
use Rattle.session.specs.Steps.{IsStep}
use Rattle.sync_run.proofs.Leases.{Laws, NamesBlocked, names_added}
use Rattle.sync_run.proofs.Whole.{before_end}
use Rattle.target_upgrade.specs.Course.{ObeysLease}
use Rattle.sync_session.specs.Ordering.{GivesDue}
use Rattle.sync_session.specs.Syncing.{AddsFrom, HeedsFrom, IsWholeSync, LicensedFrom, blocked_by}
use Rattle.sync_session.specs.Telling.{Tells}
use Rattle.sync_session.specs.Working.{is_sync}
use Rattle.sync_session.specs.declared.sync_err.SyncErr.{SyncErr}
use Rattle.sync_session.specs.declared.sync_err.SyncErr.TheVariants.{Busy, LeaseLost, Refused, TargetFault, KeeperFault, NoMemory}

-- ---- its discipline

obeys_whole : (client : List ℕ) (old new : SiteNow)
    (result : Result SyncReport SyncErr) (added : List Event)
    → IsWholeSync client old result new → new.line.trail ≡ old.line.trail ++ added
    → ObeysLease client added
obeys_whole client old new result added h is =
    subst (ObeysLease client)
    (append_cancel_left old.line.trail _ added (sym h.whole.trail ∙ is))
    (record { locks = h.whole.obeys; work = h.versions })

pub obeys_from : (client : List ℕ) (old new : SiteNow)
    (result : Result SyncReport SyncErr) (added : List Event)
    → AddsFrom client old result new → new.line.trail ≡ old.line.trail ++ added
    → ObeysLease client added
obeys_from client old new (Err NoMemory) added h is =
    subst (ObeysLease client)
    (append_cancel_left old.line.trail _ added (sym h.begun.trail ∙ is))
    (record { locks = h.begun.obeys; work = h.versions })
obeys_from client old new (Ok report) added h is = obeys_whole client old new _ added h is
obeys_from client old new (Err (Busy lock now)) added h is =
    obeys_whole client old new _ added h is
obeys_from client old new (Err (LeaseLost seen)) added h is =
    obeys_whole client old new _ added h is
obeys_from client old new (Err (Refused why)) added h is = obeys_whole client old new _ added h is
obeys_from client old new (Err TargetFault) added h is = obeys_whole client old new _ added h is
obeys_from client old new (Err KeeperFault) added h is = obeys_whole client old new _ added h is

-- ---- the lock for which it gave up

names_busy : (client : List ℕ) (old new : SiteNow) (added : List Event) (lock : Lock)
    (now : ℕ) → NamesBlocked → AddsFrom client old (Err (Busy lock now)) new
    → new.line.trail ≡ old.line.trail ++ added → NamesALiveLock Sync client added lock now
names_busy client old new added lock now law h is =
    let at = before_end old.line.trail h.whole.middle h.last.line.trail new.line.trail
    (ap (λ (s : SiteNow). s.line.trail) h.ended) h.whole.trail in
    names_added (IsStep is_sync client) Sync client old.line.trail new.line.trail added lock now
    h.whole law
    (subst (λ (es : List Event). IsBlocked Sync client es lock now) at h.answers.0) is

blocked_is : (result : Result SyncReport SyncErr) (lock : Lock) (now : ℕ)
    → blocked_by result ≡ Some (lock, now) → result ≡ Err (Busy lock now)
blocked_is (Err (Busy at moment)) lock now is =
    ap (λ (b : Lock × ℕ). Err (Busy b.0 b.1)) (same_Some (at, moment) (lock, now) is)
blocked_is result lock now is = cc

-- ---- all that it promises of its lease

pub keeps_from : (client : List ℕ) (old new : SiteNow) (result : Result SyncReport SyncErr)
    → Laws → AddsFrom client old result new
    → KeepsLeaseFrom Sync client (blocked_by result) false old.line.trail new.line.trail
keeps_from client old new result laws h added is =
    let obeys = obeys_from client old new result added h is in
    record {
      obeys = obeys;
      apart = laws.apart client added obeys.locks.keeps;
      exclusive = laws.exclusive client added obeys.locks.keeps obeys.work;
      busy = λ lock now busy.
          names_busy client old new added lock now laws.named
          (subst (λ (r : Result SyncReport SyncErr). AddsFrom client old r new)
          (blocked_is result lock now busy) h)
          is;
      redone = λ done. tt;
    }

-- ---- its licences

-- its deeds are those that its trail and its changes tell
told_from : (Given : Refusal → Type 0) (old new : SiteNow) (added : List Event)
    (changes : List Change) → (h : Tells Given (at_rest no_keys old.tables) old new)
    → new.line.trail ≡ old.line.trail ++ added → new.made ≡ old.made ++ changes
    → h.deeds ≡ deeds_of added changes
told_from Given old new added changes h trail made =
    let n = length old.made in
    let events : events_of n h.deeds ≡ added =
    append_cancel_left old.line.trail (events_of n h.deeds) added (sym h.trail ∙ trail) in
    let same : changes_in h.deeds ≡ changes =
    append_cancel_left old.made (changes_in h.deeds) changes (sym h.made ∙ made) in
    sym h.told
    ∙ (ap (λ (es : List Event). deeds_of es (changes_in h.deeds)) events
    ∙ ap (λ (cs : List Change). deeds_of added cs) same)

licensed_told : (Given : Refusal → Type 0) (old new : SiteNow)
    → Tells Given (at_rest no_keys old.tables) old new
    → LicensedFrom old.tables old.line.trail new.line.trail old.made new.made
licensed_told Given old new h added changes trail made =
    let v = at_rest no_keys old.tables in
    let told = told_from Given old new added changes h trail made in
    (subst (ObeysData v) told h.obeys, subst (MergesInfo v) told h.merges)

tells_from : (client : List ℕ) (old new : SiteNow)
    (result : Result SyncReport SyncErr) → AddsFrom client old result new
    → Tells (GivesDue result) (at_rest no_keys old.tables) old new
tells_from client old new (Err NoMemory) h = h.tells
tells_from client old new (Ok report) h = h.tells
tells_from client old new (Err (Busy lock now)) h = h.tells
tells_from client old new (Err (LeaseLost seen)) h = h.tells
tells_from client old new (Err (Refused why)) h = h.tells
tells_from client old new (Err TargetFault) h = h.tells
tells_from client old new (Err KeeperFault) h = h.tells

pub licensed_from : (client : List ℕ) (old new : SiteNow) (result : Result SyncReport SyncErr)
    → AddsFrom client old result new
    → LicensedFrom old.tables old.line.trail new.line.trail old.made new.made
licensed_from client old new result h =
    licensed_told (GivesDue result) old new (tells_from client old new result h)

pub heeds_from : (client : List ℕ) (old new : SiteNow) (result : Result SyncReport SyncErr)
    → AddsFrom client old result new
    → HeedsFrom old.tables result old.line.trail new.line.trail old.made new.made
heeds_from client old new result h added changes trail made =
    let tells = tells_from client old new result h in
    subst (HeedsEmptied (GivesDue result) (at_rest no_keys old.tables))
    (told_from (GivesDue result) old new added changes tells trail made) tells.heeds
