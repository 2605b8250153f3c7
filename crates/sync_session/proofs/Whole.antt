-- A sync from its begin to its end.
use Rattle.std.specs.Prelude.{ℕ, ◌≡◌, ◌+◌, List, [], ◌∷◌, ◌++◌, length, true, false, Some, None, option_map, Result, Ok, Err, refl}
use Rattle.std.proofs.Common.{sym, ◌∙◌, ap, subst, inl, inr, append-nil, append_assoc}
use Rattle.std.proofs.lemmas.List.{append_cancel_left}
use Rattle.conflicts.specs.declared.report.SyncReport.{SyncReport}
use Rattle.client.specs.Sites.{SiteNow, IsTidy, written_down}
use Rattle.conflicts.specs.declared.refusal.Refusal.{Refusal}
use Rattle.download.proofs.Still.{last_on, shown_last}
use Rattle.download.specs.Emptied.{MayFollow, emptied_in, last_shown}
use Rattle.jop_target.specs.Trail.{LineNow}
use Rattle.jop_target.specs.declared.event.Event.{Event}
use Rattle.jop_target.specs.declared.event.Event.TheVariants.{Began, Sent, Called, Made, Ended}
use Rattle.lease.proofs.WholeSessions.{adds_begun, adds_none, adds_whole, at_seam, begun_stands, continues_marked, continues_unmarked, is_mark}
use Rattle.lease.specs.Discipline.{ends_released, phase_of}
use Rattle.lease.specs.WholeSession.{IsInner}
use Rattle.lease.specs.Work.{NoneFailed}
use Rattle.law_licences.proofs.Joins.{Each-append}
use Rattle.law_licences.proofs.Told.{calls_from-append, changes_in-append, events_of-append}
use Rattle.law_licences.specs.Trails.{calls_from, session_calls}
use Rattle.law_licences.specs.Deeds.{Deed, Begins, Asks, Makes, MakesUntold, Ends, Stops, changes_in, deeds_of, events_of}
use Rattle.law_licences.specs.Licences.{AreWork, Each, MayDo, MayMerge}
use Rattle.law_licences.specs.Sealing.{no_keys}
use Rattle.law_licences.specs.Views.{View, at_rest}
use Rattle.local_store.specs.declared.change.Change.{Change}
use Rattle.session.proofs.Leased.{kept-same}
use Rattle.session.proofs.Saves.{blobs_got-append}
use Rattle.session.specs.Saving.{blobs_got, kept_after_saves}
use Rattle.session.specs.Steps.{IsStep}
use Rattle.sync_run.proofs.Starved.{none_failed_begun, none_failed_unbegun}
use Rattle.sync_run.proofs.Whole.{before_end, as_marked}
use Rattle.target_upgrade.proofs.Courses.{course_from-last}
use Rattle.target_upgrade.proofs.Whole.{keeps_begun, keeps_none, keeps_whole}
use Rattle.target_upgrade.specs.Course.{KeepsVersions, course_of, outside_course}
use Rattle.jop_target.proofs.Runs.{continues_on}
use Rattle.sync_run.specs.Sessions.{IsMarkOr}
use Rattle.sync_session.specs.Syncing.{AddsFrom, HasBegunSync, IsOpenSync, IsSyncReleased, IsWholeSync, RunsSync, SyncAnswers, begun_at, begun_view, ended_at, has_ended_sync, LineGoesBySync, SyncGoesOn}
use Rattle.sync_session.proofs.Telling.{none_emptied}
use Rattle.sync_session.specs.Ordering.{GivesDue}
use Rattle.sync_session.specs.Telling.{Tells, TellsWork}
use Rattle.sync_session.specs.Working.{is_sync}
use Rattle.sync_session.specs.declared.sync_err.SyncErr.{SyncErr}
use Rattle.sync_session.specs.declared.sync_err.SyncErr.TheVariants.{Busy, LeaseLost, Refused, TargetFault, KeeperFault, NoMemory}

-- ---- what is told of a session

-- nothing was done
pub tells_nothing : (Given : Refusal → Type 0) (v : View) (d e : SiteNow)
    → emptied_in v.shown ≡ None → e.line.trail ≡ d.line.trail → e.made ≡ d.made
    → e.keeper.kept ≡ d.keeper.kept → Tells Given v d e
unfolding events_of changes_in deeds_of Each blobs_got last_shown
tells_nothing Given v d e filled trail made kept = record {
  deeds = [];
  saves = [];
  owed = [];
  trail = trail ∙ sym (append-nil d.line.trail);
  made = made ∙ sym (append-nil d.made);
  kept = kept ∙ kept-same d.keeper.kept [] refl;
  got = refl;
  told = refl;
  obeys = tt;
  merges = tt;
  heeds = record {
    stops = tt;
    given = λ count is. none_emptied Given v.shown count filled is;
  };
}

-- the session has begun, and goes on
pub tells_begun : (Given : Refusal → Type 0) (old now : SiteNow)
    → TellsWork Given (begun_view old.tables) (begun_at old) now
    → Tells Given (at_rest no_keys old.tables) old now
unfolding events_of changes_in deeds_of Each blobs_got last_shown
tells_begun Given old now h = record {
  deeds = Begins ∷ h.tells.deeds;
  saves = h.tells.saves;
  owed = h.tells.owed;
  trail =
      h.tells.trail
      ∙ append_assoc old.line.trail (Began ∷ []) (events_of (length old.made) h.tells.deeds);
  made = h.tells.made;
  kept = h.tells.kept;
  got = h.tells.got;
  told = ap (λ (ds : List Deed). Begins ∷ ds) h.tells.told;
  obeys = (tt, h.tells.obeys);
  merges = (tt, h.tells.merges);
  heeds = record { stops = (inl refl, h.tells.heeds.stops); given = h.tells.heeds.given };
}

deeds_ended : (n : ℕ) (ds : List Deed) → AreWork ds
    → deeds_of (events_of n ds ++ Ended ∷ []) (changes_in ds) ≡ ds ++ Ends ∷ []
unfolding AreWork events_of changes_in deeds_of
deeds_ended n [] work = refl
deeds_ended n (Asks call None ∷ ds) work =
    ap (λ (es : List Deed). Asks call None ∷ es) (deeds_ended n ds work)
deeds_ended n (Asks call (Some reply) ∷ ds) work =
    ap (λ (es : List Deed). Asks call (Some reply) ∷ es) (deeds_ended n ds work)
deeds_ended n (Makes c ∷ ds) work =
    ap (λ (es : List Deed). Makes c ∷ es) (deeds_ended (n + 1) ds work.1)
deeds_ended n (Begins ∷ ds) work = absurd work
deeds_ended n (MakesUntold ∷ ds) work = absurd work
deeds_ended n (Ends ∷ ds) work = absurd work
deeds_ended n (Stops ∷ ds) work = absurd work

-- and has ended
pub tells_ended : (Given : Refusal → Type 0) (old mid : SiteNow)
    → TellsWork Given (begun_view old.tables) (begun_at old) mid
    → Tells Given (at_rest no_keys old.tables) old (ended_at mid)
unfolding events_of changes_in deeds_of Each blobs_got last_shown
tells_ended Given old mid h =
    let n = length old.made in
    let ds = h.tells.deeds in
    let v = begun_view old.tables in
    let events : events_of n (ds ++ Ends ∷ []) ≡ events_of n ds ++ Ended ∷ [] =
    events_of-append n ds (Ends ∷ []) h.work in
    let changes : changes_in (ds ++ Ends ∷ []) ≡ changes_in ds =
    changes_in-append ds (Ends ∷ []) ∙ append-nil (changes_in ds) in
    record {
      deeds = Begins ∷ (ds ++ Ends ∷ []);
      saves = h.tells.saves;
      owed = h.tells.owed;
      got = blobs_got-append ds (Ends ∷ []) ∙ (append-nil (blobs_got ds) ∙ h.tells.got);
      trail =
          ap (λ (es : List Event). es ++ Ended ∷ [])
          (h.tells.trail ∙ append_assoc old.line.trail (Began ∷ []) (events_of n ds))
          ∙ (append_assoc old.line.trail (Began ∷ events_of n ds) (Ended ∷ [])
          ∙ ap (λ (es : List Event). old.line.trail ++ Began ∷ es) (sym events));
      made =
          h.tells.made ∙ ap (λ (cs : List Change). old.made ++ cs) (sym changes);
      kept =
          h.tells.kept
          ∙ ap (λ (cs : List Change).
          option_map (kept_after_saves cs h.tells.saves) old.keeper.kept) (sym changes);
      told =
          ap (λ (es : List Event). Begins ∷ deeds_of es (changes_in (ds ++ Ends ∷ []))) events
          ∙ (ap (λ (cs : List Change). Begins ∷ deeds_of (events_of n ds ++ Ended ∷ []) cs) changes
          ∙ ap (λ (es : List Deed). Begins ∷ es) (deeds_ended n ds h.work));
      obeys = (tt, Each-append MayDo v ds (Ends ∷ []) h.tells.obeys (tt, tt));
      merges = (tt, Each-append MayMerge v ds (Ends ∷ []) h.tells.merges (tt, tt));
      heeds = record {
        stops = (inl refl, Each-append MayFollow v ds (Ends ∷ []) h.tells.heeds.stops (inr tt, tt));
        given = λ count is.
            h.tells.heeds.given count
            (ap emptied_in (shown_last v ds h.work ∙ last_on v ds (Ends ∷ []) h.work) ∙ is);
      };
    }

-- ---- its events

pub inner_step : (client : List ℕ) (e : Event) → IsStep is_sync client e → IsInner e
inner_step client Began h = h
inner_step client Ended h = h
inner_step client (Sent call) h = tt
inner_step client (Called call reply) h = tt
inner_step client (Made number) h = tt

-- ---- the session has ended

settled : (client : List ℕ) (a b : SiteNow) (result : Result SyncReport SyncErr)
    → has_ended_sync result ≡ true → IsSyncReleased client a result b
    → SyncAnswers client a result b × (ends_released (phase_of client b.line.trail) ≡ true)
settled client a b (Ok report) ended h = h
settled client a b (Err (Busy lock now)) ended h = h
settled client a b (Err (LeaseLost seen)) ended h = h
settled client a b (Err (Refused why)) ended h = h
settled client a b (Err TargetFault) ended h = h
settled client a b (Err KeeperFault) ended h = h
settled client a b (Err NoMemory) ended h = absurd cc

pub whole_sync : (client : List ℕ) (old mid : SiteNow) (result : Result SyncReport SyncErr)
    → has_ended_sync result ≡ true → RunsSync client (begun_at old) result mid
    → IsWholeSync client old result (ended_at mid)
whole_sync client old mid result ended runs =
    let P = IsStep is_sync client in
    let start = begun_at old in
    let done = settled client start mid result ended runs.released in
    let new = ended_at mid in
    let adds = adds_whole P client old.line.trail new.line.trail start.line mid.line
    (inner_step client) refl runs.goes.goes done.1 refl in
    let at = before_end old.line.trail adds.middle mid.line.trail new.line.trail refl adds.trail in
    record {
      tells = tells_ended (GivesDue result) old mid runs.tells;
      whole = adds;
      versions = keeps_whole client old.line.trail adds.middle
          (λ i d lt. inner_step client _ (adds.each i d lt))
          (ap (λ (es : List Event). (course_of client es).lawful) (sym at) ∙ runs.goes.work);
      last = mid;
      ended = refl;
      answers = done.0;
    }

-- ---- it hasn't

not_ended : (result : Result SyncReport SyncErr) → has_ended_sync result ≡ false
    → result ≡ Err NoMemory
not_ended (Ok report) h = cc
not_ended (Err (Busy lock now)) h = cc
not_ended (Err (LeaseLost seen)) h = cc
not_ended (Err (Refused why)) h = cc
not_ended (Err TargetFault) h = cc
not_ended (Err KeeperFault) h = cc
not_ended (Err NoMemory) h = refl

-- no call of it has failed
unfailed : (client : List ℕ) (a b : SiteNow) (result : Result SyncReport SyncErr)
    → has_ended_sync result ≡ false → IsSyncReleased client a result b
    → NoneFailed a.line.trail b.line.trail
unfailed client a b result ended h =
    subst (λ (r : Result SyncReport SyncErr). IsSyncReleased client a r b) (not_ended result ended) h

pub open_sync : (client : List ℕ) (old mid : SiteNow) (result : Result SyncReport SyncErr)
    → has_ended_sync result ≡ false → RunsSync client (begun_at old) result mid
    → IsOpenSync client old mid
open_sync client old mid result ended runs =
    let P = IsStep is_sync client in
    let start = begun_at old in
    let goes = runs.goes.goes in
    let adds = adds_begun P client old.line.trail mid.line.trail start.line mid.line
    (inner_step client) refl goes refl in
    let more = goes.line.more in
    let at = at_seam old.line.trail more start.line.trail mid.line.trail refl goes.line.trail in
    record {
      tells =
          tells_begun (GivesDue {R = SyncReport} (Err NoMemory)) old mid
          (subst (λ (r : Result SyncReport SyncErr).
          TellsWork (GivesDue r) (begun_view old.tables) (begun_at old) mid)
          (not_ended result ended) runs.tells);
      begun = adds;
      versions = subst (KeepsVersions client)
          (append_cancel_left old.line.trail (Began ∷ more) adds.more (sym at ∙ adds.trail))
          (keeps_begun client old.line.trail more
          (λ i d lt. inner_step client _ (goes.line.each i d lt))
          (ap (λ (es : List Event). (course_of client es).lawful) (sym at) ∙ runs.goes.work));
      heard = none_failed_begun old.line.trail start.line.trail mid.line.trail adds.more refl
          (unfailed client start mid result ended runs.released) adds.trail;
    }

pub none_open : (client : List ℕ) (old new : SiteNow) → new.line.trail ≡ old.line.trail
    → new.made ≡ old.made → new.keeper.kept ≡ old.keeper.kept → IsOpenSync client old new
none_open client old new trail made kept =
    let adds = adds_none (IsStep is_sync client) client old.line.trail new.line.trail trail in
    record {
      tells =
          tells_nothing (GivesDue {R = SyncReport} (Err NoMemory)) (at_rest no_keys old.tables) old new refl
          trail made kept;
      begun = adds;
      versions = subst (KeepsVersions client)
          (append_cancel_left old.line.trail [] adds.more
          (append-nil old.line.trail ∙ (sym trail ∙ adds.trail)))
          (keeps_none client);
      heard = none_failed_unbegun old.line.trail new.line.trail adds.more trail adds.trail;
    }

-- ---- by the answer

pub adds_whole_from : (client : List ℕ) (old new : SiteNow)
    (result : Result SyncReport SyncErr) → has_ended_sync result ≡ true
    → IsWholeSync client old result new → AddsFrom client old result new
adds_whole_from client old new (Ok report) ended h = h
adds_whole_from client old new (Err (Busy lock now)) ended h = h
adds_whole_from client old new (Err (LeaseLost seen)) ended h = h
adds_whole_from client old new (Err (Refused why)) ended h = h
adds_whole_from client old new (Err TargetFault) ended h = h
adds_whole_from client old new (Err KeeperFault) ended h = h
adds_whole_from client old new (Err NoMemory) ended h = absurd cc

pub adds_open_from : (client : List ℕ) (old new : SiteNow)
    (result : Result SyncReport SyncErr) → has_ended_sync result ≡ false
    → IsOpenSync client old new → AddsFrom client old result new
adds_open_from client old new result ended h =
    subst (λ (r : Result SyncReport SyncErr). AddsFrom client old r new)
    (sym (not_ended result ended)) h

-- ---- once its begin is written down

pub has_begun_sync : (client : List ℕ) (old new : SiteNow) → new ≡ begun_at old → IsTidy old
    → HasBegunSync client new
unfolding calls_from
has_begun_sync client old new is tidy =
    let trail = ap (λ (d : SiteNow). d.line.trail) is in
    record {
      begun = record {
        stands = begun_stands client old.line.trail new.line.trail trail;
        course =
            ap (course_of client) trail
            ∙ course_from-last client outside_course old.line.trail Began;
      };
      calls = ap session_calls trail ∙ calls_from-append [] old.line.trail (Began ∷ []);
      tidy = subst IsTidy (sym is) (record { sound = tidy.sound; told = tidy.told });
    }

pub open_after : (client : List ℕ) (old begun mid : SiteNow)
    (result : Result SyncReport SyncErr) → has_ended_sync result ≡ false
    → begun ≡ begun_at old → RunsSync client begun result mid → AddsFrom client old result mid
open_after client old begun mid result ended is runs =
    adds_open_from client old mid result ended
    (open_sync client old mid result ended
    (subst (λ (d : SiteNow). RunsSync client d result mid) is runs))

pub whole_after : (client : List ℕ) (old begun mid new : SiteNow)
    (result : Result SyncReport SyncErr) → has_ended_sync result ≡ true
    → begun ≡ begun_at old → RunsSync client begun result mid → new ≡ ended_at mid
    → AddsFrom client old result new
whole_after client old begun mid new result ended is runs same =
    subst (AddsFrom client old result) (sym same)
    (adds_whole_from client old (ended_at mid) result ended
    (whole_sync client old mid result ended
    (subst (λ (d : SiteNow). RunsSync client d result mid) is runs)))

-- ---- its line

-- an event that marks a session is written down
line_marked : (client : List ℕ) (old new : SiteNow) (e : Event) → is_mark e ≡ true
    → IsMarkOr (IsStep is_sync client) e → new ≡ written_down e old
    → LineGoesBySync client old.line new.line
line_marked client old new e mark own is =
    subst (λ (d : SiteNow). LineGoesBySync client old.line d.line) (sym is)
    (continues_marked (IsMarkOr (IsStep is_sync client)) old.line.trail
    (written_down e old).line.trail old.line.target e mark own refl)

pub line_same : (client : List ℕ) (old new : SiteNow) → new ≡ old
    → LineGoesBySync client old.line new.line
line_same client old new is =
    subst (λ (d : SiteNow). LineGoesBySync client old.line d.line) (sym is)
    (continues_unmarked (IsMarkOr (IsStep is_sync client)) old.line.trail old.line.trail
    old.line.target refl)

pub line_open : (client : List ℕ) (old begun : SiteNow) (mid : LineNow) → begun ≡ begun_at old
    → SyncGoesOn client begun.line mid → LineGoesBySync client old.line mid
line_open client old begun mid is goes =
    continues_on (IsMarkOr (IsStep is_sync client)) old.line begun.line mid
    (line_marked client old begun Began refl tt is)
    (as_marked (IsStep is_sync client) begun.line mid goes.goes.line)

pub line_whole : (client : List ℕ) (old begun mid new : SiteNow) → begun ≡ begun_at old
    → SyncGoesOn client begun.line mid.line → new ≡ ended_at mid
    → LineGoesBySync client old.line new.line
line_whole client old begun mid new is goes ended =
    continues_on (IsMarkOr (IsStep is_sync client)) old.line mid.line new.line
    (line_open client old begun mid.line is goes) (line_marked client mid new Ended refl tt ended)
