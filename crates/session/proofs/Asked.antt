-- What a call comes to that a part of a session makes.
use Rattle.std.specs.Prelude.{ℕ, ◌≡◌, List, [], ◌∷◌, ◌++◌, length, Bool, true, false, ◌&&◌, ◌||◌, not, if◌then◌else◌, Option, Some, None, Result, Ok, Err, refl}
use Rattle.std.proofs.Common.{sym, ap, subst, ◌∙◌, inl, inr, append-nil}
use Rattle.conflicts.specs.declared.report.SyncReport.{SyncReport}
use Rattle.client.specs.Sites.{SiteNow, IsSameSite, IsTidy}
use Rattle.jop_target.specs.Replies.{KeepsBlob, contents_in}
use Rattle.jop_target.specs.Runs.{has_failed}
use Rattle.jop_target.specs.Trail.{EndsWith, LineNow}
use Rattle.jop_target.specs.Trail as trails
use Rattle.jop_base.specs.declared.path.Path.TheVariants.{Item}
use Rattle.jop_target.specs.declared.call.Call.{Call}
use Rattle.jop_target.specs.declared.call.Call.TheVariants.{Get}
use Rattle.jop_target.specs.declared.event.Event.{Event}
use Rattle.jop_target.specs.declared.event.Event.TheVariants.{Called, Sent}
use Rattle.jop_target.specs.declared.reply.Reply.{Reply}
use Rattle.jop_target.specs.declared.reply.Reply.TheVariants.{Failed, GotBlob}
use Rattle.lease.proofs.NoFailures.{none_failed_from}
use Rattle.lease.proofs.Sessions.{goes_answered, goes_unheard, session_from-append}
use Rattle.lease.proofs.Works.{fresh_same, may_work}
use Rattle.lease.specs.Calls.{LeaseGoesOn, is_held}
use Rattle.lease.specs.Discipline.{Session, outside, session_from, session_of}
use Rattle.lease.specs.Idle.{is_work}
use Rattle.lease.specs.Phase.{role_of}
use Rattle.lease.specs.Standing.{IsFresh, IsHeld, IsSameBut}
use Rattle.lease.specs.Work.{HasCalled, HasCalledUnheard, HasWorked, Works}
use Rattle.lease.specs.declared.error.LeaseErr.{LeaseErr}
use Rattle.lease.specs.declared.error.LeaseErr.TheVariants.{Busy, Lost, TargetFault, NoMemory}
use Rattle.lease.specs.declared.lease.Lease.{Lease}
use Rattle.law_licences.proofs.Joins.{view_from-append}
use Rattle.law_licences.proofs.Told.{calls-view_from, calls_from-append}
use Rattle.law_licences.specs.Deeds.{Deed, Asks, events_of}
use Rattle.law_licences.specs.Licences.{Each}
use Rattle.law_licences.specs.Trails.{calls_from, session_calls}
use Rattle.law_licences.specs.Views.{View, is_about_locks, view_from, with_call}
use Rattle.keeper.specs.Keepers.{KeeperNow}
use Rattle.session.proofs.Saves.{blobs_got-append, blobs_got-locks}
use Rattle.session.proofs.Agreeing.{agrees_asked, blob_stays}
use Rattle.session.proofs.LockDeeds.{AreCalls, AreCalls-append, AreCalls-locks, AreLocks, AreWork-calls, but_locks-locks, none_begins, view_from-locks}
use Rattle.session.proofs.Seen.{but_locks-append}
use Rattle.session.specs.Asking.{AreBytesOf, AsksUnderLease, HasAnswer, IsAskable, IsAskedInVain, IsHeardBy, step_of_lease}
use Rattle.session.specs.Doing.{CameToEnd, Went}
use Rattle.session.specs.Parts.{but_locks}
use Rattle.session.specs.Reported.{report_after, reported}
use Rattle.session.specs.Saving.{Told, blobs_got, got_by}
use Rattle.session.specs.Steps.{IsStep, works_by}
use Rattle.session.specs.Work.{WorkPlace, view_of, work_by}
use Rattle.session.proofs.Leased.{Last, told_more, went_by, tidy-same, told_by, went_leased, stops_leased}

-- ---- the call

worked : (a b : Bool) → b ≡ true → ((a || b) && true) ≡ true
worked true b h = refl
worked false b h = ap (λ (x : Bool). x && true) h

-- the lease as it is renewed
abbrev renewed : Lease → Lease → Lease
renewed before after = record before { stamp = after.stamp }

pub answered_last : (sort : Call → Bool) (old : SiteNow) (mid new : LineNow)
    (before after : Lease) (call : Call) (blob bytes : List ℕ) (reply : Reply)
    → IsSameBut before after → IsFresh after mid.trail → IsAskable call blob old before
    → sort call ≡ true → trails.IsAnswered mid call blob new bytes reply
    → Last sort before.client old mid new (Asks call (Some reply) ∷ [])
unfolding AreCalls events_of Each works_by
answered_last sort old mid new before after call blob bytes reply but fresh can sorted h =
    let client = before.client in
    let now = renewed before after in
    let leased = may_work now mid.trail call (fresh_same before after mid.trail but fresh)
    can.working in
    record {
      calls = tt;
      trail = h.trail;
      obeys = λ shown. ((tt, can.may shown), tt);
      goes = goes_answered (IsStep sort client) client mid new call blob bytes reply leased
          can.callable (inl sorted) h;
      sorted = worked
          (not (is_work (session_of client mid.trail).phase (role_of client call)))
          (sort call) sorted;
    }

-- ---- the reply

last_of : List Event → Option Event
last_of [] = None
last_of (e ∷ []) = Some e
last_of (e ∷ f ∷ es) = last_of (f ∷ es)

last_of-push : (es : List Event) (e : Event) → last_of (es ++ e ∷ []) ≡ Some e
unfolding last_of
last_of-push [] e = refl
last_of-push (f ∷ []) e = refl
last_of-push (f ∷ g ∷ es) e = last_of-push (g ∷ es) e

-- a trail ends in one call, with one reply
pub one_reply : (trail : List Event) (call other : Call) (reply answer : Reply)
    → EndsWith trail call reply → EndsWith trail other answer → reply ≡ answer
one_reply trail call other reply answer h k =
    let one : last_of trail ≡ Some (Called call reply) =
    ap last_of h.1 ∙ last_of-push h.0 (Called call reply) in
    let two : last_of trail ≡ Some (Called other answer) =
    ap last_of k.1 ∙ last_of-push k.0 (Called other answer) in
    cc

-- calls about locks are not remembered
pub calls_locks : (client : List ℕ) (old : SiteNow) (mid : LineNow)
    → LeaseGoesOn client old.line mid
    → session_calls mid.trail ≡ session_calls old.line.trail
calls_locks client old mid h =
    let n = length old.made in
    let locks = told_more client old mid h in
    let v = view_of None old in
    let events : mid.trail ≡ old.line.trail ++ events_of n locks.deeds =
    h.line.trail ∙ ap (λ (es : List Event). old.line.trail ++ es) (sym locks.told) in
    ap session_calls events
    ∙ (calls_from-append [] old.line.trail (events_of n locks.deeds)
    ∙ (sym (calls-view_from n v locks.deeds
    (AreWork-calls locks.deeds (AreCalls-locks client locks.deeds locks.locks)))
    ∙ ap (λ (w : View). w.calls) (view_from-locks client v locks.deeds locks.locks)))

-- it is remembered
pub calls_answered : (client : List ℕ) (old : SiteNow) (mid new : LineNow) (call : Call)
    (reply : Reply)
    → LeaseGoesOn client old.line mid → new.trail ≡ mid.trail ++ Called call reply ∷ []
    → session_calls new.trail ≡ with_call call (Some reply) (session_calls old.line.trail)
unfolding calls_from
calls_answered client old mid new call reply h trail =
    ap session_calls trail
    ∙ (calls_from-append [] mid.trail (Called call reply ∷ [])
    ∙ ap (with_call call (Some reply)) (calls_locks client old mid h))

-- ---- each answer

but_locks_one : (about : Bool) (call : Call) (reply : Reply) → about ≡ false
    → (if about then [] else Asks call (Some reply) ∷ []) ≡ Asks call (Some reply) ∷ []
but_locks_one true call reply h = absurd cc
but_locks_one false call reply h = refl

only_last : (client : List ℕ) (ds : List Deed) (call : Call) (reply : Reply)
    → AreLocks client ds → is_about_locks call ≡ false
    → but_locks (ds ++ Asks call (Some reply) ∷ []) ≡ Asks call (Some reply) ∷ []
unfolding but_locks
only_last client ds call reply locks about =
    but_locks-append ds (Asks call (Some reply) ∷ [])
    ∙ (ap (λ (x : List Deed). x ++ but_locks (Asks call (Some reply) ∷ []))
    (but_locks-locks client ds locks)
    ∙ but_locks_one (is_about_locks call) call reply about)

-- only that call got bytes, if it did
got-last : (client : List ℕ) (ds : List Deed) (call : Call) (reply : Reply) → AreLocks client ds
    → blobs_got (ds ++ Asks call (Some reply) ∷ []) ≡ got_by call reply
unfolding blobs_got
got-last client ds call reply locks =
    blobs_got-append ds (Asks call (Some reply) ∷ [])
    ∙ (ap (λ (x : List Told). x ++ blobs_got (Asks call (Some reply) ∷ []))
    (blobs_got-locks client ds locks)
    ∙ append-nil (got_by call reply))

-- while the lease is held nothing has failed
none-failed : (old new : LineNow) (lease : Lease) (n : ℕ) (ds : List Deed) → AreCalls ds
    → IsHeld lease new.trail → new.trail ≡ old.trail ++ events_of n ds
    → has_failed (events_of n ds) ≡ false
none-failed old new lease n ds calls held trail =
    let client = lease.client in
    let whole : session_of client new.trail
    ≡ session_from client (session_of client old.trail) (events_of n ds) =
    ap (session_of client) trail
    ∙ session_from-append client outside old.trail (events_of n ds) in
    none_failed_from client (session_of client old.trail) (events_of n ds) (none_begins n ds calls)
    (ap (λ (s : Session). is_held s.phase) (sym whole) ∙ ap is_held held.stands.phase)

pub asked_ok : (sort : Call → Bool) (old new : SiteNow) (before after : Lease) (call : Call)
    (blob bytes : List ℕ)
    → IsSameSite old new → IsSameBut before after → IsTidy old
    → IsAskable call blob old before → sort call ≡ true
    → HasWorked before after call blob old.line new.line bytes
    → IsHeardBy sort call old before new after
unfolding went_by reported view_from
asked_ok sort old new before after call blob bytes same but tidy can sorted h p reply r s ends
    noted =
    let client = before.client in
    let mid = h.called.mid in
    let ready = h.called.ready in
    let told : h.reply ≡ reply =
    one_reply new.line.trail call call h.reply reply (mid.trail, h.called.answered.trail) ends in
    let answered = subst (λ (x : Reply). trails.IsAnswered mid call blob new.line bytes x) told
    h.called.answered in
    let locks = told_more client old mid ready.goes in
    let l = answered_last sort old mid new.line before after call blob bytes reply but ready.fresh
    can sorted answered in
    let went = went_by {p = p} sort old new mid before after r s (Asks call (Some reply) ∷ []) same but
    ready.goes locks l in
    record {
      went = went;
      told = told_by sort old new mid before after r s (Asks call (Some reply) ∷ []) same but
          ready.goes locks l tidy noted;
      part = λ shown. only_last client locks.deeds call reply locks.locks can.about;
      stands = λ shown.
          let v = view_of shown old in
          ap (λ (w : View). w.stage)
          (view_from-append v locks.deeds (Asks call (Some reply) ∷ [])
          ∙ ap (λ (w : View). view_from w (Asks call (Some reply) ∷ []))
          (view_from-locks client v locks.deeds locks.locks));
      sees = λ shown fits. tt;
      owes = got-last client locks.deeds call reply locks.locks;
      agrees = agrees_asked client old new mid call blob bytes reply same ready.goes.line answered
          (subst (λ (x : Reply). ¬ (x ≡ Failed)) told h.heard)
          (calls_answered client old mid new.line call reply ready.goes answered.trail) can.about
          can.kept;
      heard =
          let last : List Deed = Asks call (Some reply) ∷ [] in
          none-failed old.line new.line after (length old.made) (locks.deeds ++ last)
          (AreCalls-append locks.deeds last (AreCalls-locks client locks.deeds locks.locks) l.calls)
          h.held went.trail;
      well = ap (λ (k : KeeperNow). k.faults) same.keeper;
      ready = record { tidy = tidy-same old new same tidy; held = h.held };
    }

-- its bytes are as many as the reply tells
pub are_bytes : (old new : SiteNow) (before after : Lease) (call : Call) (blob bytes : List ℕ)
    → HasWorked before after call blob old.line new.line bytes
    → AreBytesOf new call bytes
are_bytes old new before after call blob bytes h now len ends =
    let mid = h.called.mid in
    let told : h.reply ≡ GotBlob now len =
    one_reply new.line.trail call call h.reply (GotBlob now len)
    (mid.trail, h.called.answered.trail) ends in
    let keeps =
    subst (λ (x : Reply). KeepsBlob (contents_in mid.target.store) call blob (Ok x) bytes) told
    h.called.answered.blob in (
      keeps.0,
      blob_stays mid.target.store new.line.target.store call blob bytes h.reply
          h.called.answered.answers keeps.1,
    )

-- it was answered
pub has_asked : (old new : SiteNow) (before after : Lease) (call : Call) (blob bytes : List ℕ)
    → IsSameSite old new → IsSameBut before after → IsTidy old → IsAskable call blob old before
    → HasWorked before after call blob old.line new.line bytes
    → HasAnswer call old before new after bytes
has_asked old new before after call blob bytes same but tidy can h = record {
  reply = h.reply;
  ends = (h.called.mid.trail, h.called.answered.trail);
  answer = (h.called.answered.shape, h.heard);
  bytes = are_bytes old new before after call blob bytes h;
  heard = λ sort sorted. asked_ok sort old new before after call blob bytes same but tidy can sorted h;
}

-- ---- why it gave nothing

silent_failed : (v : View) (r : SyncReport) (call : Call) → report_after v r call (Some Failed) ≡ r
silent_failed v r (Get (Item id)) = refl
silent_failed v r call = refl

-- the call was answered `Failed`
pub stops_failed : {p : WorkPlace} (sort : Call → Bool) (old new : SiteNow) (before after : Lease) (call : Call)
    (blob bytes : List ℕ) (r : SyncReport)
    → IsSameSite old new → IsSameBut before after → IsTidy old → IsAskable call blob old before
    → sort call ≡ true → HasCalled before after call blob old.line new.line bytes Failed
    → CameToEnd sort (work_by p None old before r) (work_by p None new after r)
unfolding reported
stops_failed sort old new before after call blob bytes r same but tidy can sorted h =
    let client = before.client in
    let locks = told_more client old h.mid h.ready.goes in
    let l = answered_last sort old h.mid new.line before after call blob bytes Failed but
    h.ready.fresh can sorted h.answered in
    record {
      went = went_by sort old new h.mid before after r r (Asks call (Some Failed) ∷ []) same but
          h.ready.goes locks l;
      told = told_by sort old new h.mid before after r r (Asks call (Some Failed) ∷ []) same but
          h.ready.goes locks l tidy (λ shown. sym (silent_failed (view_of shown old) r call));
    }

-- the call wasn't made, or its reply wasn't heard
pub went_unheard : {p : WorkPlace} (sort : Call → Bool) (old new : SiteNow) (before after : Lease) (call : Call)
    (blob bytes : List ℕ) (r : SyncReport)
    → IsSameSite old new → IsSameBut before after → IsAskable call blob old before
    → sort call ≡ true → HasCalledUnheard before after call blob old.line new.line bytes
    → Went sort (work_by p None old before r) (work_by p None new after r)
unfolding AreCalls events_of Each works_by
went_unheard sort old new before after call blob bytes r same but can sorted h =
    let client = before.client in
    let goes = h.ready.goes in
    let locks = told_more client old h.mid goes in
    elim h.unheard [
      | inl none ↦
          went_leased sort old new before after r r same but
          (subst (λ (x : LineNow). LeaseGoesOn client old.line x) (sym none.0) goes)
      | inr sent ↦
          let now = renewed before after in
          let leased = may_work now h.mid.trail call
          (fresh_same before after h.mid.trail but h.ready.fresh) can.working in
          went_by sort old new h.mid before after r r (Asks call None ∷ []) same but goes locks
          (record {
            calls = tt;
            trail = sent.trail;
            obeys = λ shown. ((tt, can.may shown), tt);
            goes = goes_unheard (IsStep sort client) client h.mid new.line call blob bytes h.error
                leased can.callable (inl sorted) (inr sent);
            sorted = worked
                (not (is_work (session_of client h.mid.trail).phase (role_of client call)))
                (sort call) sorted;
          })
    ]

-- each answer of the call
pub asks_err : (old new : SiteNow) (before after : Lease) (call : Call) (blob bytes : List ℕ)
    (e : LeaseErr) → IsSameSite old new → IsSameBut before after → IsTidy old
    → IsAskable call blob old before
    → Works before after call blob old.line new.line bytes (Err e)
    → AsksUnderLease call old before (Err (step_of_lease e)) new after bytes
asks_err old new before after call blob bytes (Lost seen) same but tidy can h sort p r sorted =
    (stops_leased sort old new before after r same but h.0.goes tidy, (before.stamp, h.1))
asks_err old new before after call blob bytes TargetFault same but tidy can h sort p r sorted = (
  elim h.1 [
    | inl vain ↦ stops_leased sort old new before after r same but vain.goes tidy
    | inr called ↦
        stops_failed sort old new before after call blob bytes r same but tidy can sorted called
  ],
  h.0,
)
asks_err old new before after call blob bytes NoMemory same but tidy can h sort p r sorted =
    record {
      went = elim h.1 [
        | inl vain ↦ went_leased sort old new before after r r same but vain.goes
        | inr called ↦
            went_unheard sort old new before after call blob bytes r same but can sorted called
      ];
      heard = h.0;
      well = ap (λ (k : KeeperNow). k.faults) same.keeper;
    }
asks_err old new before after call blob bytes (Busy lock now) same but tidy can h sort p r sorted =
    absurd h

-- the same line, by another name
pub works_at : (before after : Lease) (call : Call) (blob bytes : List ℕ) (old new s t : LineNow)
    (result : Result (Unit {0}) LeaseErr) → old ≡ s → new ≡ t
    → Works before after call blob s t bytes result
    → Works before after call blob old new bytes result
works_at before after call blob bytes old new s t result o n h =
    subst (λ (x : LineNow). Works before after call blob x new bytes result) (sym o)
    (subst (λ (x : LineNow). Works before after call blob s x bytes result) (sym n) h)

-- so it is with the call of a line that goes by another name
pub asks_at : (old new : SiteNow) (before after : Lease) (call : Call) (blob bytes : List ℕ)
    (s t : LineNow) (e : LeaseErr) → old.line ≡ s → new.line ≡ t → IsSameSite old new
    → IsSameBut before after → IsTidy old → IsAskable call blob old before
    → Works before after call blob s t bytes (Err e)
    → AsksUnderLease call old before (Err (step_of_lease e)) new after bytes
asks_at old new before after call blob bytes s t e o n same but tidy can h =
    asks_err old new before after call blob bytes e same but tidy can
    (works_at before after call blob bytes old.line new.line s t (Err e) o n h)

-- ---- a call in vain

-- it is remembered without its reply
calls_sent : (client : List ℕ) (old : SiteNow) (mid new : LineNow) (call : Call)
    → LeaseGoesOn client old.line mid → new.trail ≡ mid.trail ++ Sent call ∷ []
    → session_calls new.trail ≡ with_call call None (session_calls old.line.trail)
unfolding calls_from
calls_sent client old mid new call h trail =
    ap session_calls trail
    ∙ (calls_from-append [] mid.trail (Sent call ∷ [])
    ∙ ap (with_call call None) (calls_locks client old mid h))

asked_in_vain : (old new : SiteNow) (before after : Lease) (call : Call) (blob bytes : List ℕ)
    (e : LeaseErr) → Works before after call blob old.line new.line bytes (Err e)
    → IsAskedInVain call old new
asked_in_vain old new before after call blob bytes (Lost seen) h =
    inl (calls_locks before.client old new.line h.0.goes)
asked_in_vain old new before after call blob bytes TargetFault (fails, inl vain) =
    inl (calls_locks before.client old new.line vain.goes)
asked_in_vain old new before after call blob bytes TargetFault (fails, inr called) =
    inr (inr (calls_answered before.client old called.mid new.line call Failed called.ready.goes
    called.answered.trail))
asked_in_vain old new before after call blob bytes NoMemory (heard, inl vain) =
    inl (calls_locks before.client old new.line vain.goes)
asked_in_vain old new before after call blob bytes NoMemory (heard, inr called) =
    elim called.unheard [
      | inl none ↦
          inl (ap (λ (l : LineNow). session_calls l.trail) none.0
          ∙ calls_locks before.client old called.mid called.ready.goes)
      | inr sent ↦
          inr (inl (calls_sent before.client old called.mid new.line call called.ready.goes sent.trail))
    ]
asked_in_vain old new before after call blob bytes (Busy lock now) h = absurd h

-- so it is with the call of a line that goes by another name
pub vain_at : (old new : SiteNow) (before after : Lease) (call : Call) (blob bytes : List ℕ)
    (s t : LineNow) (e : LeaseErr) → old.line ≡ s → new.line ≡ t
    → Works before after call blob s t bytes (Err e) → IsAskedInVain call old new
vain_at old new before after call blob bytes s t e o n h =
    asked_in_vain old new before after call blob bytes e
    (works_at before after call blob bytes old.line new.line s t (Err e) o n h)
