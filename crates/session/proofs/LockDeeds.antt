-- A lease's own calls as deeds: they are licensed, seen by nobody, and no work.
use Rattle.std.specs.Prelude.{ℕ, ◌≡◌, List, [], ◌∷◌, ◌++◌, All, Bool, true, false, ◌&&◌, not, if◌then◌else◌, Option, Some, None, refl}
use Rattle.std.proofs.Common.{sym, ap, subst, ◌∙◌}
use Rattle.std.proofs.lemmas.Bool.{or_left}
use Rattle.std.proofs.lemmas.List.Elements.{All-cons, All-head, All-nil, All-tail}
use Rattle.conflicts.specs.declared.report.SyncReport.{SyncReport}
use Rattle.jop_base.specs.declared.dir.Dir.TheVariants.{Locks}
use Rattle.jop_base.specs.declared.path.Path.{Path}
use Rattle.jop_target.specs.declared.call.Call.{Call}
use Rattle.jop_target.specs.declared.call.Call.TheVariants.{List as ListDir, Put, Delete, MakeDir}
use Rattle.jop_target.specs.declared.event.Event.{Event}
use Rattle.jop_target.specs.declared.event.Event.TheVariants.{Began, Sent, Called, Made, Ended}
use Rattle.jop_target.specs.declared.reply.Reply.{Reply}
use Rattle.lease.proofs.NoFailures.{NoneBegins, begins}
use Rattle.lease.specs.Calls.{IsLeaseCall, IsLeaseEvent}
use Rattle.lease.specs.Discipline.{Session, session_after}
use Rattle.lease.specs.Idle.{is_idle_event, is_idle_from, is_work}
use Rattle.lease.specs.Phase.{role_of}
use Rattle.law_licences.specs.Deeds.{Deed, Begins, Asks, Makes, MakesUntold, Ends, Stops, changes_in, events_of}
use Rattle.law_licences.specs.Licences.{AreWork, Each, IsInside, MayCall, MayDo}
use Rattle.law_licences.specs.Views.{View, view_after_call, is_about_locks, is_lock_file, view_from}
use Rattle.session.proofs.Seen.{heard-locks}
use Rattle.session.specs.Parts.{but_locks}
use Rattle.session.specs.Reported.{report_after, reported}
use Rattle.session.specs.Steps.{is_sorted, works_by}

-- ---- calls alone

unfoldable pub AreCalls : List Deed → Type 0
AreCalls [] = Unit {0}
AreCalls (Asks call reply ∷ ds) = AreCalls ds
AreCalls (d ∷ ds) = ⊥

pub AreWork-calls : (ds : List Deed) → AreCalls ds → AreWork ds
unfolding AreCalls AreWork
AreWork-calls [] h = tt
AreWork-calls (Asks call reply ∷ ds) h = AreWork-calls ds h
AreWork-calls (Begins ∷ ds) h = absurd h
AreWork-calls (Makes c ∷ ds) h = absurd h
AreWork-calls (MakesUntold ∷ ds) h = absurd h
AreWork-calls (Ends ∷ ds) h = absurd h
AreWork-calls (Stops ∷ ds) h = absurd h

abbrev IsNoBegin : Event → Type 0
IsNoBegin e = begins e ≡ false

-- no session begins there
pub none_begins : (n : ℕ) (ds : List Deed) → AreCalls ds → NoneBegins (events_of n ds)
unfolding events_of AreCalls
none_begins n [] h = All-nil IsNoBegin
none_begins n (Asks call None ∷ ds) h =
    All-cons IsNoBegin (Sent call) (events_of n ds) refl (none_begins n ds h)
none_begins n (Asks call (Some reply) ∷ ds) h =
    All-cons IsNoBegin (Called call reply) (events_of n ds) refl (none_begins n ds h)
none_begins n (Begins ∷ ds) h = absurd h
none_begins n (Makes c ∷ ds) h = absurd h
none_begins n (MakesUntold ∷ ds) h = absurd h
none_begins n (Ends ∷ ds) h = absurd h
none_begins n (Stops ∷ ds) h = absurd h

pub changes_in-calls : (ds : List Deed) → AreCalls ds → changes_in ds ≡ []
unfolding AreCalls changes_in
changes_in-calls [] h = refl
changes_in-calls (Asks call reply ∷ ds) h = changes_in-calls ds h
changes_in-calls (Begins ∷ ds) h = absurd h
changes_in-calls (Makes c ∷ ds) h = absurd h
changes_in-calls (MakesUntold ∷ ds) h = absurd h
changes_in-calls (Ends ∷ ds) h = absurd h
changes_in-calls (Stops ∷ ds) h = absurd h

pub AreCalls-append : (ds es : List Deed) → AreCalls ds → AreCalls es → AreCalls (ds ++ es)
unfolding AreCalls
AreCalls-append [] es h k = k
AreCalls-append (Asks call reply ∷ ds) es h k = AreCalls-append ds es h k
AreCalls-append (Begins ∷ ds) es h k = absurd h
AreCalls-append (Makes c ∷ ds) es h k = absurd h
AreCalls-append (MakesUntold ∷ ds) es h k = absurd h
AreCalls-append (Ends ∷ ds) es h k = absurd h
AreCalls-append (Stops ∷ ds) es h k = absurd h

-- ---- one call of a lease

pub about-locks : (client : List ℕ) (call : Call) → IsLeaseCall client call
    → is_about_locks call ≡ true
about-locks client (MakeDir Locks) own = refl
about-locks client (ListDir Locks) own = refl
about-locks client (Put path content) own = ap is_lock_file own.1
about-locks client (Delete path) own = ap is_lock_file own.1
about-locks client call own = absurd own

licensed : (client : List ℕ) (v : View) (call : Call) → IsLeaseCall client call → MayCall v call
licensed client v (MakeDir Locks) own = tt
licensed client v (ListDir Locks) own = tt
licensed client v (Put path content) own =
    subst (λ (p : Path). MayCall v (Put p content)) (sym own.1) tt
licensed client v (Delete path) own =
    subst (λ (p : Path). MayCall v (Delete p)) (sym own.1) tt
licensed client v call own = absurd own

silent : (client : List ℕ) (v : View) (r : SyncReport) (call : Call) (reply : Option Reply)
    → IsLeaseCall client call → report_after v r call reply ≡ r
silent client v r (MakeDir Locks) reply own = refl
silent client v r (ListDir Locks) reply own = refl
silent client v r (Put path content) reply own = refl
silent client v r (Delete path) reply own = refl
silent client v r call reply own = absurd own

-- ---- several

unfoldable pub AreLocks : List ℕ → List Deed → Type 0
AreLocks client [] = Unit {0}
AreLocks client (Asks call reply ∷ ds) = IsLeaseCall client call × AreLocks client ds
AreLocks client (d ∷ ds) = ⊥

-- these deeds tell those events
pub record ToldLocks (client : List ℕ) (n : ℕ) (events : List Event) : Type 0 where
  pub deeds : List Deed
  pub locks : AreLocks client deeds
  pub told : events_of n deeds ≡ events

told-sent : (client : List ℕ) (n : ℕ) (call : Call) (es : List Event)
    → IsLeaseCall client call → ToldLocks client n es → ToldLocks client n (Sent call ∷ es)
unfolding AreLocks events_of
told-sent client n call es own rest = record {
  deeds = Asks call None ∷ rest.deeds;
  locks = (own, rest.locks);
  told = ap (λ (x : List Event). Sent call ∷ x) rest.told;
}

told-called : (client : List ℕ) (n : ℕ) (call : Call) (reply : Reply) (es : List Event)
    → IsLeaseCall client call → ToldLocks client n es
    → ToldLocks client n (Called call reply ∷ es)
unfolding AreLocks events_of
told-called client n call reply es own rest = record {
  deeds = Asks call (Some reply) ∷ rest.deeds;
  locks = (own, rest.locks);
  told = ap (λ (x : List Event). Called call reply ∷ x) rest.told;
}

pub told_locks : (client : List ℕ) (n : ℕ) (es : List Event) → All (IsLeaseEvent client) es
    → ToldLocks client n es
unfolding AreLocks events_of
told_locks client n [] each = record { deeds = []; locks = tt; told = refl }
told_locks client n (Sent call ∷ es) each =
    told-sent client n call es (All-head (IsLeaseEvent client) (Sent call) es each)
    (told_locks client n es (All-tail (IsLeaseEvent client) (Sent call) es each))
told_locks client n (Called call reply ∷ es) each =
    told-called client n call reply es
    (All-head (IsLeaseEvent client) (Called call reply) es each)
    (told_locks client n es (All-tail (IsLeaseEvent client) (Called call reply) es each))
told_locks client n (Began ∷ es) each =
    absurd (All-head (IsLeaseEvent client) Began es each)
told_locks client n (Made number ∷ es) each =
    absurd (All-head (IsLeaseEvent client) (Made number) es each)
told_locks client n (Ended ∷ es) each =
    absurd (All-head (IsLeaseEvent client) Ended es each)

pub AreCalls-locks : (client : List ℕ) (ds : List Deed) → AreLocks client ds → AreCalls ds
unfolding AreLocks AreCalls
AreCalls-locks client [] h = tt
AreCalls-locks client (Asks call reply ∷ ds) h = AreCalls-locks client ds h.1
AreCalls-locks client (Begins ∷ ds) h = absurd h
AreCalls-locks client (Makes c ∷ ds) h = absurd h
AreCalls-locks client (MakesUntold ∷ ds) h = absurd h
AreCalls-locks client (Ends ∷ ds) h = absurd h
AreCalls-locks client (Stops ∷ ds) h = absurd h

pub view_from-locks : (client : List ℕ) (v : View) (ds : List Deed) → AreLocks client ds
    → view_from v ds ≡ v
unfolding AreLocks view_from
view_from-locks client v [] h = refl
view_from-locks client v (Asks call reply ∷ ds) h =
    ap (λ (w : View). view_from w ds) (heard-locks v call reply (about-locks client call h.0))
    ∙ view_from-locks client v ds h.1
view_from-locks client v (Begins ∷ ds) h = absurd h
view_from-locks client v (Makes c ∷ ds) h = absurd h
view_from-locks client v (MakesUntold ∷ ds) h = absurd h
view_from-locks client v (Ends ∷ ds) h = absurd h
view_from-locks client v (Stops ∷ ds) h = absurd h

pub obeys-locks : (client : List ℕ) (v : View) (ds : List Deed) → IsInside v.stage
    → AreLocks client ds → Each MayDo v ds
unfolding AreLocks Each
obeys-locks client v [] inside h = tt
obeys-locks client v (Asks call reply ∷ ds) inside h = (
  (inside, licensed client v call h.0),
  obeys-locks client (view_after_call v call reply) ds inside h.1,
)
obeys-locks client v (Begins ∷ ds) inside h = absurd h
obeys-locks client v (Makes c ∷ ds) inside h = absurd h
obeys-locks client v (MakesUntold ∷ ds) inside h = absurd h
obeys-locks client v (Ends ∷ ds) inside h = absurd h
obeys-locks client v (Stops ∷ ds) inside h = absurd h

pub reported-locks : (client : List ℕ) (v : View) (r : SyncReport) (ds : List Deed)
    → AreLocks client ds → reported v r ds ≡ r
unfolding AreLocks reported
reported-locks client v r [] h = refl
reported-locks client v r (Asks call reply ∷ ds) h =
    ap (λ (s : SyncReport). reported (view_after_call v call reply) s ds)
    (silent client v r call reply h.0)
    ∙ reported-locks client (view_after_call v call reply) r ds h.1
reported-locks client v r (Begins ∷ ds) h = absurd h
reported-locks client v r (Makes c ∷ ds) h = absurd h
reported-locks client v r (MakesUntold ∷ ds) h = absurd h
reported-locks client v r (Ends ∷ ds) h = absurd h
reported-locks client v r (Stops ∷ ds) h = absurd h

left_out : (locks : Bool) (call : Call) (reply : Option Reply) (ds : List Deed)
    → locks ≡ true → ds ≡ [] → (if locks then ds else Asks call reply ∷ ds) ≡ []
left_out true call reply ds h none = none
left_out false call reply ds h none = absurd cc

pub but_locks-locks : (client : List ℕ) (ds : List Deed) → AreLocks client ds
    → but_locks ds ≡ []
unfolding AreLocks but_locks
but_locks-locks client [] h = refl
but_locks-locks client (Asks call reply ∷ ds) h =
    left_out (is_about_locks call) call reply (but_locks ds) (about-locks client call h.0)
    (but_locks-locks client ds h.1)
but_locks-locks client (Begins ∷ ds) h = absurd h
but_locks-locks client (Makes c ∷ ds) h = absurd h
but_locks-locks client (MakesUntold ∷ ds) h = absurd h
but_locks-locks client (Ends ∷ ds) h = absurd h
but_locks-locks client (Stops ∷ ds) h = absurd h

-- ---- no work

later_idle : (a b : Bool) → (a && b) ≡ true → b ≡ true
later_idle true b h = h
later_idle false b h = absurd cc

here_idle : (a b : Bool) → (a && b) ≡ true → a ≡ true
here_idle true b h = refl
here_idle false b h = h

and_both : (a b : Bool) → a ≡ true → b ≡ true → (a && b) ≡ true
and_both true b h k = k
and_both false b h k = h

sorted_idle : (sort : Call → Bool) (client : List ℕ) (s : Session) (e : Event)
    → is_idle_event client s e ≡ true → is_sorted sort client s e ≡ true
sorted_idle sort client s (Sent call) h =
    or_left (not (is_work s.phase (role_of client call))) (sort call) h
sorted_idle sort client s (Called call reply) h =
    or_left (not (is_work s.phase (role_of client call))) (sort call) h
sorted_idle sort client s (Made number) h = refl
sorted_idle sort client s Began h = h
sorted_idle sort client s Ended h = h

-- what is no work is work of every sort
pub works_by-idle : (sort : Call → Bool) (client : List ℕ) (s : Session) (es : List Event)
    → is_idle_from client s es ≡ true → works_by sort client s es ≡ true
unfolding is_idle_from works_by
works_by-idle sort client s [] h = refl
works_by-idle sort client s (e ∷ es) h =
    let first = is_idle_event client s e in
    let rest = is_idle_from client (session_after client s e) es in
    and_both (is_sorted sort client s e) (works_by sort client (session_after client s e) es)
    (sorted_idle sort client s e (here_idle first rest h))
    (works_by-idle sort client (session_after client s e) es (later_idle first rest h))
