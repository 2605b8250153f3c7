-- A part of a session, by other references, or when something else is known of what it was shown.
use Rattle.std.specs.Prelude.{ℕ, ◌≡◌, List, Bool, Option, Some, None, Result, Ok, Err, refl}
use Rattle.std.proofs.Common.{sym, ap, subst, ◌∙◌}
use Rattle.conflicts.specs.declared.error.StepErr.{StepErr}
use Rattle.conflicts.specs.declared.error.StepErr.TheVariants.{Lost, TargetFault, KeeperFault, Refused, NoMemory}
use Rattle.jop_base.specs.declared.dir.Dir.TheVariants.{Root}
use Rattle.jop_base.specs.declared.path.Path.TheVariants.{Item}
use Rattle.jop_target.specs.declared.call.Call.{Call}
use Rattle.jop_target.specs.declared.call.Call.TheVariants.{List as ListDir, Get, GetBlob}
use Rattle.jop_target.specs.declared.reply.Listing.{Listing}
use Rattle.jop_target.specs.declared.reply.Reply.{Reply}
use Rattle.jop_target.specs.declared.reply.Reply.TheVariants.{Listed}
use Rattle.law_licences.specs.Deeds.{Deed}
use Rattle.law_licences.specs.Views.{Shown, Stage, View, shown_after, shown_to, view_from}
use Rattle.session.proofs.Behind.{place_given_up}
use Rattle.session.proofs.Seen.{view_from-but_locks}
use Rattle.session.specs.Doing.{Does, DoesTo, Ends, EndsAt, GivesNothing, IsTold, CameToEnd, Went}
use Rattle.session.specs.Parts.{Hears, Part, but_locks}
use Rattle.session.specs.Saving.{Told}
use Rattle.session.specs.Sessions.{Fetches, FindsFile}
use Rattle.session.specs.Work.{MayBeShown, WorkNow, WorkPlace, knowing, nowhere, placed, view_of}
use Rattle.session.specs.declared.finding.Finding.{Finding}

-- the same session, if it was shown this, by these references
abbrev pub recast : Option Shown → WorkPlace → WorkNow → WorkNow
recast known place w = record w { known = known; place = place }

-- ---- any part

went_recast : (sort : Call → Bool) (k l : Option Shown) (p q : WorkPlace) (a b : WorkNow)
    → ((shown : Option Shown) → MayBeShown k shown → MayBeShown a.known shown) → q ≡ p
    → Went sort a b → Went sort (recast k p a) (recast l q b)
went_recast sort k l p q a b fits stays w = record {
  deeds = w.deeds;
  saves = w.saves;
  owed = w.owed;
  trail = w.trail;
  made = w.made;
  kept = w.kept;
  got = w.got;
  work = w.work;
  obeys = λ shown fit. w.obeys shown (fits shown fit);
  goes = w.goes;
  sorted = w.sorted;
  later = w.later;
  same = w.same;
  place = stays;
}

told_recast : (k l : Option Shown) (p q : WorkPlace) (a b : WorkNow) (ds : List Deed)
    → IsTold a b ds → IsTold (recast k p a) (recast l q b) ds
told_recast k l p q a b ds h = record { tidy = h.tidy; tables = h.tables; report = h.report }

stops_recast : (sort : Call → Bool) (k l : Option Shown) (p q : WorkPlace) (a b : WorkNow)
    → ((shown : Option Shown) → MayBeShown k shown → MayBeShown a.known shown) → q ≡ p
    → CameToEnd sort a b → CameToEnd sort (recast k p a) (recast l q b)
unfolding went_recast
stops_recast sort k l p q a b fits stays h = record {
  went = went_recast sort k l p q a b fits stays h.went;
  told = told_recast k l p q a b h.went.deeds h.told;
}

gives_up_recast : (sort : Call → Bool) (k l : Option Shown) (p q : WorkPlace) (a b : WorkNow)
    (e : StepErr) → ((shown : Option Shown) → MayBeShown k shown → MayBeShown a.known shown) → q ≡ p
    → GivesNothing sort a e b → GivesNothing sort (recast k p a) e (recast l q b)
gives_up_recast sort k l p q a b (Lost seen) fits stays h =
    (stops_recast sort k l p q a b fits stays h.0, h.1)
gives_up_recast sort k l p q a b TargetFault fits stays h =
    (stops_recast sort k l p q a b fits stays h.0, h.1)
gives_up_recast sort k l p q a b KeeperFault fits stays h = record {
  stops = stops_recast sort k l p q a b fits stays h.stops;
  ready = h.ready;
  rose = h.rose;
}
gives_up_recast sort k l p q a b (Refused why) fits stays h = absurd h
gives_up_recast sort k l p q a b NoMemory fits stays h = record {
  went = went_recast sort k l p q a b fits stays h.went;
  heard = h.heard;
  well = h.well;
}

does_recast : {there : Stage} {left : List Told} (P : Part) (sort : Call → Bool)
    (k l : Option Shown) (p q : WorkPlace) (a b : WorkNow)
    → ((shown : Option Shown) → MayBeShown k shown → MayBeShown a.known shown) → q ≡ p
    → (h : DoesTo there left P sort a b)
    → ((shown : Option Shown) → MayBeShown k shown
    → MayBeShown l (view_from (view_of shown a.site) h.went.deeds).shown)
    → DoesTo there left P sort (recast k p a) (recast l q b)
unfolding went_recast
does_recast P sort k l p q a b fits stays h sees = record {
  went = went_recast sort k l p q a b fits stays h.went;
  told = told_recast k l p q a b h.went.deeds h.told;
  part = h.part;
  stands = h.stands;
  sees = sees;
  owes = h.owes;
  agrees = h.agrees;
  heard = h.heard;
  well = h.well;
  ready = h.ready;
}

-- ---- by other references

pub does_placed : {there : Stage} {left : List Told} (P : Part) (sort : Call → Bool)
    (p q : WorkPlace) (a b : WorkNow) → q ≡ p → DoesTo there left P sort a b
    → DoesTo there left P sort (placed p a) (placed q b)
does_placed P sort p q a b stays h =
    does_recast P sort a.known b.known p q a b (λ shown fit. fit) stays h h.sees

pub gives_up_placed : (sort : Call → Bool) (p q : WorkPlace) (a b : WorkNow) (e : StepErr)
    → q ≡ p → GivesNothing sort a e b → GivesNothing sort (placed p a) e (placed q b)
gives_up_placed sort p q a b e stays h =
    gives_up_recast sort a.known b.known p q a b e (λ shown fit. fit) stays h

pub ends_placed : {R : Type 0} (P : Part) (sort : Call → Bool) (p q : WorkPlace) (a b : WorkNow)
    (result : Result R StepErr) → q ≡ p → Ends P sort a result b
    → Ends P sort (placed p a) result (placed q b)
ends_placed P sort p q a b (Ok value) stays h = does_placed P sort p q a b stays h
ends_placed P sort p q a b (Err e) stays h = gives_up_placed sort p q a b e stays h

-- so a function that has the client, the lease and the report says it of them
pub ends_nowhere : {R : Type 0} (P : Part) (sort : Call → Bool) (a b : WorkNow)
    (result : Result R StepErr) → Ends P sort a result b
    → Ends P sort (placed nowhere a) result (placed nowhere b)
ends_nowhere P sort a b result h = ends_placed P sort nowhere nowhere a b result refl h

pub ends_at_placed : {R : Type 0} (there : Stage) (P : Part) (sort : Call → Bool)
    (p q : WorkPlace) (a b : WorkNow) (result : Result R StepErr) → q ≡ p
    → EndsAt there P sort a result b → EndsAt there P sort (placed p a) result (placed q b)
ends_at_placed there P sort p q a b (Ok value) stays h = does_placed P sort p q a b stays h
ends_at_placed there P sort p q a b (Err e) stays h = gives_up_placed sort p q a b e stays h

-- ---- when it is known what it was shown

-- a part that lists nothing leaves what the session was shown
abbrev pub ShowsNone : Part → Type 0
ShowsNone P = (v : View) (ds : List Deed) → P v ds → (view_from v ds).shown ≡ v.shown

pub unknown_fits : (known shown : Option Shown) → known ≡ None → MayBeShown known shown
unknown_fits known shown none = subst (λ (k : Option Shown). MayBeShown k shown) (sym none) tt

pub does_knowing : {there : Stage} {left : List Told} (P : Part) (sort : Call → Bool)
    (known : Option Shown) (a b : WorkNow) → a.known ≡ None → ShowsNone P
    → DoesTo there left P sort a b
    → DoesTo there left P sort (knowing known a) (knowing known b)
does_knowing P sort known a b none blind h =
    does_recast P sort known known a.place b.place a b
    (λ shown fit. unknown_fits a.known shown none) h.went.place h
    (λ shown fit.
    let v = view_of shown a.site in
    let same : (view_from v h.went.deeds).shown ≡ shown =
    ap (λ (w : View). w.shown) (sym (view_from-but_locks v h.went.deeds))
    ∙ blind v (but_locks h.went.deeds) (h.part shown) in
    subst (λ (x : Option Shown). MayBeShown known x) (sym same) fit)

pub gives_up_knowing : (sort : Call → Bool) (known : Option Shown) (a b : WorkNow) (e : StepErr)
    → a.known ≡ None → GivesNothing sort a e b → GivesNothing sort (knowing known a) e (knowing known b)
gives_up_knowing sort known a b e none h =
    gives_up_recast sort known known a.place b.place a b e
    (λ shown fit. unknown_fits a.known shown none) (place_given_up sort a b e h) h

-- a call that lists nothing does
abbrev pub ShowsNothing : Call → Type 0
ShowsNothing call = (v : View) (reply : Option Reply) → shown_after v call reply ≡ v.shown

pub hears_none : (call : Call) (reply : Reply) → ShowsNothing call → ShowsNone (Hears call reply)
unfolding view_from
hears_none call reply nothing v ds h =
    ap (λ (x : List Deed). (view_from v x).shown) h ∙ nothing v (Some reply)

pub finds_none : (id : List ℕ) (finding : Finding) → ShowsNone (FindsFile id finding)
finds_none id finding v ds h = hears_none (Get (Item id)) h.0 (λ w reply. refl) v ds h.4

pub fetches_none : (id : List ℕ) → ShowsNone (Fetches id)
fetches_none id v ds h = hears_none (GetBlob id) h.0 (λ w reply. refl) v ds h.1.1

-- a listing of the root was shown
pub does_listing : (listing : Listing) (sort : Call → Bool) (a b : WorkNow)
    → Does (Hears (ListDir Root) (Listed listing)) sort a b
    → Does (Hears (ListDir Root) (Listed listing)) sort a
    (knowing (Some (shown_to a.site.tables listing)) b)
unfolding view_from
does_listing listing sort a b h =
    does_recast (Hears (ListDir Root) (Listed listing)) sort a.known
    (Some (shown_to a.site.tables listing)) a.place b.place a b (λ shown fit. fit) h.went.place h
    (λ shown fit.
    let v = view_of shown a.site in
    ap (λ (w : View). w.shown) (sym (view_from-but_locks v h.went.deeds))
    ∙ ap (λ (x : List Deed). (view_from v x).shown) (h.part shown))

-- ---- when that doesn't matter any more

pub does_forgetting : {there : Stage} {left : List Told} (P : Part) (sort : Call → Bool)
    (known : Option Shown) (a b : WorkNow) → b.known ≡ None
    → DoesTo there left P sort a (knowing known b) → DoesTo there left P sort a b
does_forgetting P sort known a b none h =
    does_recast P sort a.known b.known a.place b.place a (knowing known b) (λ shown fit. fit)
    h.went.place h
    (λ shown fit.
    unknown_fits b.known (view_from (view_of shown a.site) h.went.deeds).shown none)

pub gives_up_forgetting : (sort : Call → Bool) (known : Option Shown) (a b : WorkNow)
    (e : StepErr) → GivesNothing sort a e (knowing known b) → GivesNothing sort a e b
gives_up_forgetting sort known a b e h =
    gives_up_recast sort a.known b.known a.place b.place a (knowing known b) e (λ shown fit. fit)
    (place_given_up sort a (knowing known b) e h) h

-- nothing was known, before and behind
pub ends_unknown : {R : Type 0} (P : Part) (sort : Call → Bool) (a b : WorkNow)
    (result : Result R StepErr) → a.known ≡ None → b.known ≡ None
    → Ends P sort (knowing None a) result (knowing None b) → Ends P sort a result b
ends_unknown P sort a b result before behind h =
    subst (λ (k : Option Shown). Ends P sort a result (knowing k b)) (sym behind)
    (subst (λ (k : Option Shown). Ends P sort (knowing k a) result (knowing None b)) (sym before)
    h)
