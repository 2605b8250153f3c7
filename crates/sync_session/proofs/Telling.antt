-- What is told of a client, put together.
use Rattle.std.specs.Prelude.{ℕ, ◌≡◌, List, [], ◌∷◌, ◌++◌, Bool, length, map, Option, Some, None, option_map}
use Rattle.std.proofs.Common.{refl, sym, ◌∙◌, ap, subst, append-nil, append_assoc}
use Rattle.client.specs.Sites.{SiteNow, IsSameSite}
use Rattle.conflicts.specs.declared.refusal.Refusal.{Refusal}
use Rattle.conflicts.specs.declared.refusal.Refusal.TheVariants.{FailSafe}
use Rattle.download.proofs.Emptied.{heeds-locks}
use Rattle.download.proofs.Still.{heeds-append, heeds_also, heeds_of, shown_last}
use Rattle.download.specs.Emptied.{HeedsBetween, emptied_in}
use Rattle.jop_target.specs.declared.call.Call.{Call}
use Rattle.jop_target.specs.declared.event.Event.{Event}
use Rattle.lease.specs.Calls.{LeaseGoesOn}
use Rattle.law_licences.proofs.Joins.{Each-append}
use Rattle.law_licences.proofs.Settled.{stays_inside}
use Rattle.law_licences.proofs.Told.{AreWork-append, changes_in-append, deeds_of-events_of, events_of-append}
use Rattle.law_licences.specs.Deeds.{Deed, Begins, Asks, Makes, MakesUntold, Ends, Stops, changes_in, events_of}
use Rattle.law_licences.specs.Licences.{AreWork, Each, IsInside, MayDo, MayMerge, MergesInfo}
use Rattle.law_licences.specs.Views.{Shown, View, seen, view_from}
use Rattle.keeper.specs.Keepers.{KeeperNow}
use Rattle.keeper.specs.declared.blob.Blob.{Blob}
use Rattle.local_store.specs.declared.change.Change.{Change}
use Rattle.session_opening.proofs.Merging.{merges_of}
use Rattle.session_opening.specs.Opening.{MergesBetween}
use Rattle.session.proofs.Leased.{kept-same}
use Rattle.session.proofs.Joins.{count_is, kept_after-append, trail_is}
use Rattle.session.proofs.LockDeeds.{AreCalls-locks, AreLocks, AreWork-calls, changes_in-calls, obeys-locks, told_locks, view_from-locks}
use Rattle.session.specs.Doing.{Went}
use Rattle.session.proofs.Saves.{blobs_got-append, blobs_got-locks}
use Rattle.session.specs.Saving.{Told, blobs_got, kept_after_saves, tale_of}
use Rattle.session.specs.Work.{MayBeShown, WorkNow, view_of}
use Rattle.sync_session.proofs.Merging.{merges_own}
use Rattle.sync_session.specs.Telling.{TellsWork}

-- ---- inside

pub inside-work : (v : View) (ds : List Deed) → IsInside v.stage → AreWork ds
    → IsInside (view_from v ds).stage
unfolding AreWork view_from
inside-work v [] inside work = inside
inside-work v (Asks call reply ∷ ds) inside work =
    inside-work (seen v (Asks call reply)) ds inside work
inside-work v (Makes change ∷ ds) inside work =
    inside-work (seen v (Makes change)) ds (stays_inside v.stage change inside) work.1
inside-work v (Begins ∷ ds) inside work = absurd work
inside-work v (MakesUntold ∷ ds) inside work = absurd work
inside-work v (Ends ∷ ds) inside work = absurd work
inside-work v (Stops ∷ ds) inside work = absurd work

-- ---- a part of a session

pub tells_went : (Given : Refusal → Type 0) (sort : Call → Bool) (a b : WorkNow)
    → MayBeShown a.known None → Went sort a b → MergesBetween a.site b.site
    → HeedsBetween Given a.site b.site → TellsWork Given (view_of None a.site) a.site b.site
tells_went Given sort a b fits w merges heeds = record {
  tells = record {
    deeds = w.deeds;
    saves = w.saves;
    owed = w.owed;
    trail = w.trail;
    made = w.made;
    kept = w.kept;
    got = w.got;
    told = deeds_of-events_of (length a.site.made) w.deeds w.work;
    obeys = w.obeys None fits;
    merges = merges_of sort a b merges w None;
    heeds = heeds_of Given sort a b heeds w;
  };
  work = w.work;
}

-- ---- one behind the other

-- bytes that were got and saved before, or behind, deeds that got none
got_behind : (ds es : List Deed) (xs ys : List Blob) (owed : List Told) → blobs_got ds ≡ [] → xs ≡ []
    → blobs_got es ≡ map tale_of ys ++ owed → blobs_got (ds ++ es) ≡ map tale_of (xs ++ ys) ++ owed
got_behind ds es xs ys owed none unsaved got =
    blobs_got-append ds es
    ∙ (ap (λ (x : List Told). x ++ blobs_got es) none
    ∙ (got ∙ ap (λ (x : List Blob). map tale_of (x ++ ys) ++ owed) (sym unsaved)))

got_before : (ds es : List Deed) (xs ys : List Blob) (owed : List Told)
    → blobs_got ds ≡ map tale_of xs ++ owed → blobs_got es ≡ [] → ys ≡ []
    → blobs_got (ds ++ es) ≡ map tale_of (xs ++ ys) ++ owed
got_before ds es xs ys owed got none unsaved =
    blobs_got-append ds es
    ∙ (ap (λ (x : List Told). blobs_got ds ++ x) none
    ∙ (append-nil (blobs_got ds)
    ∙ (got ∙ ap (λ (x : List Blob). map tale_of x ++ owed)
    (sym (ap (λ (x : List Blob). xs ++ x) unsaved ∙ append-nil xs)))))

tells_on : (First Given : Refusal → Type 0) (v : View) (a b c : SiteNow)
    (h : TellsWork First v a b) (k : TellsWork Given (view_from v h.tells.deeds) b c)
    (owed : List Told)
    → blobs_got (h.tells.deeds ++ k.tells.deeds)
    ≡ map tale_of (h.tells.saves ++ k.tells.saves) ++ owed
    → TellsWork Given v a c
tells_on First Given v a b c h k owed got =
    let n = length a.made in
    let m = length b.made in
    let ds = h.tells.deeds in
    let es = k.tells.deeds in
    let changes = changes_in-append ds es in
    let both : events_of n (ds ++ es) ≡ events_of n ds ++ events_of m es =
    events_of-append n ds es h.work
    ∙ ap (λ (i : ℕ). events_of n ds ++ events_of i es) (count_is a.made b.made ds h.tells.made) in
    let work = AreWork-append ds es h.work k.work in
    record {
      tells = record {
        deeds = ds ++ es;
        saves = h.tells.saves ++ k.tells.saves;
        owed = owed;
        got = got;
        trail = trail_is a.line.trail b.line.trail c.line.trail n m ds es h.tells.trail
            k.tells.trail both;
        made =
            k.tells.made ∙ (ap (λ (x : List Change). x ++ changes_in es) h.tells.made
            ∙ (append_assoc a.made (changes_in ds) (changes_in es)
            ∙ ap (λ (x : List Change). a.made ++ x) (sym changes)));
        kept =
            k.tells.kept
            ∙ (ap (option_map (kept_after_saves (changes_in es) k.tells.saves)) h.tells.kept
            ∙ (kept_after-append a.keeper.kept (changes_in ds) (changes_in es) h.tells.saves
            k.tells.saves
            ∙ ap (λ (x : List Change).
            option_map (kept_after_saves x (h.tells.saves ++ k.tells.saves)) a.keeper.kept)
            (sym changes)));
        told = deeds_of-events_of n (ds ++ es) work;
        obeys = Each-append MayDo v ds es h.tells.obeys k.tells.obeys;
        merges = Each-append MayMerge v ds es h.tells.merges k.tells.merges;
        heeds = heeds-append First Given v ds es h.work h.tells.heeds k.tells.heeds;
      };
      work = work;
    }

-- ---- calls of a lease

nothing_put : (v : View) (ds : List Deed) (client : List ℕ) → AreLocks client ds → MergesInfo v ds
unfolding AreLocks Each
nothing_put v [] client h = tt
nothing_put v (Asks call reply ∷ ds) client h =
    (merges_own client v call reply h.0, nothing_put (seen v (Asks call reply)) ds client h.1)
nothing_put v (Begins ∷ ds) client h = absurd h
nothing_put v (Makes c ∷ ds) client h = absurd h
nothing_put v (MakesUntold ∷ ds) client h = absurd h
nothing_put v (Ends ∷ ds) client h = absurd h
nothing_put v (Stops ∷ ds) client h = absurd h

-- what a lease called, while nothing else was done
pub record TellsLocks (Given : Refusal → Type 0) (client : List ℕ) (v : View) (a b : SiteNow)
    : Type 0 where
  pub work : TellsWork Given v a b
  pub same : view_from v work.tells.deeds ≡ v
  pub unsaved : work.tells.saves ≡ []
  pub ungot : blobs_got work.tells.deeds ≡ []

pub tells_locks : (Given : Refusal → Type 0) (client : List ℕ) (v : View) (a b : SiteNow)
    → IsInside v.stage → IsSameSite a b → LeaseGoesOn client a.line b.line
    → ((count : ℕ) → emptied_in v.shown ≡ Some count → Given (FailSafe count))
    → TellsLocks Given client v a b
tells_locks Given client v a b inside same goes given =
    let n = length a.made in
    let told = told_locks client n goes.line.more goes.line.each in
    let calls = AreCalls-locks client told.deeds told.locks in
    let none = changes_in-calls told.deeds calls in
    record {
      work = record {
        tells = record {
          deeds = told.deeds;
          saves = [];
          owed = [];
          got = blobs_got-locks client told.deeds told.locks;
          trail = goes.line.trail ∙ ap (λ (es : List Event). a.line.trail ++ es) (sym told.told);
          made =
              same.made ∙ (sym (append-nil a.made)
              ∙ ap (λ (cs : List Change). a.made ++ cs) (sym none));
          kept =
              ap (λ (k : KeeperNow). k.kept) same.keeper
              ∙ kept-same a.keeper.kept (changes_in told.deeds) none;
          told = deeds_of-events_of n told.deeds (AreWork-calls told.deeds calls);
          obeys = obeys-locks client v told.deeds inside told.locks;
          merges = nothing_put v told.deeds client told.locks;
          heeds = heeds-locks Given client v told.deeds told.locks given;
        };
        work = AreWork-calls told.deeds calls;
      };
      same = view_from-locks client v told.deeds told.locks;
      unsaved = refl;
      ungot = blobs_got-locks client told.deeds told.locks;
    }

-- nothing looks like an emptied target
pub none_emptied : (Given : Refusal → Type 0) (shown : Option Shown) (count : ℕ)
    → emptied_in shown ≡ None → emptied_in shown ≡ Some count → Given (FailSafe count)
none_emptied Given shown count filled is =
    let never : None ≡ Some count = sym filled ∙ is in
    absurd cc

-- what gives no less
pub tells_also : (First Given : Refusal → Type 0) (v : View) (a b : SiteNow)
    → ((why : Refusal) → First why → Given why) → TellsWork First v a b → TellsWork Given v a b
tells_also First Given v a b also h = record {
  tells = record {
    deeds = h.tells.deeds;
    saves = h.tells.saves;
    owed = h.tells.owed;
    trail = h.tells.trail;
    made = h.tells.made;
    kept = h.tells.kept;
    got = h.tells.got;
    told = h.tells.told;
    obeys = h.tells.obeys;
    merges = h.tells.merges;
    heeds = heeds_also First Given v h.tells.deeds also h.tells.heeds;
  };
  work = h.work;
}

-- behind work of the session
pub tells_left : (First Given : Refusal → Type 0) (client : List ℕ) (v : View) (a b c : SiteNow)
    → IsInside v.stage → ((why : Refusal) → First why → Given why) → TellsWork First v a b
    → IsSameSite b c → LeaseGoesOn client b.line c.line → TellsWork Given v a c
tells_left First Given client v a b c inside also h same goes =
    let ds = h.tells.deeds in
    let locks = tells_locks Given client (view_from v ds) b c
    (inside-work v ds inside h.work) same goes
    (λ count is. also (FailSafe count)
    (h.tells.heeds.given count (ap emptied_in (shown_last v ds h.work) ∙ is))) in
    let l = locks.work.tells in
    tells_on First Given v a b c h locks.work h.tells.owed
    (got_before h.tells.deeds l.deeds h.tells.saves l.saves h.tells.owed h.tells.got locks.ungot
    locks.unsaved)

-- or before it
pub tells_had : (Given : Refusal → Type 0) (client : List ℕ) (v : View) (a b c : SiteNow)
    → IsInside v.stage → emptied_in v.shown ≡ None → IsSameSite a b
    → LeaseGoesOn client a.line b.line → TellsWork Given v b c → TellsWork Given v a c
tells_had Given client v a b c inside filled same goes k =
    let locks = tells_locks Given client v a b inside same goes
    (λ count is. none_emptied Given v.shown count filled is) in
    let l = locks.work.tells in
    let m : TellsWork Given (view_from v l.deeds) b c =
    subst (λ (w : View). TellsWork Given w b c) (sym locks.same) k in
    tells_on Given Given v a b c locks.work m m.tells.owed
    (got_behind l.deeds m.tells.deeds l.saves m.tells.saves m.tells.owed locks.ungot locks.unsaved
    m.tells.got)
