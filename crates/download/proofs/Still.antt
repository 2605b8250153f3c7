-- What a session was shown, over its parts; and of a part that doesn't list the root.
use Rattle.std.specs.Prelude.{ℕ, ◌≡◌, ◌⊎◌, ◌+◌, List, [], ◌∷◌, ◌++◌, All, Bool, true, false, length, Option, Some, None, refl}
use Rattle.std.proofs.Common.{◌∙◌, sym, ap, subst, inl, inr}
use Rattle.std.proofs.lemmas.List.{append_cancel_left}
use Rattle.std.proofs.lemmas.List.Elements.{All-head, All-tail}
use Rattle.client.specs.Sites.{SiteNow}
use Rattle.conflicts.specs.declared.refusal.Refusal.{Refusal}
use Rattle.conflicts.specs.declared.refusal.Refusal.TheVariants.{FailSafe}
use Rattle.download.specs.Emptied.{HeedsBetween, HeedsEmptied, MayFollow, emptied_in, last_shown}
use Rattle.jop_base.specs.declared.dir.Dir.TheVariants.{Root}
use Rattle.jop_target.specs.declared.call.Call.{Call}
use Rattle.jop_target.specs.declared.call.Call.TheVariants.{List as ListDir}
use Rattle.jop_target.specs.declared.event.Event.{Event}
use Rattle.jop_target.specs.declared.event.Event.TheVariants.{Sent, Called, Made}
use Rattle.jop_target.specs.declared.reply.Reply.{Reply}
use Rattle.lease.specs.Calls.{IsLeaseCall}
use Rattle.law_licences.proofs.Joins.{Each-append}
use Rattle.law_licences.proofs.Told.{deeds_of-events_of}
use Rattle.law_licences.specs.Deeds.{Deed, Begins, Asks, Makes, MakesUntold, Ends, Stops, changes_in, deeds_of, events_of}
use Rattle.law_licences.specs.Licences.{AreWork, Each}
use Rattle.law_licences.specs.Views.{Shown, View, seen, shown_after, view_from}
use Rattle.local_store.specs.declared.change.Change.{Change}
use Rattle.session.proofs.Joins.{view_at, went_on}
use Rattle.session.proofs.LockDeeds.{about-locks}
use Rattle.session.specs.Doing.{Does, Went}
use Rattle.session.specs.Parts.{Part}
use Rattle.session.specs.Steps.{IsStep}
use Rattle.session.specs.Work.{WorkNow, view_of}

-- ---- while a session goes on

pub shown_last : (v : View) (ds : List Deed) → AreWork ds
    → last_shown v ds ≡ (view_from v ds).shown
unfolding AreWork view_from last_shown
shown_last v [] work = refl
shown_last v (Asks call reply ∷ ds) work = shown_last (seen v (Asks call reply)) ds work
shown_last v (Makes change ∷ ds) work = shown_last (seen v (Makes change)) ds work.1
shown_last v (Begins ∷ ds) work = absurd work
shown_last v (MakesUntold ∷ ds) work = absurd work
shown_last v (Ends ∷ ds) work = absurd work
shown_last v (Stops ∷ ds) work = absurd work

-- over two parts
pub last_on : (v : View) (ds es : List Deed) → AreWork ds
    → last_shown (view_from v ds) es ≡ last_shown v (ds ++ es)
unfolding AreWork view_from last_shown
last_on v [] es work = refl
last_on v (Asks call reply ∷ ds) es work = last_on (seen v (Asks call reply)) ds es work
last_on v (Makes change ∷ ds) es work = last_on (seen v (Makes change)) ds es work.1
last_on v (Begins ∷ ds) es work = absurd work
last_on v (MakesUntold ∷ ds) es work = absurd work
last_on v (Ends ∷ ds) es work = absurd work
last_on v (Stops ∷ ds) es work = absurd work

pub heeds-append : (First Given : Refusal → Type 0) (v : View) (ds es : List Deed) → AreWork ds
    → HeedsEmptied First v ds → HeedsEmptied Given (view_from v ds) es
    → HeedsEmptied Given v (ds ++ es)
heeds-append First Given v ds es work h k = record {
  stops = Each-append MayFollow v ds es h.stops k.stops;
  given = λ count is. k.given count (ap emptied_in (last_on v ds es work) ∙ is);
}

pub heeds_also : (First Given : Refusal → Type 0) (v : View) (ds : List Deed)
    → ((why : Refusal) → First why → Given why) → HeedsEmptied First v ds
    → HeedsEmptied Given v ds
heeds_also First Given v ds also h = record {
  stops = h.stops;
  given = λ count is. also (FailSafe count) (h.given count is);
}

-- ---- by the deeds

-- the deeds by which a session went on are those that its trail and its changes tell
pub told_deeds : (sort : Call → Bool) (a b : WorkNow) (w : Went sort a b) (more : List Event)
    (changes : List Change)
    → b.site.line.trail ≡ a.site.line.trail ++ more → b.site.made ≡ a.site.made ++ changes
    → deeds_of more changes ≡ w.deeds
told_deeds sort a b w more changes trail made =
    let n = length a.site.made in
    let events : more ≡ events_of n w.deeds =
    append_cancel_left a.site.line.trail more (events_of n w.deeds) (sym trail ∙ w.trail) in
    let same : changes ≡ changes_in w.deeds =
    append_cancel_left a.site.made changes (changes_in w.deeds) (sym made ∙ w.made) in
    ap (λ (es : List Event). deeds_of es changes) events
    ∙ (ap (λ (cs : List Change). deeds_of (events_of n w.deeds) cs) same
    ∙ deeds_of-events_of n w.deeds w.work)

pub heeds_by : (Given : Refusal → Type 0) (sort : Call → Bool) (a b : WorkNow)
    (w : Went sort a b) → HeedsEmptied Given (view_of None a.site) w.deeds
    → HeedsBetween Given a.site b.site
heeds_by Given sort a b w heeds = λ more changes trail made.
    subst (HeedsEmptied Given (view_of None a.site))
    (sym (told_deeds sort a b w more changes trail made)) heeds

pub between_also : (First Given : Refusal → Type 0) (old new : SiteNow)
    → ((why : Refusal) → First why → Given why) → HeedsBetween First old new
    → HeedsBetween Given old new
between_also First Given old new also h = λ more changes trail made.
    heeds_also First Given (view_of None old) (deeds_of more changes) also
    (h more changes trail made)

pub heeds_of : (Given : Refusal → Type 0) (sort : Call → Bool) (a b : WorkNow)
    → HeedsBetween Given a.site b.site → (w : Went sort a b)
    → HeedsEmptied Given (view_of None a.site) w.deeds
heeds_of Given sort a b h w =
    let n = length a.site.made in
    subst (HeedsEmptied Given (view_of None a.site)) (deeds_of-events_of n w.deeds w.work)
    (h (events_of n w.deeds) (changes_in w.deeds) w.trail w.made)

-- what was shown doesn't look so in the end
pub filled_heeds : (Given : Refusal → Type 0) (v : View) (ds : List Deed) → AreWork ds
    → Each MayFollow v ds → emptied_in (view_from v ds).shown ≡ None → HeedsEmptied Given v ds
filled_heeds Given v ds work stops filled = record {
  stops = stops;
  given = λ count is.
      let never : None ≡ Some count =
      sym filled ∙ (ap emptied_in (sym (shown_last v ds work)) ∙ is) in
      absurd cc;
}

-- ---- a part that doesn't list the root

-- a listing of the root is no call of this sort
abbrev pub ListsNone : (Call → Bool) → Type 0
ListsNone sort = sort (ListDir Root) ≡ false

shows_none : (sort : Call → Bool) (client : List ℕ) (v : View) (call : Call) (reply : Option Reply)
    → ListsNone sort → (sort call ≡ true) ⊎ IsLeaseCall client call
    → shown_after v call reply ≡ v.shown
shows_none sort client v (ListDir Root) reply none (inl is) =
    let never : true ≡ false = sym is ∙ none in
    absurd cc
shows_none sort client v (ListDir Root) reply none (inr own) =
    let never : false ≡ true = about-locks client (ListDir Root) own in
    absurd cc
shows_none sort client v call reply none is = refl

-- nothing was shown, and so all may follow
pub record IsStill (v : View) (ds : List Deed) : Type 0 where
  pub stops : Each MayFollow v ds
  pub same : (view_from v ds).shown ≡ v.shown

still_on : (v : View) (d : Deed) (ds : List Deed) → emptied_in v.shown ≡ None
    → (seen v d).shown ≡ v.shown → IsStill (seen v d) ds → IsStill v (d ∷ ds)
unfolding Each view_from
still_on v d ds filled same rest =
    record { stops = (inl filled, rest.stops); same = rest.same ∙ same }

still_by : (sort : Call → Bool) (client : List ℕ) (n : ℕ) (v : View) (ds : List Deed) → AreWork ds
    → ListsNone sort → All (IsStep sort client) (events_of n ds) → emptied_in v.shown ≡ None
    → IsStill v ds
unfolding AreWork Each events_of view_from
still_by sort client n v [] work none each filled = record { stops = tt; same = refl }
still_by sort client n v (Asks call None ∷ ds) work none each filled =
    let same = shows_none sort client v call None none
    (All-head (IsStep sort client) (Sent call) (events_of n ds) each) in
    still_on v (Asks call None) ds filled same
    (still_by sort client n (seen v (Asks call None)) ds work none
    (All-tail (IsStep sort client) (Sent call) (events_of n ds) each) (ap emptied_in same ∙ filled))
still_by sort client n v (Asks call (Some reply) ∷ ds) work none each filled =
    let same = shows_none sort client v call (Some reply) none
    (All-head (IsStep sort client) (Called call reply) (events_of n ds) each) in
    still_on v (Asks call (Some reply)) ds filled same
    (still_by sort client n (seen v (Asks call (Some reply))) ds work none
    (All-tail (IsStep sort client) (Called call reply) (events_of n ds) each)
    (ap emptied_in same ∙ filled))
still_by sort client n v (Makes c ∷ ds) work none each filled =
    still_on v (Makes c) ds filled refl
    (still_by sort client (n + 1) (seen v (Makes c)) ds work.1 none
    (All-tail (IsStep sort client) (Made n) (events_of (n + 1) ds) each) filled)
still_by sort client n v (MakesUntold ∷ ds) work none each filled = absurd work
still_by sort client n v (Begins ∷ ds) work none each filled = absurd work
still_by sort client n v (Ends ∷ ds) work none each filled = absurd work
still_by sort client n v (Stops ∷ ds) work none each filled = absurd work

-- each event of the deeds is a step of the sort
steps_in : (sort : Call → Bool) (a b : WorkNow) (w : Went sort a b)
    → All (IsStep sort a.lease.client) (events_of (length a.site.made) w.deeds)
steps_in sort a b w =
    let line = w.goes.line in
    let same : line.more ≡ events_of (length a.site.made) w.deeds =
    append_cancel_left a.site.line.trail line.more (events_of (length a.site.made) w.deeds)
    (sym line.trail ∙ w.trail) in
    subst (λ (es : List Event). All (IsStep sort a.lease.client) es) same line.each

pub still_on_work : (sort : Call → Bool) (a b : WorkNow) (shown : Option Shown) → ListsNone sort
    → (w : Went sort a b) → emptied_in shown ≡ None → IsStill (view_of shown a.site) w.deeds
still_on_work sort a b shown none w filled =
    still_by sort a.lease.client (length a.site.made) (view_of shown a.site) w.deeds w.work none
    (steps_in sort a b w) filled

pub heeds_still : (Given : Refusal → Type 0) (sort : Call → Bool) (a b : WorkNow)
    → ListsNone sort → Went sort a b → HeedsBetween Given a.site b.site
heeds_still Given sort a b none w =
    let still = still_on_work sort a b None none w refl in
    heeds_by Given sort a b w
    (filled_heeds Given (view_of None a.site) w.deeds w.work still.stops
    (ap emptied_in still.same))

-- before a part that heeds it
pub heeds_behind : (Given : Refusal → Type 0) (P : Part) (sort first : Call → Bool) (a b c : WorkNow)
    → ListsNone first → Does P first a b → (h : Does P sort a b) → (k : Went sort b c)
    → HeedsBetween Given b.site c.site → HeedsBetween Given a.site c.site
unfolding went_on
heeds_behind Given P sort first a b c none done h k second =
    let v = view_of None a.site in
    let ds = h.went.deeds in
    let es = k.deeds in
    let later = heeds_of Given sort b c second k in
    let same : done.went.deeds ≡ ds =
    sym (told_deeds first a b done.went (events_of (length a.site.made) ds) (changes_in ds)
    h.went.trail h.went.made)
    ∙ deeds_of-events_of (length a.site.made) ds h.went.work in
    let still : IsStill v ds =
    subst (IsStill v) same (still_on_work first a b None none done.went refl) in
    let at : view_from v ds ≡ view_of None b.site =
    view_at sort a b h.went h.told None (h.stands None)
    ∙ ap (λ (s : Option Shown). view_of s b.site) still.same in
    let whole = went_on P sort a b c h k in
    heeds_by Given sort a c whole (record {
      stops = Each-append MayFollow v ds es still.stops
          (subst (λ (w : View). Each MayFollow w es) (sym at) later.stops);
      given = λ count is.
          let shown : last_shown (view_of None b.site) es ≡ last_shown v (ds ++ es) =
          ap (λ (w : View). last_shown w es) (sym at) ∙ last_on v ds es h.went.work in
          later.given count (ap emptied_in shown ∙ is);
    })
