-- Behind what looks like an emptied target nothing is done but about locks.
use Rattle.std.specs.Prelude.{ℕ, ◌≡◌, ◌+◌, ◌≤◌, List, [], ◌∷◌, ◌++◌, Bool, true, false, if◌then◌else◌, length, Option, Some, None, refl}
use Rattle.std.proofs.Common.{arith, ◌∙◌, sym, ap, subst, inl, inr}
use Rattle.conflicts.specs.declared.refusal.Refusal.{Refusal}
use Rattle.conflicts.specs.declared.refusal.Refusal.TheVariants.{FailSafe}
use Rattle.download.specs.Emptied.{HeedsBetween, HeedsEmptied, MayFollow, emptied_in}
use Rattle.jop_base.specs.declared.dir.Dir.TheVariants.{Root}
use Rattle.jop_target.specs.declared.call.Call.{Call}
use Rattle.jop_target.specs.declared.call.Call.TheVariants.{List as ListDir}
use Rattle.jop_target.specs.declared.reply.Listing.{Listing}
use Rattle.jop_target.specs.declared.reply.Reply.{Reply}
use Rattle.jop_target.specs.declared.reply.Reply.TheVariants.{Listed}
use Rattle.law_licences.proofs.Joins.{Each-append, view_from-append}
use Rattle.law_licences.proofs.Told.{calls-view_from, calls_from-append, deeds_of-events_of}
use Rattle.law_licences.specs.Deeds.{Deed, Begins, Asks, Makes, MakesUntold, Ends, Stops, changes_in, events_of}
use Rattle.law_licences.specs.Licences.{AreWork, Each}
use Rattle.law_licences.specs.Pages.{emptied_by}
use Rattle.law_licences.specs.Trails.{session_calls}
use Rattle.law_licences.specs.Views.{Heard, Shown, View, view_after_call, is_about_locks, seen, shown_after, shown_to, view_from, with_call}
use Rattle.session.proofs.Joins.{view_at, went_on}
use Rattle.session.proofs.LockDeeds.{AreCalls-locks, AreLocks, AreWork-calls, but_locks-locks, view_from-locks}
use Rattle.session.proofs.Seen.{heard-locks, view_from-but_locks}
use Rattle.session.specs.Asking.{IsAskedInVain}
use Rattle.session.specs.Doing.{Does, Went}
use Rattle.session.specs.Parts.{Hears, but_locks}
use Rattle.session.specs.Work.{WorkNow, view_of}
use Rattle.download.proofs.Still.{IsStill, ListsNone, filled_heeds, heeds_by, shown_last, still_on_work, told_deeds}

-- ---- the listing

first_lock : (about : Bool) (call : Call) (reply : Option Reply) (ds : List Deed)
    → (if about then ds else Asks call reply ∷ ds) ≡ [] → (about ≡ true) × (ds ≡ [])
first_lock true call reply ds none = (refl, none)
first_lock false call reply ds none = absurd cc

-- calls about locks alone
all_locks : (v : View) (ds : List Deed) → AreWork ds → but_locks ds ≡ [] → Each MayFollow v ds
unfolding AreWork but_locks Each
all_locks v [] work none = tt
all_locks v (Asks call reply ∷ ds) work none =
    let first = first_lock (is_about_locks call) call reply (but_locks ds) none in
    (inr first.0, all_locks (seen v (Asks call reply)) ds work first.1)
all_locks v (Makes c ∷ ds) work none = absurd cc
all_locks v (Begins ∷ ds) work none = absurd work
all_locks v (MakesUntold ∷ ds) work none = absurd work
all_locks v (Ends ∷ ds) work none = absurd work
all_locks v (Stops ∷ ds) work none = absurd work

-- a lease's own calls show nothing
pub heeds-locks : (Given : Refusal → Type 0) (client : List ℕ) (v : View) (ds : List Deed)
    → AreLocks client ds
    → ((count : ℕ) → emptied_in v.shown ≡ Some count → Given (FailSafe count))
    → HeedsEmptied Given v ds
heeds-locks Given client v ds locks given =
    let work = AreWork-calls ds (AreCalls-locks client ds locks) in
    record {
      stops = all_locks v ds work (but_locks-locks client ds locks);
      given = λ count is.
          given count
          (ap (λ (w : View). emptied_in w.shown) (sym (view_from-locks client v ds locks))
          ∙ (ap emptied_in (sym (shown_last v ds work)) ∙ is));
    }

one_first : (about : Bool) (v : View) (other call : Call) (answer reply : Option Reply)
    (ds : List Deed) → is_about_locks other ≡ about → AreWork ds
    → (if about then but_locks ds else Asks other answer ∷ but_locks ds) ≡ Asks call reply ∷ []
    → emptied_in v.shown ≡ None
    → (but_locks ds ≡ Asks call reply ∷ [] → emptied_in (view_after_call v other answer).shown ≡ None
    → Each MayFollow (view_after_call v other answer) ds)
    → Each MayFollow (view_after_call v other answer) ds
one_first true v other call answer reply ds about work is filled later =
    later is
    (ap (λ (w : View). emptied_in w.shown) (heard-locks v other answer about) ∙ filled)
one_first false v other call answer reply ds about work is filled later =
    let rest : but_locks ds ≡ [] = cc in
    all_locks (view_after_call v other answer) ds work rest

-- one call, with calls about locks beside it
one_call : (v : View) (ds : List Deed) (call : Call) (reply : Option Reply) → AreWork ds
    → but_locks ds ≡ Asks call reply ∷ [] → emptied_in v.shown ≡ None → Each MayFollow v ds
unfolding AreWork but_locks Each
one_call v [] call reply work is filled = tt
one_call v (Asks other answer ∷ ds) call reply work is filled = (
  inl filled,
  one_first (is_about_locks other) v other call answer reply ds refl work is filled
      (λ rest still. one_call (view_after_call v other answer) ds call reply work rest still),
)
one_call v (Makes c ∷ ds) call reply work is filled = absurd cc
one_call v (Begins ∷ ds) call reply work is filled = absurd work
one_call v (MakesUntold ∷ ds) call reply work is filled = absurd work
one_call v (Ends ∷ ds) call reply work is filled = absurd work
one_call v (Stops ∷ ds) call reply work is filled = absurd work

-- what a listing that was answered has shown
pub record HasShown (listing : Listing) (v : View) (ds : List Deed) : Type 0 where
  pub stops : Each MayFollow v ds
  pub shown : (view_from v ds).shown ≡ Some (shown_to v.tables listing)

pub has_shown : (listing : Listing) (sort : Call → Bool) (a b : WorkNow)
    → (h : Does (Hears (ListDir Root) (Listed listing)) sort a b)
    → HasShown listing (view_of None a.site) h.went.deeds
unfolding view_from
has_shown listing sort a b h =
    let v = view_of None a.site in
    let ds = h.went.deeds in
    record {
      stops = one_call v ds (ListDir Root) (Some (Listed listing)) h.went.work (h.part None) refl;
      shown =
          ap (λ (w : View). w.shown) (sym (view_from-but_locks v ds))
          ∙ ap (λ (es : List Deed). (view_from v es).shown) (h.part None);
    }

-- it looks like an emptied target, and is told so
pub heeds_emptied : (Given : Refusal → Type 0) (listing : Listing) (sort : Call → Bool)
    (a b : WorkNow) → Does (Hears (ListDir Root) (Listed listing)) sort a b
    → ((count : ℕ) → emptied_by (shown_to a.site.tables listing) ≡ Some count
    → Given (FailSafe count)) → HeedsBetween Given a.site b.site
heeds_emptied Given listing sort a b h given =
    let v = view_of None a.site in
    let ds = h.went.deeds in
    let has = has_shown listing sort a b h in
    heeds_by Given sort a b h.went (record {
      stops = has.stops;
      given = λ count is.
          given count
          (ap emptied_in (sym has.shown ∙ sym (shown_last v ds h.went.work)) ∙ is);
    })

-- or it doesn't, and then nothing is listed
pub heeds_listed : (Given : Refusal → Type 0) (listing : Listing) (sort : Call → Bool)
    (a b c : WorkNow) → (h : Does (Hears (ListDir Root) (Listed listing)) sort a b)
    → emptied_by (shown_to a.site.tables listing) ≡ None → (k : Went sort b c)
    → (narrow : Call → Bool) → ListsNone narrow → Went narrow b c
    → HeedsBetween Given a.site c.site
unfolding went_on
heeds_listed Given listing sort a b c h safe k narrow none w =
    let v = view_of None a.site in
    let ds = h.went.deeds in
    let es = k.deeds in
    let has = has_shown listing sort a b h in
    let known = Some (shown_to a.site.tables listing) in
    let n = length b.site.made in
    let same : w.deeds ≡ es =
    sym (told_deeds narrow b c w (events_of n es) (changes_in es) k.trail k.made)
    ∙ deeds_of-events_of n es k.work in
    let still : IsStill (view_of known b.site) es =
    subst (IsStill (view_of known b.site)) same (still_on_work narrow b c known none w safe) in
    let at : view_from v ds ≡ view_of known b.site =
    view_at sort a b h.went h.told None (h.stands None)
    ∙ ap (λ (s : Option Shown). view_of s b.site) has.shown in
    let whole = went_on (Hears (ListDir Root) (Listed listing)) sort a b c h k in
    heeds_by Given sort a c whole
    (filled_heeds Given v (ds ++ es) whole.work
    (Each-append MayFollow v ds es has.stops
    (subst (λ (w : View). Each MayFollow w es) (sym at) still.stops))
    (ap (λ (w : View). emptied_in w.shown) (view_from-append v ds es)
    ∙ (ap (λ (w : View). emptied_in (view_from w es).shown) at
    ∙ (ap emptied_in still.same ∙ safe))))

-- ---- a listing in vain

-- whether a listing of the root was answered
abbrev is_shown : Call → Option Reply → Bool
is_shown (ListDir Root) (Some (Listed listing)) = true
is_shown call reply = false

-- how many were
unfoldable listings : List Heard → ℕ
listings [] = 0
listings (h ∷ calls) = if is_shown h.call h.reply then listings calls + 1 else listings calls

one_more : (shown : Bool) (n : ℕ) → n ≤ (if shown then n + 1 else n)
one_more true n = omega arith
one_more false n = omega arith

more_called : (about : Bool) (h : Heard) (calls : List Heard)
    → listings calls ≤ listings (if about then calls else h ∷ calls)
unfolding listings
more_called true h calls = omega arith
more_called false h calls = one_more (is_shown h.call h.reply) (listings calls)

-- they don't get fewer
more_seen : (v : View) (ds : List Deed) → AreWork ds
    → listings v.calls ≤ listings (view_from v ds).calls
unfolding AreWork view_from
more_seen v [] work = omega arith
more_seen v (Asks call reply ∷ ds) work =
    let first = more_called (is_about_locks call) (record { call = call; reply = reply }) v.calls in
    let rest = more_seen (view_after_call v call reply) ds work in
    omega (arith, first, rest)
more_seen v (Makes c ∷ ds) work = more_seen (seen v (Makes c)) ds work.1
more_seen v (Begins ∷ ds) work = absurd work
more_seen v (MakesUntold ∷ ds) work = absurd work
more_seen v (Ends ∷ ds) work = absurd work
more_seen v (Stops ∷ ds) work = absurd work

not_shown : (call : Call) (reply : Option Reply) (calls : List Heard)
    → listings (with_call call reply calls) ≤ listings calls → is_shown call reply ≡ false
unfolding listings
not_shown (ListDir Root) (Some (Listed listing)) calls few =
    let never : 1 ≤ 0 = omega (arith, few) in
    absurd (omega (arith, never))
not_shown call reply calls few = refl

filled_still : (v : View) (call : Call) (reply : Option Reply) → is_shown call reply ≡ false
    → emptied_in v.shown ≡ None → emptied_in (shown_after v call reply) ≡ None
filled_still v (ListDir Root) (Some (Listed listing)) unshown filled = absurd cc
filled_still v (ListDir Root) reply unshown filled = refl
filled_still v call reply unshown filled = filled

-- nothing looks like an emptied target
record StaysFilled (v : View) (ds : List Deed) : Type 0 where
  stops : Each MayFollow v ds
  filled : emptied_in (view_from v ds).shown ≡ None

filled_on : (v : View) (d : Deed) (ds : List Deed) → emptied_in v.shown ≡ None
    → StaysFilled (seen v d) ds → StaysFilled v (d ∷ ds)
unfolding Each view_from
filled_on v d ds filled rest = record { stops = (inl filled, rest.stops); filled = rest.filled }

-- no listing was answered
filled_by : (v : View) (ds : List Deed) → AreWork ds
    → listings (view_from v ds).calls ≤ listings v.calls → emptied_in v.shown ≡ None
    → StaysFilled v ds
unfolding AreWork Each view_from
filled_by v [] work few filled = record { stops = tt; filled = filled }
filled_by v (Asks call reply ∷ ds) work few filled =
    let w = view_after_call v call reply in
    let first = more_called (is_about_locks call) (record { call = call; reply = reply }) v.calls in
    let rest = more_seen w ds work in
    let unshown = not_shown call reply v.calls (omega (arith, few, rest)) in
    filled_on v (Asks call reply) ds filled
    (filled_by w ds work (omega (arith, few, first)) (filled_still v call reply unshown filled))
filled_by v (Makes c ∷ ds) work few filled =
    filled_on v (Makes c) ds filled (filled_by (seen v (Makes c)) ds work.1 few filled)
filled_by v (Begins ∷ ds) work few filled = absurd work
filled_by v (MakesUntold ∷ ds) work few filled = absurd work
filled_by v (Ends ∷ ds) work few filled = absurd work
filled_by v (Stops ∷ ds) work few filled = absurd work

-- a listing in vain shows nothing
vain_listings : (a b : WorkNow) → IsAskedInVain (ListDir Root) a.site b.site
    → listings (session_calls b.site.line.trail) ≡ listings (session_calls a.site.line.trail)
unfolding listings
vain_listings a b (inl same) = ap listings same
vain_listings a b (inr (inl none)) = ap listings none
vain_listings a b (inr (inr failed)) = ap listings failed

pub heeds_vain : (Given : Refusal → Type 0) (sort : Call → Bool) (a b : WorkNow)
    → IsAskedInVain (ListDir Root) a.site b.site → Went sort a b
    → HeedsBetween Given a.site b.site
heeds_vain Given sort a b vain w =
    let v = view_of None a.site in
    let n = length a.site.made in
    let calls : session_calls b.site.line.trail ≡ (view_from v w.deeds).calls =
    ap session_calls w.trail
    ∙ (calls_from-append [] a.site.line.trail (events_of n w.deeds)
    ∙ sym (calls-view_from n v w.deeds w.work)) in
    let few = ap listings (sym calls) ∙ vain_listings a b vain in
    let filled = filled_by v w.deeds w.work (omega (arith, few)) refl in
    heeds_by Given sort a b w
    (filled_heeds Given v w.deeds w.work filled.stops filled.filled)
