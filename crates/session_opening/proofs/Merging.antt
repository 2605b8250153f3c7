-- Each put of the info has its licence, over the parts of a session.
use Rattle.std.specs.Prelude.{ℕ, ◌≡◌, ◌⊎◌, ◌+◌, List, [], ◌∷◌, ◌++◌, All, Bool, true, false, Option, Some, None, bytes_eq, length}
use Rattle.std.proofs.Common.{◌∙◌, sym, ap, subst, append-nil, inl, inr}
use Rattle.std.proofs.lemmas.List.{append_cancel_left}
use Rattle.std.proofs.lemmas.List.Elements.{All-head, All-tail}
use Rattle.jop_base.proofs.KeyedLaws.{same_text}
use Rattle.jop_base.specs.declared.path.Path.TheVariants.{Info as InfoFile}
use Rattle.jop_target.specs.declared.call.Call.{Call}
use Rattle.jop_target.specs.declared.call.Call.TheVariants.{Put}
use Rattle.jop_target.specs.declared.event.Event.{Event}
use Rattle.jop_target.specs.declared.event.Event.TheVariants.{Began, Sent, Called, Made, Ended}
use Rattle.jop_target.specs.declared.reply.Reply.{Reply}
use Rattle.lease.specs.Calls.{IsLeaseCall}
use Rattle.law_licences.proofs.Joins.{Each-append}
use Rattle.law_licences.proofs.Told.{deeds_of-events_of}
use Rattle.law_licences.specs.Deeds.{Deed, Begins, Asks, Makes, MakesUntold, Ends, Stops, changes_in, deeds_of, events_of}
use Rattle.law_licences.specs.Infos.{MayPutInfo, info_read}
use Rattle.law_licences.specs.Licences.{AreWork, Each, MayMerge, MaySend, MergesInfo}
use Rattle.law_licences.specs.Views.{Shown, View, view_after_call, is_lock_file, seen, view_from}
use Rattle.local_store.specs.declared.change.Change.{Change}
use Rattle.session_opening.specs.Opening.{MergesBetween}
use Rattle.session.proofs.Joins.{view_at, went_on}
use Rattle.session.proofs.LockDeeds.{about-locks}
use Rattle.session.proofs.Seen.{heard-locks}
use Rattle.session.specs.Doing.{Does, Went}
use Rattle.session.specs.Parts.{Part}
use Rattle.session.specs.Steps.{IsStep}
use Rattle.session.specs.Work.{WorkNow, view_of}

-- ---- by the deeds

-- the deeds by which a session went on are those that its trail and its changes tell
deeds_are : (sort : Call → Bool) (a b : WorkNow) (w : Went sort a b) (more : List Event)
    (changes : List Change)
    → b.site.line.trail ≡ a.site.line.trail ++ more → b.site.made ≡ a.site.made ++ changes
    → deeds_of more changes ≡ w.deeds
deeds_are sort a b w more changes trail made =
    let n = length a.site.made in
    let events : more ≡ events_of n w.deeds =
    append_cancel_left a.site.line.trail more (events_of n w.deeds) (sym trail ∙ w.trail) in
    let same : changes ≡ changes_in w.deeds =
    append_cancel_left a.site.made changes (changes_in w.deeds) (sym made ∙ w.made) in
    ap (λ (es : List Event). deeds_of es changes) events
    ∙ (ap (λ (cs : List Change). deeds_of (events_of n w.deeds) cs) same
    ∙ deeds_of-events_of n w.deeds w.work)

pub merges_by : (sort : Call → Bool) (a b : WorkNow) (w : Went sort a b)
    → ((shown : Option Shown) → MergesInfo (view_of shown a.site) w.deeds)
    → MergesBetween a.site b.site
merges_by sort a b w each = λ more changes shown trail made.
    subst (MergesInfo (view_of shown a.site)) (sym (deeds_are sort a b w more changes trail made))
    (each shown)

pub merges_of : (sort : Call → Bool) (a b : WorkNow) → MergesBetween a.site b.site
    → (w : Went sort a b) (shown : Option Shown) → MergesInfo (view_of shown a.site) w.deeds
merges_of sort a b h w shown =
    let n = length a.site.made in
    subst (MergesInfo (view_of shown a.site)) (deeds_of-events_of n w.deeds w.work)
    (h (events_of n w.deeds) (changes_in w.deeds) shown w.trail w.made)

-- behind a part that was done
pub merges_on : (P : Part) (sort : Call → Bool) (a b c : WorkNow) → Does P sort a b
    → Went sort b c → MergesBetween a.site b.site → MergesBetween b.site c.site
    → MergesBetween a.site c.site
unfolding went_on
merges_on P sort a b c h k first second =
    merges_by sort a c (went_on P sort a b c h k)
    (λ shown.
    let v = view_of shown a.site in
    Each-append MayMerge v h.went.deeds k.deeds (merges_of sort a b first h.went shown)
    (subst (λ (w : View). Each MayMerge w k.deeds)
    (sym (view_at sort a b h.went h.told shown (h.stands shown)))
    (merges_of sort b c second k (view_from v h.went.deeds).shown)))

-- ---- a part that puts no info

-- a put of the info is no call of this sort
abbrev pub PutsNone : (Call → Bool) → Type 0
PutsNone sort = (content : List ℕ) → sort (Put InfoFile content) ≡ false

no_lock : (client content : List ℕ) → IsLeaseCall client (Put InfoFile content) → ⊥
no_lock client content own =
    let no : false ≡ true = ap is_lock_file own.1 in
    cc

may_send : (sort : Call → Bool) (client : List ℕ) (v : View) (call : Call) → PutsNone sort
    → (sort call ≡ true) ⊎ IsLeaseCall client call → MaySend v call
may_send sort client v (Put InfoFile content) none (inl is) =
    let no : true ≡ false = sym is ∙ none content in
    absurd cc
may_send sort client v (Put InfoFile content) none (inr own) =
    absurd (no_lock client content own)
may_send sort client v call none is = tt

none_put : (sort : Call → Bool) (client : List ℕ) (n : ℕ) (v : View) (ds : List Deed)
    → PutsNone sort → All (IsStep sort client) (events_of n ds) → MergesInfo v ds
unfolding Each events_of
none_put sort client n v [] none each = tt
none_put sort client n v (Asks call None ∷ ds) none each = (
  may_send sort client v call none
      (All-head (IsStep sort client) (Sent call) (events_of n ds) each),
  none_put sort client n (seen v (Asks call None)) ds none
      (All-tail (IsStep sort client) (Sent call) (events_of n ds) each),
)
none_put sort client n v (Asks call (Some reply) ∷ ds) none each = (
  may_send sort client v call none
      (All-head (IsStep sort client) (Called call reply) (events_of n ds) each),
  none_put sort client n (seen v (Asks call (Some reply))) ds none
      (All-tail (IsStep sort client) (Called call reply) (events_of n ds) each),
)
none_put sort client n v (Makes c ∷ ds) none each = (
  tt,
  none_put sort client (n + 1) (seen v (Makes c)) ds none
      (All-tail (IsStep sort client) (Made n) (events_of (n + 1) ds) each),
)
none_put sort client n v (MakesUntold ∷ ds) none each = (
  tt,
  none_put sort client (n + 1) (seen v MakesUntold) ds none
      (All-tail (IsStep sort client) (Made n) (events_of (n + 1) ds) each),
)
none_put sort client n v (Begins ∷ ds) none each =
    absurd (All-head (IsStep sort client) Began (events_of n ds) each)
none_put sort client n v (Ends ∷ ds) none each =
    absurd (All-head (IsStep sort client) Ended (events_of n ds) each)
none_put sort client n v (Stops ∷ ds) none each =
    (tt, none_put sort client n (seen v Stops) ds none each)

-- each event of the deeds is a step of the sort
steps_of : (sort : Call → Bool) (a b : WorkNow) (w : Went sort a b)
    → All (IsStep sort a.lease.client) (events_of (length a.site.made) w.deeds)
steps_of sort a b w =
    let line = w.goes.line in
    let same : line.more ≡ events_of (length a.site.made) w.deeds =
    append_cancel_left a.site.line.trail line.more (events_of (length a.site.made) w.deeds)
    (sym line.trail ∙ w.trail) in
    subst (λ (es : List Event). All (IsStep sort a.lease.client) es) same line.each

pub merges_none : (sort : Call → Bool) (a b : WorkNow) → PutsNone sort → Went sort a b
    → MergesBetween a.site b.site
merges_none sort a b none w =
    merges_by sort a b w
    (λ shown. none_put sort a.lease.client (length a.site.made) (view_of shown a.site) w.deeds none
    (steps_of sort a b w))

-- ---- the put

-- a put of the info as this text
abbrev pub puts_text : List ℕ → Call → Bool
puts_text text (Put InfoFile content) = bytes_eq content text
puts_text text call = false

may_put : (client text : List ℕ) (v : View) (call : Call)
    → (puts_text text call ≡ true) ⊎ IsLeaseCall client call → MayPutInfo v text → MaySend v call
may_put client text v (Put InfoFile content) (inl is) may =
    subst (MayPutInfo v) (sym (same_text content text is)) may
may_put client text v (Put InfoFile content) (inr own) may = absurd (no_lock client content own)
may_put client text v call is may = tt

-- such a put changes nothing of what its licence asks
may_still : (client text : List ℕ) (v : View) (call : Call) (reply : Option Reply)
    → (puts_text text call ≡ true) ⊎ IsLeaseCall client call → MayPutInfo v text
    → MayPutInfo (view_after_call v call reply) text
unfolding info_read
may_still client text v call reply (inr own) may =
    subst (λ (w : View). MayPutInfo w text)
    (sym (heard-locks v call reply (about-locks client call own))) may
may_still client text v (Put InfoFile content) reply (inl is) may =
    record { remote = may.remote; read = may.read; text = may.text; differs = may.differs }
may_still client text v call reply (inl is) may = absurd cc

all_put : (client text : List ℕ) (n : ℕ) (v : View) (ds : List Deed) → AreWork ds
    → changes_in ds ≡ [] → All (IsStep (puts_text text) client) (events_of n ds)
    → MayPutInfo v text → MergesInfo v ds
unfolding Each events_of changes_in AreWork
all_put client text n v [] work none each may = tt
all_put client text n v (Asks call None ∷ ds) work none each may =
    let is = All-head (IsStep (puts_text text) client) (Sent call) (events_of n ds) each in (
      may_put client text v call is may,
      all_put client text n (view_after_call v call None) ds work none
          (All-tail (IsStep (puts_text text) client) (Sent call) (events_of n ds) each)
          (may_still client text v call None is may),
    )
all_put client text n v (Asks call (Some reply) ∷ ds) work none each may =
    let is = All-head (IsStep (puts_text text) client) (Called call reply) (events_of n ds) each in (
      may_put client text v call is may,
      all_put client text n (view_after_call v call (Some reply)) ds work none
          (All-tail (IsStep (puts_text text) client) (Called call reply) (events_of n ds) each)
          (may_still client text v call (Some reply) is may),
    )
all_put client text n v (Makes c ∷ ds) work none each may = absurd cc
all_put client text n v (MakesUntold ∷ ds) work none each may = absurd work
all_put client text n v (Begins ∷ ds) work none each may = absurd work
all_put client text n v (Ends ∷ ds) work none each may = absurd work
all_put client text n v (Stops ∷ ds) work none each may = absurd work

pub merges_put : (text : List ℕ) (a b : WorkNow) → Went (puts_text text) a b
    → b.site.made ≡ a.site.made
    → ((shown : Option Shown) → MayPutInfo (view_of shown a.site) text)
    → MergesBetween a.site b.site
merges_put text a b w made may =
    let none : changes_in w.deeds ≡ [] =
    append_cancel_left a.site.made (changes_in w.deeds) []
    (sym w.made ∙ (made ∙ sym (append-nil a.site.made))) in
    merges_by (puts_text text) a b w
    (λ shown. all_put a.lease.client text (length a.site.made) (view_of shown a.site) w.deeds w.work
    none (steps_of (puts_text text) a b w) (may shown))
