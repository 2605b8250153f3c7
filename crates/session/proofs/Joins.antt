-- How parts of a session join.
use Rattle.std.specs.Prelude.{ℕ, ◌+◌, ◌≡◌, List, [], ◌∷◌, ◌++◌, length, option_map, Bool, true, false, ◌||◌, Option, Some, None, refl}
use Rattle.std.proofs.Common.{sym, ap, subst, ◌∙◌, arith}
use Rattle.std.proofs.lemmas.List.{append_assoc}
use Rattle.std.proofs.Math.ListN.{length-append}
use Rattle.conflicts.specs.declared.report.SyncReport.{SyncReport}
use Rattle.jop_target.proofs.Runs.{has_failed-append}
use Rattle.jop_target.specs.Runs.{has_failed}
use Rattle.jop_target.specs.declared.call.Call.{Call}
use Rattle.jop_target.specs.declared.event.Event.{Event}
use Rattle.lease.proofs.Sessions.{goes_on, session_from-append}
use Rattle.lease.specs.Calls.{GoesOn}
use Rattle.lease.specs.Discipline.{Session, outside, session_from, session_of}
use Rattle.lease.specs.Standing.{IsSameBut}
use Rattle.lease.specs.declared.lease.Lease.{Lease}
use Rattle.law_licences.proofs.Joins.{Each-append, view_from-append}
use Rattle.law_licences.proofs.Told.{AreWork-append, calls-view_from, calls_from-append, changes_in-append, events_of-append, tables-view_from}
use Rattle.law_licences.specs.Deeds.{Deed, Begins, Asks, Makes, MakesUntold, Ends, Stops, changes_in, events_of}
use Rattle.law_licences.specs.Licences.{Each, MayDo}
use Rattle.law_licences.specs.Trails.{session_calls}
use Rattle.law_licences.specs.Views.{Shown, Stage, View, Working, seen, view_from}
use Rattle.local_store.proofs.Telling.{after_all-append}
use Rattle.local_store.specs.Changing.{after_all}
use Rattle.keeper.specs.Keepers.{Kept}
use Rattle.keeper.specs.declared.blob.Blob.{Blob}
use Rattle.local_store.specs.declared.change.Change.{Change}
use Rattle.local_store.specs.declared.tables.Tables.{Tables}
use Rattle.session.proofs.Saves.{got_both, saved_all-append}
use Rattle.session.proofs.Seen.{but_locks-append, reported-append, view_from-but_locks}
use Rattle.session.proofs.Sorted.{works_by-append}
use Rattle.session.specs.Doing.{Does, DoesTo, IsTold, Went}
use Rattle.session.specs.Parts.{Part, Then, but_locks}
use Rattle.session.specs.Reported.{reported}
use Rattle.session.specs.Steps.{IsStep, works_by}
use Rattle.session.specs.Saving.{Told, kept_after_saves, saved_all}
use Rattle.session.specs.Work.{MayBeShown, WorkNow, view_of}

-- ---- small parts

kept_of : Tables → List Blob → Option Kept
kept_of tables blobs = Some (record { tables = tables; blobs = blobs })

pub kept_after-append : (kept : Option Kept) (cs ds : List Change) (xs ys : List Blob)
    → option_map (kept_after_saves ds ys) (option_map (kept_after_saves cs xs) kept)
    ≡ option_map (kept_after_saves (cs ++ ds) (xs ++ ys)) kept
unfolding kept_of
kept_after-append None cs ds xs ys = refl
kept_after-append (Some k) cs ds xs ys =
    ap (λ (t : Tables). kept_of t (saved_all (saved_all k.blobs xs) ys))
    (sym (after_all-append k.tables cs ds))
    ∙ ap (λ (bs : List Blob). kept_of (after_all k.tables (cs ++ ds)) bs)
    (sym (saved_all-append k.blobs xs ys))

pub client_is : (a b : Lease) → IsSameBut a b → b.client ≡ a.client
client_is a b same = ap (λ (l : Lease). l.client) same

pub same_but : (a b c : Lease) → IsSameBut a b → IsSameBut b c → IsSameBut a c
same_but a b c h k =
    k ∙ ap (λ (l : Lease). record l { stamp = c.stamp }) h

-- the number of the next change
pub count_is : (a b : List Change) (ds : List Deed) → b ≡ a ++ changes_in ds
    → length a + length (changes_in ds) ≡ length b
count_is a b ds h = sym (ap (λ (x : List Change). length x) h ∙ length-append a (changes_in ds))

-- the trail behind both parts
pub trail_is : (a b c : List Event) (n m : ℕ) (ds es : List Deed)
    → b ≡ a ++ events_of n ds → c ≡ b ++ events_of m es
    → events_of n (ds ++ es) ≡ events_of n ds ++ events_of m es
    → c ≡ a ++ events_of n (ds ++ es)
trail_is a b c n m ds es h k both =
    k ∙ (ap (λ (t : List Event). t ++ events_of m es) h
    ∙ (append_assoc a (events_of n ds) (events_of m es)
    ∙ ap (λ (t : List Event). a ++ t) (sym both)))

-- ---- what is seen between

-- no deed changes the keys
pub keys-view_from : (v : View) (ds : List Deed) → (view_from v ds).sealing ≡ v.sealing
unfolding view_from
keys-view_from v [] = refl
keys-view_from v (Begins ∷ ds) = keys-view_from (seen v Begins) ds
keys-view_from v (Asks call reply ∷ ds) = keys-view_from (seen v (Asks call reply)) ds
keys-view_from v (Makes c ∷ ds) = keys-view_from (seen v (Makes c)) ds
keys-view_from v (MakesUntold ∷ ds) = keys-view_from v ds
keys-view_from v (Ends ∷ ds) = keys-view_from (seen v Ends) ds
keys-view_from v (Stops ∷ ds) = keys-view_from (seen v Stops) ds

pub seen_between : (v w : View) → v.tables ≡ w.tables → v.calls ≡ w.calls → v.shown ≡ w.shown
    → v.stage ≡ w.stage → v.sealing ≡ w.sealing → v ≡ w
seen_between v w t c s g k =
    λ i. record { tables = t i; calls = c i; shown = s i; stage = g i; sealing = k i }

-- behind a part that leaves more to do, what is seen is what the client shows
pub view_at : (sort : Call → Bool) (a b : WorkNow) (w : Went sort a b) (told : IsTold a b w.deeds)
    (shown : Option Shown)
    → (view_from (view_of shown a.site) w.deeds).stage ≡ Working
    → view_from (view_of shown a.site) w.deeds
    ≡ view_of (view_from (view_of shown a.site) w.deeds).shown b.site
view_at sort a b w told shown working =
    let v = view_of shown a.site in
    let calls : session_calls b.site.line.trail ≡ (view_from v w.deeds).calls =
    ap session_calls w.trail
    ∙ (calls_from-append [] a.site.line.trail (events_of (length a.site.made) w.deeds)
    ∙ sym (calls-view_from (length a.site.made) v w.deeds w.work)) in
    let tables : (view_from v w.deeds).tables ≡ b.site.tables =
    tables-view_from v w.deeds w.work ∙ sym told.tables in
    seen_between (view_from v w.deeds) (view_of (view_from v w.deeds).shown b.site)
    tables (sym calls) refl working (keys-view_from v w.deeds)

-- ---- parts

-- what was done behind a part, which left more to do, was done from where it began
unfoldable pub went_on : (P : Part) (sort : Call → Bool) (a b c : WorkNow)
    → Does P sort a b → Went sort b c → Went sort a c
went_on P sort a b c h k =
    let n = length a.site.made in
    let ds = h.went.deeds in
    let es = k.deeds in
    let client = a.lease.client in
    let of_a : b.lease.client ≡ client = client_is a.lease b.lease h.went.same in
    let changes = changes_in-append ds es in
    let both : events_of n (ds ++ es) ≡ events_of n ds ++ events_of (length b.site.made) es =
    events_of-append n ds es h.went.work
    ∙ ap (λ (m : ℕ). events_of n ds ++ events_of m es)
    (count_is a.site.made b.site.made ds h.went.made) in
    let between : session_of client b.site.line.trail
    ≡ session_from client (session_of client a.site.line.trail) (events_of n ds) =
    ap (session_of client) h.went.trail
    ∙ session_from-append client outside a.site.line.trail (events_of n ds) in
    record {
      deeds = ds ++ es;
      saves = h.went.saves ++ k.saves;
      owed = k.owed;
      trail = trail_is a.site.line.trail b.site.line.trail c.site.line.trail n
          (length b.site.made) ds es h.went.trail k.trail both;
      made =
          k.made ∙ (ap (λ (x : List Change). x ++ changes_in es) h.went.made
          ∙ (append_assoc a.site.made (changes_in ds) (changes_in es)
          ∙ ap (λ (x : List Change). a.site.made ++ x) (sym changes)));
      kept =
          k.kept ∙ (ap (option_map (kept_after_saves (changes_in es) k.saves)) h.went.kept
          ∙ (kept_after-append a.site.keeper.kept (changes_in ds) (changes_in es) h.went.saves
          k.saves
          ∙ ap (λ (x : List Change).
          option_map (kept_after_saves x (h.went.saves ++ k.saves)) a.site.keeper.kept)
          (sym changes)));
      got = got_both ds es h.went.saves k.saves h.went.owed k.owed h.went.got h.owes k.got;
      work = AreWork-append ds es h.went.work k.work;
      obeys = λ shown fits.
          Each-append MayDo (view_of shown a.site) ds es (h.went.obeys shown fits)
          (subst (λ (v : View). Each MayDo v es)
          (sym (view_at sort a b h.went h.told shown (h.stands shown)))
          (k.obeys (view_from (view_of shown a.site) ds).shown (h.sees shown fits)));
      goes = goes_on (IsStep sort client) client a.site.line b.site.line c.site.line
          h.went.goes
          (subst (λ (x : List ℕ). GoesOn (IsStep sort x) x b.site.line c.site.line) of_a k.goes);
      sorted = subst
          (λ (x : List Event). works_by sort client (session_of client a.site.line.trail) x ≡ true)
          (sym both)
          (works_by-append sort client (session_of client a.site.line.trail) (events_of n ds)
          (events_of (length b.site.made) es) h.went.sorted
          (subst (λ (s : Session).
          works_by sort client s (events_of (length b.site.made) es) ≡ true)
          between
          (subst (λ (x : List ℕ).
          works_by sort x (session_of x b.site.line.trail)
          (events_of (length b.site.made) es) ≡ true)
          of_a k.sorted)));
      later = omega (arith, h.went.later, k.later);
      same = same_but a.lease b.lease c.lease h.went.same k.same;
      place = k.place ∙ h.went.place;
    }

-- and its tables and report are those of both
pub told_on : (P : Part) (sort : Call → Bool) (a b c : WorkNow) (h : Does P sort a b)
    (k : Went sort b c) → IsTold b c k.deeds → IsTold a c (went_on P sort a b c h k).deeds
unfolding went_on
told_on P sort a b c h k told =
    let ds = h.went.deeds in
    let es = k.deeds in
    record {
      tidy = told.tidy;
      tables =
          told.tables
          ∙ (ap (λ (t : Tables). after_all t (changes_in es)) h.told.tables
          ∙ (sym (after_all-append a.site.tables (changes_in ds) (changes_in es))
          ∙ ap (λ (x : List Change). after_all a.site.tables x) (sym (changes_in-append ds es))));
      report = λ shown.
          let v = view_of shown a.site in
          let at = view_at sort a b h.went h.told shown (h.stands shown) in
          told.report (view_from v ds).shown
          ∙ (ap (λ (r : SyncReport). reported (view_of (view_from v ds).shown b.site) r es)
          (h.told.report shown)
          ∙ (ap (λ (w : View). reported w (reported v a.report ds) es) (sym at)
          ∙ sym (reported-append v a.report ds es)));
    }

pub neither : (a b : Bool) → a ≡ false → b ≡ false → (a || b) ≡ false
neither true b h k = h
neither false b h k = k

-- one part, and then another
unfoldable pub does_then : {there : Stage} {left : List Told} (P Q : Part) (sort : Call → Bool)
    (a b c : WorkNow) → Does P sort a b → DoesTo there left Q sort b c
    → DoesTo there left (Then P Q) sort a c
unfolding went_on
does_then P Q sort a b c h k =
    let n = length a.site.made in
    let ds = h.went.deeds in
    let es = k.went.deeds in
    let both : events_of n (ds ++ es) ≡ events_of n ds ++ events_of (length b.site.made) es =
    events_of-append n ds es h.went.work
    ∙ ap (λ (m : ℕ). events_of n ds ++ events_of m es)
    (count_is a.site.made b.site.made ds h.went.made) in
    record {
      went = went_on P sort a b c h k.went;
      told = told_on P sort a b c h k.went k.told;
      part = λ shown.
          let v = view_of shown a.site in
          let at =
          view_from-but_locks v ds
          ∙ view_at sort a b h.went h.told shown (h.stands shown) in
          record {
            first = but_locks ds;
            second = but_locks es;
            both = but_locks-append ds es;
            before = h.part shown;
            behind = subst (λ (w : View). Q w (but_locks es)) (sym at)
                (k.part (view_from v ds).shown);
          };
      stands = λ shown.
          let v = view_of shown a.site in
          let at = view_at sort a b h.went h.told shown (h.stands shown) in
          ap (λ (w : View). w.stage) (view_from-append v ds es)
          ∙ (ap (λ (w : View). (view_from w es).stage) at
          ∙ k.stands (view_from v ds).shown);
      sees = λ shown fits.
          let v = view_of shown a.site in
          let at = view_at sort a b h.went h.told shown (h.stands shown) in
          subst (λ (w : View). MayBeShown c.known w.shown)
          (sym (view_from-append v ds es ∙ ap (λ (w : View). view_from w es) at))
          (k.sees (view_from v ds).shown (h.sees shown fits));
      owes = k.owes;
      agrees = λ agree. k.agrees (h.agrees agree);
      heard =
          ap has_failed both
          ∙ (has_failed-append (events_of n ds) (events_of (length b.site.made) es)
          ∙ neither (has_failed (events_of n ds)) (has_failed (events_of (length b.site.made) es))
          h.heard k.heard);
      well = k.well ∙ h.well;
      ready = k.ready;
    }
