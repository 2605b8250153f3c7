-- What a part comes to whose last bytes are saved.
use Rattle.std.specs.Prelude.{ℕ, ◌≤◌, ◌≡◌, List, [], ◌∷◌, ◌++◌, length, map, option_map, Bool, Option, Some, None, Err, refl}
use Rattle.std.proofs.Common.{sym, ap, subst, ◌∙◌, arith, append-nil}
use Rattle.std.proofs.lemmas.List.{map-append}
use Rattle.conflicts.specs.Errors.{step_err}
use Rattle.conflicts.specs.declared.report.SyncReport.{SyncReport}
use Rattle.client.specs.Sites.{SiteNow, IsTidy, IsUnmade}
use Rattle.jop_outside.specs.Outside.{HasRisen}
use Rattle.jop_target.specs.Trail.{LineNow}
use Rattle.jop_target.specs.declared.call.Call.{Call}
use Rattle.lease.proofs.NoFailures.{none_failed_on}
use Rattle.lease.specs.Calls.{GoesOn}
use Rattle.lease.specs.Standing.{IsHeld}
use Rattle.lease.specs.declared.lease.Lease.{Lease}
use Rattle.law_licences.specs.Deeds.{changes_in}
use Rattle.law_licences.specs.Views.{Shown, Working}
use Rattle.local_store.specs.Changing.{after_all}
use Rattle.keeper.specs.Keepers.{HasKeeperCause, IsOfKept, Kept, with_saved_blob}
use Rattle.keeper.specs.declared.keeper_err.KeeperErr.{KeeperErr}
use Rattle.keeper.specs.declared.keeper_err.KeeperErr.TheVariants.{Fault, NoMemory}
use Rattle.keeper.specs.declared.blob.Blob.{Blob}
use Rattle.local_store.specs.Sound.{IsSound}
use Rattle.local_store.specs.declared.change.Change.{Change}
use Rattle.local_store.specs.declared.tables.Tables.{Tables}
use Rattle.session.proofs.Committed.{tidy_unmade, unfailed_same}
use Rattle.session.proofs.Ending.{does_unfailed}
use Rattle.session.proofs.Agreeing.{IsSaved, agrees_saved}
use Rattle.jop_target.specs.Replies.{IsBlobOf, contents_in}
use Rattle.jop_target.specs.declared.call.Call.TheVariants.{GetBlob}
use Rattle.session.proofs.Joins.{kept_after-append}
use Rattle.session.specs.Doing.{Does, DoesTo, GivesNothing, KeeperFails, Went}
use Rattle.session.specs.Parts.{Part}
use Rattle.session.specs.Saving.{Told, kept_after_saves, saved_all, tale_of}
use Rattle.session.specs.Steps.{IsStep}
use Rattle.session.specs.Work.{WorkNow, WorkPlace, work_by}

abbrev blob_of : List ℕ → List ℕ → Blob
blob_of id bytes = record { id = id; bytes = bytes }

one_saved : (kept : Option Kept) (id bytes : List ℕ)
    → option_map (with_saved_blob id bytes) kept
    ≡ option_map (kept_after_saves [] (blob_of id bytes ∷ [])) kept
unfolding saved_all after_all
one_saved None id bytes = refl
one_saved (Some k) id bytes = refl

kept_paid : (kept : Option Kept) (cs : List Change) (xs : List Blob) (id bytes : List ℕ)
    → option_map (with_saved_blob id bytes) (option_map (kept_after_saves cs xs) kept)
    ≡ option_map (kept_after_saves cs (xs ++ blob_of id bytes ∷ [])) kept
kept_paid kept cs xs id bytes =
    one_saved (option_map (kept_after_saves cs xs) kept) id bytes
    ∙ (kept_after-append kept cs [] xs (blob_of id bytes ∷ [])
    ∙ ap (λ (ds : List Change). option_map (kept_after_saves ds (xs ++ blob_of id bytes ∷ [])) kept)
    (append-nil cs))

got_paid : (xs : List Blob) (id bytes : List ℕ) (len : ℕ) → len ≡ length bytes
    → map tale_of xs ++ (id, len) ∷ [] ≡ map tale_of (xs ++ blob_of id bytes ∷ []) ++ []
got_paid xs id bytes len is =
    ap (λ (n : ℕ). map tale_of xs ++ (id, n) ∷ []) is
    ∙ (sym (map-append tale_of xs (blob_of id bytes ∷ []))
    ∙ sym (append-nil (map tale_of (xs ++ blob_of id bytes ∷ []))))

-- what was got is saved
went_paid : {p : WorkPlace} (sort : Call → Bool) (known : Option Shown) (a : WorkNow) (mid new : SiteNow)
    (lease : Lease) (r : SyncReport) (id bytes : List ℕ) (len : ℕ)
    → (w : Went sort a (work_by p known mid lease r)) → w.owed ≡ (id, len) ∷ []
    → len ≡ length bytes → IsSaved id bytes mid new
    → Went sort a (work_by p known new lease r)
went_paid sort known a mid new lease r id bytes len w owes is h = record {
  deeds = w.deeds;
  saves = w.saves ++ blob_of id bytes ∷ [];
  owed = [];
  trail = ap (λ (l : LineNow). l.trail) h.line ∙ w.trail;
  made = h.made ∙ w.made;
  kept =
      h.kept ∙ (ap (option_map (with_saved_blob id bytes)) w.kept
      ∙ kept_paid a.site.keeper.kept (changes_in w.deeds) w.saves id bytes);
  got =
      w.got ∙ (ap (λ (x : List Told). map tale_of w.saves ++ x) owes
      ∙ got_paid w.saves id bytes len is);
  work = w.work;
  obeys = w.obeys;
  goes = subst (λ (l : LineNow). GoesOn (IsStep sort a.lease.client) a.lease.client a.site.line l)
      (sym h.line) w.goes;
  sorted = w.sorted;
  later = let e = h.well in omega (arith, w.later, e);
  same = w.same;
  place = w.place;
}

told_saved : (kept : Option Kept) (id bytes : List ℕ) (t : Tables) → IsOfKept kept t
    → IsOfKept (option_map (with_saved_blob id bytes) kept) t
told_saved None id bytes t h = h
told_saved (Some k) id bytes t h = h

-- the tables are still in order
tidy_saved : (id bytes : List ℕ) (old new : SiteNow) → IsSaved id bytes old new → IsTidy old
    → IsTidy new
tidy_saved id bytes old new h tidy = record {
  sound = subst IsSound (sym h.tables) tidy.sound;
  told = subst (λ (k : Option Kept). IsOfKept k new.tables) (sym h.kept)
      (subst (λ (t : Tables). IsOfKept (option_map (with_saved_blob id bytes) old.keeper.kept) t)
      (sym h.tables) (told_saved old.keeper.kept id bytes old.tables tidy.told));
}

pub does_paid : {p : WorkPlace} (P : Part) (sort : Call → Bool) (known : Option Shown) (a : WorkNow)
    (mid new : SiteNow) (lease : Lease) (r : SyncReport) (id bytes : List ℕ) (len : ℕ)
    → DoesTo Working ((id, len) ∷ []) P sort a (work_by p known mid lease r)
    → len ≡ length bytes → IsBlobOf (contents_in mid.line.target.store) (GetBlob id) bytes
    → IsSaved id bytes mid new → Does P sort a (work_by p known new lease r)
unfolding went_paid
does_paid P sort known a mid new lease r id bytes len d is stored h = record {
  went = went_paid sort known a mid new lease r id bytes len d.went d.owes is h;
  told = record {
    tidy = tidy_saved id bytes mid new h d.told.tidy;
    tables = h.tables ∙ d.told.tables;
    report = d.told.report;
  };
  part = d.part;
  stands = d.stands;
  sees = d.sees;
  owes = refl;
  agrees = λ agree. agrees_saved mid new id bytes len h stored (d.agrees agree);
  heard = d.heard;
  well = h.well ∙ d.well;
  ready = record {
    tidy = tidy_saved id bytes mid new h d.told.tidy;
    held = subst (λ (l : LineNow). IsHeld lease l.trail) (sym h.line) d.ready.held;
  };
}

-- what was got isn't saved
went_unpaid : {p : WorkPlace} (sort : Call → Bool) (known : Option Shown) (a : WorkNow) (mid new : SiteNow)
    (lease : Lease) (r : SyncReport)
    → Went sort a (work_by p known mid lease r) → IsUnmade mid new
    → mid.keeper.faults ≤ new.keeper.faults → Went sort a (work_by p known new lease r)
went_unpaid sort known a mid new lease r w h later = record {
  deeds = w.deeds;
  saves = w.saves;
  owed = w.owed;
  trail = ap (λ (l : LineNow). l.trail) h.line ∙ w.trail;
  made = h.made ∙ w.made;
  kept = h.kept ∙ w.kept;
  got = w.got;
  work = w.work;
  obeys = w.obeys;
  goes = subst (λ (l : LineNow). GoesOn (IsStep sort a.lease.client) a.lease.client a.site.line l)
      (sym h.line) w.goes;
  sorted = w.sorted;
  later = omega (arith, w.later, later);
  same = w.same;
  place = w.place;
}

fails_unpaid : {p : WorkPlace} (P : Part) (sort : Call → Bool) (known : Option Shown) (left : List Told)
    (a : WorkNow) (mid new : SiteNow) (lease : Lease) (r : SyncReport)
    → DoesTo Working left P sort a (work_by p known mid lease r) → IsUnmade mid new
    → HasRisen mid.keeper.faults new.keeper.faults → mid.keeper.faults ≤ new.keeper.faults
    → KeeperFails sort a (work_by p known new lease r)
unfolding went_unpaid
fails_unpaid P sort known left a mid new lease r d h rose later = record {
  stops = record {
    went = went_unpaid sort known a mid new lease r d.went h later;
    told = record {
      tidy = tidy_unmade mid new h d.told.tidy;
      tables = h.tables ∙ d.told.tables;
      report = d.told.report;
    };
  };
  ready = record {
    tidy = tidy_unmade mid new h d.told.tidy;
    held = subst (λ (l : LineNow). IsHeld lease l.trail) (sym h.line) d.ready.held;
  };
  rose = let w = d.well in omega arith;
}

-- the keeper failed, or memory ran out
pub gives_up_unpaid : {p : WorkPlace} (P : Part) (sort : Call → Bool) (known : Option Shown)
    (left : List Told) (a : WorkNow) (mid new : SiteNow) (lease : Lease) (r : SyncReport)
    (k : KeeperErr) → DoesTo Working left P sort a (work_by p known mid lease r)
    → IsUnmade mid new → HasKeeperCause {T = Unit {0}} mid.keeper.faults (Err k) new.keeper.faults
    → GivesNothing sort a (step_err k) (work_by p known new lease r)
gives_up_unpaid P sort known left a mid new lease r Fault d h cause =
    fails_unpaid P sort known left a mid new lease r d h (cause.failed refl) cause.later
gives_up_unpaid P sort known left a mid new lease r NoMemory d h cause =
    let e = cause.stays (λ e. cc) in
    record {
      went = went_unpaid sort known a mid new lease r d.went h (omega (arith, e));
      heard = none_failed_on a.site.line.trail mid.line.trail new.line.trail (does_unfailed d)
          (unfailed_same mid.line new.line h.line);
      well = e ∙ d.well;
    }
