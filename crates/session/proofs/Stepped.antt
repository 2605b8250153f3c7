-- What the steps of a session come to.
use Rattle.std.specs.Prelude.{ℕ, ◌≡◌, List, [], ◌∷◌, Bool, true, false, if◌then◌else◌, Option, Some, None, Result, Ok, Err, refl}
use Rattle.std.proofs.Common.{sym, ap, subst, ◌∙◌}
use Rattle.conflicts.specs.Reports.{with_bad}
use Rattle.conflicts.specs.declared.error.StepErr.{StepErr}
use Rattle.conflicts.specs.declared.report.SyncReport.{SyncReport}
use Rattle.client.specs.Sites.{SiteNow, IsUnmade, Place}
use Rattle.conflicts.specs.Errors.{step_err}
use Rattle.jop_base.specs.declared.dir.Dir.TheVariants.{Root}
use Rattle.jop_base.specs.declared.path.Path.TheVariants.{Info, OldVersion, Item, Blob}
use Rattle.jop_target.specs.Replies.{IsCallable}
use Rattle.jop_target.specs.Trail.{EndsWith}
use Rattle.jop_target.specs.declared.call.Call.{Call}
use Rattle.jop_target.specs.declared.call.Call.TheVariants.{List as ListDir, Get, Put, Delete, GetBlob}
use Rattle.jop_target.specs.declared.reply.Reply.{Reply}
use Rattle.jop_target.specs.declared.reply.Reply.TheVariants.{Listed, Got, GotBlob, Absent, Done, Failed, TooLarge}
use Rattle.lease.specs.Idle.{is_working}
use Rattle.lease.specs.Phase.{role_of}
use Rattle.lease.specs.declared.lease.Lease.{Lease}
use Rattle.law_licences.specs.Licences.{MayCall}
use Rattle.law_licences.specs.Views.{Shown, View, Working, is_about_locks}
use Rattle.local_store.specs.Tables.{base_of, row_at}
use Rattle.session.proofs.Ending.{does_as, does_starves, starves_report}
use Rattle.session.proofs.Found.{bad_is_unreadable}
use Rattle.session.proofs.Agreeing.{IsSaved}
use Rattle.session.proofs.Paid.{does_paid, gives_up_unpaid}
use Rattle.session.specs.Agreeing.{IsKeptFor}
use Rattle.session.specs.Asking.{AsksUnderLease, HasAnswer, IsAskable}
use Rattle.session.specs.Doing.{Does, DoesTo, GivesNothing, Starves}
use Rattle.session.specs.Findings.{Judges, finding_of, is_unreadable, with_found}
use Rattle.session.specs.Parts.{Hears}
use Rattle.session.specs.Reported.{report_after, is_bad}
use Rattle.session.specs.Saving.{Told, got_by, told_of}
use Rattle.session.specs.Sessions.{Fetches, FindsFile, HearsOr, gave_bytes, is_whole_step}
use Rattle.session.specs.Work.{WorkNow, WorkPlace, view_of, work_by}
use Rattle.session.specs.declared.finding.Finding.{Finding}
use Rattle.keeper.specs.Keepers.{HasKeeperCause, Kept}
use Rattle.keeper.specs.declared.keeper_err.KeeperErr.{KeeperErr}

-- ---- a plain call

-- what holds of each plain call
pub record IsPlain (call : Call) : Type 0 where
  pub working : (client : List ℕ) → is_working (role_of client call) ≡ true
  pub about : is_about_locks call ≡ false
  pub callable : (blob : List ℕ) → IsCallable call blob
  pub kept : (kept : Option Kept) (blob : List ℕ) → IsKeptFor kept call blob
  pub got : (reply : Reply) → got_by call reply ≡ []
  pub noted : (v : View) (r : SyncReport) (reply : Reply) → report_after v r call (Some reply) ≡ r

pub plainly : (call : Call) → is_whole_step call ≡ true → IsPlain call
plainly (ListDir Root) h = record {
  working = λ client. refl;
  about = refl;
  callable = λ blob. tt;
  kept = λ kept blob. tt;
  got = λ reply. refl;
  noted = λ v r reply. refl;
}
plainly (Get Info) h = record {
  working = λ client. refl;
  about = refl;
  callable = λ blob. refl;
  kept = λ kept blob. tt;
  got = λ reply. refl;
  noted = λ v r reply. refl;
}
plainly (Get OldVersion) h = record {
  working = λ client. refl;
  about = refl;
  callable = λ blob. refl;
  kept = λ kept blob. tt;
  got = λ reply. refl;
  noted = λ v r reply. refl;
}
plainly (Put Info content) h = record {
  working = λ client. refl;
  about = refl;
  callable = λ blob. refl;
  kept = λ kept blob. tt;
  got = λ reply. refl;
  noted = λ v r reply. refl;
}
plainly (Put (Item id) content) h = record {
  working = λ client. refl;
  about = refl;
  callable = λ blob. refl;
  kept = λ kept blob. tt;
  got = λ reply. refl;
  noted = λ v r reply. refl;
}
plainly (Delete (Item id)) h = record {
  working = λ client. refl;
  about = refl;
  callable = λ blob. tt;
  kept = λ kept blob. tt;
  got = λ reply. refl;
  noted = λ v r reply. refl;
}
plainly (Delete (Blob id)) h = record {
  working = λ client. refl;
  about = refl;
  callable = λ blob. tt;
  kept = λ kept blob. tt;
  got = λ reply. refl;
  noted = λ v r reply. refl;
}
plainly call h = absurd cc

-- so it may be asked for by a part
pub plainly_askable : (call : Call) (bytes : List ℕ) (d : SiteNow) (lease : Lease)
    → is_whole_step call ≡ true → ((shown : Option Shown) → MayCall (view_of shown d) call)
    → IsAskable call bytes d lease
plainly_askable call bytes d lease h may =
    let plain = plainly call h in
    record {
      working = plain.working lease.client;
      about = plain.about;
      callable = plain.callable bytes;
      kept = plain.kept d.keeper.kept bytes;
      may = may;
    }

-- an item's file may be asked for, and the bytes of a resource
pub file_askable : (id bytes : List ℕ) (d : SiteNow) (lease : Lease)
    → IsAskable (Get (Item id)) bytes d lease
file_askable id bytes d lease =
    record { working = refl; about = refl; callable = refl; kept = tt; may = λ shown. tt }

pub bytes_askable : (id bytes : List ℕ) (d : SiteNow) (lease : Lease)
    → IsAskable (GetBlob id) bytes d lease
bytes_askable id bytes d lease =
    record { working = refl; about = refl; callable = tt; kept = tt; may = λ shown. tt }

-- behind a call nothing is to be saved or noted
pub asked : (p : WorkPlace) (bytes : List ℕ) (sort : Call → Bool) (call : Call) (old new : SiteNow)
    (before after : Lease) (r : SyncReport) (result : Result (Unit {0}) StepErr)
    → ((reply : Reply) → got_by call reply ≡ [])
    → ((v : View) (r : SyncReport) (reply : Reply) → report_after v r call (Some reply) ≡ r)
    → AsksUnderLease call old before result new after bytes → sort call ≡ true
    → HearsOr call sort (work_by p None old before r) result (work_by p None new after r)
asked p bytes sort call old new before after r (Ok done) got noted h sorted = record {
  reply = h.reply;
  answer = h.answer;
  ends = h.ends;
  does = subst (λ (left : List Told).
      DoesTo Working left (Hears call h.reply) sort (work_by p None old before r)
      (work_by p None new after r))
      (got h.reply)
      (h.heard sort sorted p h.reply r r h.ends
      (λ shown. sym (noted (view_of shown old) r h.reply)));
}
asked p bytes sort call old new before after r (Err e) got noted h sorted = h sort p r sorted

-- ---- a file

noted : (id : List ℕ) (old : SiteNow) (r s : SyncReport) (finding : Finding) (reply : Reply)
    → is_bad id (base_of (row_at old.tables id)) reply
    ≡ is_unreadable (finding_of id (base_of (row_at old.tables id)) reply)
    → finding ≡ finding_of id (base_of (row_at old.tables id)) reply
    → s ≡ with_found r id finding
    → (shown : Option Shown)
    → s ≡ report_after (view_of shown old) r (Get (Item id)) (Some reply)
noted id old r s finding reply same found is shown =
    is ∙ ap (λ (b : Bool). if b then with_bad r id else r)
    (ap is_unreadable found ∙ sym same)

pub found : {p : WorkPlace} {got : List ℕ} (id : List ℕ) (sort : Call → Bool) (old new : SiteNow)
    (before after : Lease) (r s : SyncReport) (finding : Finding)
    → (a : HasAnswer (Get (Item id)) old before new after got) → sort (Get (Item id)) ≡ true
    → Judges id (base_of (row_at old.tables id)) a.reply finding → s ≡ with_found r id finding
    → Does (FindsFile id finding) sort (work_by p None old before r) (work_by p None new after s)
found {p} id sort old new before after r s finding a sorted is count =
    does_as (Hears (Get (Item id)) a.reply) (FindsFile id finding) sort (work_by p None old before r)
    (work_by p None new after s)
    (λ shown ds h. (a.reply, a.answer, is.0, is.1, h))
    (a.heard sort sorted p a.reply r s a.ends
    (noted id old r s finding a.reply
    (bad_is_unreadable id (base_of (row_at old.tables id)) a.reply a.answer.0 a.answer.1) is.0
    count))

-- out of memory the report may lag behind
pub starves_got : {p : WorkPlace} {got : List ℕ} (id : List ℕ) (sort : Call → Bool)
    (old new : SiteNow) (before after : Lease) (r s : SyncReport)
    → HasAnswer (Get (Item id)) old before new after got → sort (Get (Item id)) ≡ true
    → Starves sort (work_by p None old before r) (work_by p None new after s)
starves_got {p} id sort old new before after r s a sorted =
    let q = report_after (view_of None old) r (Get (Item id)) (Some a.reply) in
    starves_report sort (work_by p None old before r) new after q s
    (does_starves (a.heard sort sorted p a.reply r q a.ends (λ shown. refl)))

-- ---- bytes of a resource

-- the bytes were asked for, and are owed if there were any
fetched : {p : WorkPlace} {got : List ℕ} (id : List ℕ) (sort : Call → Bool) (old new : SiteNow)
    (before after : Lease) (r : SyncReport) → (a : HasAnswer (GetBlob id) old before new after got)
    → sort (GetBlob id) ≡ true
    → DoesTo Working (told_of id a.reply) (Fetches id) sort (work_by p None old before r)
    (work_by p None new after r)
fetched {p} id sort old new before after r a sorted =
    does_as (Hears (GetBlob id) a.reply) (Fetches id) sort (work_by p None old before r)
    (work_by p None new after r) (λ shown ds h. (a.reply, (a.answer, h)))
    (a.heard sort sorted p a.reply r r a.ends (λ shown. refl))

none_told : (id : List ℕ) (reply : Reply) → gave_bytes reply ≡ false → told_of id reply ≡ []
none_told id (GotBlob now len) h = absurd cc
none_told id (Got now bytes) h = refl
none_told id (Absent now) h = refl
none_told id (TooLarge len) h = refl
none_told id Failed h = refl
none_told id (Listed listing) h = refl
none_told id (Done now) h = refl

-- there were none
pub fetched_none : {p : WorkPlace} {got : List ℕ} (id : List ℕ) (sort : Call → Bool)
    (old new : SiteNow) (before after : Lease) (r : SyncReport)
    → (a : HasAnswer (GetBlob id) old before new after got) → sort (GetBlob id) ≡ true
    → gave_bytes a.reply ≡ false
    → Does (Fetches id) sort (work_by p None old before r) (work_by p None new after r)
fetched_none {p} id sort old new before after r a sorted none =
    subst (λ (left : List Told).
    DoesTo Working left (Fetches id) sort (work_by p None old before r)
    (work_by p None new after r))
    (none_told id a.reply none) (fetched id sort old new before after r a sorted)

-- how many there are
record IsLong (id : List ℕ) (reply : Reply) : Type 0 where
  now : ℕ
  len : ℕ
  is : reply ≡ GotBlob now len
  told : told_of id reply ≡ (id, len) ∷ []

long_of : (id : List ℕ) (reply : Reply) → gave_bytes reply ≡ true → IsLong id reply
long_of id (GotBlob now len) h = record { now = now; len = len; is = refl; told = refl }
long_of id (Got now content) h = absurd cc
long_of id (Absent now) h = absurd cc
long_of id (TooLarge len) h = absurd cc
long_of id Failed h = absurd cc
long_of id (Listed listing) h = absurd cc
long_of id (Done now) h = absurd cc

-- they are saved
pub fetched_saved : {p : WorkPlace} {got : List ℕ} (id : List ℕ) (sort : Call → Bool)
    (old mid new : SiteNow) (before after : Lease) (r : SyncReport)
    → (a : HasAnswer (GetBlob id) old before mid after got) → sort (GetBlob id) ≡ true
    → gave_bytes a.reply ≡ true → IsSaved id got mid new
    → Does (Fetches id) sort (work_by p None old before r) (work_by p None new after r)
fetched_saved {p} {got} id sort old mid new before after r a sorted some saved =
    let l = long_of id a.reply some in
    let ends : EndsWith mid.line.trail (GetBlob id) (GotBlob l.now l.len) =
    subst (λ (reply : Reply). EndsWith mid.line.trail (GetBlob id) reply) l.is a.ends in
    let bytes = a.bytes l.now l.len ends in
    does_paid (Fetches id) sort None (work_by p None old before r) mid new after r id got l.len
    (subst (λ (left : List Told).
    DoesTo Working left (Fetches id) sort (work_by p None old before r)
    (work_by p None mid after r))
    l.told (fetched id sort old mid before after r a sorted))
    bytes.0 bytes.1 saved

-- or that fails
pub fetched_unsaved : {got : List ℕ} (p : WorkPlace) (id : List ℕ) (sort : Call → Bool)
    (old mid new : SiteNow) (before after : Lease) (r : SyncReport) (k : KeeperErr)
    → (a : HasAnswer (GetBlob id) old before mid after got) → sort (GetBlob id) ≡ true
    → IsUnmade mid new → HasKeeperCause {T = Unit {0}} mid.keeper.faults (Err k) new.keeper.faults
    → GivesNothing sort (work_by p None old before r) (step_err k) (work_by p None new after r)
fetched_unsaved p id sort old mid new before after r k a sorted none cause =
    gives_up_unpaid (Fetches id) sort None (told_of id a.reply) (work_by p None old before r) mid
    new after r k (fetched id sort old mid before after r a sorted) none cause

-- ---- by the same references

-- for a client that has these
abbrev pub at_site : Place → ℕ → ℕ → ℕ → WorkPlace
at_site client site lease report =
    record { client = client; site = site; lease = lease; report = report }

-- what holds of a client that stays where it is
pub stays_by : (P : WorkNow → Type 0) (before behind : Place) (site lease report : ℕ)
    (known : Option Shown) (d : SiteNow) (l : Lease) (r : SyncReport) → behind ≡ before
    → P (work_by (at_site before site lease report) known d l r)
    → P (work_by (at_site behind site lease report) known d l r)
stays_by P before behind site lease report known d l r stays h =
    subst (λ (client : Place). P (work_by (at_site client site lease report) known d l r))
    (sym stays) h

pub stays_at : (P : WorkNow → Type 0) (before behind : Place) (site lease report : ℕ)
    (d : SiteNow) (l : Lease) (r : SyncReport) → behind ≡ before
    → P (work_by (at_site before site lease report) None d l r)
    → P (work_by (at_site behind site lease report) None d l r)
stays_at P before behind site lease report d l r stays h =
    stays_by P before behind site lease report None d l r stays h
