-- What was saved and removed here is sent, and then the page is read.
use Rattle.std.specs.Prelude.{◌≡◌, ◌||◌, Bool, true, false, None, Result, Ok, Err, OnOk, refl}
use Rattle.std.proofs.lemmas.Bool.{or_left, or_right}
use Rattle.conflicts.specs.declared.error.StepErr.{StepErr}
use Rattle.conflicts.specs.declared.refusal.Refusal.{Refusal}
use Rattle.download.proofs.Paged.{went_download}
use Rattle.download.proofs.Still.{heeds_behind, heeds_still}
use Rattle.download.specs.Downloading.{Downloads, is_download}
use Rattle.download.specs.Emptied.{HeedsBetween}
use Rattle.download.specs.Reading.{EndsDownload, RefusesDownload}
use Rattle.local_store.specs.Sound.{IsSound}
use Rattle.session.proofs.Ending.{ends_then}
use Rattle.session.proofs.Joins.{does_then}
use Rattle.session.proofs.Refusing.{not_refused, refuses_behind, refuses_within}
use Rattle.session.specs.Doing.{Does, Ends, GivesNothing}
use Rattle.session.specs.Work.{WorkNow}
use Rattle.upload.proofs.Deleted.{none_behind}
use Rattle.upload.specs.Deleting.{Deletes, is_deletion}
use Rattle.upload.specs.Settled.{AreSettled}
use Rattle.upload.specs.Uploading.{Uploads, is_upload}
use Rattle.session.proofs.Behind.{went_given_up}
use Rattle.session.proofs.Wider.{IsWithin, does_within, ends_within, gives_up_within, went_within}
use Rattle.sync_session.proofs.Settled.{leaves_nothing_behind, settled_behind}
use Rattle.sync_session.specs.Working.{ExchangesOr, LeavesNothing, RefusesExchange, Sends, is_exchange, is_sending}

-- ---- sorts

pub download_within : IsWithin is_download is_exchange
download_within call is =
    or_right (is_upload call) (is_deletion call || is_download call)
    (or_right (is_deletion call) (is_download call) is)

pub upload_sent : IsWithin is_upload is_sending
upload_sent call is = or_left (is_upload call) (is_deletion call) is

deletion_sent : IsWithin is_deletion is_sending
deletion_sent call is = or_right (is_upload call) (is_deletion call) is

wider : (a b c : Bool) → (a || b) ≡ true → (a || (b || c)) ≡ true
wider true b c is = refl
wider false true c is = refl
wider false false c is = absurd cc

pub sending_within : IsWithin is_sending is_exchange
sending_within call is = wider (is_upload call) (is_deletion call) (is_download call) is

-- ---- sending

pub ends_sends : (a b c : WorkNow) (result : Result (Unit {0}) StepErr)
    → Does (Uploads a.site.keeper.kept) is_upload a b → Ends Deletes is_deletion b result c
    → Ends (Sends a.site.keeper.kept) is_sending a result c
ends_sends a b c result h k =
    ends_then (Uploads a.site.keeper.kept) Deletes is_sending a b c result
    (does_within is_upload is_sending a b upload_sent h)
    (ends_within Deletes is_deletion is_sending b c result deletion_sent k)

-- deletions leave nothing behind an upload
pub leaves_nothing : (a b : WorkNow) (result : Result (Unit {0}) StepErr) → a.known ≡ None
    → IsSound a.site.tables → AreSettled a.site → Ends Deletes is_deletion a result b
    → OnOk result (LeavesNothing b.site)
leaves_nothing a b (Ok done) unknown sound settled h = record {
  settled = settled_behind is_deletion a b h.went h.told unknown sound settled;
  deleted = none_behind a b (Ok done) h;
}
leaves_nothing a b (Err e) unknown sound settled h = tt

-- ---- the whole

pub exchanges_both : (a b c : WorkNow) (result : Result (Unit {0}) StepErr) → b.known ≡ None
    → Does (Sends a.site.keeper.kept) is_sending a b → LeavesNothing b.site
    → EndsDownload b result c → ExchangesOr a result c
exchanges_both a b c (Ok done) unknown h nothing k = (
  does_then (Sends a.site.keeper.kept) Downloads is_exchange a b c
      (does_within is_sending is_exchange a b sending_within h)
      (does_within is_download is_exchange b c download_within k),
  leaves_nothing_behind is_download b c k.went k.told unknown h.ready.tidy.sound nothing,
)
exchanges_both a b c (Err e) unknown h nothing k =
    refuses_behind (Sends a.site.keeper.kept) RefusesDownload is_exchange a b c e
    (does_within is_sending is_exchange a b sending_within h)
    (refuses_within RefusesDownload is_download is_exchange b c e download_within k)

-- nothing was read behind what couldn't be sent
pub exchanges_unsent : (a b : WorkNow) (e : StepErr) → GivesNothing is_sending a e b
    → ExchangesOr a (Err e) b
exchanges_unsent a b e h =
    not_refused (RefusesExchange a.site.keeper.kept) is_exchange a b e
    (gives_up_within is_sending is_exchange a b e sending_within h)

-- ---- behind what looks like an emptied target

-- what is sent lists nothing
pub heeds_unsent : (Given : Refusal → Type 0) (a b : WorkNow) (e : StepErr)
    → GivesNothing is_sending a e b → HeedsBetween Given a.site b.site
heeds_unsent Given a b e h =
    heeds_still Given is_sending a b refl (went_given_up is_sending a b e h)

pub heeds_sent : {R : Type 0} (Given : Refusal → Type 0) (a b c : WorkNow) (result : Result R StepErr)
    → Does (Sends a.site.keeper.kept) is_sending a b → EndsDownload b result c
    → HeedsBetween Given b.site c.site → HeedsBetween Given a.site c.site
heeds_sent Given a b c result h k later =
    heeds_behind Given (Sends a.site.keeper.kept) is_exchange is_sending a b c refl h
    (does_within is_sending is_exchange a b sending_within h)
    (went_within is_download is_exchange b c download_within (went_download b c result k)) later
