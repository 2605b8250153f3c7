-- What is kept of a resource, and what putting it comes to.
use Rattle.std.specs.Prelude.{ℕ, ◌≡◌, List, length, Bool, true, false, Option, Some, None, refl}
use Rattle.std.proofs.Common.{ap, subst, inl, inr}
use Rattle.jop_target.specs.Replies.{IsReplyTo}
use Rattle.jop_target.specs.declared.call.Call.{Call}
use Rattle.jop_target.specs.declared.call.Call.TheVariants.{PutBlob}
use Rattle.jop_target.specs.declared.reply.Reply.{Reply}
use Rattle.jop_target.specs.declared.reply.Reply.TheVariants.{Listed, Got, GotBlob, Absent, Done, Failed, TooLarge}
use Rattle.law_licences.specs.Checks.{last_on}
use Rattle.law_licences.specs.Deeds.{Deed}
use Rattle.law_licences.specs.Infos.{info_read}
use Rattle.law_licences.specs.Trails.{session_calls}
use Rattle.law_licences.specs.Views.{View, view_from}
use Rattle.session.proofs.Behind.{behind}
use Rattle.session.proofs.Ending.{does_as}
use Rattle.session.specs.Asking.{IsAnswer}
use Rattle.session.specs.Doing.{Does}
use Rattle.session.specs.Parts.{Hears, Nothing}
use Rattle.session.specs.Work.{WorkNow, view_of}
use Rattle.keeper.specs.Keepers.{IsBlobOfKept, Kept}
use Rattle.keeper.specs.declared.blob.Blob.{Blob}
use Rattle.upload.specs.Uploading.{PutsIfNew, PutsKept, PutsThese, blobs_of, blob_bytes, is_upload}

none_put : (kept : Option Kept) (id : List ℕ) (v : View) (ds : List Deed)
    → IsBlobOfKept kept id None → Nothing v ds → PutsKept (blobs_of kept) id v ds
none_put None id v ds told h = inl h
none_put (Some k) id v ds told h =
    subst (λ (bytes : Option (List ℕ)). PutsThese id bytes v ds) told h

pub puts_nothing : (kept : Option Kept) (id : List ℕ) (a b : WorkNow)
    → IsBlobOfKept kept id None → Does Nothing is_upload a b
    → Does (PutsKept (blobs_of kept) id) is_upload a b
puts_nothing kept id a b told h =
    does_as Nothing (PutsKept (blobs_of kept) id) is_upload a b
    (λ shown ds. none_put kept id (view_of shown a.site) ds told) h

these_put : (kept : Option Kept) (id bytes : List ℕ) (len now : ℕ) (v : View) (ds : List Deed)
    → len ≡ length bytes → IsBlobOfKept kept id (Some bytes)
    → Hears (PutBlob id len) (Done now) v ds → PutsKept (blobs_of kept) id v ds
these_put None id bytes len now v ds e told h = inr (len, (now, h))
these_put (Some k) id bytes len now v ds e told h =
    subst (λ (b : Option (List ℕ)). PutsThese id b v ds) told
    (now, subst (λ (n : ℕ). Hears (PutBlob id n) (Done now) v ds) e h)

blob_done : (id : List ℕ) (len : ℕ) (reply : Reply) → IsReplyTo (PutBlob id len) reply
    → ¬ (reply ≡ Failed) → (now : ℕ) × (reply ≡ Done now)
blob_done id len (Done now) shape heard = (now, refl)
blob_done id len Failed shape heard = absurd (heard refl)
blob_done id len (Absent now) shape heard = absurd shape
blob_done id len (Listed listing) shape heard = absurd shape
blob_done id len (Got now content) shape heard = absurd shape
blob_done id len (GotBlob now size) shape heard = absurd shape
blob_done id len (TooLarge size) shape heard = absurd shape

pub bytes_put : (kept : Option Kept) (id bytes : List ℕ) (reply : Reply)
    → IsBlobOfKept kept id (Some bytes) → IsAnswer (PutBlob id (length bytes)) reply
    → (v : View) (ds : List Deed) → Hears (PutBlob id (length bytes)) reply v ds
    → PutsKept (blobs_of kept) id v ds
bytes_put kept id bytes reply told answer v ds h =
    let d = blob_done id (length bytes) reply answer.0 answer.1 in
    these_put kept id bytes (length bytes) d.0 v ds refl told
    (subst (λ (r : Reply). Hears (PutBlob id (length bytes)) r v ds) d.1 h)

-- ---- what is seen behind them

-- tables are as they were, and so are the last call on an item's file and the info that was read
record Leaves (other : List ℕ) (v w : View) : Type 0 where
  tables : w.tables ≡ v.tables
  last : last_on other w.calls ≡ last_on other v.calls
  read : info_read w.calls ≡ info_read v.calls

leaves_nothing : (other : List ℕ) (v : View) (ds : List Deed) → Nothing v ds
    → Leaves other v (view_from v ds)
unfolding view_from
leaves_nothing other v ds h = record {
  tables = ap (λ (x : List Deed). (view_from v x).tables) h;
  last = ap (λ (x : List Deed). last_on other (view_from v x).calls) h;
  read = ap (λ (x : List Deed). info_read (view_from v x).calls) h;
}

leaves_put : (other id : List ℕ) (len now : ℕ) (v : View) (ds : List Deed)
    → Hears (PutBlob id len) (Done now) v ds → Leaves other v (view_from v ds)
unfolding view_from last_on info_read
leaves_put other id len now v ds h = record {
  tables = ap (λ (x : List Deed). (view_from v x).tables) h;
  last = ap (λ (x : List Deed). last_on other (view_from v x).calls) h;
  read = ap (λ (x : List Deed). info_read (view_from v x).calls) h;
}

leaves_these : (other id : List ℕ) (bytes : Option (List ℕ)) (v : View) (ds : List Deed)
    → PutsThese id bytes v ds → Leaves other v (view_from v ds)
leaves_these other id None v ds h = leaves_nothing other v ds h
leaves_these other id (Some bytes) v ds h = leaves_put other id (length bytes) h.0 v ds h.1

leaves_kept : (other : List ℕ) (blobs : Option (List Blob)) (id : List ℕ) (v : View)
    (ds : List Deed) → PutsKept blobs id v ds → Leaves other v (view_from v ds)
leaves_kept other (Some blobs) id v ds h = leaves_these other id (blob_bytes blobs id) v ds h
leaves_kept other None id v ds h =
    elim h [
      | inl none ↦ leaves_nothing other v ds none
      | inr some ↦ leaves_put other id some.0 some.1.0 v ds some.1.1
    ]

leaves_new : (other : List ℕ) (blobs : Option (List Blob)) (id : List ℕ) (new : Bool) (v : View)
    (ds : List Deed) → PutsIfNew blobs id new v ds → Leaves other v (view_from v ds)
leaves_new other blobs id true v ds h = leaves_kept other blobs id v ds h
leaves_new other blobs id false v ds h = leaves_nothing other v ds h

pub tables_new : (blobs : Option (List Blob)) (id : List ℕ) (new : Bool) (sort : Call → Bool)
    (a b : WorkNow) → Does (PutsIfNew blobs id new) sort a b → b.site.tables ≡ a.site.tables
tables_new blobs id new sort a b h =
    behind (λ t cs u us. u ≡ t) (PutsIfNew blobs id new) sort a b
    (λ v ds it. (leaves_new id blobs id new v ds it).tables) h

pub read_new : (blobs : Option (List Blob)) (id : List ℕ) (new : Bool) (sort : Call → Bool)
    (a b : WorkNow) → Does (PutsIfNew blobs id new) sort a b
    → info_read (session_calls b.site.line.trail) ≡ info_read (session_calls a.site.line.trail)
read_new blobs id new sort a b h =
    behind (λ t cs u us. info_read us ≡ info_read cs) (PutsIfNew blobs id new) sort a b
    (λ v ds it. (leaves_new id blobs id new v ds it).read) h

pub last_new : (other : List ℕ) (blobs : Option (List Blob)) (id : List ℕ) (new : Bool)
    (sort : Call → Bool) (a b : WorkNow) → Does (PutsIfNew blobs id new) sort a b
    → last_on other (session_calls b.site.line.trail)
    ≡ last_on other (session_calls a.site.line.trail)
last_new other blobs id new sort a b h =
    behind (λ t cs u us. last_on other us ≡ last_on other cs) (PutsIfNew blobs id new) sort a b
    (λ v ds it. (leaves_new other blobs id new v ds it).last) h
