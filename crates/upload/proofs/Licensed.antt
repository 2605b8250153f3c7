-- Which licences a row has by what was found in its file.
use Rattle.std.specs.Prelude.{ℕ, ◌≡◌, List, Bool, true, false, bytes_eq, is_none, if◌then◌else◌, Option, Some, None, Result, refl}
use Rattle.std.proofs.Common.{ap, subst, sym, ◌∙◌}
use Rattle.std.proofs.lemmas.Bool.{and_parts}
use Rattle.conflicts.specs.declared.error.StepErr.{StepErr}
use Rattle.client.specs.Sites.{SiteNow}
use Rattle.item_text.specs.Grammar.{written}
use Rattle.item_text.specs.Valid.{IsItem}
use Rattle.jop_base.proofs.KeyedLaws.{All-at, bytes_eq-refl}
use Rattle.jop_base.specs.declared.path.Path.{Path}
use Rattle.jop_base.specs.declared.path.Path.TheVariants.{Item}
use Rattle.jop_target.specs.Replies.{IsReplyTo}
use Rattle.jop_target.specs.declared.call.Call.{Call}
use Rattle.jop_target.specs.declared.call.Call.TheVariants.{Put}
use Rattle.jop_target.specs.declared.reply.Reply.{Reply}
use Rattle.jop_target.specs.declared.reply.Reply.TheVariants.{Listed, Got, GotBlob, Absent, Done, Failed, TooLarge}
use Rattle.law_licences.specs.Checks.{last_on}
use Rattle.law_licences.specs.Deeds.{Deed}
use Rattle.law_licences.specs.Infos.{info_read}
use Rattle.law_licences.specs.Items.{is_resource}
use Rattle.law_licences.specs.Puts.{IsTextFor, MayPut, MayPutBlob, MayUpload, has_put, seals_by}
use Rattle.law_licences.specs.Sealing.{no_keys}
use Rattle.law_licences.specs.Trails.{session_calls}
use Rattle.law_licences.specs.Views.{Heard, Shown, View, view_from}
use Rattle.local_store.specs.Rows.{item_of, row_id}
use Rattle.local_store.specs.Sound.{IsContentOf, IsSound, IsSoundRow}
use Rattle.local_store.specs.Tables.{base_of, row_at}
use Rattle.local_store.specs.declared.content.Content.{Content}
use Rattle.local_store.specs.declared.content.Content.TheVariants.{Plain, Sealed}
use Rattle.local_store.specs.declared.row.Row.{Row}
use Rattle.local_store.specs.declared.tables.Tables.{Tables}
use Rattle.session.proofs.Behind.{behind, found_behind}
use Rattle.session.proofs.Ending.{does_nothing}
use Rattle.session.proofs.Found.{base_found, other_found}
use Rattle.session.specs.Asking.{IsAnswer}
use Rattle.session.specs.Doing.{Does, Ends}
use Rattle.session.specs.Findings.{finding_of}
use Rattle.session.specs.Parts.{Hears}
use Rattle.session.specs.Sessions.{FindsFile}
use Rattle.session.specs.Work.{IsReady, WorkNow, view_of}
use Rattle.session.specs.declared.finding.Finding.{Finding}
use Rattle.session.specs.declared.finding.Finding.TheVariants.{Other, Same}
use Rattle.keeper.specs.declared.blob.Blob.{Blob}
use Rattle.sync_info.specs.declared.info.Info.{Info}
use Rattle.upload.specs.Conditions.{IsPlain}
use Rattle.upload.specs.Found.{IsFoundForRow, MayYieldTo}
use Rattle.upload.specs.Uploading.{PutsIfNew, PutsKept, PutsText, is_new_resource, is_upload}

-- ---- what was read

-- the same info of the client's own, and the same that was read
pub plain_as : (a b : SiteNow) → b.tables.info ≡ a.tables.info
    → info_read (session_calls b.line.trail) ≡ info_read (session_calls a.line.trail)
    → IsPlain a → IsPlain b
plain_as a b info read h =
    ap (λ (i : Info). seals_by i (info_read (session_calls b.line.trail))) info
    ∙ (ap (seals_by a.tables.info) read ∙ h)

-- ---- what was found

-- nothing on the row's file was called since
pub still_found : (row : Row) (finding : Finding) (a b : SiteNow) → b.tables ≡ a.tables
    → last_on row.id (session_calls b.line.trail) ≡ last_on row.id (session_calls a.line.trail)
    → IsFoundForRow row finding a → IsFoundForRow row finding b
still_found row finding a b tables last h = record {
  reply = h.reply;
  found = h.found;
  at = ap (λ (t : Tables). row_at t row.id) tables ∙ h.at;
  pending = h.pending;
  last = last ∙ h.last;
}

-- the row may give way to another file
pub may_yield : (row : Row) (remote : List ℕ × Content) (d : SiteNow)
    → IsFoundForRow row (Other remote) d → IsContentOf row.id remote.1
    → MayYieldTo row (Some remote) d
may_yield row remote d h sound = record {
  sound = sound;
  may = λ shown. record {
    row = row;
    reply = h.reply;
    pending = record { at = h.at; pending = h.pending };
    check = h.last;
    other = other_found row.id row.base h.reply remote h.found;
    copied = refl;
  };
}

-- a row that waits, of which the file was found
pub found_row : (row : Row) (finding : Finding) (sort : Call → Bool) (a b : WorkNow)
    → b.site.tables ≡ a.site.tables → row_at a.site.tables row.id ≡ Some row
    → row.pending ≡ true → Does (FindsFile row.id finding) sort a b
    → IsFoundForRow row finding b.site
found_row row finding sort a b same at pending h =
    let f = found_behind row.id finding sort a b h in
    let still : row_at b.site.tables row.id ≡ Some row =
    ap (λ (t : Tables). row_at t row.id) same ∙ at in
    record {
      reply = f.reply;
      found = f.found ∙ ap (λ (o : Option Row). finding_of row.id (base_of o) f.reply) still;
      at = still;
      pending = pending;
      last = f.last;
    }

-- a get is no put
pub unput_row : (id : List ℕ) (finding : Finding) (sort : Call → Bool) (a b : WorkNow)
    → Does (FindsFile id finding) sort a b → has_put id (session_calls a.site.line.trail) ≡ false
    → has_put id (session_calls b.site.line.trail) ≡ false
unfolding has_put view_from
unput_row id finding sort a b h unput =
    behind (λ t cs u us. has_put id us ≡ has_put id cs) (FindsFile id finding) sort a b
    (λ v ds it. ap (λ (x : List Deed). has_put id (view_from v x).calls) it.4) h
    ∙ unput

-- and reads no info
pub read_row : (id : List ℕ) (finding : Finding) (sort : Call → Bool) (a b : WorkNow)
    → Does (FindsFile id finding) sort a b
    → info_read (session_calls b.site.line.trail) ≡ info_read (session_calls a.site.line.trail)
unfolding info_read view_from
read_row id finding sort a b h =
    behind (λ t cs u us. info_read us ≡ info_read cs) (FindsFile id finding) sort a b
    (λ v ds it. ap (λ (x : List Deed). info_read (view_from v x).calls) it.4) h

-- ---- files that are put as they are

-- they still are, of these tables, if no other info was read
pub still_plain : (a b : SiteNow) → b.tables ≡ a.tables
    → info_read (session_calls b.line.trail) ≡ info_read (session_calls a.line.trail)
    → IsPlain a → IsPlain b
still_plain a b tables read h = plain_as a b (ap (λ (t : Tables). t.info) tables) read h

-- ---- puts

none_is : (base : Option (List ℕ)) → is_none base ≡ true → base ≡ None
none_is None e = refl
none_is (Some base) e = absurd cc

pub may_put_blob : (row : Row) (d : SiteNow) (shown : Option Shown) → IsFoundForRow row Same d
    → is_new_resource row ≡ true
    → (is_none row.base ≡ true → has_put row.id (session_calls d.line.trail) ≡ false)
    → MayPutBlob (view_of shown d) row.id
may_put_blob row d shown h new unput =
    let parts = and_parts (is_resource (item_of row.content)) (is_none row.base) new in
    record {
      row = row;
      pending = record { at = h.at; pending = h.pending };
      resource = parts.0;
      new = none_is row.base parts.1;
      before = unput parts.1;
    }

valid_content : (id : List ℕ) (content : Content) → IsContentOf id content
    → IsItem (item_of content)
valid_content id (Plain item) h = h.0.valid
valid_content id (Sealed item) h = h.0.valid

-- a row's item can be written
pub valid_item : (t : Tables) (row : Row) → IsSound t → row_at t row.id ≡ Some row
    → IsItem (item_of row.content)
valid_item t row sound at =
    valid_content row.id row.content (All-at row_id IsSoundRow t.rows row.id row sound.rows at).content

pub may_put : (row : Row) (d : SiteNow) (text : List ℕ) (shown : Option Shown)
    → IsFoundForRow row Same d → IsPlain d
    → text ≡ written (item_of row.content)
    → MayPut (view_of shown d) row.id text
may_put row d text shown h readable is = record {
  row = row;
  reply = h.reply;
  pending = record { at = h.at; pending = h.pending };
  check = h.last;
  same = base_found row.id row.base h.reply h.found;
  text = subst (λ (seals : Bool). IsTextFor seals no_keys (item_of row.content) text)
      (sym readable) is;
}

last_here : (id : List ℕ) (h : Heard) (calls : List Heard) (on : Bool) → on ≡ true
    → (if on then Some h else last_on id calls) ≡ Some h
last_here id h calls true e = refl
last_here id h calls false e = absurd cc

put_here : (id text : List ℕ) (v : View) (ds : List Deed) → PutsText id text v ds
    → (now : ℕ) × (last_on id (view_from v ds).calls
    ≡ Some (record { call = Put (Item id) text; reply = Some (Done now) }))
unfolding last_on view_from
put_here id text v ds h = (
  h.0,
  ap (λ (x : List Deed). last_on id (view_from v x).calls) h.1
      ∙ last_here id (record { call = Put (Item id) text; reply = Some (Done h.0) }) v.calls
      (bytes_eq id id) (bytes_eq-refl id),
)

pub may_upload : (id text : List ℕ) (sort : Call → Bool) (a b : WorkNow) (shown : Option Shown)
    → Does (PutsText id text) sort a b → MayUpload (view_of shown b.site) id text
may_upload id text sort a b shown h =
    let put = behind
    (λ t cs u us. (now : ℕ) × (last_on id us
    ≡ Some (record { call = Put (Item id) text; reply = Some (Done now) })))
    (PutsText id text) sort a b (put_here id text) h in
    record { now = put.0; put = put.1 }

-- a put of a file that didn't fail was done
put_done : (path : Path) (content : List ℕ) (reply : Reply) → IsReplyTo (Put path content) reply
    → ¬ (reply ≡ Failed) → (now : ℕ) × (reply ≡ Done now)
put_done path content (Done now) shape heard = (now, refl)
put_done path content Failed shape heard = absurd (heard refl)
put_done path content (Absent now) shape heard = absurd shape
put_done path content (Listed listing) shape heard = absurd shape
put_done path content (Got now bytes) shape heard = absurd shape
put_done path content (GotBlob now size) shape heard = absurd shape
put_done path content (TooLarge size) shape heard = absurd shape

pub text_put : (id text : List ℕ) (reply : Reply) → IsAnswer (Put (Item id) text) reply
    → (v : View) (ds : List Deed) → Hears (Put (Item id) text) reply v ds → PutsText id text v ds
text_put id text reply answer v ds h =
    let d = put_done (Item id) text reply answer.0 answer.1 in
    (d.0, subst (λ (r : Reply). Hears (Put (Item id) text) r v ds) d.1 h)

-- ---- the bytes of a new resource

pub puts_no_bytes : (blobs : Option (List Blob)) (id : List ℕ) (new : Bool) (a : WorkNow)
    → new ≡ false → IsReady a.site a.lease → Does (PutsIfNew blobs id new) is_upload a a
puts_no_bytes blobs id true a e ready = absurd cc
puts_no_bytes blobs id false a e ready = does_nothing is_upload a ready

pub puts_bytes : (blobs : Option (List Blob)) (id : List ℕ) (new : Bool) (a b : WorkNow)
    (result : Result (Unit {0}) StepErr) → new ≡ true
    → Ends (PutsKept blobs id) is_upload a result b
    → Ends (PutsIfNew blobs id new) is_upload a result b
puts_bytes blobs id true a b result e h = h
puts_bytes blobs id false a b result e h = absurd cc
