-- What the parts of an upload leave of all else but the row that they are about.
use Rattle.std.specs.Prelude.{ℕ, ◌≡◌, List, [], ◌∷◌, ◌++◌, length, map, filter, Bool, true, false, ◌||◌, bytes_eq, if◌then◌else◌, Option, Some, None, refl}
use Rattle.std.proofs.Common.{sym, ap, subst, ◌∙◌, inl, inr}
use Rattle.conflicts.specs.Rules.{move_of}
use Rattle.item_text.specs.Grammar.{written}
use Rattle.jop_base.proofs.KeyedLaws.{key-at}
use Rattle.jop_base.specs.Keyed.{IsSorted}
use Rattle.jop_base.specs.declared.path.Path.TheVariants.{Item}
use Rattle.jop_target.specs.declared.call.Call.TheVariants.{Get, GetBlob, Put, PutBlob}
use Rattle.jop_target.specs.declared.reply.Reply.{Reply}
use Rattle.jop_target.specs.declared.reply.Reply.TheVariants.{Done}
use Rattle.law_licences.proofs.Joins.{view_from-append}
use Rattle.law_licences.specs.Checks.{is_pending}
use Rattle.law_licences.specs.Copies.{copies_for}
use Rattle.law_licences.specs.Deeds.{Deed, Asks}
use Rattle.law_licences.specs.Infos.{info_read}
use Rattle.law_licences.specs.Items.{is_folder, is_note_in, is_resource}
use Rattle.law_licences.specs.Puts.{has_put}
use Rattle.law_licences.specs.Views.{View, view_from}
use Rattle.local_store.specs.Rows.{item_of, row_id}
use Rattle.local_store.specs.Tables.{row_at}
use Rattle.keeper.specs.declared.blob.Blob.{Blob}
use Rattle.local_store.specs.declared.change.Change.TheVariants.{Uploaded}
use Rattle.local_store.specs.declared.content.Content.{Content}
use Rattle.local_store.specs.declared.row.Row.{Row}
use Rattle.session.specs.Findings.{finding_of, waiting}
use Rattle.session.specs.Parts.{Changes, ForEach, Hears, Nothing, Part, Then}
use Rattle.session.specs.Sessions.{GetsBytes, GetsBytesOf}
use Rattle.session.specs.declared.finding.Finding.{Finding}
use Rattle.session.specs.declared.finding.Finding.TheVariants.{Same, Other, Missing, Unreadable}
use Rattle.upload.proofs.Checked.{no_item}
use Rattle.upload.proofs.Waiting.{Keeps, conflict_still, keeps_conflict, keeps_moved, keeps_on, keeps_same, keeps_uploaded, uploaded_still}
use Rattle.upload.specs.Settled.{IsNoItem, WasUnreadable}
use Rattle.session.specs.Asking.{IsAnswer}
use Rattle.upload.specs.Uploading.{Clears, ClearsIf, Puts, PutsIfNew, PutsKept, PutsText, PutsThese, Settles, UploadsFound, UploadsOne, UploadsRow, Yields, YieldsTo, blob_bytes, is_new_resource}

-- Rows that wait are kept, items of other ids aren't put, what was heard isn't forgotten, and no other info is read.
pub record Tends (id : List ℕ) (v w : View) : Type 0 where
  pub keeps : Keeps v.tables w.tables
  pub puts : (other : List ℕ) → bytes_eq id other ≡ false
      → has_put other w.calls ≡ has_put other v.calls
  pub heard : (other : List ℕ) → WasUnreadable other v.calls → WasUnreadable other w.calls
  pub read : info_read w.calls ≡ info_read v.calls

-- a part tends to the row of this id alone
IsTending : List ℕ → Part → Type 0
IsTending id P =
    (v : View) (ds : List Deed) → IsSorted row_id v.tables.rows → P v ds
    → Tends id v (view_from v ds)

-- and then it doesn't wait
IsSettling : List ℕ → Part → Type 0
IsSettling id P =
    (v : View) (ds : List Deed) → IsSorted row_id v.tables.rows → P v ds
    → is_pending (row_at (view_from v ds).tables id) ≡ false

-- ---- one after the other

pub tends_same : (id : List ℕ) (v : View) → IsSorted row_id v.tables.rows → Tends id v v
tends_same id v ordered = record {
  keeps = keeps_same v.tables ordered;
  puts = λ other apart. refl;
  heard = λ other was. was;
  read = refl;
}

pub tends_on : (id : List ℕ) (u v w : View) → Tends id u v → Tends id v w → Tends id u w
tends_on id u v w h k = record {
  keeps = keeps_on u.tables v.tables w.tables h.keeps k.keeps;
  puts = λ other apart. k.puts other apart ∙ h.puts other apart;
  heard = λ other was. k.heard other (h.heard other was);
  read = k.read ∙ h.read;
}

tends_then : (id : List ℕ) (P Q : Part) → IsTending id P → IsTending id Q → IsTending id (Then P Q)
unfolding IsTending
tends_then id P Q p q v ds ordered h =
    let mid = view_from v h.first in
    let one = p v h.first ordered h.before in
    let two = q mid h.second one.keeps.ordered h.behind in
    subst (λ (w : View). Tends id v w)
    (sym (ap (view_from v) h.both ∙ view_from-append v h.first h.second))
    (tends_on id v mid (view_from mid h.second) one two)

settles_then : (id : List ℕ) (P Q : Part) → IsTending id P → IsSettling id Q
    → IsSettling id (Then P Q)
unfolding IsTending IsSettling
settles_then id P Q p q v ds ordered h =
    let mid = view_from v h.first in
    let one = p v h.first ordered h.before in
    ap (λ (w : View). is_pending (row_at w.tables id))
    (ap (view_from v) h.both ∙ view_from-append v h.first h.second)
    ∙ q mid h.second one.keeps.ordered h.behind

tends_nothing : (id : List ℕ) → IsTending id Nothing
unfolding IsTending view_from
tends_nothing id v ds ordered h =
    subst (λ (x : List Deed). Tends id v (view_from v x)) (sym h) (tends_same id v ordered)

-- ---- calls

tends_get : (id other : List ℕ) (reply : Reply) → IsTending id (Hears (Get (Item other)) reply)
unfolding IsTending view_from has_put WasUnreadable info_read
tends_get id other reply v ds ordered h =
    subst (λ (x : List Deed). Tends id v (view_from v x)) (sym h) (record {
      keeps = keeps_same v.tables ordered;
      puts = λ another apart. refl;
      heard = λ another was. inr was;
      read = refl;
    })

tends_blob : (id other : List ℕ) (len : ℕ) (reply : Reply)
    → IsTending id (Hears (PutBlob other len) reply)
unfolding IsTending view_from has_put WasUnreadable info_read
tends_blob id other len reply v ds ordered h =
    subst (λ (x : List Deed). Tends id v (view_from v x)) (sym h) (record {
      keeps = keeps_same v.tables ordered;
      puts = λ another apart. refl;
      heard = λ another was. inr was;
      read = refl;
    })

tends_put : (id content : List ℕ) (reply : Reply) → IsTending id (Hears (Put (Item id) content) reply)
unfolding IsTending view_from has_put WasUnreadable info_read
tends_put id content reply v ds ordered h =
    subst (λ (x : List Deed). Tends id v (view_from v x)) (sym h) (record {
      keeps = keeps_same v.tables ordered;
      puts = λ another apart. ap (λ (b : Bool). b || has_put another v.calls) apart;
      heard = λ another was. inr was;
      read = refl;
    })

tends_got : (id other : List ℕ) (reply : Reply) → IsTending id (Hears (GetBlob other) reply)
unfolding IsTending view_from has_put WasUnreadable info_read
tends_got id other reply v ds ordered h =
    subst (λ (x : List Deed). Tends id v (view_from v x)) (sym h) (record {
      keeps = keeps_same v.tables ordered;
      puts = λ another apart. refl;
      heard = λ another was. inr was;
      read = refl;
    })

-- ---- changes

tends_uploaded : (id other bytes : List ℕ) → IsTending id (Changes (Uploaded other bytes))
unfolding IsTending view_from
tends_uploaded id other bytes v ds ordered h =
    subst (λ (x : List Deed). Tends id v (view_from v x)) (sym h) (record {
      keeps = keeps_uploaded v.tables other bytes ordered;
      puts = λ another apart. refl;
      heard = λ another was. was;
      read = refl;
    })

settles_uploaded : (id bytes : List ℕ) → IsSettling id (Changes (Uploaded id bytes))
unfolding IsSettling view_from
settles_uploaded id bytes v ds ordered h =
    ap (λ (x : List Deed). is_pending (row_at (view_from v x).tables id)) h
    ∙ uploaded_still v.tables id bytes

tends_yields : (id : List ℕ) (row : Row) (remote : Option (List ℕ × Content))
    → IsTending id (Yields row remote)
unfolding IsTending view_from
tends_yields id row remote v ds ordered h =
    subst (λ (x : List Deed). Tends id v (view_from v x)) (sym h) (record {
      keeps = keeps_conflict v.tables row.id remote (copies_for row.content remote) ordered;
      puts = λ another apart. refl;
      heard = λ another was. was;
      read = refl;
    })

settles_yields : (row : Row) (remote : Option (List ℕ × Content))
    → IsSettling row.id (Yields row remote)
unfolding IsSettling view_from
settles_yields row remote v ds ordered h =
    ap (λ (x : List Deed). is_pending (row_at (view_from v x).tables row.id)) h
    ∙ conflict_still v.tables row.id remote (copies_for row.content remote) ordered

tends_move : (id : List ℕ) (row : Row) → IsTending id (Changes (move_of row))
unfolding IsTending view_from
tends_move id row v ds ordered h =
    subst (λ (x : List Deed). Tends id v (view_from v x)) (sym h) (record {
      keeps = keeps_moved v.tables row.id ordered;
      puts = λ another apart. refl;
      heard = λ another was. was;
      read = refl;
    })

tends_moves : (id : List ℕ) (rows : List Row) → IsTending id (ForEach Changes (map move_of rows))
unfolding ForEach
tends_moves id [] = tends_nothing id
tends_moves id (r ∷ rs) =
    tends_then id (Changes (move_of r)) (ForEach Changes (map move_of rs)) (tends_move id r)
    (tends_moves id rs)

-- ---- the row's own part

tends_these : (id other : List ℕ) (bytes : Option (List ℕ)) → IsTending id (PutsThese other bytes)
unfolding IsTending
tends_these id other None v ds ordered h = tends_nothing id v ds ordered h
tends_these id other (Some bytes) v ds ordered h =
    tends_blob id other (length bytes) (Done h.0) v ds ordered h.1

tends_kept : (id other : List ℕ) (blobs : Option (List Blob)) → IsTending id (PutsKept blobs other)
unfolding IsTending
tends_kept id other (Some blobs) v ds ordered h =
    tends_these id other (blob_bytes blobs other) v ds ordered h
tends_kept id other None v ds ordered h = elim h [
  | inl none ↦ tends_nothing id v ds ordered none
  | inr put ↦ tends_blob id other put.0 (Done put.1.0) v ds ordered put.1.1
]

tends_if_new : (id other : List ℕ) (blobs : Option (List Blob)) (new : Bool)
    → IsTending id (PutsIfNew blobs other new)
tends_if_new id other blobs true = tends_kept id other blobs
tends_if_new id other blobs false = tends_nothing id

tends_text : (id text : List ℕ) → IsTending id (PutsText id text)
unfolding IsTending
tends_text id text v ds ordered h = tends_put id text (Done h.0) v ds ordered h.1

tends_puts : (blobs : Option (List Blob)) (row : Row) → IsTending row.id (Puts blobs row)
tends_puts blobs row =
    let text = written (item_of row.content) in
    tends_then row.id (PutsIfNew blobs row.id (is_new_resource row))
    (Then (PutsText row.id text) (Changes (Uploaded row.id text)))
    (tends_if_new row.id row.id blobs (is_new_resource row))
    (tends_then row.id (PutsText row.id text) (Changes (Uploaded row.id text))
    (tends_text row.id text) (tends_uploaded row.id row.id text))

settles_puts : (blobs : Option (List Blob)) (row : Row) → IsSettling row.id (Puts blobs row)
settles_puts blobs row =
    let text = written (item_of row.content) in
    settles_then row.id (PutsIfNew blobs row.id (is_new_resource row))
    (Then (PutsText row.id text) (Changes (Uploaded row.id text)))
    (tends_if_new row.id row.id blobs (is_new_resource row))
    (settles_then row.id (PutsText row.id text) (Changes (Uploaded row.id text))
    (tends_text row.id text) (settles_uploaded row.id text))

tends_clears_if : (id folder : List ℕ) (is : Bool) → IsTending id (ClearsIf folder is)
unfolding IsTending
tends_clears_if id folder true v ds ordered h =
    tends_moves id (filter (is_note_in folder) v.tables.rows) v ds ordered h
tends_clears_if id folder false v ds ordered h = tends_nothing id v ds ordered h

tends_goes : (row : Row) → IsTending row.id (Then (Clears row) (Yields row None))
tends_goes row =
    tends_then row.id (Clears row) (Yields row None)
    (tends_clears_if row.id row.id (is_folder (item_of row.content)))
    (tends_yields row.id row None)

settles_goes : (row : Row) → IsSettling row.id (Then (Clears row) (Yields row None))
settles_goes row =
    settles_then row.id (Clears row) (Yields row None)
    (tends_clears_if row.id row.id (is_folder (item_of row.content)))
    (settles_yields row None)

tends_bytes : (id other : List ℕ) (is : Bool) → IsTending id (GetsBytes other is)
unfolding IsTending
tends_bytes id other true v ds ordered h = tends_got id other h.0 v ds ordered h.1.1
tends_bytes id other false v ds ordered h = tends_nothing id v ds ordered h

tends_yields_to : (row : Row) (remote : List ℕ × Content)
    → IsTending row.id (YieldsTo row remote)
tends_yields_to row remote =
    tends_then row.id (GetsBytesOf row.id remote.1) (Yields row (Some remote))
    (tends_bytes row.id row.id (is_resource (item_of remote.1)))
    (tends_yields row.id row (Some remote))

settles_yields_to : (row : Row) (remote : List ℕ × Content)
    → IsSettling row.id (YieldsTo row remote)
settles_yields_to row remote =
    settles_then row.id (GetsBytesOf row.id remote.1) (Yields row (Some remote))
    (tends_bytes row.id row.id (is_resource (item_of remote.1)))
    (settles_yields row (Some remote))

pub settles_got_yields : (row : Row) (reply : Reply) (remote : List ℕ × Content) (v : View)
    (ds : List Deed) → IsSorted row_id v.tables.rows
    → Then (Hears (Get (Item row.id)) reply) (YieldsTo row remote) v ds
    → is_pending (row_at (view_from v ds).tables row.id) ≡ false
unfolding IsSettling
settles_got_yields row reply remote v ds ordered h =
    settles_then row.id (Hears (Get (Item row.id)) reply) (YieldsTo row remote)
    (tends_get row.id row.id reply) (settles_yields_to row remote) v ds ordered h

-- ---- a row

-- The row of this id was uploaded or gave way, or its file was seen and can't be read. Whatever else waits is as it was.
pub record IsTended (id : List ℕ) (v w : View) : Type 0 where
  pub tends : Tends id v w
  pub settled : is_pending (row_at w.tables id) ≡ true → WasUnreadable id w.calls
  pub unput : is_pending (row_at w.tables id) ≡ true
      → has_put id w.calls ≡ has_put id v.calls

tended_by : (id : List ℕ) (P : Part) (v : View) (ds : List Deed) → IsTending id P
    → IsSettling id P → IsSorted row_id v.tables.rows → P v ds → IsTended id v (view_from v ds)
unfolding IsTending IsSettling
tended_by id P v ds tends settles ordered h =
    let done = settles v ds ordered h in
    record {
      tends = tends v ds ordered h;
      settled = λ waits. absurd (let e : false ≡ true = sym done ∙ waits in cc);
      unput = λ waits. absurd (let e : false ≡ true = sym done ∙ waits in cc);
    }

-- what is done with the row was told by its get
tended_on : (row : Row) (reply : Reply) (P : Part) (v : View) (ds : List Deed)
    → IsTending row.id P → IsSettling row.id P → IsSorted row_id v.tables.rows
    → Then (Hears (Get (Item row.id)) reply) P v ds → IsTended row.id v (view_from v ds)
tended_on row reply P v ds tends settles ordered h =
    tended_by row.id (Then (Hears (Get (Item row.id)) reply) P) v ds
    (tends_then row.id (Hears (Get (Item row.id)) reply) P (tends_get row.id row.id reply) tends)
    (settles_then row.id (Hears (Get (Item row.id)) reply) P (tends_get row.id row.id reply)
    settles)
    ordered h

-- of a file that can't be read nothing comes
only_got : (row : Row) (reply : Reply) (v : View) (ds : List Deed)
    → IsSorted row_id v.tables.rows → IsNoItem row.id reply
    → Then (Hears (Get (Item row.id)) reply) Nothing v ds → IsTended row.id v (view_from v ds)
unfolding view_from has_put WasUnreadable info_read
only_got row reply v ds ordered none h =
    let e : ds ≡ Asks (Get (Item row.id)) (Some reply) ∷ [] =
    h.both
    ∙ (ap (λ (x : List Deed). x ++ h.second) h.before
    ∙ ap (λ (x : List Deed). Asks (Get (Item row.id)) (Some reply) ∷ x) h.behind) in
    subst (λ (x : List Deed). IsTended row.id v (view_from v x)) (sym e) (record {
      tends = record {
        keeps = keeps_same v.tables ordered;
        puts = λ another apart. refl;
        heard = λ another was. inr was;
        read = refl;
      };
      settled = λ waits. inl (record { reply = reply; none = none; is = refl });
      unput = λ waits. refl;
    })

tended_found : (blobs : Option (List Blob)) (row : Row) (reply : Reply) (f : Finding) (v : View)
    (ds : List Deed) → f ≡ finding_of row.id row.base reply
    → IsAnswer (Get (Item row.id)) reply → IsSorted row_id v.tables.rows
    → Then (Hears (Get (Item row.id)) reply) (Settles blobs row f) v ds
    → IsTended row.id v (view_from v ds)
tended_found blobs row reply Same v ds is answer ordered h =
    tended_on row reply (Puts blobs row) v ds (tends_puts blobs row) (settles_puts blobs row) ordered h
tended_found blobs row reply (Other remote) v ds is answer ordered h =
    tended_on row reply (YieldsTo row remote) v ds (tends_yields_to row remote)
    (settles_yields_to row remote) ordered h
tended_found blobs row reply Missing v ds is answer ordered h =
    tended_on row reply (Then (Clears row) (Yields row None)) v ds (tends_goes row)
    (settles_goes row) ordered h
tended_found blobs row reply Unreadable v ds is answer ordered h =
    only_got row reply v ds ordered (no_item row.id row.base reply answer.0 answer.1 is) h

pub tended_row : (blobs : Option (List Blob)) (row : Row) (v : View) (ds : List Deed)
    → IsSorted row_id v.tables.rows → UploadsRow blobs row v ds
    → IsTended row.id v (view_from v ds)
tended_row blobs row v ds ordered h =
    tended_found blobs row h.0 (finding_of row.id row.base h.0) v ds refl h.1.0 ordered h.1.1

tended_nothing : (id : List ℕ) (v : View) (ds : List Deed)
    → is_pending (row_at v.tables id) ≡ false → IsSorted row_id v.tables.rows → Nothing v ds
    → IsTended id v (view_from v ds)
unfolding view_from
tended_nothing id v ds still ordered h =
    subst (λ (x : List Deed). IsTended id v (view_from v x)) (sym h) (record {
      tends = tends_same id v ordered;
      settled = λ waits. absurd (let e : false ≡ true = sym still ∙ waits in cc);
      unput = λ waits. refl;
    })

tended_if : (blobs : Option (List Blob)) (id : List ℕ) (row : Row) (pending : Bool) (v : View)
    (ds : List Deed) → row_at v.tables id ≡ Some row → row.pending ≡ pending
    → IsSorted row_id v.tables.rows
    → UploadsFound blobs (if pending then Some row else None) v ds
    → IsTended id v (view_from v ds)
tended_if blobs id row true v ds at e ordered h =
    subst (λ (k : List ℕ). IsTended k v (view_from v ds)) (key-at row_id v.tables.rows id row at)
    (tended_row blobs row v ds ordered h)
tended_if blobs id row false v ds at e ordered h =
    tended_nothing id v ds (ap is_pending at ∙ e) ordered h

tended_at : (blobs : Option (List Blob)) (id : List ℕ) (row : Option Row) (v : View)
    (ds : List Deed) → row_at v.tables id ≡ row → IsSorted row_id v.tables.rows
    → UploadsFound blobs (waiting row) v ds → IsTended id v (view_from v ds)
tended_at blobs id None v ds at ordered h = tended_nothing id v ds (ap is_pending at) ordered h
tended_at blobs id (Some row) v ds at ordered h =
    tended_if blobs id row row.pending v ds at refl ordered h

pub tended_one : (blobs : Option (List Blob)) (id : List ℕ) (v : View) (ds : List Deed)
    → IsSorted row_id v.tables.rows → UploadsOne blobs id v ds → IsTended id v (view_from v ds)
tended_one blobs id v ds ordered h =
    tended_at blobs id (row_at v.tables id) v ds refl ordered h
