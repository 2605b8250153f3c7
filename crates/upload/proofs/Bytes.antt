-- Which bytes of resources an upload gets: those of a row that gives way, and doesn't wait then. So those of each row that
-- waits are as they were when it began.
use Rattle.std.specs.Prelude.{ℕ, ◌≡◌, ◌⊎◌, List, [], ◌∷◌, ◌++◌, length, map, filter, Bool, true, false, bytes_eq, if◌then◌else◌, Option, Some, None, option_map, refl}
use Rattle.std.proofs.Common.{sym, ap, subst, ◌∙◌, inl, inr, append-nil}
use Rattle.conflicts.specs.Rules.{move_of}
use Rattle.item_text.specs.Grammar.{written}
use Rattle.jop_base.proofs.KeyedLaws.{at-put_other, key-at, same_text}
use Rattle.jop_base.specs.Keyed.{IsSorted, at, put}
use Rattle.jop_base.specs.declared.path.Path.TheVariants.{Item}
use Rattle.jop_target.specs.declared.call.Call.{Call}
use Rattle.jop_target.specs.declared.call.Call.TheVariants.{List as ListDir, Get, Put, Delete, MakeDir, GetBlob, PutBlob}
use Rattle.jop_target.specs.declared.reply.Reply.{Reply}
use Rattle.jop_target.specs.declared.reply.Reply.TheVariants.{Listed, Got, GotBlob, Absent, Done, Failed, TooLarge}
use Rattle.keeper.specs.Keepers.{Kept, blob_id}
use Rattle.keeper.specs.declared.blob.Blob.{Blob}
use Rattle.law_licences.specs.Checks.{is_pending}
use Rattle.law_licences.specs.Deeds.{Deed, Begins, Asks, Makes, MakesUntold, Ends, Stops, changes_in}
use Rattle.law_licences.specs.Items.{is_folder, is_note_in, is_resource}
use Rattle.law_licences.specs.Views.{View, is_about_locks, view_from}
use Rattle.local_store.specs.Rows.{item_of, row_id}
use Rattle.local_store.specs.Tables.{row_at}
use Rattle.local_store.specs.declared.change.Change.{Change}
use Rattle.local_store.specs.declared.content.Content.{Content}
use Rattle.local_store.specs.declared.row.Row.{Row}
use Rattle.local_store.specs.declared.tables.Tables.{Tables}
use Rattle.session.proofs.Joins.{view_at}
use Rattle.session.proofs.Saves.{blobs_got-append, none_told}
use Rattle.session.proofs.Seen.{view_from-but_locks}
use Rattle.session.specs.Doing.{Does}
use Rattle.session.specs.Findings.{finding_of, waiting}
use Rattle.session.specs.Parts.{Changes, ForEach, Hears, Nothing, Part, Then, but_locks}
use Rattle.session.specs.Saving.{Told, blobs_got, got_in, kept_after_saves, saved_all, tale_of, told_of}
use Rattle.session.specs.Sessions.{GetsBytes}
use Rattle.session.specs.Work.{WorkNow, view_of}
use Rattle.session.specs.declared.finding.Finding.{Finding}
use Rattle.session.specs.declared.finding.Finding.TheVariants.{Same, Other, Missing, Unreadable}
use Rattle.upload.proofs.Tending.{settles_got_yields}
use Rattle.upload.specs.Uploading.{Clears, ClearsIf, Puts, PutsIfNew, PutsKept, PutsText, PutsThese, Settles, UploadsFound, UploadsOne, Yields, YieldsTo, blob_bytes, blobs_of, is_new_resource, is_upload}

-- ---- parts that get none

IsQuiet : Part → Type 0
IsQuiet P = (v : View) (ds : List Deed) → P v ds → blobs_got ds ≡ []

quiet_then : (P Q : Part) → IsQuiet P → IsQuiet Q → IsQuiet (Then P Q)
unfolding IsQuiet
quiet_then P Q p q v ds h =
    ap blobs_got h.both
    ∙ (blobs_got-append h.first h.second
    ∙ (ap (λ (x : List Told). x ++ blobs_got h.second) (p v h.first h.before)
    ∙ q (view_from v h.first) h.second h.behind))

quiet_nothing : IsQuiet Nothing
unfolding IsQuiet blobs_got
quiet_nothing v ds h = ap blobs_got h

quiet_change : (c : Change) → IsQuiet (Changes c)
unfolding IsQuiet blobs_got
quiet_change c v ds h = ap blobs_got h

quiet_get : (id : List ℕ) (reply : Reply) → IsQuiet (Hears (Get (Item id)) reply)
unfolding IsQuiet blobs_got
quiet_get id reply v ds h = ap blobs_got h

quiet_put : (id text : List ℕ) (reply : Reply) → IsQuiet (Hears (Put (Item id) text) reply)
unfolding IsQuiet blobs_got
quiet_put id text reply v ds h = ap blobs_got h

quiet_blob : (id : List ℕ) (len : ℕ) (reply : Reply) → IsQuiet (Hears (PutBlob id len) reply)
unfolding IsQuiet blobs_got
quiet_blob id len reply v ds h = ap blobs_got h

quiet_moves : (rows : List Row) → IsQuiet (ForEach Changes (map move_of rows))
unfolding ForEach
quiet_moves [] = quiet_nothing
quiet_moves (r ∷ rs) =
    quiet_then (Changes (move_of r)) (ForEach Changes (map move_of rs)) (quiet_change (move_of r))
    (quiet_moves rs)

quiet_these : (id : List ℕ) (bytes : Option (List ℕ)) → IsQuiet (PutsThese id bytes)
unfolding IsQuiet
quiet_these id None v ds h = quiet_nothing v ds h
quiet_these id (Some bytes) v ds h = quiet_blob id (length bytes) (Done h.0) v ds h.1

quiet_kept : (blobs : Option (List Blob)) (id : List ℕ) → IsQuiet (PutsKept blobs id)
unfolding IsQuiet
quiet_kept (Some blobs) id v ds h = quiet_these id (blob_bytes blobs id) v ds h
quiet_kept None id v ds h = elim h [
  | inl none ↦ quiet_nothing v ds none
  | inr put ↦ quiet_blob id put.0 (Done put.1.0) v ds put.1.1
]

quiet_if_new : (blobs : Option (List Blob)) (id : List ℕ) (new : Bool)
    → IsQuiet (PutsIfNew blobs id new)
quiet_if_new blobs id true = quiet_kept blobs id
quiet_if_new blobs id false = quiet_nothing

quiet_text : (id text : List ℕ) → IsQuiet (PutsText id text)
unfolding IsQuiet
quiet_text id text v ds h = quiet_put id text (Done h.0) v ds h.1

quiet_clears : (id : List ℕ) (is : Bool) → IsQuiet (ClearsIf id is)
unfolding IsQuiet
quiet_clears id true v ds h = quiet_moves (filter (is_note_in id) v.tables.rows) v ds h
quiet_clears id false v ds h = quiet_nothing v ds h

-- ---- a row

-- what is got are bytes of this resource
AreOf : List ℕ → List Told → Type 0
AreOf id [] = Unit {0}
AreOf id (t ∷ ts) = (t.0 ≡ id) × AreOf id ts

-- A part has got no bytes, or those of this row, which doesn't wait then.
pub GotOf : List ℕ → View → List Deed → Type 0
GotOf id v ds =
    (blobs_got ds ≡ [])
    ⊎ (AreOf id (blobs_got ds) × (is_pending (row_at (view_from v ds).tables id) ≡ false))

told_of_it : (id : List ℕ) (reply : Reply) → AreOf id (told_of id reply ++ [])
unfolding AreOf
told_of_it id (GotBlob now len) = (refl, tt)
told_of_it id (Listed listing) = tt
told_of_it id (Got now content) = tt
told_of_it id (Absent now) = tt
told_of_it id (Done now) = tt
told_of_it id Failed = tt
told_of_it id (TooLarge len) = tt

bytes_of_it : (id : List ℕ) (is : Bool) (v : View) (ds : List Deed) → GetsBytes id is v ds
    → AreOf id (blobs_got ds)
unfolding AreOf blobs_got
bytes_of_it id true v ds h =
    subst (λ (x : List Deed). AreOf id (blobs_got x)) (sym h.1.1) (told_of_it id h.0)
bytes_of_it id false v ds h =
    subst (λ (x : List Deed). AreOf id (blobs_got x)) (sym h) tt

yields_of_it : (row : Row) (reply : Reply) (remote : List ℕ × Content) (v : View)
    (ds : List Deed) → Then (Hears (Get (Item row.id)) reply) (YieldsTo row remote) v ds
    → AreOf row.id (blobs_got ds)
unfolding IsQuiet
yields_of_it row reply remote v ds h =
    let k = h.behind in
    let u = view_from v h.first in
    let e : blobs_got ds ≡ blobs_got k.first =
    ap blobs_got h.both
    ∙ (blobs_got-append h.first h.second
    ∙ (ap (λ (x : List Told). x ++ blobs_got h.second) (quiet_get row.id reply v h.first h.before)
    ∙ (ap blobs_got k.both
    ∙ (blobs_got-append k.first k.second
    ∙ (ap (λ (x : List Told). blobs_got k.first ++ x)
    (quiet_change _ (view_from u k.first) k.second k.behind)
    ∙ append-nil (blobs_got k.first)))))) in
    subst (λ (x : List Told). AreOf row.id x) (sym e)
    (bytes_of_it row.id (is_resource (item_of remote.1)) u k.first k.before)

got_found : (blobs : Option (List Blob)) (row : Row) (reply : Reply) (f : Finding) (v : View)
    (ds : List Deed) → IsSorted row_id v.tables.rows
    → Then (Hears (Get (Item row.id)) reply) (Settles blobs row f) v ds → GotOf row.id v ds
unfolding GotOf IsQuiet
got_found blobs row reply Same v ds ordered h =
    let text = written (item_of row.content) in
    let puts = Then (PutsText row.id text) (Changes _) in
    inl (quiet_then (Hears (Get (Item row.id)) reply) (Puts blobs row) (quiet_get row.id reply)
    (quiet_then (PutsIfNew blobs row.id (is_new_resource row)) puts
    (quiet_if_new blobs row.id (is_new_resource row))
    (quiet_then (PutsText row.id text) (Changes _) (quiet_text row.id text) (quiet_change _))) v ds h)
got_found blobs row reply (Other remote) v ds ordered h =
    inr (yields_of_it row reply remote v ds h, settles_got_yields row reply remote v ds ordered h)
got_found blobs row reply Missing v ds ordered h =
    inl (quiet_then (Hears (Get (Item row.id)) reply) (Then (Clears row) (Yields row None))
    (quiet_get row.id reply)
    (quiet_then (Clears row) (Yields row None)
    (quiet_clears row.id (is_folder (item_of row.content))) (quiet_change _)) v ds h)
got_found blobs row reply Unreadable v ds ordered h =
    inl (quiet_then (Hears (Get (Item row.id)) reply) Nothing (quiet_get row.id reply)
    quiet_nothing v ds h)

got_if : (blobs : Option (List Blob)) (id : List ℕ) (row : Row) (pending : Bool) (v : View)
    (ds : List Deed) → row_at v.tables id ≡ Some row → IsSorted row_id v.tables.rows
    → UploadsFound blobs (if pending then Some row else None) v ds → GotOf id v ds
unfolding GotOf IsQuiet
got_if blobs id row true v ds here ordered h =
    subst (λ (k : List ℕ). GotOf k v ds) (key-at row_id v.tables.rows id row here)
    (got_found blobs row h.0 (finding_of row.id row.base h.0) v ds ordered h.1.1)
got_if blobs id row false v ds here ordered h = inl (quiet_nothing v ds h)

got_at : (blobs : Option (List Blob)) (id : List ℕ) (row : Option Row) (v : View)
    (ds : List Deed) → row_at v.tables id ≡ row → IsSorted row_id v.tables.rows
    → UploadsFound blobs (waiting row) v ds → GotOf id v ds
unfolding GotOf IsQuiet
got_at blobs id None v ds here ordered h = inl (quiet_nothing v ds h)
got_at blobs id (Some row) v ds here ordered h =
    got_if blobs id row row.pending v ds here ordered h

got_one : (blobs : Option (List Blob)) (id : List ℕ) (v : View) (ds : List Deed)
    → IsSorted row_id v.tables.rows → UploadsOne blobs id v ds → GotOf id v ds
got_one blobs id v ds ordered h = got_at blobs id (row_at v.tables id) v ds refl ordered h

-- ---- calls about locks get none

none_about : (call : Call) (reply : Option Reply) → is_about_locks call ≡ true
    → got_in (Asks call reply) ≡ []
none_about (GetBlob id) reply about = absurd cc
none_about call None about = refl
none_about (MakeDir dir) (Some reply) about = refl
none_about (ListDir dir) (Some reply) about = refl
none_about (Put path content) (Some reply) about = refl
none_about (Delete path) (Some reply) about = refl
none_about (Get path) (Some reply) about = refl
none_about (PutBlob id len) (Some reply) about = absurd cc

got_if_kept : (about : Bool) (call : Call) (reply : Option Reply) (all kept : List Deed)
    → is_about_locks call ≡ about → blobs_got kept ≡ blobs_got all
    → blobs_got (if about then kept else Asks call reply ∷ kept)
    ≡ got_in (Asks call reply) ++ blobs_got all
unfolding blobs_got
got_if_kept true call reply all kept about same =
    same ∙ ap (λ (x : List Told). x ++ blobs_got all) (sym (none_about call reply about))
got_if_kept false call reply all kept about same =
    ap (λ (x : List Told). got_in (Asks call reply) ++ x) same

got_but_locks : (ds : List Deed) → blobs_got (but_locks ds) ≡ blobs_got ds
unfolding blobs_got but_locks
got_but_locks [] = refl
got_but_locks (Asks call reply ∷ ds) =
    got_if_kept (is_about_locks call) call reply ds (but_locks ds) refl (got_but_locks ds)
got_but_locks (Makes c ∷ ds) = got_but_locks ds
got_but_locks (MakesUntold ∷ ds) = got_but_locks ds
got_but_locks (Begins ∷ ds) = got_but_locks ds
got_but_locks (Ends ∷ ds) = got_but_locks ds
got_but_locks (Stops ∷ ds) = got_but_locks ds

-- ---- what is kept

-- the bytes of a resource that are kept, if the keeper tells
pub bytes_in : Option (List Blob) → List ℕ → Option (Option (List ℕ))
bytes_in blobs id = option_map (λ (bs : List Blob). blob_bytes bs id) blobs

saved_others : (kept saves : List Blob) (id other : List ℕ) → AreOf id (map tale_of saves)
    → bytes_eq id other ≡ false → at blob_id (saved_all kept saves) other ≡ at blob_id kept other
unfolding saved_all AreOf
saved_others kept [] id other are apart = refl
saved_others kept (b ∷ bs) id other are apart =
    let own : b.id ≡ id = are.0 in
    saved_others (put blob_id kept b) bs id other are.1 apart
    ∙ at-put_other blob_id kept b other (ap (λ (k : List ℕ). bytes_eq k other) own ∙ apart)

kept_others : (kept : Option Kept) (changes : List Change) (saves : List Blob)
    (id other : List ℕ) → AreOf id (map tale_of saves) → bytes_eq id other ≡ false
    → bytes_in (blobs_of (option_map (kept_after_saves changes saves) kept)) other
    ≡ bytes_in (blobs_of kept) other
unfolding bytes_in
kept_others None changes saves id other are apart = refl
kept_others (Some k) changes saves id other are apart =
    ap (λ (o : Option Blob). Some (option_map (λ (b : Blob). b.bytes) o))
    (saved_others k.blobs saves id other are apart)

kept_none : (kept : Option Kept) (changes : List Change) (other : List ℕ)
    → bytes_in (blobs_of (option_map (kept_after_saves changes []) kept)) other
    ≡ bytes_in (blobs_of kept) other
unfolding bytes_in saved_all
kept_none None changes other = refl
kept_none (Some k) changes other = refl

kept_if : (kept : Option Kept) (changes : List Change) (saves : List Blob) (id other : List ℕ)
    (same : Bool) (t : Tables) → bytes_eq id other ≡ same → is_pending (row_at t other) ≡ true
    → (saves ≡ []) ⊎ (AreOf id (map tale_of saves) × (is_pending (row_at t id) ≡ false))
    → bytes_in (blobs_of (option_map (kept_after_saves changes saves) kept)) other
    ≡ bytes_in (blobs_of kept) other
kept_if kept changes saves id other same t e waits (inl none) =
    subst (λ (s : List Blob). bytes_in (blobs_of (option_map (kept_after_saves changes s) kept)) other
    ≡ bytes_in (blobs_of kept) other) (sym none) (kept_none kept changes other)
kept_if kept changes saves id other false t e waits (inr are) =
    kept_others kept changes saves id other are.0 e
kept_if kept changes saves id other true t e waits (inr are) =
    let still : is_pending (row_at t id) ≡ true =
    ap (λ (k : List ℕ). is_pending (row_at t k)) (same_text id other e) ∙ waits in
    absurd (let no : false ≡ true = sym are.1 ∙ still in cc)

saves_of : (id : List ℕ) (saves : List Blob) (owed got : List Told) (t : Tables) → owed ≡ []
    → got ≡ map tale_of saves ++ owed
    → (got ≡ []) ⊎ (AreOf id got × (is_pending (row_at t id) ≡ false))
    → (saves ≡ []) ⊎ (AreOf id (map tale_of saves) × (is_pending (row_at t id) ≡ false))
saves_of id saves owed got t none is (inl nothing) =
    inl (none_told saves owed (sym nothing ∙ is))
saves_of id saves owed got t none is (inr are) =
    let all : got ≡ map tale_of saves =
    is ∙ (ap (λ (x : List Told). map tale_of saves ++ x) none ∙ append-nil (map tale_of saves)) in
    inr (subst (λ (x : List Told). AreOf id x) all are.0, are.1)

-- the bytes of a row that waits behind an upload's part are those that were kept before it
pub same_waiting : (blobs : Option (List Blob)) (id other : List ℕ) (a b : WorkNow)
    → IsSorted row_id a.site.tables.rows → Does (UploadsOne blobs id) is_upload a b
    → is_pending (row_at b.site.tables other) ≡ true
    → bytes_in (blobs_of b.site.keeper.kept) other ≡ bytes_in (blobs_of a.site.keeper.kept) other
unfolding GotOf
same_waiting blobs id other a b ordered h waits =
    let v = view_of None a.site in
    let w = h.went in
    let here = view_from-but_locks v w.deeds ∙ view_at is_upload a b w h.told None (h.stands None) in
    let got = got_one blobs id v (but_locks w.deeds) ordered (h.part None) in
    let tables = ap (λ (u : View). u.tables) here in
    let told = subst (λ (t : Tables). (blobs_got (but_locks w.deeds) ≡ [])
    ⊎ (AreOf id (blobs_got (but_locks w.deeds)) × (is_pending (row_at t id) ≡ false))) tables got in
    ap (λ (k : Option Kept). bytes_in (blobs_of k) other) w.kept
    ∙ kept_if a.site.keeper.kept (changes_in w.deeds) w.saves id other (bytes_eq id other)
    b.site.tables refl waits
    (saves_of id w.saves w.owed (blobs_got (but_locks w.deeds)) b.site.tables h.owes
    (got_but_locks w.deeds ∙ w.got) told)

-- ---- told by other bytes

some_bytes : (x y : Option (List ℕ)) → Some x ≡ Some y → x ≡ y
some_bytes x y e = cc

puts_kept_by : (x y : Option (List Blob)) (id : List ℕ) (v : View) (ds : List Deed)
    → bytes_in x id ≡ bytes_in y id → PutsKept x id v ds → PutsKept y id v ds
unfolding bytes_in
puts_kept_by None None id v ds same h = h
puts_kept_by (Some a) (Some b) id v ds same h =
    subst (λ (o : Option (List ℕ)). PutsThese id o v ds)
    (some_bytes (blob_bytes a id) (blob_bytes b id) same) h
puts_kept_by None (Some b) id v ds same h = absurd cc
puts_kept_by (Some a) None id v ds same h = absurd cc

puts_by : (x y : Option (List Blob)) (id : List ℕ) (new : Bool) (v : View) (ds : List Deed)
    → bytes_in x id ≡ bytes_in y id → PutsIfNew x id new v ds → PutsIfNew y id new v ds
puts_by x y id true v ds same h = puts_kept_by x y id v ds same h
puts_by x y id false v ds same h = h

settles_by : (x y : Option (List Blob)) (row : Row) (f : Finding) (v : View) (ds : List Deed)
    → bytes_in x row.id ≡ bytes_in y row.id → Settles x row f v ds → Settles y row f v ds
settles_by x y row Same v ds same h = record {
  first = h.first;
  second = h.second;
  both = h.both;
  before = puts_by x y row.id (is_new_resource row) v h.first same h.before;
  behind = h.behind;
}
settles_by x y row (Other remote) v ds same h = h
settles_by x y row Missing v ds same h = h
settles_by x y row Unreadable v ds same h = h

by_pending : (x y : Option (List Blob)) (id : List ℕ) (row : Row) (pending : Bool) (v : View)
    (ds : List Deed) → row_at v.tables id ≡ Some row
    → (pending ≡ true → bytes_in x id ≡ bytes_in y id)
    → UploadsFound x (if pending then Some row else None) v ds
    → UploadsFound y (if pending then Some row else None) v ds
by_pending x y id row true v ds here same h =
    let own : bytes_in x row.id ≡ bytes_in y row.id =
    subst (λ (k : List ℕ). bytes_in x k ≡ bytes_in y k)
    (sym (key-at row_id v.tables.rows id row here)) (same refl) in
    let k = h.1.1 in (
      h.0,
      (
        h.1.0,
        record {
          first = k.first;
          second = k.second;
          both = k.both;
          before = k.before;
          behind = settles_by x y row (finding_of row.id row.base h.0) (view_from v k.first) k.second
              own k.behind;
        },
      ),
    )
by_pending x y id row false v ds here same h = h

by_row : (x y : Option (List Blob)) (id : List ℕ) (row : Option Row) (v : View)
    (ds : List Deed) → row_at v.tables id ≡ row
    → (is_pending row ≡ true → bytes_in x id ≡ bytes_in y id)
    → UploadsFound x (waiting row) v ds → UploadsFound y (waiting row) v ds
by_row x y id None v ds here same h = h
by_row x y id (Some row) v ds here same h = by_pending x y id row row.pending v ds here same h

-- what is done with a row is told by any bytes that are its own if it waits
pub uploads_by : (x y : Option (List Blob)) (id : List ℕ) (v : View) (ds : List Deed)
    → (is_pending (row_at v.tables id) ≡ true → bytes_in x id ≡ bytes_in y id)
    → UploadsOne x id v ds → UploadsOne y id v ds
uploads_by x y id v ds same h = by_row x y id (row_at v.tables id) v ds refl same h
