-- A call leaves a check that stands for what was got, and a file for what it reads to.
use Rattle.std.proofs.Common.{◌≡◌, ◌∙◌, refl, ap, sym, subst, cond, ℕ, List, Bool, true, false, Option, Some, None}
use Rattle.item_text.specs.declared.item.Item.{Item as AnItem}
use Rattle.jop_base.specs.declared.path.Path.{Path}
use Rattle.jop_target.specs.declared.call.Call.{Call}
use Rattle.jop_target.specs.declared.call.Call.TheVariants.{List as ListDir, Get, Put, Delete, MakeDir, GetBlob, PutBlob}
use Rattle.jop_target.specs.declared.reply.Reply.{Reply}
use Rattle.jop_target.specs.declared.reply.Reply.TheVariants.{Listed, Got, GotBlob, Absent, Done, Failed, TooLarge}
use Rattle.local_store.proofs.Keeping.{content_at}
use Rattle.local_store.specs.Rows.{item_of}
use Rattle.local_store.specs.Sound.{IsSound}
use Rattle.local_store.specs.Tables.{row_at}
use Rattle.local_store.specs.declared.row.Row.{Row}
use Rattle.local_store.specs.declared.tables.Tables.{Tables}
use Rattle.law_licences.specs.Checks.{is_file_of, is_on, last_on}
use Rattle.law_licences.specs.Items.{item_of_file}
use Rattle.law_licences.specs.Licences.{MayCall}
use Rattle.item_text.specs.Grammar.{written}
use Rattle.law_licences.specs.Puts.{IsPutText, IsTextFor, MayPut, seals_files}
use Rattle.law_licences.specs.Sealing.{Sealing, no_keys}
use Rattle.std.proofs.lemmas.Bool.{false≢true}
use Rattle.law_licences.specs.Views.{Heard, View, with_call, view_after_call}
use Rattle.law_kept.proofs.Clients.{some_same, text_is}
use Rattle.law_kept.specs.Acts.{Gets, Puts, Deletes, Elsewhere, Version}
use Rattle.law_kept.specs.Fair.{file_bytes}
use Rattle.law_kept.specs.Honest.{is_honest}
use Rattle.law_kept.specs.Own.{Check, Unchecked, Read, ReadNothing, Wrote, check_put}
use Rattle.law_kept.specs.Standing.{Standing, stands_after, file_after}
use Rattle.law_kept.specs.Standing as stand
use Rattle.law_kept.specs.Telling.{answer_told, was_done, called}
use Rattle.law_kept.specs.Holding.{RowIsTrue, copies_of}
use Rattle.law_kept.specs.Known.{check_by, check_known}
use Rattle.law_kept.proofs.Calls.{its_path, last_heard}
use Rattle.law_kept.proofs.Texts.{ReadsTo, written_reads, valid_content}

-- ---- the words

abbrev pub FileIsTrue : List ℕ → Option Version → Type 0
FileIsTrue id None = Unit {0}
FileIsTrue id (Some v) = ReadsTo id v.bytes v.item

-- what a get showed stands for what it reads to
abbrev pub GotIsTrue : List ℕ → Check → Option AnItem → Type 0
GotIsTrue id (Read bytes) got = ReadsTo id bytes got
GotIsTrue id Unchecked got = Unit {0}
GotIsTrue id ReadNothing got = Unit {0}
GotIsTrue id (Wrote bytes) got = Unit {0}

pub record IsTrue (id : List ℕ) (v : View) (t : Tables) (s : Standing) : Type 0 where
  pub same : v.tables ≡ t
  pub sound : IsSound v.tables
  pub row : RowIsTrue (row_at v.tables id) s.row
  pub copies : s.copies ≡ copies_of id v.tables.conflicts
  pub got : GotIsTrue id (check_known (last_on id v.calls)) s.got
  pub keyless : v.sealing ≡ no_keys

-- ---- calls

on_heard : (id : List ℕ) (call : Call) (r : Option Reply) (calls : List Heard)
    → is_on id call ≡ true
    → last_on id (with_call call r calls) ≡ Some (record { call = call; reply = r })
on_heard id call r calls on =
    last_heard id call r calls
    ∙ ap (λ (b : Bool). cond b (Some (record { call = call; reply = r })) (last_on id calls)) on

off_heard : (id : List ℕ) (call : Call) (r : Option Reply) (calls : List Heard)
    → is_on id call ≡ false → last_on id (with_call call r calls) ≡ last_on id calls
off_heard id call r calls off =
    last_heard id call r calls
    ∙ ap (λ (b : Bool). cond b (Some (record { call = call; reply = r })) (last_on id calls)) off

-- a call on the file leaves a check of its own
true_on : (id : List ℕ) (v : View) (t : Tables) (s : Standing) (call : Call) (r : Option Reply)
    (got : Option AnItem) (crossed : Bool)
    → IsTrue id v t s → is_on id call ≡ true → GotIsTrue id (check_by call r) got
    → IsTrue id (view_after_call v call r) t (record s { got = got; crossed = crossed })
true_on id v t s call r got crossed h on g = record {
  same = h.same;
  sound = h.sound;
  row = h.row;
  copies = h.copies;
  got = subst (λ (last : Option Heard). GotIsTrue id (check_known last) got)
      (sym (on_heard id call r v.calls on)) g;
  keyless = h.keyless;
}

-- any other leaves the check as it is
true_off : (id : List ℕ) (v : View) (t : Tables) (s : Standing) (call : Call) (r : Option Reply)
    → IsTrue id v t s → is_on id call ≡ false → IsTrue id (view_after_call v call r) t s
true_off id v t s call r h off = record {
  same = h.same;
  sound = h.sound;
  row = h.row;
  copies = h.copies;
  got = subst (λ (last : Option Heard). GotIsTrue id (check_known last) s.got)
      (sym (off_heard id call r v.calls off)) h.got;
  keyless = h.keyless;
}

put_got : (id : List ℕ) (path : Path) (bytes : List ℕ) (r : Option Reply) (got : Option AnItem)
    → GotIsTrue id (check_by (Put path bytes) r) got
put_got id path bytes None got = tt
put_got id path bytes (Some reply) got = by (was_done reply) where
  by : (done : Bool) → GotIsTrue id (check_put bytes done) got
  by true = tt
  by false = tt

delete_got : (id : List ℕ) (path : Path) (r : Option Reply) (got : Option AnItem)
    → GotIsTrue id (check_by (Delete path) r) got
delete_got id path None got = tt
delete_got id path (Some reply) got = tt

-- what a get shows is what the file is
file_shown : (id bytes : List ℕ) (file : Option Version) → FileIsTrue id file
    → file_bytes file ≡ Some bytes → ReadsTo id bytes (stand.file_item file)
file_shown id bytes None f same = cc
file_shown id bytes (Some v) f same =
    subst (λ (b : List ℕ). ReadsTo id b v.item) (some_same v.bytes bytes same) f

pub get_got : (id : List ℕ) (path : Path) (reply : Reply) (file : Option Version) → FileIsTrue id file
    → is_honest (file_bytes file) (Gets (answer_told reply)) ≡ true
    → GotIsTrue id (check_by (Get path) (Some reply)) (stand.file_item file)
get_got id path (Got now bytes) file f honest =
    file_shown id bytes file f (text_is bytes (file_bytes file) honest)
get_got id path (Absent now) file f honest = tt
get_got id path (Listed listing) file f honest = tt
get_got id path (GotBlob now len) file f honest = tt
get_got id path (Done now) file f honest = tt
get_got id path Failed file f honest = tt
get_got id path (TooLarge len) file f honest = tt

-- a call and its reply; one that wasn't heard counts as one that failed
pub true_called : (id : List ℕ) (v : View) (t : Tables) (s : Standing) (file : Option Version)
    (call : Call) (r : Option Reply) (reply : Reply) (landed : Bool)
    → IsTrue id v t s
    → ((path : Path) → is_honest (file_bytes file) (called id call reply landed) ≡ true
    → call ≡ Get path → is_file_of id path ≡ true
    → GotIsTrue id (check_by (Get path) r) (stand.file_item file))
    → is_honest (file_bytes file) (called id call reply landed) ≡ true
    → IsTrue id (view_after_call v call r) t (stands_after file s (called id call reply landed))
true_called id v t s file (Get path) r reply landed h shown honest =
    by (is_file_of id path) refl (shown path honest refl)
  where
    by : (its : Bool) → is_file_of id path ≡ its
        → (is_file_of id path ≡ true → GotIsTrue id (check_by (Get path) r) (stand.file_item file))
        → IsTrue id (view_after_call v (Get path) r) t
        (stands_after file s (cond its (Gets (answer_told reply)) Elsewhere))
    by true on g = true_on id v t s (Get path) r (stand.file_item file) false h on (g on)
    by false off g = true_off id v t s (Get path) r h off
true_called id v t s file (Put path bytes) r reply landed h shown honest =
    by (is_file_of id path) refl
  where
    by : (its : Bool) → is_file_of id path ≡ its
        → IsTrue id (view_after_call v (Put path bytes) r) t
        (stands_after file s (cond its (Puts bytes landed (was_done reply)) Elsewhere))
    by true on =
        true_on id v t s (Put path bytes) r s.got s.crossed h on (put_got id path bytes r s.got)
    by false off = true_off id v t s (Put path bytes) r h off
true_called id v t s file (Delete path) r reply landed h shown honest =
    by (is_file_of id path) refl
  where
    by : (its : Bool) → is_file_of id path ≡ its
        → IsTrue id (view_after_call v (Delete path) r) t
        (stands_after file s (cond its (Deletes landed) Elsewhere))
    by true on = true_on id v t s (Delete path) r s.got s.crossed h on (delete_got id path r s.got)
    by false off = true_off id v t s (Delete path) r h off
true_called id v t s file (ListDir dir) r reply landed h shown honest =
    true_off id v t s (ListDir dir) r h refl
true_called id v t s file (MakeDir dir) r reply landed h shown honest =
    true_off id v t s (MakeDir dir) r h refl
true_called id v t s file (GetBlob other) r reply landed h shown honest =
    true_off id v t s (GetBlob other) r h refl
true_called id v t s file (PutBlob other len) r reply landed h shown honest =
    true_off id v t s (PutBlob other len) r h refl

-- ---- the file

pub row_is : (row : Option Row) (r : Row) (stood : Option AnItem) → RowIsTrue row stood
    → row ≡ Some r → stood ≡ Some (item_of r.content)
row_is row r stood is at = subst (λ (o : Option Row). RowIsTrue o stood) at is

-- without keys no text is put but the item's own
text_for : (sealed : Bool) (s : Sealing) (item : AnItem) (content : List ℕ) → s ≡ no_keys
    → IsTextFor sealed s item content → content ≡ written item
text_for false s item content keyless is = is
text_for true s item content keyless is =
    absurd (false≢true (subst (λ (z : Sealing). z.seals item content ≡ true) keyless is))

written_text : (v : View) (row : Row) (content : List ℕ) → v.sealing ≡ no_keys
    → IsPutText v row content → content ≡ written (item_of row.content)
written_text v row content keyless is =
    text_for (seals_files v.tables.info v.calls) v.sealing (item_of row.content) content keyless is

-- a put's bytes read to what its row stands for
put_reads : (id bytes : List ℕ) (v : View) (t : Tables) (s : Standing) → IsTrue id v t s
    → MayPut v id bytes → ReadsTo id bytes s.row
put_reads id bytes v t s h may item reads =
    let stood = row_is (row_at v.tables id) may.row s.row h.row may.pending.at in
    let valid = valid_content id may.row.content
    (content_at v.tables id may.row h.sound may.pending.at) in
    let these = subst (λ (b : List ℕ). item_of_file id b ≡ Some item)
    (written_text v may.row bytes h.keyless may.text) reads in
    stood ∙ written_reads id (item_of may.row.content) valid item these

pub file_called : (id : List ℕ) (v : View) (t : Tables) (s : Standing) (file : Option Version)
    (call : Call) (reply : Reply) (landed : Bool)
    → IsTrue id v t s → FileIsTrue id file → MayCall v call
    → FileIsTrue id (file_after s.row file (called id call reply landed))
file_called id v t s file (Get path) reply landed h f may = by (is_file_of id path) where
  by : (its : Bool)
      → FileIsTrue id (file_after s.row file (cond its (Gets (answer_told reply)) Elsewhere))
  by true = f
  by false = f
file_called id v t s file (Put path bytes) reply landed h f may =
    by (is_file_of id path) refl landed
  where
    by : (its : Bool) → is_file_of id path ≡ its → (landed : Bool)
        → FileIsTrue id
        (file_after s.row file (cond its (Puts bytes landed (was_done reply)) Elsewhere))
    by true on true =
        put_reads id bytes v t s h
        (subst (λ (p : Path). MayCall v (Put p bytes)) (its_path id path on) may)
    by true on false = f
    by false off landed = f
file_called id v t s file (Delete path) reply landed h f may = by (is_file_of id path) landed where
  by : (its landed : Bool)
      → FileIsTrue id (file_after s.row file (cond its (Deletes landed) Elsewhere))
  by true true = tt
  by true false = f
  by false landed = f
file_called id v t s file (ListDir dir) reply landed h f may = f
file_called id v t s file (MakeDir dir) reply landed h f may = f
file_called id v t s file (GetBlob other) reply landed h f may = f
file_called id v t s file (PutBlob other len) reply landed h f may = f
