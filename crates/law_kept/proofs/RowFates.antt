-- What a row stands for keeps its fate, whatever its client does.
use Rattle.std.proofs.Common.{◌≡◌, ◌∙◌, refl, ap, sym, ℕ, List, Bool, true, false, Option, Some, None}
use Rattle.std.specs.Prelude.{is_some, bytes_eq, ◌&&◌}
use Rattle.std.proofs.lemmas.Bool.{false≢true, true≢false, and_parts}
use Rattle.item_text.specs.declared.item.Item.{Item}
use Rattle.local_store.specs.declared.content.Content.{Content}
use Rattle.local_store.specs.declared.content.Content.TheVariants.{Plain}
use Rattle.jop_base.proofs.KeyedLaws.{same_text}
use Rattle.law_kept.specs.Acts.{ItemChange, Saved, Uploaded, Taken, Conflict, Opened, RowStep, Stays, Saves, Sends, Reads, Meets, Unseals, Goes, row_step, Act, Begins, Gets, Puts, Deletes, Changes, Ends, Elsewhere, Version, FileHistory}
use Rattle.law_kept.specs.Licences.{is_waiting, is_idle, is_outside, is_sealed_row, is_copied_from, has_written, has_read_item, may_change, may_act}
use Rattle.law_kept.specs.Own.{OwnRow, Unchecked, Read, ReadNothing, Wrote, OwnSession, Out, In, Own, row_sent, met, row_unsealed, row_stepped, own_after}
use Rattle.law_kept.specs.Standing.{Standing, version_put, file_after, stood_stepped, stands_after}
use Rattle.law_kept.proofs.FileFates.{FileFate, RowStandsFor, RowHolds, ReadHolds, CheckHolds}

-- ---- rows

-- each fate by the file lasts
abbrev pub Keeps : FileHistory → Option Version → Option Version → Type 0
Keeps h old new = (item : Item) → FileFate h old item → FileFate h new item

pub row_keeps : (h : FileHistory) (old new : Option Version) (row : Option OwnRow)
    (stood : Option Item)
    → Keeps h old new → RowHolds h old row stood → RowHolds h new row stood
row_keeps h old new None stood keeps r = tt
row_keeps h old new (Some row) stood keeps r = record {
  item = r.item;
  stands = r.stands;
  idle = λ e. keeps r.item (r.idle e);
  due = r.due;
}

-- what a check got, if it was a text of the item
pub record GotItem (h : FileHistory) (file : Option Version) (got : Option Item) : Type 0 where
  pub item : Item
  pub stands : got ≡ Some item
  pub fate : FileFate h file item

read_item : (reads : List ℕ → Option Item) (h : FileHistory) (file : Option Version)
    (got : Option Item)
    (crossed : Bool) (found bytes : List ℕ)
    → ReadHolds reads h file got crossed found → bytes_eq found bytes ≡ true
    → is_some (reads bytes) ≡ true → GotItem h file got
read_item reads h file None crossed found bytes read is some =
    let none = read.readable refl in
    let same = same_text found bytes is in
    let still : reads bytes ≡ None = cc in
    absurd (false≢true (sym (ap is_some still) ∙ some))
read_item reads h file (Some item) crossed found bytes read is some =
    record { item = item; stands = refl; fate = read.safe item refl }

pub got_item : (reads : List ℕ → Option Item) (h : FileHistory) (file : Option Version)
    (s : Standing) (session : OwnSession) (bytes : List ℕ)
    → has_read_item reads session bytes ≡ true → CheckHolds reads h file s session
    → GotItem h file s.got
got_item reads h file s Out bytes may check = absurd (false≢true may)
got_item reads h file s (In Unchecked) bytes may check = absurd (false≢true may)
got_item reads h file s (In ReadNothing) bytes may check = absurd (false≢true may)
got_item reads h file s (In (Wrote written)) bytes may check = absurd (false≢true may)
got_item reads h file s (In (Read found)) bytes may check =
    let both = and_parts (bytes_eq found bytes) (is_some (reads bytes)) may in
    read_item reads h file s.got s.crossed found bytes check both.0 both.1

-- the row that was taken stands for what was got
row_taken : (h : FileHistory) (file : Option Version) (bytes : List ℕ) (content : Content)
    (got : Option Item)
    → GotItem h file got
    → RowStandsFor h file (record { content = content; base = Some bytes; pending = false }) got
row_taken h file bytes content got g =
    record
    { item = g.item; stands = g.stands; idle = λ e. g.fate; due = λ e. absurd (false≢true e) }

row_met : (h : FileHistory) (file : Option Version) (remote : List ℕ × Content)
    (row : Option OwnRow)
    (got : Option Item) → GotItem h file got → RowHolds h file (met remote row) got
row_met h file remote None got g = tt
row_met h file remote (Some row) got g = row_taken h file remote.0 remote.1 got g

row_uploaded : (h : FileHistory) (file : Option Version) (bytes : List ℕ) (row : Option OwnRow)
    (stood : Option Item) → ((item : Item) → stood ≡ Some item → FileFate h file item)
    → RowHolds h file row stood → RowHolds h file (row_sent bytes row) stood
row_uploaded h file bytes None stood fate r = tt
row_uploaded h file bytes (Some row) stood fate r = record {
  item = r.item;
  stands = r.stands;
  idle = λ e. fate r.item r.stands;
  due = λ e. absurd (false≢true e);
}

row_opened : (h : FileHistory) (file : Option Version) (item : Item) (row : Option OwnRow)
    (stood : Option Item) → is_sealed_row row ≡ true → RowHolds h file row stood
    → RowHolds h file (row_unsealed item row) stood
row_opened h file item None stood sealed r = tt
row_opened h file item (Some row) stood sealed r = record {
  item = r.item;
  stands = r.stands;
  idle = r.idle;
  due = λ e. let plain : row.content ≡ Plain r.item =
      r.due e in absurd (false≢true (rw plain at sealed));
}

-- a check that heard of its put
wrote_fate : (reads : List ℕ → Option Item) (h : FileHistory) (file : Option Version) (s : Standing)
    (session : OwnSession) (bytes : List ℕ)
    → has_written session bytes ≡ true → CheckHolds reads h file s session
    → (item : Item) → s.row ≡ Some item → FileFate h file item
wrote_fate reads h file s Out bytes may check = absurd (false≢true may)
wrote_fate reads h file s (In Unchecked) bytes may check = absurd (false≢true may)
wrote_fate reads h file s (In (Read found)) bytes may check = absurd (false≢true may)
wrote_fate reads h file s (In ReadNothing) bytes may check = absurd (false≢true may)
wrote_fate reads h file s (In (Wrote written)) bytes may check = check

-- a conflict comes of what was read
conflict_read : (reads : List ℕ → Option Item) (o : Own) (remote : List ℕ × Content)
    (copied : Option ℕ) → may_change reads o (Conflict (Some remote) copied) ≡ true
    → has_read_item reads o.session remote.0 ≡ true
conflict_read reads o remote copied may =
    let read = has_read_item reads o.session remote.0 in
    let is = is_copied_from o.row remote.1 copied in
    (and_parts read is (and_parts (is_waiting o.row) (read && is) may).1).0

-- what a step of the row asks, whichever change takes it
abbrev pub MayStep : (List ℕ → Option Item) → Own → RowStep → Type 0
MayStep reads o Stays = Unit {0}
MayStep reads o (Saves item) = is_outside o.session ≡ true
MayStep reads o (Sends bytes) = has_written o.session bytes ≡ true
MayStep reads o (Reads bytes content) = has_read_item reads o.session bytes ≡ true
MayStep reads o (Meets remote) = has_read_item reads o.session remote.0 ≡ true
MayStep reads o (Unseals item) = is_sealed_row o.row ≡ true
MayStep reads o Goes = Unit {0}

-- a row stays and goes by any change
pub step_may : (reads : List ℕ → Option Item) (o : Own) (change : ItemChange)
    → may_change reads o change ≡ true → MayStep reads o (row_step change)
step_may reads o (Saved item) may = may
step_may reads o (Uploaded bytes) may = may
step_may reads o (Taken bytes content) may =
    (and_parts (is_idle o.row) (has_read_item reads o.session bytes) may).1
step_may reads o (Conflict (Some remote) copied) may = conflict_read reads o remote copied may
step_may reads o (Opened item) may = may
step_may reads o change may = tt

row_after_step : (reads : List ℕ → Option Item) (h : FileHistory) (file : Option Version) (o : Own)
    (s : Standing) (step : RowStep)
    → MayStep reads o step → RowHolds h file o.row s.row
    → CheckHolds reads h file s o.session
    → RowHolds h file (row_stepped o.row step) (stood_stepped s step)
row_after_step reads h file o s Stays may r c = r
row_after_step reads h file o s (Saves item) may r c =
    record { item = item; stands = refl; idle = λ e. absurd (true≢false e); due = λ e. refl }
row_after_step reads h file o s (Sends bytes) may r c =
    row_uploaded h file bytes o.row s.row (wrote_fate reads h file s o.session bytes may c) r
row_after_step reads h file o s (Reads bytes content) may r c =
    row_taken h file bytes content s.got (got_item reads h file s o.session bytes may c)
row_after_step reads h file o s (Meets remote) may r c =
    row_met h file remote o.row s.got (got_item reads h file s o.session remote.0 may c)
row_after_step reads h file o s (Unseals item) may r c = row_opened h file item o.row s.row may r
row_after_step reads h file o s Goes may r c = tt

pub row_own : (reads : List ℕ → Option Item) (h : FileHistory) (file : Option Version) (o : Own)
    (s : Standing) (x : Act)
    → may_act reads o x ≡ true → Keeps h file (file_after s.row file x)
    → RowHolds h file o.row s.row → CheckHolds reads h file s o.session
    → RowHolds h (file_after s.row file x) (own_after o x).row (stands_after file s x).row
row_own reads h file o s (Changes change) may keeps r c =
    row_after_step reads h file o s (row_step change) (step_may reads o change may) r c
row_own reads h file o s (Puts bytes true heard) may keeps r c =
    row_keeps h file (Some (version_put s.row bytes)) o.row s.row keeps r
row_own reads h file o s (Puts bytes false heard) may keeps r c = r
row_own reads h file o s (Deletes true) may keeps r c = row_keeps h file None o.row s.row keeps r
row_own reads h file o s (Deletes false) may keeps r c = r
row_own reads h file o s Begins may keeps r c = r
row_own reads h file o s (Gets answer) may keeps r c = r
row_own reads h file o s Ends may keeps r c = r
row_own reads h file o s Elsewhere may keeps r c = r
