-- What is said of a file, of a row and of a check, and that what the file stands for keeps its fate.
use Rattle.std.proofs.Common.{◌≡◌, ◌⊎◌, ◌∙◌, refl, ap, sym, inl, inr, ℕ, suc, List, Bool, true, false, Option, Some, None}
use Rattle.std.specs.Prelude.{slice_get, ◌||◌}
use Rattle.std.proofs.lemmas.Bool.{false≢true, and_parts, or_cases}
use Rattle.item_text.specs.Props.{is_text}
use Rattle.item_text.specs.declared.item.Item.{Item}
use Rattle.local_store.specs.declared.content.Content.TheVariants.{Plain}
use Rattle.law_kept.specs.Acts.{Act, Begins, Gets, Puts, Deletes, Changes, Ends, Elsewhere, FileStep, Version, FileHistory}
use Rattle.law_kept.specs.Fair.{file_bytes}
use Rattle.law_kept.specs.Fates.{WasPutOver, ItemWasDeleted}
use Rattle.law_kept.specs.Honest.{is_honest}
use Rattle.law_kept.specs.Licences.{is_waiting, has_read_base, has_read_nothing, may_act}
use Rattle.law_kept.specs.Own.{OwnRow, Unchecked, Read, ReadNothing, Wrote, OwnSession, Out, In, row_base}
use Rattle.law_kept.specs.Standing.{Standing, Client, World, file_after, happened, world_at}
use Rattle.law_kept.proofs.Clients.{text_is}
use Rattle.law_kept.proofs.Gaps.{IsUncrossed, HasNoGap}

-- ---- a step

-- the step that is made at a place, and what it leaves
pub record Turn (reads : List ℕ → Option Item) (h : FileHistory) (place : ℕ) : Type 0 where
  pub step : FileStep
  pub here : slice_get h.steps place ≡ Some step
  pub honest : is_honest (file_bytes (world_at h place).file) step.act ≡ true
  pub licensed : may_act reads ((world_at h place).at step.client).own step.act ≡ true
  pub gap : HasNoGap ((world_at h place).at step.client).own.session
      ((world_at h place).at step.client).stands.crossed step.act
  pub next : world_at h (suc place) ≡ happened (world_at h place) step

-- ---- the words

-- the file stands for the item, or was put over, or deleted, when it did
pub data FileFate (h : FileHistory) (file : Option Version) (item : Item) : Type 0 where
  Stands : (v : Version) → file ≡ Some v → v.item ≡ Some item → FileFate h file item
  WentOver : WasPutOver h item → FileFate h file item
  Went : ItemWasDeleted h item → FileFate h file item

-- a row that isn't to be uploaded stands for what has such a fate, and one that is holds the item that it stands for
pub record RowStandsFor (h : FileHistory) (file : Option Version) (row : OwnRow)
    (stood : Option Item) : Type 0 where
  pub item : Item
  pub stands : stood ≡ Some item
  pub idle : row.pending ≡ false → FileFate h file item
  pub due : row.pending ≡ true → row.content ≡ Plain item

abbrev pub RowHolds : FileHistory → Option Version → Option OwnRow → Option Item → Type 0
RowHolds h file None stood = Unit {0}
RowHolds h file (Some row) stood = RowStandsFor h file row stood

-- What a get showed stands for what has such a fate, or is no text of the item. If no other put landed since, then the
-- file is still as it was, or gone.
pub record ReadHolds (reads : List ℕ → Option Item) (h : FileHistory) (file : Option Version)
    (got : Option Item) (crossed : Bool) (bytes : List ℕ) : Type 0 where
  pub safe : (item : Item) → got ≡ Some item → FileFate h file item
  pub readable : got ≡ None → reads bytes ≡ None
  pub fresh : crossed ≡ false → (file ≡ None) ⊎ (file_bytes file ≡ Some bytes)

abbrev pub CheckHolds : (List ℕ → Option Item) → FileHistory → Option Version → Standing
    → OwnSession
    → Type 0
CheckHolds reads h file s Out = Unit {0}
CheckHolds reads h file s (In Unchecked) = Unit {0}
CheckHolds reads h file s (In (Read bytes)) = ReadHolds reads h file s.got s.crossed bytes
CheckHolds reads h file s (In ReadNothing) = s.crossed ≡ false → file ≡ None
CheckHolds reads h file s (In (Wrote bytes)) =
    (item : Item) → s.row ≡ Some item → FileFate h file item

-- a file that stands for nothing is no text of the item
abbrev pub IsReadable : (List ℕ → Option Item) → Option Version → Type 0
IsReadable reads None = Unit {0}
IsReadable reads (Some v) = v.item ≡ None → reads v.bytes ≡ None

pub record Invariant (reads : List ℕ → Option Item) (h : FileHistory) (w : World) : Type 0 where
  pub file : IsReadable reads w.file
  pub row : (client : List ℕ) → RowHolds h w.file (w.at client).own.row (w.at client).stands.row
  pub check : (client : List ℕ) →
      CheckHolds reads h w.file (w.at client).stands (w.at client).own.session

-- ---- the file stays, or goes with a fate

-- a put lands on nothing, or on its writer's base
lands : (reads : List ℕ → Option Item) (h : FileHistory) (file : Option Version) (v : Version)
    (row : Option OwnRow) (s : Standing) (session : OwnSession)
    → file ≡ Some v → CheckHolds reads h file s session → IsUncrossed session s.crossed
    → (has_read_base session row || has_read_nothing session) ≡ true
    → row_base row ≡ Some v.bytes
lands reads h file v row s Out there check fresh may = absurd (false≢true may)
lands reads h file v row s (In Unchecked) there check fresh may = absurd (false≢true may)
lands reads h file v row s (In (Wrote bytes)) there check fresh may = absurd (false≢true may)
lands reads h file v row s (In (Read bytes)) there check fresh may =
    elim (or_cases (is_text bytes (row_base row)) false may) [
      | inl based ↦ elim (check.fresh fresh) [
        | inl gone ↦ let none : None ≡ Some v = sym gone ∙ there in cc
        | inr still ↦
            let now : Some v.bytes ≡ Some bytes = sym (ap file_bytes there) ∙ still in
            text_is bytes (row_base row) based ∙ sym now
      ]
      | inr no_base ↦ absurd (false≢true no_base)
    ]
lands reads h file v row s (In ReadNothing) there check fresh may =
    let none : None ≡ Some v = sym (check fresh) ∙ there in
    cc

stands_next : (reads : List ℕ → Option Item) (h : FileHistory) (place : ℕ) (t : Turn reads h place)
    (item : Item) (v : Version) (x : Act)
    → t.step.act ≡ x → (world_at h place).file ≡ Some v → v.item ≡ Some item
    → CheckHolds reads h (world_at h place).file ((world_at h place).at t.step.client).stands
    ((world_at h place).at t.step.client).own.session
    → FileFate h
    (file_after ((world_at h place).at t.step.client).stands.row (world_at h place).file x) item
stands_next reads h place t item v (Puts bytes true heard) by there stands check =
    let licensed = rw by at t.licensed in
    let gap = rw by at t.gap in
    let d : Client = (world_at h place).at t.step.client in
    let may =
    and_parts (is_waiting d.own.row)
    (has_read_base d.own.session d.own.row || has_read_nothing d.own.session) licensed in
    WentOver (record {
      place = place;
      step = t.step;
      bytes = bytes;
      heard = heard;
      here = t.here;
      stood = record { version = v; there = there; stands = stands };
      by = by;
      based =
          lands reads h (world_at h place).file v d.own.row d.stands d.own.session there check gap
          may.1;
    })
stands_next reads h place t item v (Deletes true) by there stands check = Went (record {
  place = place;
  step = t.step;
  here = t.here;
  stood = record { version = v; there = there; stands = stands };
  by = by;
  recorded = rw by at t.licensed;
})
stands_next reads h place t item v (Puts bytes false heard) by there stands check =
    Stands v there stands
stands_next reads h place t item v (Deletes false) by there stands check = Stands v there stands
stands_next reads h place t item v Begins by there stands check = Stands v there stands
stands_next reads h place t item v (Gets answer) by there stands check = Stands v there stands
stands_next reads h place t item v (Changes change) by there stands check = Stands v there stands
stands_next reads h place t item v Ends by there stands check = Stands v there stands
stands_next reads h place t item v Elsewhere by there stands check = Stands v there stands

pub fate_next : (reads : List ℕ → Option Item) (h : FileHistory) (place : ℕ)
    (t : Turn reads h place)
    (item : Item) → Invariant reads h (world_at h place) → FileFate h (world_at h place).file item
    → FileFate h (happened (world_at h place) t.step).file item
fate_next reads h place t item i (Stands v there stands) =
    stands_next reads h place t item v t.step.act refl there stands (i.check t.step.client)
fate_next reads h place t item i (WentOver p) = WentOver p
fate_next reads h place t item i (Went d) = Went d
