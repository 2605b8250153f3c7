-- What has become of a saved note at each later place, and so at the end.
use Rattle.std.proofs.Common.{◌≡◌, ◌⊎◌, ◌<◌, ◌∙◌, refl, ap, sym, subst, arith, inl, inr, ℕ, zero, suc, List, [], ◌∷◌, length, Bool, true, false, not, cond, Option, Some, None}
use Rattle.std.specs.Prelude.{slice_get, take, ◌&&◌, ◌||◌, ◌==◌}
use Rattle.std.proofs.lemmas.Bool.{false≢true, and_parts, and_cases, eqb-true}
use Rattle.std.proofs.lemmas.Option.{slice_get_within}
use Rattle.std.proofs.Math.Seq.{take-length}
use Rattle.item_text.specs.declared.item.Item.{Item}
use Rattle.local_store.specs.declared.content.Content.{Content}
use Rattle.local_store.specs.declared.content.Content.TheVariants.{Plain}
use Rattle.jop_base.proofs.KeyedLaws.{bytes_eq-refl, bytes_eq-other}
use Rattle.law_kept.specs.Acts.{ItemChange, Saved, Uploaded, Taken, Conflict, Moved, Gone, Opened, Cleared, RowStep, Stays, row_step, is_users, Act, Changes, FileStep, Version, FileHistory}
use Rattle.law_kept.specs.Fair.{StandsAsRead, IsFair}
use Rattle.law_kept.specs.Fates.{Has, RowStands, CopyStands, IsUsers, WasReplaced, WasCleared, HasFate, OnRow, OnStore, InConflicts, WasMet, IsHeir, WasSaved, IsKept}
use Rattle.law_kept.specs.Fates as fates
use Rattle.law_licences.specs.Copies.{is_same_note, must_copy}
use Rattle.law_licences.specs.Items.{is_note, is_plain_note}
use Rattle.law_kept.specs.Licences.{is_waiting, is_idle, is_copied, is_copied_from, has_read_item, may_act}
use Rattle.law_kept.specs.Own.{OwnRow, Own, row_base, row_stepped, new_own, own_after}
use Rattle.law_kept.specs.Standing.{Copy, Standing, Client, World, copies_noted, copies_noted_if, without_number, stood_stepped, stands_after, desk_after, opening_world, happened, world_from, world_at, world_end}
use Rattle.law_kept.proofs.Clients.{same_or_not, some_same}
use Rattle.law_kept.proofs.Gaps.{no_gap_at}
use Rattle.law_kept.proofs.FileFates.{Turn, FileFate, Stands, WentOver, Went, RowStandsFor, CheckHolds, IsReadable, Invariant, fate_next}
use Rattle.law_kept.proofs.RowFates.{GotItem, got_item}
use Rattle.law_kept.proofs.Holding.{invariant_next}
use Rattle.law_kept.proofs.Places.{before_or_here, world_next, take_past, own_run, obeys_at, honest_at}

-- ---- the words

-- where the item stands, or how it went
pub data Account (h : FileHistory) (w : World) (item : Item) : Type 0 where
  ByRow : (client : List ℕ) → RowStands w client item → Account h w item
  ByCopy : (client : List ℕ) → CopyStands w client item → Account h w item
  ByUser : WasReplaced h item → Account h w item
  ByClearing : WasCleared h item → Account h w item
  ByFile : FileFate h w.file item → Account h w item
  ByHeir : (other : Item) → WasMet h item other → FileFate h w.file other → Account h w item

-- what becomes of a row that stands for the item, by something that its client does
data RowGoes (h : FileHistory) (file : Option Version) (o : Own) (s : Standing) (item : Item)
    (x : Act) : Type 0 where
  RowStays : (row : OwnRow) → (own_after o x).row ≡ Some row
      → (stands_after file s x).row ≡ Some item → RowGoes h file o s item x
  RowLetGo : IsUsers x → RowGoes h file o s item x
  RowSafe : FileFate h file item → RowGoes h file o s item x
  RowMet : (remote : List ℕ × Content) → GotItem h file s.got
      → is_same_note item remote.1 ≡ true → x ≡ Changes (Conflict (Some remote) None)
      → RowGoes h file o s item x
  RowCopied : (copy : Copy) → Has (stands_after file s x).copies copy → copy.item ≡ item
      → RowGoes h file o s item x

-- ---- conflict notes

-- a conflict note stays, or has the number that is cleared
without-has : (number : ℕ) (copies : List Copy) (copy : Copy) → Has copies copy
    → Has (without_number number copies) copy ⊎ (copy.number ≡ number)
unfolding Has without_number
without-has number [] copy has = absurd has
without-has number (c ∷ cs) copy (inl is) = by (c.number == number) refl where
  by : (same : Bool) → (c.number == number) ≡ same
      → Has (cond same (without_number number cs) (c ∷ without_number number cs)) copy
      ⊎ (copy.number ≡ number)
  by true same = inr (ap (λ (k : Copy). k.number) (sym is) ∙ eqb-true c.number number same)
  by false differ = inl (inl is)
without-has number (c ∷ cs) copy (inr deeper) =
    by (c.number == number) (without-has number cs copy deeper)
  where
    by : (same : Bool) → Has (without_number number cs) copy ⊎ (copy.number ≡ number)
        → Has (cond same (without_number number cs) (c ∷ without_number number cs)) copy
        ⊎ (copy.number ≡ number)
    by same (inr is) = inr is
    by true (inl still) = inl still
    by false (inl still) = inl (inr still)

copies_noted-has : (number : ℕ) (stood : Option Item) (copies : List Copy) (copy : Copy) → Has copies copy
    → Has (copies_noted number stood copies) copy
unfolding Has
copies_noted-has number None copies copy has = has
copies_noted-has number (Some item) copies copy has = inr has

copies_noted_if-has : (copied : Option ℕ) (stood : Option Item) (copies : List Copy) (copy : Copy)
    → Has copies copy → Has (copies_noted_if copied stood copies) copy
copies_noted_if-has None stood copies copy has = has
copies_noted_if-has (Some number) stood copies copy has = copies_noted-has number stood copies copy has

copies_noted-new : (number : ℕ) (stood : Option Item) (copies : List Copy) (item : Item)
    → stood ≡ Some item → Has (copies_noted number stood copies) (record { number = number; item = item })
unfolding Has
copies_noted-new number None copies item stands = cc
copies_noted-new number (Some other) copies item stands =
    let same = some_same other item stands in
    inl (ap (λ (it : Item). record { number = number; item = it }) same)

copy_goes : (file : Option Version) (s : Standing) (copy : Copy) (x : Act) → Has s.copies copy
    → Has (stands_after file s x).copies copy ⊎ (x ≡ Changes (Cleared copy.number))
copy_goes file s copy (Changes (Cleared number)) has = elim (without-has number s.copies copy has) [
  | inl still ↦ inl still
  | inr same ↦ inr (rw same refl)
]
copy_goes file s copy (Changes (Conflict remote copied)) has =
    inl (copies_noted_if-has copied s.row s.copies copy has)
copy_goes file s copy (Changes (Moved number)) has = inl (copies_noted-has number s.row s.copies copy has)
copy_goes file s copy x has = inl has

-- ---- rows

not_false : (b : Bool) → not b ≡ true → b ≡ false
not_false true e = sym e
not_false false e = refl

not_not : (b : Bool) → not b ≡ false → b ≡ true
not_not true e = refl
not_not false e = sym e

-- a row that isn't to be uploaded stands for what has a fate by the file
safe_if_idle : (h : FileHistory) (file : Option Version) (row : OwnRow) (stood : Option Item)
    (item : Item)
    → stood ≡ Some item → is_idle (Some row) ≡ true → RowStandsFor h file row stood
    → FileFate h file item
safe_if_idle h file row stood item stands idle r =
    let same = some_same r.item item (sym r.stands ∙ stands) in
    subst (FileFate h file) same (r.idle (not_false row.pending idle))

-- a row that goes without a copy though it is to be uploaded is no note
no_note_goes : (h : FileHistory) (file : Option Version) (row : OwnRow) (stood : Option Item)
    (item : Item)
    → stood ≡ Some item → is_note item ≡ true → row.pending ≡ true
    → is_copied (Some row) None ≡ true → RowStandsFor h file row stood → ⊥
no_note_goes h file row stood item stands note pending copied r =
    let same = some_same r.item item (sym r.stands ∙ stands) in
    let plain : row.content ≡ Plain item = r.due pending ∙ ap Plain same in
    let is_one : is_plain_note row.content ≡ true = ap is_plain_note plain ∙ note in
    let none = not_false (is_plain_note row.content) copied in
    false≢true (sym none ∙ is_one)

-- a note that gives way without a copy gives way to its own title and body
alike_if_met : (h : FileHistory) (file : Option Version) (row : OwnRow) (stood : Option Item)
    (item : Item) (remote : Content)
    → stood ≡ Some item → is_note item ≡ true → row.pending ≡ true
    → is_copied_from (Some row) remote None ≡ true → RowStandsFor h file row stood
    → is_same_note item remote ≡ true
alike_if_met h file row stood item remote stands note pending copied r =
    let same = some_same r.item item (sym r.stands ∙ stands) in
    let plain : row.content ≡ Plain item = r.due pending ∙ ap Plain same in
    let none = not_false (must_copy row.content remote) copied in
    let none_of_it : must_copy (Plain item) remote ≡ false =
    ap (λ (c : Content). must_copy c remote) (sym plain) ∙ none in
    elim (and_cases (is_note item) (not (is_same_note item remote)) none_of_it) [
      | inl isnt ↦ absurd (false≢true (sym isnt ∙ note))
      | inr is ↦ not_not (is_same_note item remote) is
    ]

abbrev is_staying : RowStep → Bool
is_staying Stays = true
is_staying step = false

-- so it is by each change that the user makes, and by each that leaves the row
plain_goes : (h : FileHistory) (file : Option Version) (o : Own) (s : Standing) (item : Item)
    (row : OwnRow) (change : ItemChange)
    → o.row ≡ Some row → s.row ≡ Some item
    → (is_users change || is_staying (row_step change)) ≡ true
    → RowGoes h file o s item (Changes change)
plain_goes h file o s item row change there stands plain =
    by (is_users change) refl (row_step change) refl plain
  where
    by : (users : Bool) → is_users change ≡ users → (step : RowStep) → row_step change ≡ step
        → (users || is_staying step) ≡ true → RowGoes h file o s item (Changes change)
    by true users step is plain = RowLetGo users
    by false users Stays is plain =
        RowStays row (ap (λ (step : RowStep). row_stepped o.row step) is ∙ there)
        (ap (λ (step : RowStep). stood_stepped s step) is ∙ stands)
    by false users step is plain = absurd (false≢true plain)

row_goes : (reads : List ℕ → Option Item) (h : FileHistory) (file : Option Version) (o : Own)
    (s : Standing) (item : Item) (row : OwnRow) (x : Act)
    → o.row ≡ Some row → s.row ≡ Some item → is_note item ≡ true → may_act reads o x ≡ true
    → RowStandsFor h file row s.row → CheckHolds reads h file s o.session
    → RowGoes h file o s item x
row_goes reads h file o s item row (Changes (Uploaded bytes)) there stands note may r c =
    RowStays (record row { base = Some bytes; pending = false }) (rw there refl) stands
row_goes reads h file o s item row (Changes (Taken bytes content)) there stands note may r c =
    let both = and_parts (is_idle o.row) (has_read_item reads o.session bytes) may in
    RowSafe (safe_if_idle h file row s.row item stands (rw there at both.0) r)
row_goes reads h file o s item row
    (Changes (Conflict (Some remote) None)) there stands note may r c =
    let read = has_read_item reads o.session remote.0 in
    let is = is_copied_from o.row remote.1 None in
    let parts = and_parts (is_waiting o.row) (read && is) may in
    let both = and_parts read is parts.1 in
    RowMet remote (got_item reads h file s o.session remote.0 both.0 c)
    (alike_if_met h file row s.row item remote.1 stands note (rw there at parts.0)
    (rw there at both.1) r)
    refl
row_goes reads h file o s item row
    (Changes (Conflict (Some remote) (Some number))) there stands note may r c =
    RowCopied (record { number = number; item = item })
    (copies_noted-new number s.row s.copies item stands) refl
row_goes reads h file o s item row (Changes (Conflict None None)) there stands note may r c =
    let both = and_parts (is_waiting o.row) (is_copied o.row None) may in
    absurd
    (no_note_goes h file row s.row item stands note (rw there at both.0) (rw there at both.1) r)
row_goes reads h file o s item row
    (Changes (Conflict None (Some number))) there stands note may r c =
    RowCopied (record { number = number; item = item })
    (copies_noted-new number s.row s.copies item stands) refl
row_goes reads h file o s item row (Changes (Moved number)) there stands note may r c =
    RowCopied (record { number = number; item = item })
    (copies_noted-new number s.row s.copies item stands) refl
row_goes reads h file o s item row (Changes Gone) there stands note may r c =
    RowSafe (safe_if_idle h file row s.row item stands (rw there at may) r)
row_goes reads h file o s item row (Changes (Opened new)) there stands note may r c =
    RowStays (record row { content = Plain new }) (rw there refl) stands
row_goes reads h file o s item row (Changes change) there stands note may r c =
    plain_goes h file o s item row change there stands refl
row_goes reads h file o s item row x there stands note may r c = RowStays row there stands

-- ---- one step more

own_desk : (w : World) (s : FileStep)
    → (happened w s).at s.client ≡ desk_after w.file (w.at s.client) s.act
own_desk w s = rw (bytes_eq-refl s.client) refl

row_account : (reads : List ℕ → Option Item) (h : FileHistory) (place : ℕ) (item : Item)
    (t : Turn reads h place)
    → Invariant reads h (world_at h place) → RowStands (world_at h place) t.step.client item
    → RowGoes h (world_at h place).file ((world_at h place).at t.step.client).own
    ((world_at h place).at t.step.client).stands item t.step.act
    → Account h (happened (world_at h place) t.step) item
row_account reads h place item t i s (RowStays row there stands) =
    ByRow t.step.client (record {
      row = row;
      there = rw (own_desk (world_at h place) t.step) there;
      stands = rw (own_desk (world_at h place) t.step) stands;
    })
row_account reads h place item t i s (RowLetGo users) =
    ByUser (record { place = place; step = t.step; here = t.here; stood = s; by = users })
row_account reads h place item t i s (RowSafe fate) = ByFile (fate_next reads h place t item i fate)
row_account reads h place item t i s (RowMet remote g alike by) =
    ByHeir g.item
    (record {
      place = place;
      step = t.step;
      remote = remote;
      here = t.here;
      by = by;
      stood = s;
      alike = alike;
      got = g.stands;
    })
    (fate_next reads h place t g.item i g.fate)
row_account reads h place item t i s (RowCopied copy has stands) =
    ByCopy t.step.client (record {
      copy = copy;
      there = rw (own_desk (world_at h place) t.step) has;
      stands = stands;
    })

account_of_row : (reads : List ℕ → Option Item) (h : FileHistory) (place : ℕ) (item : Item)
    (t : Turn reads h place)
    → Invariant reads h (world_at h place) → is_note item ≡ true
    → RowStands (world_at h place) t.step.client item
    → Account h (happened (world_at h place) t.step) item
account_of_row reads h place item t i note s =
    let d : Client = (world_at h place).at t.step.client in
    let row = rw s.there at (i.row t.step.client) in
    row_account reads h place item t i s
    (row_goes reads h (world_at h place).file d.own d.stands item s.row t.step.act s.there s.stands
    note t.licensed row (i.check t.step.client))

copy_next : (reads : List ℕ → Option Item) (h : FileHistory) (place : ℕ) (item : Item)
    (t : Turn reads h place)
    → CopyStands (world_at h place) t.step.client item
    → Account h (happened (world_at h place) t.step) item
copy_next reads h place item t s =
    let d : Client = (world_at h place).at t.step.client in
    elim (copy_goes (world_at h place).file d.stands s.copy t.step.act s.there) [
      | inl still ↦ ByCopy t.step.client (record {
        copy = s.copy;
        there = rw (own_desk (world_at h place) t.step) still;
        stands = s.stands;
      })
      | inr by ↦ ByClearing
          (record { place = place; step = t.step; here = t.here; stood = s; by = by })
    ]

-- what a client has isn't changed by what another one does, but for whether its check was crossed
row_beside : (w : World) (s : FileStep) (client : List ℕ) (item : Item) → ¬ (s.client ≡ client)
    → RowStands w client item → RowStands (happened w s) client item
row_beside w s client item differ r = record {
  row = r.row;
  there = rw (bytes_eq-other s.client client differ) r.there;
  stands = rw (bytes_eq-other s.client client differ) r.stands;
}

copy_beside : (w : World) (s : FileStep) (client : List ℕ) (item : Item) → ¬ (s.client ≡ client)
    → CopyStands w client item → CopyStands (happened w s) client item
copy_beside w s client item differ c = record {
  copy = c.copy;
  there = rw (bytes_eq-other s.client client differ) c.there;
  stands = c.stands;
}

account_next : (reads : List ℕ → Option Item) (h : FileHistory) (place : ℕ) (item : Item)
    (t : Turn reads h place)
    → Invariant reads h (world_at h place) → is_note item ≡ true
    → Account h (world_at h place) item → Account h (happened (world_at h place) t.step) item
account_next reads h place item t i note (ByRow client s) =
    elim (same_or_not t.step.client client) [
      | inl same ↦
          account_of_row reads h place item t i note
          (subst (λ (c : List ℕ). RowStands (world_at h place) c item) (sym same) s)
      | inr differ ↦ ByRow client (row_beside (world_at h place) t.step client item differ s)
    ]
account_next reads h place item t i note (ByCopy client s) =
    elim (same_or_not t.step.client client) [
      | inl same ↦
          copy_next reads h place item t
          (subst (λ (c : List ℕ). CopyStands (world_at h place) c item) (sym same) s)
      | inr differ ↦ ByCopy client (copy_beside (world_at h place) t.step client item differ s)
    ]
account_next reads h place item t i note (ByUser f) = ByUser f
account_next reads h place item t i note (ByClearing f) = ByClearing f
account_next reads h place item t i note (ByFile f) = ByFile (fate_next reads h place t item i f)
account_next reads h place item t i note (ByHeir other m f) =
    ByHeir other m (fate_next reads h place t other i f)

account_saved : (reads : List ℕ → Option Item) (h : FileHistory) (place : ℕ) (item : Item)
    (t : Turn reads h place) → t.step.act ≡ Changes (Saved item)
    → Account h (happened (world_at h place) t.step) item
account_saved reads h place item t by =
    let d : Client = (world_at h place).at t.step.client in
    ByRow t.step.client (record {
      row = record { content = Plain item; base = row_base d.own.row; pending = true };
      there = rw (own_desk (world_at h place) t.step, by) refl;
      stands = rw (own_desk (world_at h place) t.step, by) refl;
    })

-- ---- all places

turn_at : (reads : List ℕ → Option Item) (h : FileHistory) (place : ℕ) (s : FileStep)
    → IsFair reads h
    → slice_get h.steps place ≡ Some s → Turn reads h place
turn_at reads h place s fair here =
    let start : World = opening_world h.opening in
    let known = own_run start s.client (take place h.steps) in
    record {
      step = s;
      here = here;
      honest = honest_at start h.steps place s here fair.honest;
      licensed =
          subst (λ (o : Own). may_act reads o s.act ≡ true) (sym known)
          (obeys_at reads new_own h.steps place s here (fair.obey s.client));
      gap = no_gap_at h.opening h.steps place s.client s.act fair.gapless here;
      next = world_next start h.steps place s here;
    }

place_next : (reads : List ℕ → Option Item) (h : FileHistory) (P : World → Type 0) (place : ℕ)
    → IsFair reads h → ((t : Turn reads h place) → P (happened (world_at h place) t.step))
    → P (world_at h place) → P (world_at h (suc place))
place_next reads h P place fair made stays = by (slice_get h.steps place) refl where
  by : (s : Option FileStep) → slice_get h.steps place ≡ s → P (world_at h (suc place))
  by None past =
      let same = ap (world_from (opening_world h.opening)) (take_past h.steps place past) in
      subst P (sym same) stays
  by (Some s) here =
      let t : Turn reads h place = turn_at reads h place s fair here in
      subst P (sym t.next) (made t)

readable_at_first : (reads : List ℕ → Option Item) (file : Option Version) → StandsAsRead reads file
    → IsReadable reads file
readable_at_first reads None as_read = tt
readable_at_first reads (Some v) as_read = λ none. sym as_read ∙ none

invariant : (reads : List ℕ → Option Item) (h : FileHistory) (place : ℕ) → IsFair reads h
    → Invariant reads h (world_at h place)
unfolding world_from
invariant reads h zero fair = record {
  file = readable_at_first reads h.opening fair.opening;
  row = λ client. tt;
  check = λ client. tt;
}
invariant reads h (suc place) fair =
    let before : Invariant reads h (world_at h place) = invariant reads h place fair in
    place_next reads h (Invariant reads h) place fair (λ t. invariant_next reads h place t before)
    before

account_here : (reads : List ℕ → Option Item) (h : FileHistory) (saved : ℕ) (item : Item)
    (place : ℕ)
    → IsFair reads h → WasSaved h saved item → saved ≡ place
    → Account h (world_at h (suc place)) item
unfolding turn_at
account_here reads h saved item place fair s same =
    let here = subst (λ (k : ℕ). slice_get h.steps k ≡ Some s.step) same s.here in
    let t : Turn reads h place = turn_at reads h place s.step fair here in
    subst (λ (w : World). Account h w item) (sym t.next) (account_saved reads h place item t s.by)

account : (reads : List ℕ → Option Item) (h : FileHistory) (saved : ℕ) (item : Item) (place : ℕ)
    → IsFair reads h → WasSaved h saved item → is_note item ≡ true → saved < place
    → Account h (world_at h place) item
account reads h saved item zero fair s note later = absurd (omega arith)
account reads h saved item (suc place) fair s note later =
    elim (before_or_here saved place later) [
      | inl earlier ↦
          let old = account reads h saved item place fair s note earlier in
          place_next reads h (λ (w : World). Account h w item) place fair
          (λ t. account_next reads h place item t (invariant reads h place fair) note old) old
      | inr same ↦ account_here reads h saved item place fair s same
    ]

-- ---- the end

fate_of : (h : FileHistory) (item : Item) → FileFate h (world_end h).file item → HasFate h item
fate_of h item (Stands v there stands) =
    OnStore (record { version = v; there = there; stands = stands })
fate_of h item (WentOver p) = fates.PutOver p
fate_of h item (Went d) = fates.Deleted d

kept_by : (h : FileHistory) (item : Item) → Account h (world_end h) item
    → (other : Item) × IsHeir h item other × HasFate h other
kept_by h item (ByRow client s) = (item, inl refl, OnRow client s)
kept_by h item (ByCopy client s) = (item, inl refl, InConflicts client s)
kept_by h item (ByUser f) = (item, inl refl, fates.Replaced f)
kept_by h item (ByClearing f) = (item, inl refl, fates.Cleared f)
kept_by h item (ByFile f) = (item, inl refl, fate_of h item f)
kept_by h item (ByHeir other m f) = (other, inr m, fate_of h other f)

pub is_kept : (reads : List ℕ → Option Item) (h : FileHistory) → IsFair reads h → IsKept h
is_kept reads h fair place item s note =
    let all : take (length h.steps) h.steps ≡ h.steps = take-length h.steps in
    let within = slice_get_within h.steps place s.step s.here in
    kept_by h item
    (subst (λ (ss : List FileStep). Account h (world_from (opening_world h.opening) ss) item) all
    (account reads h place item (length h.steps) fair s note within))
