-- What each kind of change is for an item: it is known of the item, has its licence, and leaves what is true.
use Rattle.std.proofs.Common.{◌≡◌, ◌∙◌, refl, ap, sym, subst, ℕ, List, true, false, Option, Some, None}
use Rattle.item_text.specs.declared.item.Item.{Item}
use Rattle.local_store.proofs.Keeping.{IsOrdered, after_sound, sound_ordered}
use Rattle.local_store.specs.Changing.{after, with_row, without_row}
use Rattle.local_store.specs.Sound.{IsAllowed}
use Rattle.local_store.specs.Tables.{row_at, base_of}
use Rattle.local_store.specs.declared.change.Change.{Change}
use Rattle.local_store.specs.declared.change.Change.TheVariants as tables
use Rattle.local_store.specs.declared.content.Content.TheVariants.{Plain}
use Rattle.local_store.specs.declared.row.Row.{Row}
use Rattle.local_store.specs.declared.tables.Tables.{Tables}
use Rattle.law_licences.specs.Checks.{last_on}
use Rattle.law_licences.specs.Conflicts.{MayConflict}
use Rattle.law_licences.specs.Items.{item_of_file}
use Rattle.law_licences.specs.Leaving.{MayMove}
use Rattle.law_licences.specs.Licences.{IsInside, IsLocal, MayChange, MayMakeAt, MayMake}
use Rattle.law_licences.specs.Opens.{MayOpen}
use Rattle.law_licences.specs.Pages.{MayTake, MayGo}
use Rattle.law_licences.specs.Puts.{MayUpload}
use Rattle.law_licences.specs.Views.{View, Stage, Outside, Working, Finished}
use Rattle.law_licences.specs.Views as views
use Rattle.law_kept.specs.Acts.{ItemChange, Saved, Removed, Uploaded, Dropped, Taken, Conflict, Moved, Gone, Opened, Version}
use Rattle.law_kept.specs.Known.{check_known, session_known, tables_known, known}
use Rattle.law_kept.specs.Licences.{may_act}
use Rattle.law_kept.specs.Own.{OwnSession, Out, Own, own_after}
use Rattle.law_kept.specs.Standing.{Standing, stands_changed, stands_after, file_after, without_number}
use Rattle.law_kept.specs.Telling.{number_if, change_act, item_change, change_told}
use Rattle.law_kept.proofs.Copies.{copies_less}
use Rattle.law_kept.proofs.Licensed.{idle_row, its_licence, upload_known, take_known, conflict_known, open_known}
use Rattle.law_kept.proofs.Rows.{with_own, with_other, without_own, without_other, base_known, put_known, put_beside, cut_known, cut_beside, uploaded_known, uploaded_beside, opened_known, opened_beside, conflicted_known, conflicted_beside, removed_known, removed_beside, dropped_known, dropped_beside, by_id}
use Rattle.law_kept.proofs.TrueCalls.{GotIsTrue, IsTrue}
use Rattle.law_kept.proofs.TrueChanges.{Parts, parts_of, parts_beside, uploaded_parts, uploaded_aside, conflicted_aside, taken_parts, conflict_parts, moved_parts, parts_by_id, session_change, none_opened}

-- ---- known

-- what a change leaves in the tables is what is known of the item then
pub change_known : (t : Tables) (id : List ℕ) (next : ℕ) (s : OwnSession) (c : Change) → IsOrdered t
    → tables_known id (after t c) s ≡ own_after (tables_known id t s) (change_told id next c)
change_known t id next s (tables.Saved i item) o =
    by_id t id i s (λ k. tables.Saved k item) (Saved item)
    (put_known t
    (record { id = id; content = Plain item; base = base_of (row_at t id); pending = true }) id s
    refl
    ∙ rw (base_known (row_at t id)) refl)
    (put_beside t
    (record { id = i; content = Plain item; base = base_of (row_at t i); pending = true }) id s)
change_known t id next s (tables.Removed i) o =
    by_id t id i s (λ k. tables.Removed k) Removed (removed_known t id s o)
    (removed_beside t i id s)
change_known t id next s (tables.Uploaded i bytes) o =
    by_id t id i s (λ k. tables.Uploaded k bytes) (Uploaded bytes)
    (uploaded_known t id bytes s (row_at t id) refl)
    (uploaded_beside t i bytes id s (row_at t i))
change_known t id next s (tables.Dropped i) o =
    by_id t id i s (λ k. tables.Dropped k) Dropped (dropped_known t id s o)
    (dropped_beside t i id s)
change_known t id next s (tables.Taken i bytes content) o =
    by_id t id i s (λ k. tables.Taken k bytes content) (Taken bytes content)
    (put_known t (record { id = id; content = content; base = Some bytes; pending = false }) id s
    refl)
    (put_beside t (record { id = i; content = content; base = Some bytes; pending = false }) id s)
change_known t id next s (tables.Conflict i remote copies) o =
    by_id t id i s (λ k. tables.Conflict k remote copies) (Conflict remote (number_if copies next))
    (conflicted_known t id remote copies (number_if copies next) s (row_at t id) refl o)
    (conflicted_beside t i remote copies id s (row_at t i))
change_known t id next s (tables.Moved i) o =
    by_id t id i s (λ k. tables.Moved k) (Moved next)
    (conflicted_known t id None true None s (row_at t id) refl o)
    (conflicted_beside t i None true id s (row_at t i))
change_known t id next s (tables.Gone i) o =
    by_id t id i s (λ k. tables.Gone k) Gone (cut_known t id s o) (cut_beside t i id s)
change_known t id next s (tables.Opened i item) o =
    by_id t id i s (λ k. tables.Opened k item) (Opened item)
    (opened_known t id item s (row_at t id) refl)
    (opened_beside t i item id s (row_at t i))
change_known t id next s c o = refl

-- ---- licensed

-- a session makes it by its licence
change_inside : (id : List ℕ) (next : ℕ) (v : View) (c : Change) → IsInside v.stage
    → MayChange v c → may_act (item_of_file id) (known id v) (change_told id next c) ≡ true
change_inside id next v (tables.Uploaded i bytes) is may =
    its_licence id i (known id v) (Uploaded bytes)
    (λ e. upload_known v id bytes is (subst (λ (k : List ℕ). MayUpload v k bytes) e may))
change_inside id next v (tables.Dropped i) is may =
    its_licence id i (known id v) Dropped (λ e. refl)
change_inside id next v (tables.Taken i bytes content) is may =
    its_licence id i (known id v) (Taken bytes content)
    (λ e. take_known v id bytes content is
    (subst (λ (k : List ℕ). MayTake v k bytes content) e may))
change_inside id next v (tables.Conflict i remote copies) is may =
    its_licence id i (known id v) (Conflict remote (number_if copies next))
    (λ e. conflict_known v id remote copies next is
    (subst (λ (k : List ℕ). MayConflict v k remote copies) e may))
change_inside id next v (tables.Moved i) is may =
    its_licence id i (known id v) (Moved next) (λ e. refl)
change_inside id next v (tables.Gone i) is may =
    its_licence id i (known id v) Gone
    (λ e. idle_row v id (subst (λ (k : List ℕ). MayGo v k) e may).unchanged)
change_inside id next v (tables.Opened i item) is may =
    its_licence id i (known id v) (Opened item)
    (λ e. open_known v id item (subst (λ (k : List ℕ). MayOpen v k item) e may))
change_inside id next v (tables.InfoIs info) is may = refl
change_inside id next v (tables.ContextIs context) is may = refl
change_inside id next v c is may = absurd may

-- and what the user changes, in no session
change_outside : (id : List ℕ) (next : ℕ) (o : Own) (c : Change) → o.session ≡ Out → IsLocal c
    → may_act (item_of_file id) o (change_told id next c) ≡ true
change_outside id next o (tables.Saved i item) out local =
    its_licence id i o (Saved item) (λ e. rw out refl)
change_outside id next o (tables.Removed i) out local = its_licence id i o Removed (λ e. refl)
change_outside id next o (tables.Cleared number) out local = refl
change_outside id next o (tables.InfoIs info) out local = refl
change_outside id next o (tables.Named client) out local = refl
change_outside id next o c out local = absurd local

pub change_licensed : (id : List ℕ) (next : ℕ) (v : View) (c : Change) (stage : Stage)
    → v.stage ≡ stage → MayMakeAt stage v c
    → may_act (item_of_file id) (known id v) (change_told id next c) ≡ true
change_licensed id next v c Outside at may =
    change_outside id next (known id v) c
    (ap (λ (s : Stage). session_known s (check_known (last_on id v.calls))) at) may
change_licensed id next v c Working at may = change_inside id next v c (rw at tt) may
change_licensed id next v c Finished at may = absurd may

-- ---- true

change_parts : (id : List ℕ) (v : View) (t : Tables) (s : Standing) (file : Option Version)
    (c : Change) → IsTrue id v t s → MayMake v c
    → Parts id (after v.tables c) s
    (stands_after file s (change_told id v.tables.next_conflict c))
change_parts id v t s file (tables.Saved i item) h may =
    let own : Row =
    record { id = id; content = Plain item; base = base_of (row_at v.tables id); pending = true } in
    let other : Row =
    record { id = i; content = Plain item; base = base_of (row_at v.tables i); pending = true } in
    parts_by_id id i file v.tables s (λ k. tables.Saved k item) (Saved item)
    (λ e. parts_of id (with_row v.tables own) s (stands_changed s (Saved item)) (Some own)
    (with_own v.tables own id refl) refl h.copies refl)
    (λ d. parts_beside id v.tables (with_row v.tables other) s h.row h.copies
    (with_other v.tables other id d) refl)
change_parts id v t s file (tables.Removed i) h may =
    parts_by_id id i file v.tables s (λ k. tables.Removed k) Removed
    (λ e. parts_of id (after v.tables (tables.Removed id)) s (stands_changed s Removed) None
    (without_own v.tables id (sound_ordered v.tables h.sound)) tt h.copies refl)
    (λ d. parts_beside id v.tables (after v.tables (tables.Removed i)) s h.row h.copies
    (without_other v.tables i id d) refl)
change_parts id v t s file (tables.Uploaded i bytes) h may =
    parts_by_id id i file v.tables s (λ k. tables.Uploaded k bytes) (Uploaded bytes)
    (λ e. uploaded_parts id bytes v.tables s (row_at v.tables id) refl h.row h.copies)
    (λ d. uploaded_aside id i bytes v.tables s (row_at v.tables i) d h.row h.copies)
change_parts id v t s file (tables.Dropped i) h may =
    parts_by_id id i file v.tables s (λ k. tables.Dropped k) Dropped
    (λ e. record { row = h.row; copies = h.copies; got = refl })
    (λ d. record { row = h.row; copies = h.copies; got = refl })
change_parts id v t s file (tables.Taken i bytes content) h may =
    let take = session_change v.stage v (tables.Taken i bytes content) (λ l. l) may in
    let other : Row = record { id = i; content = content; base = Some bytes; pending = false } in
    parts_by_id id i file v.tables s (λ k. tables.Taken k bytes content) (Taken bytes content)
    (λ e. taken_parts id bytes content v t s h
    (subst (λ (k : List ℕ). MayTake v k bytes content) e take))
    (λ d. parts_beside id v.tables (with_row v.tables other) s h.row h.copies
    (with_other v.tables other id d) refl)
change_parts id v t s file (tables.Conflict i remote copies) h may =
    let conflict = session_change v.stage v (tables.Conflict i remote copies) (λ l. l) may in
    parts_by_id id i file v.tables s (λ k. tables.Conflict k remote copies)
    (Conflict remote (number_if copies v.tables.next_conflict))
    (λ e. conflict_parts id remote copies v t s h
    (subst (λ (k : List ℕ). MayConflict v k remote copies) e conflict))
    (λ d. conflicted_aside id i v.tables remote copies (row_at v.tables i) s d h.row h.copies)
change_parts id v t s file (tables.Moved i) h may =
    let move = session_change v.stage v (tables.Moved i) (λ l. l) may in
    parts_by_id id i file v.tables s (λ k. tables.Moved k) (Moved v.tables.next_conflict)
    (λ e. moved_parts id v t s h (subst (λ (k : List ℕ). MayMove v k) e move))
    (λ d. conflicted_aside id i v.tables None true (row_at v.tables i) s d h.row h.copies)
change_parts id v t s file (tables.Gone i) h may =
    parts_by_id id i file v.tables s (λ k. tables.Gone k) Gone
    (λ e. parts_of id (without_row v.tables id) s (stands_changed s Gone) None
    (without_own v.tables id (sound_ordered v.tables h.sound)) tt h.copies refl)
    (λ d. parts_beside id v.tables (without_row v.tables i) s h.row h.copies
    (without_other v.tables i id d) refl)
change_parts id v t s file (tables.Opened i item) h may =
    let may_open = session_change v.stage v (tables.Opened i item) (λ l. l) may in
    absurd (none_opened v.sealing may_open.outer item h.keyless may_open.opens)
change_parts id v t s file (tables.Cleared number) h may = record {
  row = h.row;
  copies = ap (without_number number) h.copies ∙ copies_less id number v.tables.conflicts;
  got = refl;
}
change_parts id v t s file c h may = record { row = h.row; copies = h.copies; got = refl }

pub true_changed : (id : List ℕ) (v : View) (t : Tables) (s : Standing) (file : Option Version)
    (c : Change) → IsTrue id v t s → MayMake v c → IsAllowed c
    → IsTrue id (views.view_after_change v c) (after t c)
    (stands_after file s (change_told id t.next_conflict c))
true_changed id v t s file c h may allowed =
    let parts = change_parts id v t s file c h may in
    subst
    (λ (u : Tables). IsTrue id (views.view_after_change v c) (after t c)
    (stands_after file s (change_told id u.next_conflict c)))
    h.same
    (record {
      same = ap (λ (u : Tables). after u c) h.same;
      sound = after_sound v.tables c h.sound allowed;
      row = parts.row;
      copies = parts.copies;
      got = subst
          (λ (got : Option Item). GotIsTrue id (check_known (last_on id v.calls)) got)
          (sym parts.got) h.got;
      keyless = h.keyless;
    })

-- a change leaves the file
file_act : (stood : Option Item) (file : Option Version) (its : Option ItemChange)
    → file_after stood file (change_act its) ≡ file
file_act stood file None = refl
file_act stood file (Some its) = refl

pub file_changed : (id : List ℕ) (next : ℕ) (stood : Option Item) (file : Option Version)
    (c : Change) → file_after stood file (change_told id next c) ≡ file
file_changed id next stood file c = file_act stood file (item_change id next c)
