-- What holds of the file, of each row and of each check at every place of a fair history: what it stands for has a fate
-- by the file alone.
use Rattle.std.proofs.Common.{◌≡◌, ◌∙◌, refl, sym, subst, inl, inr, ℕ, List, Bool, true, false, Option, Some, None}
use Rattle.std.specs.Prelude.{is_none, ◌||◌}
use Rattle.std.proofs.lemmas.Bool.{false≢true, true≢false, and_parts}
use Rattle.item_text.specs.declared.item.Item.{Item}
use Rattle.jop_base.proofs.KeyedLaws.{bytes_eq-refl, bytes_eq-other}
use Rattle.law_kept.specs.Acts.{RowStep, Saves, Reads, Meets, Goes, row_step, Answer, Shown, Missing, Unknown, Act, Begins, Gets, Puts, Deletes, Changes, Ends, Elsewhere, Version, FileHistory}
use Rattle.law_kept.specs.Fair.{file_bytes}
use Rattle.law_kept.specs.Honest.{is_honest}
use Rattle.law_kept.specs.Licences.{is_waiting, has_read_base, has_read_nothing, has_read_item, is_outside, may_act}
use Rattle.law_kept.specs.Own.{OwnRow, Unchecked, Read, ReadNothing, Wrote, OwnSession, Out, In, Own, session_checked, check_of, check_put, own_after}
use Rattle.law_kept.specs.Standing.{Copy, Standing, Client, World, file_item, version_put, file_after, stood_stepped, copies_changed, stands_after, stands_beside, happened, world_at}
use Rattle.law_kept.proofs.Clients.{same_or_not, some_same, text_is}
use Rattle.law_kept.proofs.FileFates.{Turn, RowHolds, ReadHolds, CheckHolds, IsReadable, Invariant, fate_next, Stands}
use Rattle.law_kept.proofs.RowFates.{Keeps, MayStep, row_keeps, step_may, row_own}

-- ---- checks

-- a row that stands for nothing, or for what it stood for, keeps its check
check_row : (reads : List ℕ → Option Item) (h : FileHistory) (file : Option Version)
    (s t : Standing) (session : OwnSession)
    → t.got ≡ s.got → t.crossed ≡ s.crossed
    → ((item : Item) → t.row ≡ Some item → s.row ≡ Some item)
    → CheckHolds reads h file s session → CheckHolds reads h file t session
check_row reads h file s t Out got crossed row c = tt
check_row reads h file s t (In Unchecked) got crossed row c = tt
check_row reads h file s t (In (Read bytes)) got crossed row c = rw (got, crossed) c
check_row reads h file s t (In ReadNothing) got crossed row c = rw crossed c
check_row reads h file s t (In (Wrote bytes)) got crossed row c = λ item e. c item (row item e)

nothing : (stood : Option Item) (item : Item) → None ≡ Some item → stood ≡ Some item
nothing stood item e = cc

-- what was read stays so whatever the row becomes
check_read : (reads : List ℕ → Option Item) (h : FileHistory) (file : Option Version)
    (s t : Standing) (session : OwnSession) (bytes : List ℕ)
    → t.got ≡ s.got → t.crossed ≡ s.crossed → has_read_item reads session bytes ≡ true
    → CheckHolds reads h file s session → CheckHolds reads h file t session
check_read reads h file s t Out bytes got crossed may c = tt
check_read reads h file s t (In Unchecked) bytes got crossed may c = tt
check_read reads h file s t (In (Read found)) bytes got crossed may c = rw (got, crossed) c
check_read reads h file s t (In ReadNothing) bytes got crossed may c = rw crossed c
check_read reads h file s t (In (Wrote written)) bytes got crossed may c = absurd (false≢true may)

check_out : (reads : List ℕ → Option Item) (h : FileHistory) (file : Option Version) (s : Standing)
    (session : OwnSession) → is_outside session ≡ true → CheckHolds reads h file s session
check_out reads h file s Out out = tt
check_out reads h file s (In check) out = absurd (false≢true out)

check_after_step : (reads : List ℕ → Option Item) (h : FileHistory) (file : Option Version)
    (o : Own) (s : Standing) (copies : List Copy) (step : RowStep)
    → MayStep reads o step → CheckHolds reads h file s o.session
    → CheckHolds reads h file (record s { row = stood_stepped s step; copies = copies }) o.session
check_after_step reads h file o s copies (Saves item) may c =
    check_out reads h file (record s { row = Some item; copies = copies }) o.session may
check_after_step reads h file o s copies (Reads bytes content) may c =
    check_read reads h file s (record s { row = s.got; copies = copies }) o.session bytes refl refl
    may c
check_after_step reads h file o s copies (Meets remote) may c =
    check_read reads h file s (record s { row = s.got; copies = copies }) o.session remote.0 refl
    refl may c
check_after_step reads h file o s copies Goes may c =
    check_row reads h file s (record s { row = None; copies = copies }) o.session refl refl
    (nothing s.row) c
check_after_step reads h file o s copies step may c =
    check_row reads h file s (record s { copies = copies }) o.session refl refl (λ item e. e) c

check_none : (reads : List ℕ → Option Item) (h : FileHistory) (file : Option Version) (s : Standing)
    (session : OwnSession) → CheckHolds reads h file s (session_checked session Unchecked)
check_none reads h file s Out = tt
check_none reads h file s (In old) = tt

no_file : (file : Option Version) → is_none (file_bytes file) ≡ true → file ≡ None
no_file None none = refl
no_file (Some v) none = absurd (false≢true none)

-- a get showed what the file is
check_shown : (reads : List ℕ → Option Item) (h : FileHistory) (file : Option Version)
    (bytes : List ℕ)
    → IsReadable reads file → file_bytes file ≡ Some bytes
    → ReadHolds reads h file (file_item file) false bytes
check_shown reads h None bytes readable holds = cc
check_shown reads h (Some v) bytes readable holds =
    let same : v.bytes ≡ bytes = some_same v.bytes bytes holds in
    record {
      safe = λ item stands. Stands v refl stands;
      readable = λ none. subst (λ (b : List ℕ). reads b ≡ None) same (readable none);
      fresh = λ e. inr holds;
    }

check_got : (reads : List ℕ → Option Item) (h : FileHistory) (file : Option Version) (s : Standing)
    (session : OwnSession) (answer : Answer)
    → is_honest (file_bytes file) (Gets answer) ≡ true → IsReadable reads file
    → CheckHolds reads h file (stands_after file s (Gets answer))
    (session_checked session (check_of answer))
check_got reads h file s Out answer honest readable = tt
check_got reads h file s (In old) (Shown bytes) honest readable =
    check_shown reads h file bytes readable (text_is bytes (file_bytes file) honest)
check_got reads h file s (In old) Missing honest readable = λ e. no_file file honest
check_got reads h file s (In old) Unknown honest readable = tt

check_wrote : (reads : List ℕ → Option Item) (h : FileHistory) (bytes : List ℕ) (s : Standing)
    (session : OwnSession) (heard : Bool)
    → CheckHolds reads h (Some (version_put s.row bytes)) s
    (session_checked session (check_put bytes heard))
check_wrote reads h bytes s Out heard = tt
check_wrote reads h bytes s (In old) true =
    λ item stands. Stands (version_put s.row bytes) refl stands
check_wrote reads h bytes s (In old) false = tt

check_own : (reads : List ℕ → Option Item) (h : FileHistory) (file : Option Version) (o : Own)
    (s : Standing) (x : Act)
    → is_honest (file_bytes file) x ≡ true → may_act reads o x ≡ true → IsReadable reads file
    → CheckHolds reads h file s o.session
    → CheckHolds reads h (file_after s.row file x) (stands_after file s x) (own_after o x).session
check_own reads h file o s Begins honest may readable c = tt
check_own reads h file o s (Gets answer) honest may readable c =
    check_got reads h file s o.session answer honest readable
check_own reads h file o s (Puts bytes true heard) honest may readable c =
    check_wrote reads h bytes s o.session heard
check_own reads h file o s (Puts bytes false true) honest may readable c =
    absurd (false≢true honest)
check_own reads h file o s (Puts bytes false false) honest may readable c =
    check_none reads h file s o.session
check_own reads h file o s (Deletes true) honest may readable c =
    check_none reads h None s o.session
check_own reads h file o s (Deletes false) honest may readable c =
    check_none reads h file s o.session
check_own reads h file o s (Changes change) honest may readable c =
    check_after_step reads h file o s (copies_changed s change) (row_step change)
    (step_may reads o change may) c
check_own reads h file o s Ends honest may readable c = tt
check_own reads h file o s Elsewhere honest may readable c = c

-- another client's put landed
check_crossed : (reads : List ℕ → Option Item) (h : FileHistory) (old new : Option Version)
    (s : Standing)
    (session : OwnSession)
    → Keeps h old new → CheckHolds reads h old s session
    → CheckHolds reads h new (record s { crossed = true }) session
check_crossed reads h old new s Out keeps c = tt
check_crossed reads h old new s (In Unchecked) keeps c = tt
check_crossed reads h old new s (In (Read bytes)) keeps c = record {
  safe = λ item e. keeps item (c.safe item e);
  readable = c.readable;
  fresh = λ e. absurd (true≢false e);
}
check_crossed reads h old new s (In ReadNothing) keeps c = λ e. absurd (true≢false e)
check_crossed reads h old new s (In (Wrote bytes)) keeps c = λ item e. keeps item (c item e)

-- another client's delete landed
check_deleted : (reads : List ℕ → Option Item) (h : FileHistory) (old : Option Version)
    (s : Standing)
    (session : OwnSession)
    → Keeps h old None → CheckHolds reads h old s session → CheckHolds reads h None s session
check_deleted reads h old s Out keeps c = tt
check_deleted reads h old s (In Unchecked) keeps c = tt
check_deleted reads h old s (In (Read bytes)) keeps c = record {
  safe = λ item e. keeps item (c.safe item e);
  readable = c.readable;
  fresh = λ e. inl refl;
}
check_deleted reads h old s (In ReadNothing) keeps c = λ e. refl
check_deleted reads h old s (In (Wrote bytes)) keeps c = λ item e. keeps item (c item e)

check_beside : (reads : List ℕ → Option Item) (h : FileHistory) (file : Option Version)
    (writer : Option Item) (s : Standing) (session : OwnSession) (x : Act)
    → Keeps h file (file_after writer file x) → CheckHolds reads h file s session
    → CheckHolds reads h (file_after writer file x) (stands_beside s x) session
check_beside reads h file writer s session (Puts bytes true heard) keeps c =
    check_crossed reads h file (Some (version_put writer bytes)) s session keeps c
check_beside reads h file writer s session (Puts bytes false heard) keeps c = c
check_beside reads h file writer s session (Deletes true) keeps c =
    check_deleted reads h file s session keeps c
check_beside reads h file writer s session (Deletes false) keeps c = c
check_beside reads h file writer s session Begins keeps c = c
check_beside reads h file writer s session (Gets answer) keeps c = c
check_beside reads h file writer s session (Changes change) keeps c = c
check_beside reads h file writer s session Ends keeps c = c
check_beside reads h file writer s session Elsewhere keeps c = c

-- ---- the file

-- a writer's row stands for something
pending_stands : (h : FileHistory) (file : Option Version) (row : Option OwnRow)
    (stood : Option Item)
    → is_waiting row ≡ true → RowHolds h file row stood → stood ≡ None → ⊥
pending_stands h file None stood pending r none = false≢true pending
pending_stands h file (Some row) stood pending r none =
    let some = r.stands in let both : None ≡ Some r.item = sym none ∙ some in cc

file_next : (reads : List ℕ → Option Item) (h : FileHistory) (file : Option Version) (o : Own)
    (s : Standing) (x : Act)
    → may_act reads o x ≡ true → RowHolds h file o.row s.row → IsReadable reads file
    → IsReadable reads (file_after s.row file x)
file_next reads h file o s (Puts bytes true heard) may r readable = λ none.
    let both =
    and_parts (is_waiting o.row) (has_read_base o.session o.row || has_read_nothing o.session)
    may in
    absurd (pending_stands h file o.row s.row both.0 r none)
file_next reads h file o s (Puts bytes false heard) may r readable = readable
file_next reads h file o s (Deletes true) may r readable = tt
file_next reads h file o s (Deletes false) may r readable = readable
file_next reads h file o s Begins may r readable = readable
file_next reads h file o s (Gets answer) may r readable = readable
file_next reads h file o s (Changes change) may r readable = readable
file_next reads h file o s Ends may r readable = readable
file_next reads h file o s Elsewhere may r readable = readable

-- ---- all

abbrev pub DeskRow : FileHistory → Option Version → Client → Type 0
DeskRow h file d = RowHolds h file d.own.row d.stands.row

abbrev pub DeskCheck : (List ℕ → Option Item) → FileHistory → Option Version → Client → Type 0
DeskCheck reads h file d = CheckHolds reads h file d.stands d.own.session

row_next : (reads : List ℕ → Option Item) (h : FileHistory) (place : ℕ) (t : Turn reads h place)
    (client : List ℕ) → Invariant reads h (world_at h place)
    → DeskRow h (happened (world_at h place) t.step).file
    ((happened (world_at h place) t.step).at client)
row_next reads h place t client i =
    let w : World = world_at h place in
    let d : Client = w.at t.step.client in
    elim (same_or_not t.step.client client) [
      | inl same ↦
          subst (λ (c : List ℕ). DeskRow h (happened w t.step).file ((happened w t.step).at c)) same
          (rw (bytes_eq-refl t.step.client)
          (row_own reads h w.file d.own d.stands t.step.act t.licensed
          (λ item f. fate_next reads h place t item i f) (i.row t.step.client)
          (i.check t.step.client)))
      | inr differ ↦
          rw (bytes_eq-other t.step.client client differ)
          (row_keeps h w.file (happened w t.step).file (w.at client).own.row
          (w.at client).stands.row
          (λ item f. fate_next reads h place t item i f) (i.row client))
    ]

check_next : (reads : List ℕ → Option Item) (h : FileHistory) (place : ℕ) (t : Turn reads h place)
    (client : List ℕ) → Invariant reads h (world_at h place)
    → DeskCheck reads h (happened (world_at h place) t.step).file
    ((happened (world_at h place) t.step).at client)
check_next reads h place t client i =
    let w : World = world_at h place in
    let d : Client = w.at t.step.client in
    elim (same_or_not t.step.client client) [
      | inl same ↦
          subst
          (λ (c : List ℕ). DeskCheck reads h (happened w t.step).file
          ((happened w t.step).at c)) same
          (rw (bytes_eq-refl t.step.client)
          (check_own reads h w.file d.own d.stands t.step.act t.honest t.licensed i.file
          (i.check t.step.client)))
      | inr differ ↦
          rw (bytes_eq-other t.step.client client differ)
          (check_beside reads h w.file d.stands.row (w.at client).stands (w.at client).own.session
          t.step.act (λ item f. fate_next reads h place t item i f) (i.check client))
    ]

pub invariant_next : (reads : List ℕ → Option Item) (h : FileHistory) (place : ℕ)
    (t : Turn reads h place) → Invariant reads h (world_at h place)
    → Invariant reads h (happened (world_at h place) t.step)
invariant_next reads h place t i =
    let d : Client = (world_at h place).at t.step.client in
    record {
      file = file_next reads h (world_at h place).file d.own d.stands t.step.act t.licensed
          (i.row t.step.client) i.file;
      row = λ client. row_next reads h place t client i;
      check = λ client. check_next reads h place t client i;
    }
