-- The sessions that break a licence are refused.
use Rattle.std.specs.Prelude.{ℕ, ◌≡◌, List, [], ◌∷◌, Bool, true, false, bytes_eq, codes, Option, Some, None, refl}
use Rattle.std.proofs.Common.{sym, ◌∙◌, ap, subst, inl, inr}
use Rattle.std.specs.Str.{chars, is_utf8}
use lib.Utf8.{encode}
use Rattle.item_text.specs.Grammar.{above_block, block, block_fault, colon_fault, first_fault, item_in, item_of_lines, lines_fault, pair_of, type_fault, written}
use Rattle.item_text.specs.Lines.{has_text, joined, lines, trimmed}
use Rattle.item_text.specs.declared.item.Item.{Item}
use Rattle.item_text.specs.Props.{value_of}
use Rattle.item_text.specs.Valid.{is_type_value}
use Rattle.jop_base.proofs.KeyedLaws.{bytes_eq-refl}
use Rattle.jop_base.specs.Keyed.{at}
use Rattle.jop_base.specs.declared.path.Path.TheVariants.{Item as ItemFile}
use Rattle.jop_target.specs.declared.call.Call.{Call}
use Rattle.jop_target.specs.declared.call.Call.TheVariants.{Get, Put}
use Rattle.jop_target.specs.declared.reply.Reply.{Reply}
use Rattle.jop_target.specs.declared.reply.Reply.TheVariants.{Got, Absent, Done, Failed}
use Rattle.local_store.specs.Rows.{item_of}
use Rattle.local_store.specs.Tables.{row_at}
use Rattle.local_store.specs.declared.content.Content.{Content}
use Rattle.local_store.specs.declared.content.Content.TheVariants.{Plain, Sealed}
use Rattle.local_store.specs.declared.deletion.Deletion.{Deletion}
use Rattle.local_store.specs.declared.row.Row.{Row}
use Rattle.law_licences.specs.Breaches.{Breaks, editor, reader, sealer, put_unchecked, put_over_another, put_over_nothing, put_after_failure, put_unheard, put_in_next_session, put_after_stop, put_twice, put_of_another_text, put_after_check, put_of_unchanged, put_outside, upload_failed, upload_unput, upload_of_others, blob_behind, blob_at_once, conflict_without_copy, conflict_with_needless_copy, conflict_with_base, conflict_as_if_gone, conflict_of_new, take_unlisted, take_unread, take_at_once, go_unlisted, go_at_once, move_for_nothing, finish_unlisted, change_behind_page, delete_for_nothing, delete_blob, drop_undone, drop_failed, drop_half, puts_info, sets_info, opens, save_inside, gone_outside, my_keys, opener, conflict_unopened, opens_to_another}
use Rattle.law_licences.specs.Checks.{IsBase, IsOther, IsPending, last_on}
use Rattle.law_licences.specs.Conflicts.{MayConflict}
use Rattle.law_licences.specs.Copies.{copies_for}
use Rattle.law_licences.specs.Deletions.{IsDeleted, WasDeleted}
use Rattle.law_licences.specs.Infos.{info_read}
use Rattle.law_licences.specs.Items.{is_resource, remote_in}
use Rattle.law_licences.specs.Licences.{Each, MergesInfo}
use Rattle.law_licences.specs.Puts.{MayPut, has_put}
use Rattle.law_licences.specs.Stories.{it, mine, theirs, a_resource, a_sealed, edited, synced, having, sealing_with}
use Rattle.law_licences.specs.Views.{Heard, View}

-- ---- small facts

none-some : {A : Type 0} (x : A) → None ≡ Some x → ⊥
none-some x e = cc

some-same : {A : Type 0} (x y : A) → Some x ≡ Some y → x ≡ y
some-same x y e = cc

clash : true ≡ false → ⊥
clash e = cc

call_part : Option Heard → Option Call
call_part None = None
call_part (Some h) = Some h.call

reply_part : Option Heard → Option Reply
reply_part None = None
reply_part (Some h) = h.reply

answered : Call → Option Reply → Option Heard
answered call reply = Some (record { call = call; reply = reply })

called : (c d : Call) (r s : Option Reply) → answered c r ≡ answered d s → c ≡ d
unfolding call_part answered
called c d r s e = let f : Some c ≡ Some d = ap call_part e in some-same c d f

replied : (c d : Call) (r s : Option Reply) → answered c r ≡ answered d s → r ≡ s
unfolding reply_part answered
replied c d r s e = ap reply_part e

heard-reply : (c d : Call) (r s : Reply) → answered c (Some r) ≡ answered d (Some s) → r ≡ s
heard-reply c d r s e = some-same r s (replied c d (Some r) (Some s) e)

is-row : (v : View) (id : List ℕ) (row r : Row) → row_at v.tables id ≡ Some r
    → IsPending v id row → row ≡ r
is-row v id row r there pending = some-same row r (sym pending.at ∙ there)

content_part : Call → List ℕ
content_part (Put path content) = content
content_part call = []

mine-written : bytes_eq (written mine) [] ≡ false
unfolding written joined
mine-written = refl

not-mine : (bytes : List ℕ) → bytes ≡ [] → bytes ≡ written mine → ⊥
not-mine bytes none e =
    clash (sym (ap (λ (b : List ℕ). bytes_eq b []) none)
    ∙ (ap (λ (b : List ℕ). bytes_eq b []) e ∙ mine-written))

-- ---- puts

-- the row that waits, and what the check was answered, fit
fits : (v : View) (id content : List ℕ) (r : Row) (call : Call) (reply : Reply)
    → MayPut v id content → row_at v.tables id ≡ Some r
    → last_on id v.calls ≡ answered call (Some reply) → IsBase r.base reply
unfolding answered
fits v id content r call reply may there last =
    let same : may.row ≡ r = is-row v id may.row r there may.pending in
    let told : may.reply ≡ reply =
    heard-reply (Get (ItemFile id)) call may.reply reply (sym may.check ∙ last) in
    subst (λ (row : Row). IsBase row.base reply) same
    (subst (λ (got : Reply). IsBase may.row.base got) told may.same)

waits : (v : View) (id content : List ℕ) (r : Row) → MayPut v id content
    → row_at v.tables id ≡ Some r → r.pending ≡ true
waits v id content r may there =
    subst (λ (row : Row). row.pending ≡ true) (is-row v id may.row r there may.pending)
    may.pending.pending

pub unchecked : Breaks (editor None) put_unchecked
unfolding Each last_on
unchecked o = none-some _ o.1.0.1.check

pub another : Breaks (editor (Some [])) put_over_another
unfolding Each last_on at answered
another o =
    let e = fits _ it (written mine) (edited it mine (Some [])) (Get (ItemFile it))
    (Got 1 (codes "another")) o.1.1.0.1 refl refl in
    cc

pub new : Breaks (editor None) put_over_another
unfolding Each last_on at answered
new o =
    fits _ it (written mine) (edited it mine None) (Get (ItemFile it))
    (Got 1 (codes "another")) o.1.1.0.1 refl refl

pub nothing : Breaks (editor (Some [])) put_over_nothing
unfolding Each last_on at answered
nothing o =
    fits _ it (written mine) (edited it mine (Some [])) (Get (ItemFile it)) (Absent 1)
    o.1.1.0.1 refl refl

pub failure : Breaks (editor None) put_after_failure
unfolding Each last_on at answered
failure o =
    fits _ it (written mine) (edited it mine None) (Get (ItemFile it)) Failed
    o.1.1.1.0.1 refl refl

pub unheard : Breaks (editor None) put_unheard
unfolding Each last_on answered
unheard o =
    none-some _ (replied (Get (ItemFile it)) (Get (ItemFile it)) None (Some o.1.1.1.0.1.reply)
    o.1.1.1.0.1.check)

pub session : Breaks (editor None) put_in_next_session
unfolding Each last_on
session o = none-some _ o.1.1.1.1.0.1.check

pub stop : Breaks (editor None) put_after_stop
unfolding Each last_on
stop o = none-some _ o.1.1.1.1.0.1.check

pub twice : Breaks (editor None) put_twice
unfolding Each last_on answered
twice o =
    let e = called (Put (ItemFile it) (written mine)) (Get (ItemFile it)) (Some (Done 2))
    (Some o.1.1.1.0.1.reply) o.1.1.1.0.1.check in
    cc

pub text : Breaks (editor None) put_of_another_text
unfolding Each at info_read
text o =
    let may = o.1.1.0.1 in
    let same = is-row _ it may.row (edited it mine None) refl may.pending in
    not-mine [] refl (may.text ∙ ap (λ (row : Row). written (item_of row.content)) same)

pub sealed : Breaks sealer put_after_check
unfolding Each info_read
sealed o = clash (sym o.1.1.0.1.text)

pub unchanged : Breaks reader put_of_unchanged
unfolding Each at
unchanged o =
    clash (sym (waits _ it (written mine) (synced it mine (written mine)) o.1.1.0.1 refl))

pub outside : Breaks (editor None) put_outside
unfolding Each
outside o = o.0.0

-- ---- uploads

pub failed-upload : Breaks (editor None) upload_failed
unfolding Each last_on answered
failed-upload o =
    let e = heard-reply (Put (ItemFile it) (written mine)) (Put (ItemFile it) (written mine)) Failed
    (Done o.1.1.1.0.now) o.1.1.1.0.put in
    cc

pub unput-upload : Breaks (editor None) upload_unput
unfolding Each last_on answered
unput-upload o =
    let e = called (Get (ItemFile it)) (Put (ItemFile it) (written mine)) (Some (Absent 1))
    (Some (Done o.1.1.0.now)) o.1.1.0.put in
    cc

pub others-upload : Breaks (editor None) upload_of_others
unfolding Each last_on answered content_part
others-upload o =
    let e = called (Put (ItemFile it) (written mine)) (Put (ItemFile it) []) (Some (Done 2))
    (Some (Done o.1.1.1.0.now)) o.1.1.1.0.put in
    not-mine [] refl (sym (ap content_part e))

pub behind : Breaks (having (edited it a_resource None ∷ []) []) blob_behind
unfolding Each has_put
behind o = clash o.1.1.1.0.1.before

pub blob-synced : Breaks (having (edited it a_resource (Some []) ∷ []) []) blob_at_once
unfolding Each at
blob-synced o =
    let may = o.1.0.1 in
    let same = is-row _ it may.row (edited it a_resource (Some [])) refl may.pending in
    let e : Some [] ≡ None = sym (ap (λ (row : Row). row.base) same) ∙ may.new in
    cc

pub blob-note : Breaks (editor None) blob_at_once
unfolding Each at value_of is_type_value
blob-note o =
    let may = o.1.0.1 in
    let same = is-row _ it may.row (edited it mine None) refl may.pending in
    let e : false ≡ true =
    sym (ap (λ (row : Row). is_resource (item_of row.content)) same) ∙ may.resource in
    clash (sym e)

-- ---- conflicts

yields : (v : View) (id : List ℕ) (remote : Option (List ℕ × Content)) (copies : Bool) (r : Row)
    (call : Call) (reply : Reply)
    → MayConflict v id remote copies → row_at v.tables id ≡ Some r
    → last_on id v.calls ≡ answered call (Some reply)
    → IsOther v.sealing id r.base reply remote
unfolding answered
yields v id remote copies r call reply may there last =
    let same : may.row ≡ r = is-row v id may.row r there may.pending in
    let told : may.reply ≡ reply =
    heard-reply (Get (ItemFile id)) call may.reply reply (sym may.check ∙ last) in
    subst (λ (row : Row). IsOther v.sealing id row.base reply remote) same
    (subst (λ (got : Reply). IsOther v.sealing id may.row.base got remote) told may.other)

copied : (v : View) (id : List ℕ) (remote : Option (List ℕ × Content)) (copies : Bool) (r : Row)
    → MayConflict v id remote copies → row_at v.tables id ≡ Some r
    → copies ≡ copies_for r.content remote
copied v id remote copies r may there =
    may.copied
    ∙ ap (λ (row : Row). copies_for row.content remote)
    (is-row v id may.row r there may.pending)

pub copy : Breaks (editor (Some [])) conflict_without_copy
unfolding Each at value_of is_type_value
copy o =
    clash (sym (copied _ it (Some (written theirs, Plain theirs)) false
    (edited it mine (Some [])) o.1.1.0 refl))

pub needless : Breaks (editor (Some [])) conflict_with_needless_copy
unfolding Each at value_of is_type_value
needless o =
    clash (copied _ it (Some (written mine, Plain mine)) true
    (edited it mine (Some [])) o.1.1.0 refl)

pub base : Breaks (editor (Some (written theirs))) conflict_with_base
unfolding Each last_on at answered
base o =
    (yields _ it (Some (written theirs, Plain theirs)) true
    (edited it mine (Some (written theirs))) (Get (ItemFile it)) (Got 1 (written theirs))
    o.1.1.0 refl refl).0 refl

pub unchanged-conflict : Breaks reader conflict_with_base
unfolding Each at
unchanged-conflict o =
    let may = o.1.1.0 in
    let same = is-row _ it may.row (synced it mine (written mine)) refl may.pending in
    clash (sym may.pending.pending ∙ ap (λ (row : Row). row.pending) same)

pub as-gone : Breaks (editor (Some [])) conflict_as_if_gone
unfolding Each last_on at answered
as-gone o =
    yields _ it None true (edited it mine (Some [])) (Get (ItemFile it))
    (Got 1 (written theirs)) o.1.1.0 refl refl

pub never-there : Breaks (editor None) conflict_of_new
unfolding Each last_on at answered
never-there o =
    yields _ it None true (edited it mine None) (Get (ItemFile it)) (Absent 1)
    o.1.1.0 refl refl

-- ---- pages

pub unlisted : Breaks (having [] []) take_unlisted
unfolding Each
unlisted o = none-some _ o.1.1.0.has.last

pub unread : Breaks (having [] []) take_unread
unfolding Each last_on
unread o = none-some _ o.1.1.0.check

pub changed : Breaks (editor (Some [])) take_at_once
unfolding Each at
changed o = clash o.1.1.1.0.unchanged

pub go-unlisted : Breaks reader go_unlisted
unfolding Each
go-unlisted o = none-some _ o.1.0.has.last

pub go-changed : Breaks (editor (Some [])) go_at_once
unfolding Each at
go-changed o = clash o.1.1.0.unchanged

pub moved : Breaks reader move_for_nothing
unfolding Each last_on
moved o = elim o.1.0.leaving [
  | inl go ↦ none-some _ go.has.last
  | inr yield ↦ none-some _ yield.1.check
]

pub finish : Breaks reader finish_unlisted
unfolding Each
finish o = none-some _ o.1.0.has.last

pub behind-page : Breaks reader change_behind_page
unfolding Each
behind-page o = o.1.1.1.0

-- ---- deletions

kept : Deletion
kept = record { id = it; resource = false }

pub delete-nothing : Breaks reader delete_for_nothing
unfolding Each at
delete-nothing o = none-some _ o.1.0.1.at

pub delete-blob : Breaks (having [] (record { id = it; resource = false } ∷ [])) delete_blob
unfolding Each at kept
delete-blob o =
    let may = o.1.0.1 in
    let same : kept ≡ may.deletion = some-same kept may.deletion may.at in
    clash (sym may.resource ∙ sym (ap (λ (d : Deletion). d.resource) same))

pub undone : Breaks (having [] (record { id = it; resource = false } ∷ [])) drop_undone
unfolding Each WasDeleted
undone o = o.1.0.file

heard : Call → Option Reply → Heard
heard call reply = record { call = call; reply = reply }

pub failed-delete : Breaks (having [] (record { id = it; resource = false } ∷ [])) drop_failed
unfolding Each WasDeleted heard
failed-delete o = elim o.1.1.0.file [
  | inl d ↦
      let e : Some Failed ≡ Some d.reply = ap (λ (h : Heard). h.reply) d.is in
      subst IsDeleted (sym (some-same Failed d.reply e)) d.done
  | inr k ↦ k
]

pub half : Breaks (having [] (record { id = it; resource = true } ∷ [])) drop_half
unfolding Each at WasDeleted heard
half o =
    let may = o.1.1.0 in
    let whole : Deletion = record { id = it; resource = true } in
    let same : whole ≡ may.deletion = some-same whole may.deletion may.at in
    elim (may.blob (sym (ap (λ (d : Deletion). d.resource) same))) [
      | inl d ↦ let e = ap (λ (h : Heard). h.call) d.is in cc
      | inr k ↦ k
    ]

-- ---- infos and others

pub put-info : MergesInfo reader puts_info → ⊥
unfolding Each info_read
put-info o = none-some _ o.1.0.read

pub set-info : Breaks reader sets_info
unfolding Each info_read
set-info o = none-some _ o.1.0.read

-- what is sealed in a row, if the row is
outer_of : Content → Option Item
outer_of (Plain item) = None
outer_of (Sealed item) = Some item

outer_in : Option (List ℕ × Content) → Option Item
outer_in None = None
outer_in (Some remote) = outer_of remote.1

theirs-written : bytes_eq (written mine) (written theirs) ≡ false
unfolding written joined
theirs-written = refl

read_opened : remote_in my_keys it (written a_sealed) ≡ Some (written a_sealed, Plain mine)
unfolding item_in is_utf8 chars encode first_fault lines_fault block_fault colon_fault type_fault
    block above_block item_of_lines pair_of written joined lines has_text trimmed value_of
    is_type_value
read_opened = refl

pub opening : Breaks reader opens
unfolding Each at outer_of
opening o =
    let may = o.1.0 in
    let same = some-same (synced it mine (written mine)) may.row may.at in
    none-some may.outer (ap outer_of (ap (λ (row : Row). row.content) same ∙ may.is_sealed))

pub opening-other : Breaks opener opens_to_another
unfolding Each at value_of
opening-other o =
    let e : written mine ≡ written theirs = ap written (some-same mine theirs o.1.0.opens) in
    clash (sym (bytes_eq-refl (written theirs))
    ∙ (sym (ap (λ (b : List ℕ). bytes_eq b (written theirs)) e) ∙ theirs-written))

pub unsealed : Breaks (sealing_with my_keys (edited it mine None ∷ [])) put_after_check
unfolding Each at written joined info_read
unsealed o = clash (sym o.1.1.0.1.text)

pub unopened : Breaks (sealing_with my_keys (edited it mine (Some []) ∷ [])) conflict_unopened
unfolding Each last_on at answered outer_in outer_of
unopened o =
    let other = (yields _ it (Some (written a_sealed, Sealed a_sealed)) true
    (edited it mine (Some [])) (Get (ItemFile it)) (Got 1 (written a_sealed)) o.1.1.0 refl refl).1 in
    none-some a_sealed (ap outer_in (sym read_opened ∙ other))

pub inside : Breaks reader save_inside
unfolding Each
inside o = o.1.0

pub no-session : Breaks reader gone_outside
unfolding Each
no-session o = o.0
