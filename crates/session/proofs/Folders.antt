-- The notes of a folder that may go may be moved, one after the other, and then it still may go.
use Rattle.std.specs.Prelude.{ℕ, ◌≡◌, List, [], ◌∷◌, map, filter, All, Bool, true, false, bytes_eq, if◌then◌else◌, Option, Some, None, option_and_then, refl}
use Rattle.std.proofs.Common.{sym, ap, subst, ◌∙◌, inl, inr, arith}
use Rattle.std.proofs.lemmas.Bool.{and_parts, eqb-true}
use Rattle.std.proofs.lemmas.List.Elements.{All-cons, All-nil}
use Rattle.conflicts.specs.Rules.{move_of}
use Rattle.item_kinds.specs.Kinds.{type_number, is_number}
use Rattle.item_text.specs.Props.{type_key, value_of}
use Rattle.jop_base.proofs.KeyedLaws.{IsSorted-cut, at-cut, at-cut_other, bytes_eq-refl, same_text}
use Rattle.jop_base.specs.Keyed.{IsSorted, at, cut}
use Rattle.law_licences.specs.Checks.{is_pending}
use Rattle.law_licences.specs.Conflicts.{MayConflict}
use Rattle.law_licences.specs.Items.{is_folder, is_note_in, is_plain_note}
use Rattle.law_licences.specs.Leaving.{IsLeaving}
use Rattle.law_licences.specs.Pages.{MayGo}
use Rattle.law_licences.specs.Views.{View}
use Rattle.local_store.specs.Changing.{after, after_all, conflicted}
use Rattle.local_store.specs.Rows.{item_of, row_id}
use Rattle.local_store.specs.Sound.{IsAllowed}
use Rattle.local_store.specs.Tables.{row_at}
use Rattle.local_store.specs.declared.change.Change.TheVariants.{Moved}
use Rattle.local_store.specs.declared.content.Content.{Content}
use Rattle.local_store.specs.declared.content.Content.TheVariants.{Plain, Sealed}
use Rattle.local_store.specs.declared.row.Row.{Row}
use Rattle.local_store.specs.declared.tables.Tables.{Tables}
use Rattle.session.specs.Making.{MayMakeAll}

-- ---- rows in order

cut_first : (y : Row) (ys : List Row) → cut row_id (y ∷ ys) y.id ≡ ys
unfolding cut
cut_first y ys =
    ap (λ (same : Bool). if same then ys else y ∷ cut row_id ys y.id) (bytes_eq-refl y.id)

at_first : (y : Row) (ys : List Row) → at row_id (y ∷ ys) y.id ≡ Some y
unfolding at
at_first y ys =
    ap (λ (same : Bool). if same then Some y else at row_id ys y.id) (bytes_eq-refl y.id)

-- none stands at the first one's id but itself
alone : (y : Row) (ys : List Row) → IsSorted row_id (y ∷ ys) → at row_id ys y.id ≡ None
alone y ys ordered =
    ap (λ (rows : List Row). at row_id rows y.id) (sym (cut_first y ys))
    ∙ at-cut row_id (y ∷ ys) y.id ordered

apart_if : (y r : Row) (ys : List Row) (same : Bool) → bytes_eq y.id r.id ≡ same
    → IsSorted row_id (y ∷ ys) → at row_id ys r.id ≡ Some r → same ≡ false
apart_if y r ys true e ordered here =
    let none : at row_id ys r.id ≡ None =
    subst (λ (k : List ℕ). at row_id ys k ≡ None) (same_text y.id r.id e)
    (alone y ys ordered) in
    absurd cc
apart_if y r ys false e ordered here = refl

-- ---- the first of a folder's notes

-- this is the first note of the folder in these rows, and those are the others
record IsFirst (folder : List ℕ) (rows others : List Row) (r : Row) : Type 0 where
  inside : is_note_in folder r ≡ true
  stands : at row_id rows r.id ≡ Some r
  rest : filter (is_note_in folder) (cut row_id rows r.id) ≡ others

first_here : (folder : List ℕ) (y : Row) (ys : List Row) → is_note_in folder y ≡ true
    → IsFirst folder (y ∷ ys) (filter (is_note_in folder) ys) y
first_here folder y ys inside = record {
  inside = inside;
  stands = at_first y ys;
  rest = ap (λ (rows : List Row). filter (is_note_in folder) rows) (cut_first y ys);
}

first_behind : (folder : List ℕ) (y r : Row) (ys others : List Row)
    → is_note_in folder y ≡ false → IsSorted row_id (y ∷ ys) → IsFirst folder ys others r
    → IsFirst folder (y ∷ ys) others r
unfolding at cut
first_behind folder y r ys others outside ordered h =
    let apart : bytes_eq y.id r.id ≡ false =
    apart_if y r ys (bytes_eq y.id r.id) refl ordered h.stands in
    record {
      inside = h.inside;
      stands =
          ap (λ (same : Bool). if same then Some y else at row_id ys r.id) apart ∙ h.stands;
      rest =
          ap (λ (same : Bool). filter (is_note_in folder)
          (if same then ys else y ∷ cut row_id ys r.id)) apart
          ∙ (ap (λ (note : Bool). if note then y ∷ filter (is_note_in folder) (cut row_id ys r.id)
          else filter (is_note_in folder) (cut row_id ys r.id)) outside
          ∙ h.rest);
    }

first_if : (folder : List ℕ) (y r : Row) (ys others : List Row) (note : Bool)
    → is_note_in folder y ≡ note → IsSorted row_id (y ∷ ys)
    → (if note then y ∷ filter (is_note_in folder) ys else filter (is_note_in folder) ys)
    ≡ r ∷ others
    → (filter (is_note_in folder) ys ≡ r ∷ others → IsFirst folder ys others r)
    → IsFirst folder (y ∷ ys) others r
first_if folder y r ys others true e ordered is later =
    let it : y ≡ r = cc in
    let rest : filter (is_note_in folder) ys ≡ others = cc in
    subst (λ (x : Row). IsFirst folder (y ∷ ys) others x) it
    (subst (λ (rows : List Row). IsFirst folder (y ∷ ys) rows y) rest
    (first_here folder y ys e))
first_if folder y r ys others false e ordered is later =
    first_behind folder y r ys others e ordered (later is)

first_of : (folder : List ℕ) (rows : List Row) (r : Row) (others : List Row)
    → IsSorted row_id rows → filter (is_note_in folder) rows ≡ r ∷ others
    → IsFirst folder rows others r
first_of folder [] r others ordered is = absurd cc
first_of folder (y ∷ ys) r others ordered is =
    first_if folder y r ys others (is_note_in folder y) refl ordered is
    (first_of folder ys r others ordered.1)

-- ---- a note is no folder

kinds_differ : (kind : Option ℕ) → is_number 1 kind ≡ true → is_number 2 kind ≡ true → ⊥
kinds_differ None note folder = cc
kinds_differ (Some k) note folder = omega (arith, eqb-true k 1 note, eqb-true k 2 folder)

plain_differs : (content : Content) → is_plain_note content ≡ true
    → is_folder (item_of content) ≡ true → ⊥
plain_differs (Plain item) note folder =
    kinds_differ (option_and_then type_number (value_of type_key item.props)) note folder
plain_differs (Sealed item) note folder = cc

note_differs : (folder : List ℕ) (r : Row) → is_note_in folder r ≡ true
    → is_folder (item_of r.content) ≡ true → ⊥
note_differs folder r inside is =
    plain_differs r.content (and_parts (is_plain_note r.content) _ inside).0 is

other_if : (folder : List ℕ) (place r : Row) (rows : List Row) (same : Bool)
    → bytes_eq r.id folder ≡ same → at row_id rows folder ≡ Some place
    → is_folder (item_of place.content) ≡ true → at row_id rows r.id ≡ Some r
    → is_note_in folder r ≡ true → same ≡ false
other_if folder place r rows true e stands is here inside =
    let there : at row_id rows folder ≡ Some r =
    subst (λ (k : List ℕ). at row_id rows k ≡ Some r) (same_text r.id folder e) here in
    let it : place ≡ r = cc in
    absurd (note_differs folder r inside
    (subst (λ (x : Row). is_folder (item_of x.content) ≡ true) it is))
other_if folder place r rows false e stands is here inside = refl

-- ---- a folder that is gone

-- the folder may go, and stands among rows in order
pub record IsGoing (v : View) (folder : List ℕ) (place : Row) : Type 0 where
  pub ordered : IsSorted row_id v.tables.rows
  pub stands : row_at v.tables folder ≡ Some place
  pub is : is_folder (item_of place.content) ≡ true
  pub may : IsLeaving v folder

moved_rows : (t : Tables) (r : Row) → row_at t r.id ≡ Some r
    → (after t (Moved r.id)).rows ≡ cut row_id t.rows r.id
moved_rows t r here = ap (λ (row : Option Row). (conflicted t r.id None true row).rows) here

-- a row that is as it was may still go
conflict_still : (v : View) (id : List ℕ) (copies : Bool) (t : Tables)
    → row_at t id ≡ row_at v.tables id → MayConflict v id None copies
    → MayConflict (record v { tables = t }) id None copies
conflict_still v id copies t same h = record {
  row = h.row;
  reply = h.reply;
  pending = record { at = same ∙ h.pending.at; pending = h.pending.pending };
  check = h.check;
  other = h.other;
  copied = h.copied;
}

go_still : (v : View) (id : List ℕ) (t : Tables) → row_at t id ≡ row_at v.tables id
    → MayGo v id → MayGo (record v { tables = t }) id
go_still v id t same h = record {
  page = h.page;
  has = record { shown = h.has.shown; last = h.has.last; is = h.has.is };
  gone = h.gone;
  unchanged = ap is_pending same ∙ h.unchanged;
}

pub leaving_still : (v : View) (id : List ℕ) (t : Tables) → row_at t id ≡ row_at v.tables id
    → IsLeaving v id → IsLeaving (record v { tables = t }) id
leaving_still v id t same h = elim h [
  | inl go ↦ inl (go_still v id t same go)
  | inr conflict ↦ inr (conflict.0, conflict_still v id conflict.0 t same conflict.1)
]

-- so it is behind the first move
going_on : (v : View) (folder : List ℕ) (place r : Row) (others : List Row)
    → IsGoing v folder place → IsFirst folder v.tables.rows others r
    → IsGoing (record v { tables = after v.tables (Moved r.id) }) folder place
going_on v folder place r others g first =
    let t = v.tables in
    let rows = moved_rows t r first.stands in
    let apart : bytes_eq r.id folder ≡ false =
    other_if folder place r t.rows (bytes_eq r.id folder) refl g.stands g.is first.stands
    first.inside in
    let stays : row_at (after t (Moved r.id)) folder ≡ row_at t folder =
    ap (λ (rs : List Row). at row_id rs folder) rows
    ∙ at-cut_other row_id t.rows r.id folder apart in
    record {
      ordered = subst (λ (rs : List Row). IsSorted row_id rs) (sym rows)
          (IsSorted-cut row_id t.rows r.id g.ordered);
      stands = stays ∙ g.stands;
      is = g.is;
      may = leaving_still v folder (after t (Moved r.id)) stays g.may;
    }

others_left : (v : View) (folder : List ℕ) (r : Row) (others : List Row)
    → IsFirst folder v.tables.rows others r
    → filter (is_note_in folder) (after v.tables (Moved r.id)).rows ≡ others
others_left v folder r others first =
    ap (λ (rows : List Row). filter (is_note_in folder) rows)
    (moved_rows v.tables r first.stands)
    ∙ first.rest

-- each note may be moved at its turn
pub moves_may : (rs : List Row) (v : View) (folder : List ℕ) (place : Row)
    → IsGoing v folder place → filter (is_note_in folder) v.tables.rows ≡ rs
    → MayMakeAll v (map move_of rs)
unfolding MayMakeAll
moves_may [] v folder place g are = tt
moves_may (r ∷ rs) v folder place g are =
    let first = first_of folder v.tables.rows r rs g.ordered are in (
      record {
        allowed = tt;
        may = record {
          row = r;
          folder = folder;
          place = place;
          at = first.stands;
          inside = first.inside;
          stands = g.stands;
          is = g.is;
          leaving = g.may;
        };
        more = refl;
      },
      moves_may rs (record v { tables = after v.tables (Moved r.id) }) folder place
          (going_on v folder place r rs g first) (others_left v folder r rs first),
    )

-- and then the folder may go
pub goes_on : (rs : List Row) (v : View) (folder : List ℕ) (place : Row)
    → IsGoing v folder place → filter (is_note_in folder) v.tables.rows ≡ rs
    → IsGoing (record v { tables = after_all v.tables (map move_of rs) }) folder place
unfolding after_all
goes_on [] v folder place g are = g
goes_on (r ∷ rs) v folder place g are =
    let first = first_of folder v.tables.rows r rs g.ordered are in
    goes_on rs (record v { tables = after v.tables (Moved r.id) }) folder place
    (going_on v folder place r rs g first) (others_left v folder r rs first)

-- moves are allowed
pub moves_allowed : (rs : List Row) → All IsAllowed (map move_of rs)
moves_allowed [] = All-nil IsAllowed
moves_allowed (r ∷ rs) = All-cons IsAllowed (move_of r) (map move_of rs) tt (moves_allowed rs)
