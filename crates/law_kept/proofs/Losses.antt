-- A test by which an item is lost in a history of two clients.
use Rattle.std.proofs.Common.{◌≡◌, ◌⊎◌, ◌∙◌, refl, ap, sym, subst, inl, inr, ℕ, zero, suc, List, [], ◌∷◌, Bool, true, false, Option, Some, None}
use Rattle.std.specs.Prelude.{take, slice_get, bytes_eq, ◌&&◌, ◌||◌}
use Rattle.std.proofs.lemmas.Bool.{false≢true, and_parts, and_from, or_parts, or_left, or_right}
use Rattle.item_text.specs.Props.{is_text}
use Rattle.item_text.specs.declared.item.Item.{Item}
use Rattle.jop_base.proofs.KeyedLaws.{bytes_eq-refl, bytes_eq-other}
use Rattle.law_kept.specs.Acts.{ItemChange, Conflict, Cleared, is_users, Act, Puts, Deletes, Changes, FileStep, Version, FileHistory}
use Rattle.law_kept.specs.Fates.{Has, FileStands, IsUsers, WasReplaced, WasCleared, WasPutOver, ItemWasDeleted, HasFate, OnRow, OnStore, InConflicts, WasMet, IsLost}
use Rattle.law_kept.specs.Fates as fates
use Rattle.law_licences.specs.Copies.{is_alike, is_same_note}
use Rattle.law_kept.specs.Own.{OwnRow, row_base}
use Rattle.law_kept.specs.Standing.{Copy, Client, World, file_item, opening_world, happened, world_from, world_at, world_end}
use Rattle.law_kept.specs.Stories.{first_client, second_client}
use Rattle.law_kept.proofs.Clients.{same_or_not, some_same}

-- ---- the test

-- an item of the same text is there
abbrev pub is_it : Item → Option Item → Bool
is_it item None = false
is_it item (Some other) = is_alike item other

unfoldable pub is_copied_in : Item → List Copy → Bool
is_copied_in item [] = false
is_copied_in item (copy ∷ copies) = is_alike item copy.item || is_copied_in item copies

abbrev pub is_base : Option OwnRow → Option Version → Bool
is_base row None = false
is_base row (Some version) = is_text version.bytes (row_base row)

-- whether what isn't the user's clears the item, or gives way to its text
abbrev pub gives_way : Item → Client → ItemChange → Bool
gives_way item d (Cleared number) = is_copied_in item d.stands.copies
gives_way item d (Conflict (Some remote) None) =
    is_it item d.stands.row && is_same_note item remote.1
gives_way item d change = false

abbrev pub lets_go : Item → Client → ItemChange → Bool → Bool
lets_go item d change true = is_it item d.stands.row
lets_go item d change false = gives_way item d change

-- whether a client lets the item go, or the row that stands for it gives way to its text
abbrev pub goes : Item → Option Version → Client → Act → Bool
goes item file d (Changes change) = lets_go item d change (is_users change)
goes item file d (Puts bytes true heard) = is_it item (file_item file) && is_base d.own.row file
goes item file d (Deletes true) = is_it item (file_item file) && d.own.deleted
goes item file d act = false

unfoldable pub goes_in : Item → World → List FileStep → Bool
goes_in item w [] = false
goes_in item w (s ∷ ss) = goes item w.file (w.at s.client) s.act || goes_in item (happened w s) ss

-- whether the client has the item
abbrev pub has_it : Item → Client → Bool
has_it item d = is_it item d.stands.row || is_copied_in item d.stands.copies

abbrev pub is_of_two : List ℕ → Bool
is_of_two client = bytes_eq client first_client || bytes_eq client second_client

-- whether the two clients do all that is done
unfoldable pub are_of_two : List FileStep → Bool
are_of_two [] = true
are_of_two (s ∷ ss) = is_of_two s.client && are_of_two ss

-- ---- that it finds each fate

it_is : (item : Item) (stood : Option Item) → is_alike item item ≡ true → stood ≡ Some item
    → is_it item stood ≡ true
it_is item stood same stands = rw stands same

has_copied : (item : Item) (copies : List Copy) (copy : Copy) → is_alike item item ≡ true
    → Has copies copy → copy.item ≡ item → is_copied_in item copies ≡ true
unfolding Has is_copied_in
has_copied item [] copy same has is = absurd has
has_copied item (c ∷ cs) copy same (inl here) is =
    let its : c.item ≡ item = ap (λ (k : Copy). k.item) here ∙ is in
    or_left (is_alike item c.item) (is_copied_in item cs)
    (subst (λ (it : Item). is_alike item it ≡ true) (sym its) same)
has_copied item (c ∷ cs) copy same (inr deeper) is =
    or_right (is_alike item c.item) (is_copied_in item cs) (has_copied item cs copy same deeper is)

users_let_go : (item : Item) (file : Option Version) (d : Client) (x : Act) → IsUsers x
    → is_it item d.stands.row ≡ true → goes item file d x ≡ true
users_let_go item file d (Changes change) users is =
    ap (lets_go item d change) users ∙ is
users_let_go item file d x users is = absurd users

goes_at : (item : Item) (w : World) (ss : List FileStep) (place : ℕ) (s : FileStep)
    → slice_get ss place ≡ Some s → goes_in item w ss ≡ false
    → goes item (world_from w (take place ss)).file ((world_from w (take place ss)).at s.client)
    s.act ≡ false
unfolding goes_in world_from
goes_at item w [] place s here none = cc
goes_at item w (t ∷ ss) zero s here none =
    let first =
    (or_parts (goes item w.file (w.at t.client) t.act) (goes_in item (happened w t) ss)
    none).0 in
    subst (λ (u : FileStep). goes item w.file (w.at u.client) u.act ≡ false)
    (some_same t s here) first
goes_at item w (t ∷ ss) (suc place) s here none =
    let rest =
    (or_parts (goes item w.file (w.at t.client) t.act) (goes_in item (happened w t) ss)
    none).1 in
    goes_at item (happened w t) ss place s here rest

abbrev Goes : FileHistory → Item → ℕ → FileStep → Type 0
Goes h item place s =
    goes item (world_at h place).file ((world_at h place).at s.client) s.act ≡ true

replaced_goes : (h : FileHistory) (item : Item) → is_alike item item ≡ true
    → (f : WasReplaced h item) → Goes h item f.place f.step
replaced_goes h item same f =
    users_let_go item (world_at h f.place).file ((world_at h f.place).at f.step.client) f.step.act
    f.by
    (it_is item ((world_at h f.place).at f.step.client).stands.row same f.stood.stands)

cleared_goes : (h : FileHistory) (item : Item) → is_alike item item ≡ true
    → (f : WasCleared h item) → Goes h item f.place f.step
cleared_goes h item same f =
    rw f.by (has_copied item ((world_at h f.place).at f.step.client).stands.copies f.stood.copy same
    f.stood.there f.stood.stands)

file_is : (item : Item) (w : World) → is_alike item item ≡ true → FileStands w item
    → is_it item (file_item w.file) ≡ true
file_is item w same f = rw f.there (it_is item f.version.item same f.stands)

put_over_goes : (h : FileHistory) (item : Item) → is_alike item item ≡ true
    → (f : WasPutOver h item) → Goes h item f.place f.step
put_over_goes h item same f =
    let w : World = world_at h f.place in
    rw f.by (and_from (is_it item (file_item w.file)) (is_base (w.at f.step.client).own.row w.file)
    (file_is item w same f.stood)
    (rw f.stood.there (rw f.based (bytes_eq-refl f.stood.version.bytes))))

deleted_goes : (h : FileHistory) (item : Item) → is_alike item item ≡ true
    → (f : ItemWasDeleted h item) → Goes h item f.place f.step
deleted_goes h item same f =
    let w : World = world_at h f.place in
    rw f.by (and_from (is_it item (file_item w.file)) (w.at f.step.client).own.deleted
    (file_is item w same f.stood) f.recorded)

met_goes : (h : FileHistory) (item other : Item) → is_alike item item ≡ true
    → (f : WasMet h item other) → Goes h item f.place f.step
met_goes h item other same f =
    let d : Client = (world_at h f.place).at f.step.client in
    rw f.by (and_from (is_it item d.stands.row) (is_same_note item f.remote.1)
    (it_is item d.stands.row same f.stood.stands) f.alike)

-- ---- the others have nothing

idle_step : (w : World) (s : FileStep) (client : List ℕ) → ¬ (s.client ≡ client) → (item : Item)
    → has_it item ((happened w s).at client) ≡ has_it item (w.at client)
idle_step w s client differ item = rw (bytes_eq-other s.client client differ) refl

apart_from : (client other : List ℕ) → is_of_two client ≡ true → is_of_two other ≡ false
    → ¬ (client ≡ other)
apart_from client other is isnt same = false≢true (sym isnt ∙ (ap is_of_two (sym same) ∙ is))

others_have : (w : World) (ss : List FileStep) (client : List ℕ) (item : Item)
    → are_of_two ss ≡ true
    → is_of_two client ≡ false → has_it item ((world_from w ss).at client)
    ≡ has_it item (w.at client)
unfolding are_of_two world_from
others_have w [] client item all isnt = refl
others_have w (s ∷ ss) client item all isnt =
    let both = and_parts (is_of_two s.client) (are_of_two ss) all in
    others_have (happened w s) ss client item both.1 isnt
    ∙ idle_step w s client (apart_from s.client client both.0 isnt) item

-- ---- lost

two_or_not : (client : List ℕ) → (client ≡ first_client) ⊎ ((client ≡ second_client) ⊎ (is_of_two client ≡ false))
two_or_not client = elim (same_or_not client first_client) [
  | inl is ↦ inl is
  | inr isnt ↦ elim (same_or_not client second_client) [
    | inl is ↦ inr (inl is)
    | inr neither ↦ inr
        (inr (rw (bytes_eq-other client first_client isnt, bytes_eq-other client second_client neither) refl))
  ]
]

-- the item stands nowhere at the end, and nobody let it go
pub record SeemsLost (h : FileHistory) (item : Item) : Type 0 where
  pub same : is_alike item item ≡ true
  pub by_two : are_of_two h.steps ≡ true
  pub never : goes_in item (opening_world h.opening) h.steps ≡ false
  pub file : is_it item (file_item (world_end h).file) ≡ false
  pub first : has_it item ((world_end h).at first_client) ≡ false
  pub second : has_it item ((world_end h).at second_client) ≡ false

has_nothing : (h : FileHistory) (item : Item) → SeemsLost h item → (client : List ℕ)
    → has_it item ((world_end h).at client) ≡ false
unfolding is_copied_in
has_nothing h item lost client = elim (two_or_not client) [
  | inl is ↦ subst (λ (c : List ℕ). has_it item ((world_end h).at c) ≡ false) (sym is) lost.first
  | inr others ↦ elim others [
    | inl is ↦ subst (λ (c : List ℕ). has_it item ((world_end h).at c) ≡ false) (sym is) lost.second
    | inr isnt ↦ others_have (opening_world h.opening) h.steps client item lost.by_two isnt
  ]
]

contrary : (b : Bool) → b ≡ true → b ≡ false → ⊥
contrary b is isnt = false≢true (sym isnt ∙ is)

never_goes : (h : FileHistory) (item : Item) (place : ℕ) (s : FileStep) → SeemsLost h item
    → slice_get h.steps place ≡ Some s → Goes h item place s → ⊥
never_goes h item place s lost here is =
    contrary (goes item (world_at h place).file ((world_at h place).at s.client) s.act) is
    (goes_at item (opening_world h.opening) h.steps place s here lost.never)

no_fate : (h : FileHistory) (item : Item) → SeemsLost h item → HasFate h item → ⊥
no_fate h item lost (OnRow client r) =
    let d : Client = (world_end h).at client in
    let none =
    or_parts (is_it item d.stands.row) (is_copied_in item d.stands.copies)
    (has_nothing h item lost client) in
    contrary (is_it item d.stands.row) (it_is item d.stands.row lost.same r.stands) none.0
no_fate h item lost (OnStore f) =
    contrary (is_it item (file_item (world_end h).file)) (file_is item (world_end h) lost.same f)
    lost.file
no_fate h item lost (InConflicts client c) =
    let d : Client = (world_end h).at client in
    let none =
    or_parts (is_it item d.stands.row) (is_copied_in item d.stands.copies)
    (has_nothing h item lost client) in
    contrary (is_copied_in item d.stands.copies)
    (has_copied item d.stands.copies c.copy lost.same c.there c.stands) none.1
no_fate h item lost (fates.Replaced f) =
    never_goes h item f.place f.step lost f.here (replaced_goes h item lost.same f)
no_fate h item lost (fates.Cleared f) =
    never_goes h item f.place f.step lost f.here (cleared_goes h item lost.same f)
no_fate h item lost (fates.PutOver f) =
    never_goes h item f.place f.step lost f.here (put_over_goes h item lost.same f)
no_fate h item lost (fates.Deleted f) =
    never_goes h item f.place f.step lost f.here (deleted_goes h item lost.same f)

pub is_lost : (h : FileHistory) (item : Item) → SeemsLost h item → IsLost h item
is_lost h item lost other (inl is) fate = no_fate h item lost (subst (HasFate h) is fate)
is_lost h item lost other (inr met) fate =
    never_goes h item met.place met.step lost met.here (met_goes h item other lost.same met)
