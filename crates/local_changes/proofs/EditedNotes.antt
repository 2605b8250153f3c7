-- An edited note is valid, has its id, and isn't sealed.
use Rattle.std.specs.Prelude.{ℕ, ◌≡◌, ◌≤◌, List, codes, Bool, true, false, if◌then◌else◌, bytes_eq, Option, Some, None, IfSome, Ok, Err, refl}
use Rattle.std.proofs.Common.{sym, ◌∙◌, ap, subst}
use Rattle.std.proofs.lemmas.Slice.Eq.{bytes_eq-Decides}
use Rattle.jop_base.specs.Times.{last_time}
use Rattle.item_kinds.specs.Kinds.{GivesId}
use Rattle.item_kinds.specs.Made.{IsLine}
use Rattle.item_kinds.specs.Times.{time_text}
use Rattle.item_kinds.proofs.NewItems.{time_field}
use Rattle.item_text.specs.Lines.{has, trimmed}
use Rattle.item_text.specs.Props.{type_key, value_of, with_prop}
use Rattle.item_text.specs.Setting.{Sets}
use Rattle.item_text.specs.Valid.{IsField, IsProp, IsItem}
use Rattle.item_text.specs.declared.item.Item.{Item}
use Rattle.item_text.proofs.Setting.{item_valid, with_keeps}
use Rattle.local_store.specs.declared.change.Change.TheVariants.{Saved}
use Rattle.local_store.specs.declared.content.Content.{Content}
use Rattle.local_store.specs.declared.content.Content.TheVariants.{Plain, Sealed as SealedContent}
use Rattle.local_store.specs.declared.row.Row.{Row}
use Rattle.local_store.specs.declared.tables.Tables.{Tables}
use Rattle.local_store.specs.Rows.{item_of, has_kind}
use Rattle.local_store.specs.Sound.{IsContentOf, IsSound, IsAllowed}
use Rattle.local_store.specs.Tables.{row_at}
use Rattle.local_store.proofs.Keeping.{content_at}
use Rattle.local_changes.specs.declared.store_err.StoreErr.TheVariants.{NotFound}
use Rattle.local_changes.specs.Editing.{title_after, time_prop, stamped, edited_item, plain_item, plain_note}
use Rattle.local_changes.specs.Lookup.{note_kind}

-- ---- the times are set

pub own_field : IsField (codes "updated_time")
unfolding trimmed
own_field = record { one_line = refl; is_trimmed = refl }

pub user_field : IsField (codes "user_updated_time")
unfolding trimmed
user_field = record { one_line = refl; is_trimmed = refl }

pub timed_prop : (key value : List ℕ) → IsField key → has 58 key ≡ false → IsField value
    → IsProp (record { key = key; value = value })
timed_prop key value of_key no_colon of_value =
    record { key = of_key; no_colon = no_colon; value = of_value }

pub timed_item : (old new : Item) (key value : List ℕ) (time : ℕ) → value ≡ time_text time
    → Sets (record { key = key; value = value }) old new → Sets (time_prop key time) old new
timed_item old new key value time is set =
    subst (λ (v : List ℕ). Sets (record { key = key; value = v }) old new) is set

text_of_time : (time : ℕ) → time ≤ last_time → IsField (time_text time)
text_of_time time fits = time_field (time_text time) (time_text time) time refl refl fits

own_prop : (time : ℕ) → time ≤ last_time → IsProp (time_prop (codes "updated_time") time)
own_prop time fits =
    record { key = own_field; no_colon = refl; value = text_of_time time fits }

user_prop : (time : ℕ) → time ≤ last_time → IsProp (time_prop (codes "user_updated_time") time)
user_prop time fits =
    record { key = user_field; no_colon = refl; value = text_of_time time fits }

-- texts that the test tells apart
pub apart : (a b : List ℕ) → bytes_eq a b ≡ false → a ≡ b → ⊥
apart a b other same = let is = (bytes_eq-Decides a b).1 same in cc

stamped_valid : (item : Item) (time : ℕ) → time ≤ last_time → IsItem item
    → IsItem (stamped time item)
stamped_valid item time fits valid =
    item_valid _ (time_prop (codes "user_updated_time") time)
    (item_valid item (time_prop (codes "updated_time") time) valid (own_prop time fits)
    (λ same. absurd (apart (codes "updated_time") type_key refl same)))
    (user_prop time fits)
    (λ same. absurd (apart (codes "user_updated_time") type_key refl same))

-- each other pair stays
stamped_keeps : (key : List ℕ) (item : Item) (time : ℕ)
    → bytes_eq (codes "updated_time") key ≡ false → bytes_eq (codes "user_updated_time") key ≡ false
    → value_of key (stamped time item).props ≡ value_of key item.props
stamped_keeps key item time own user =
    with_keeps key (time_prop (codes "user_updated_time") time)
    (with_prop (time_prop (codes "updated_time") time) item.props)
    (λ same. apart (codes "user_updated_time") key user same)
    ∙ with_keeps key (time_prop (codes "updated_time") time) item.props
    (λ same. apart (codes "updated_time") key own same)

pub stamped_content : (id : List ℕ) (item : Item) (time : ℕ) → IsContentOf id (Plain item)
    → time ≤ last_time → IsContentOf id (Plain (stamped time item))
stamped_content id item time of fits =
    let has_id : GivesId (codes "id") (stamped time item).props (Some id) =
    (stamped_keeps (codes "id") item time refl refl ∙ of.0.has_id.0, of.0.has_id.1) in (
      record { valid = stamped_valid item time fits of.0.valid; has_id = has_id },
      (λ says. of.1 (sym (stamped_keeps (codes "encryption_applied") item time refl refl) ∙ says)),
    )

-- ---- the whole

title_one_line : (old title : Option (List ℕ)) → IfSome old (λ t. has 10 t ≡ false) → IfSome title IsLine
    → has 10 (title_after old title) ≡ false
title_one_line old (Some title) was line = line.no_feed
title_one_line (Some old) None was line = was
title_one_line None None was line = refl

pub edited_allowed : (id : List ℕ) (item : Item) (title : Option (List ℕ)) (body : List ℕ) (time : ℕ)
    → IsContentOf id (Plain item) → IfSome title IsLine → time ≤ last_time
    → IsAllowed (Saved id (edited_item item title body time))
edited_allowed id item title body time of line fits =
    let base : Item = record {
      title = Some (title_after item.title title);
      body = body;
      props = item.props;
    } in
    let valid : IsItem base = record {
      title = title_one_line item.title title of.0.valid.title line;
      no_title = tt;
      props = of.0.valid.props;
      typed = of.0.valid.typed;
    } in
    stamped_content id base time (record { valid = valid; has_id = of.0.has_id }, of.1) fits

-- ---- the note

pub plain_content : (id : List ℕ) (kind : Bool) (content : Content) (item : Item)
    → (if kind then plain_item id content else Err (NotFound id)) ≡ Ok item → content ≡ Plain item
plain_content id true (Plain own) item is = cc
plain_content id true (SealedContent own) item is = cc
plain_content id false content item is = cc

-- the item that is edited is the row's
pub note_content : (t : Tables) (id : List ℕ) (item : Item) → IsSound t
    → plain_note id (row_at t id) ≡ Ok item → IsContentOf id (Plain item)
note_content t id item sound is = by (row_at t id) refl is where
  by : (row : Option Row) → row_at t id ≡ row → plain_note id row ≡ Ok item
      → IsContentOf id (Plain item)
  by None there is = cc
  by (Some r) there is =
      let content = plain_content id (has_kind note_kind (item_of r.content)) r.content item is in
      subst (λ (c : Content). IsContentOf id c) content (content_at t id r sound there)

-- an edited note of sound tables may be saved
pub edited_may : (t : Tables) (id : List ℕ) (old new : Item) (title : Option (List ℕ))
    (body : List ℕ) (time : ℕ) → IsSound t → plain_note id (row_at t id) ≡ Ok old
    → IfSome title IsLine → time ≤ last_time → new ≡ edited_item old title body time
    → IsAllowed (Saved id new)
edited_may t id old new title body time sound there line fits is =
    subst (λ (i : Item). IsAllowed (Saved id i)) (sym is)
    (edited_allowed id old title body time (note_content t id old sound there) line fits)

-- both times are set
pub both_times : (old mid new : Item) (time : ℕ) → Sets (time_prop (codes "updated_time") time) old mid
    → Sets (time_prop (codes "user_updated_time") time) mid new → new ≡ stamped time old
both_times old mid new time own user =
    user ∙ ap (λ (i : Item). record i {
      props = with_prop (time_prop (codes "user_updated_time") time) i.props;
    }) own
