-- An amended note or notebook is valid, has its id, and isn't sealed.
use Rattle.std.specs.Prelude.{ℕ, ◌≡◌, ◌≤◌, List, codes, Option, Some, None, Result, Ok, Err, IfOk, refl}
use Rattle.std.proofs.Common.{sym, ◌∙◌, subst}
use Rattle.jop_base.specs.Id.{IsIdText}
use Rattle.jop_base.specs.Times.{last_time}
use Rattle.item_kinds.specs.Kinds.{GivesId}
use Rattle.item_kinds.specs.Made.{IsLine}
use Rattle.item_kinds.proofs.NewItems.{id_field}
use Rattle.item_text.specs.Lines.{trimmed}
use Rattle.item_text.specs.Props.{type_key, value_of, with_prop}
use Rattle.item_text.specs.Setting.{Sets}
use Rattle.item_text.specs.Valid.{IsField, IsProp}
use Rattle.item_text.specs.declared.item.Item.{Item}
use Rattle.item_text.proofs.Setting.{item_valid, with_keeps}
use Rattle.local_store.specs.declared.change.Change.TheVariants.{Saved}
use Rattle.local_store.specs.declared.content.Content.{Content}
use Rattle.local_store.specs.declared.content.Content.TheVariants.{Plain}
use Rattle.local_store.specs.declared.row.Row.{Row}
use Rattle.local_store.specs.declared.tables.Tables.{Tables}
use Rattle.local_store.specs.Rows.{item_of}
use Rattle.local_store.specs.Sound.{IsContentOf, IsSound, IsAllowed}
use Rattle.local_store.specs.Tables.{row_at}
use Rattle.local_store.proofs.Keeping.{content_at}
use Rattle.local_changes.specs.Amending.{is_entry, parent_prop, plain_entry}
use Rattle.local_changes.specs.Editing.{stamped}
use Rattle.local_changes.proofs.EditedNotes.{apart, plain_content, stamped_content}

-- ---- another title

pub titled_content : (id : List ℕ) (item : Item) (title : List ℕ) → IsLine title
    → IsContentOf id (Plain item) → IsContentOf id (Plain (record item { title = Some title }))
titled_content id item title line of = (
  record {
    valid = record {
      title = line.no_feed;
      no_title = tt;
      props = of.0.valid.props;
      typed = of.0.valid.typed;
    };
    has_id = of.0.has_id;
  },
  of.1,
)

-- ---- another notebook

pub parent_field : IsField (codes "parent_id")
unfolding trimmed
parent_field = record { one_line = refl; is_trimmed = refl }

pub parent_valid : (value book : List ℕ) → value ≡ book → IsIdText book
    → IsProp (record { key = codes "parent_id"; value = value })
parent_valid value book same text =
    record { key = parent_field; no_colon = refl; value = id_field value book same text }

-- each other pair stays
placed_keeps : (key : List ℕ) (item : Item) (book : List ℕ) → (codes "parent_id" ≡ key → ⊥)
    → value_of key (with_prop (parent_prop book) item.props) ≡ value_of key item.props
placed_keeps key item book other = with_keeps key (parent_prop book) item.props other

pub placed_content : (id : List ℕ) (item new : Item) (book : List ℕ) → IsIdText book
    → Sets (parent_prop book) item new → IsContentOf id (Plain item) → IsContentOf id (Plain new)
placed_content id item new book text sets of =
    let has_id : GivesId (codes "id") (with_prop (parent_prop book) item.props) (Some id) = (
      placed_keeps (codes "id") item book (apart (codes "parent_id") (codes "id") refl)
          ∙ of.0.has_id.0,
      of.0.has_id.1,
    ) in
    let sealed = placed_keeps (codes "encryption_applied") item book
    (apart (codes "parent_id") (codes "encryption_applied") refl) in
    subst (λ (i : Item). IsContentOf id (Plain i)) (sym sets) (
      record {
        valid = item_valid item (parent_prop book) of.0.valid (parent_valid book book refl text)
            (λ same. absurd (apart (codes "parent_id") type_key refl same));
        has_id = has_id;
      },
      (λ says. of.1 (sym sealed ∙ says)),
    )

pub placed_or : {E : Type 0} → (id : List ℕ) (item : Item) (book : List ℕ) (result : Result Item E)
    → IsContentOf id (Plain item)
    → IfOk result (λ new. Sets (parent_prop book) item new × IsIdText book)
    → IfOk result (λ new. IsContentOf id (Plain new))
placed_or id item book (Ok new) of made = placed_content id item new book made.1 made.0 of
placed_or id item book (Err e) of made = tt

-- ---- the row's item

-- the item that is amended is the row's
pub entry_content : (t : Tables) (id : List ℕ) (item : Item) → IsSound t
    → plain_entry id (row_at t id) ≡ Ok item → IsContentOf id (Plain item)
entry_content t id item sound is = by (row_at t id) refl is where
  by : (row : Option Row) → row_at t id ≡ row → plain_entry id row ≡ Ok item
      → IsContentOf id (Plain item)
  by None there is = cc
  by (Some r) there is =
      let content = plain_content id (is_entry (item_of r.content)) r.content item is in
      subst (λ (c : Content). IsContentOf id c) content (content_at t id r sound there)

-- an amended item of sound tables may be saved
pub amended_may : (t : Tables) (id : List ℕ) (old mid new : Item) (time : ℕ) → IsSound t
    → plain_entry id (row_at t id) ≡ Ok old
    → (IsContentOf id (Plain old) → IsContentOf id (Plain mid)) → time ≤ last_time
    → new ≡ stamped time mid → IsAllowed (Saved id new)
amended_may t id old mid new time sound there keeps fits is =
    subst (λ (i : Item). IsAllowed (Saved id i)) (sym is)
    (stamped_content id mid time (keeps (entry_content t id old sound there)) fits)
