-- The items that this client makes or edits aren't sealed, so the changes that save them are allowed.
use Rattle.std.specs.Prelude.{ℕ, ◌≡◌, List, [], ◌∷◌, codes, Bool, true, false, nat_le, length, if◌then◌else◌, Option, Some, None, Result, Ok, Err, refl}
use Rattle.std.proofs.Common.{sym, ◌∙◌, ap, subst, arith}
use Rattle.item_text.specs.Grammar.{written}
use Rattle.item_text.specs.Props.{value_of}
use Rattle.item_text.specs.declared.item.Item.{Item}
use Rattle.item_text.specs.declared.item.Prop.{Prop}
use Rattle.item_text.specs.Valid.{IsItem}
use Rattle.item_kinds.specs.Kinds.{GivesId}
use Rattle.item_kinds.specs.Made.{note, folder, tag, note_tag, resource}
use Rattle.local_store.specs.declared.change.Change.{Change}
use Rattle.local_store.specs.declared.change.Change.TheVariants.{Saved}
use Rattle.local_store.specs.Sound.{SaysSealed, IsAllowed}
use Rattle.local_changes.specs.Answers.{IsDueOrMemory}
use Rattle.local_changes.specs.Makers.{checked}
use Rattle.local_changes.specs.Saving.{item_limit, saved_within}
use Rattle.local_changes.specs.declared.store_err.StoreErr.{StoreErr}
use Rattle.local_changes.specs.declared.store_err.StoreErr.TheVariants.{TooLarge}

-- ---- what new items say

abbrev pub IsUnsealed : List Prop → Type 0
IsUnsealed props = value_of (codes "encryption_applied") props ≡ Some (codes "0")

note_unsealed : (id parent title body : List ℕ) (now : ℕ)
    → IsUnsealed (note id parent title body now).props
unfolding value_of
note_unsealed id parent title body now = refl

folder_unsealed : (id : List ℕ) (parent : Option (List ℕ)) (title : List ℕ) (now : ℕ)
    → IsUnsealed (folder id parent title now).props
unfolding value_of
folder_unsealed id parent title now = refl

tag_unsealed : (id title : List ℕ) (now : ℕ) → IsUnsealed (tag id title now).props
unfolding value_of
tag_unsealed id title now = refl

note_tag_unsealed : (id of_note of_tag : List ℕ) (now : ℕ)
    → IsUnsealed (note_tag id of_note of_tag now).props
unfolding value_of
note_tag_unsealed id of_note of_tag now = refl

resource_unsealed : (id name mime : List ℕ) (len now : ℕ)
    → IsUnsealed (resource id name mime len now).props
unfolding value_of
resource_unsealed id name mime len now = refl

-- ---- allowed changes

abbrev first_byte : Option (List ℕ) → ℕ
first_byte None = 0
first_byte (Some []) = 0
first_byte (Some (b ∷ bs)) = b

not_sealed : (item : Item) → IsUnsealed item.props → ¬ SaysSealed item
not_sealed item is says =
    let zero : ℕ = 48 in
    let one : ℕ = 49 in
    let same : zero ≡ one = ap first_byte (sym is ∙ says) in
    absurd (omega (arith, same))

-- a new item of this id may be saved
pub may_be_saved : (id : List ℕ) (item : Item) → IsItem item → GivesId (codes "id") item.props (Some id)
    → IsUnsealed item.props → IsAllowed (Saved id item)
may_be_saved id item valid has_id unsealed =
    (record { valid = valid; has_id = has_id }, not_sealed item unsealed)

-- the item is one that isn't sealed
by_made : (id : List ℕ) (item made : Item) → item ≡ made → IsUnsealed made.props → IsItem item
    → GivesId (codes "id") item.props (Some id) → IsAllowed (Saved id item)
by_made id item made same unsealed valid has_id =
    may_be_saved id item valid has_id (subst (λ (i : Item). IsUnsealed i.props) (sym same) unsealed)

pub note_may : (id parent title body : List ℕ) (now : ℕ) (item : Item)
    → item ≡ note id parent title body now → IsItem item → GivesId (codes "id") item.props (Some id)
    → IsAllowed (Saved id item)
note_may id parent title body now item same valid has_id =
    by_made id item (note id parent title body now) same (note_unsealed id parent title body now) valid has_id

pub folder_may : (id : List ℕ) (parent : Option (List ℕ)) (title : List ℕ) (now : ℕ) (item : Item)
    → item ≡ folder id parent title now → IsItem item → GivesId (codes "id") item.props (Some id)
    → IsAllowed (Saved id item)
folder_may id parent title now item same valid has_id =
    by_made id item (folder id parent title now) same (folder_unsealed id parent title now) valid has_id

pub tag_may : (id title : List ℕ) (now : ℕ) (item : Item)
    → item ≡ tag id title now → IsItem item → GivesId (codes "id") item.props (Some id)
    → IsAllowed (Saved id item)
tag_may id title now item same valid has_id =
    by_made id item (tag id title now) same (tag_unsealed id title now) valid has_id

pub note_tag_may : (id of_note of_tag : List ℕ) (now : ℕ) (item : Item)
    → item ≡ note_tag id of_note of_tag now → IsItem item
    → GivesId (codes "id") item.props (Some id) → IsAllowed (Saved id item)
note_tag_may id of_note of_tag now item same valid has_id =
    by_made id item (note_tag id of_note of_tag now) same (note_tag_unsealed id of_note of_tag now) valid has_id

pub resource_may : (id name mime : List ℕ) (len now : ℕ) (item : Item)
    → item ≡ resource id name mime len now → IsItem item
    → GivesId (codes "id") item.props (Some id) → IsAllowed (Saved id item)
resource_may id name mime len now item same valid has_id =
    by_made id item (resource id name mime len now) same (resource_unsealed id name mime len now) valid has_id

saved_if : (short : Bool) (id : List ℕ) (item : Item) (len : ℕ) (change : Change)
    → (if short then Ok (Saved id item) else Err (TooLarge len)) ≡ Ok change → Saved id item ≡ change
saved_if true id item len change is = cc
saved_if false id item len change is = cc

-- an item that is saved if its text isn't too long
pub saved_allowed : (id : List ℕ) (item : Item) (change : Change) → IsAllowed (Saved id item)
    → saved_within id item ≡ Ok change → IsAllowed change
saved_allowed id item change allowed is =
    subst IsAllowed
    (saved_if (nat_le (length (written item)) item_limit) id item (length (written item)) change is)
    allowed

-- the item of an allowed change is valid
pub allowed_valid : (id : List ℕ) (item : Item) → IsAllowed (Saved id item) → IsItem item
allowed_valid id item allowed = allowed.0.valid

-- what is due of a new notebook, once its parent was found
pub book_due : (check : Result (Unit {0}) StoreErr) (done : Unit {0}) (id : List ℕ) (item made : Item)
    (result : Result Change StoreErr) → Ok done ≡ check → item ≡ made
    → IsDueOrMemory (saved_within id item) result
    → IsDueOrMemory (checked check (saved_within id made)) result
book_due check done id item made result is same answer =
    subst (λ (c : Result (Unit {0}) StoreErr). IsDueOrMemory (checked c (saved_within id made)) result) is
    (subst (λ (i : Item). IsDueOrMemory (saved_within id i) result) same answer)
