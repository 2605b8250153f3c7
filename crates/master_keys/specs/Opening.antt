-- What a sealed item opens to under the keys of a session, or why it doesn't.
use Rattle.std.specs.Prelude.{ℕ, List, Bool, false, ◌&&◌, not, codes, Option, Some, None, Result, Ok, Err, if◌then◌else◌}
use Rattle.item_text.specs.Grammar.{item_in}
use Rattle.item_text.specs.Props.{has_value, value_of}
use Rattle.item_text.specs.declared.item.Item.{Item}
use Rattle.jed_format.specs.Jed.{jed_in}
use Rattle.jed_format.specs.Opening.{opened_text}
use Rattle.jed_format.specs.declared.jed.Jed.{Jed as Cipher}
use Rattle.master_keys.specs.Frames.{cipher_of}
use Rattle.master_keys.specs.Refusing.{by_jed, then_with}
use Rattle.master_keys.specs.Rings.{RingNow, digits_of}
use Rattle.master_keys.specs.declared.key_err.KeyErr.{KeyErr}
use Rattle.master_keys.specs.declared.key_err.KeyErr.TheVariants.{NoKey, BadItem}

-- whether an item says that it is sealed
abbrev pub says_sealed : Item → Bool
says_sealed item = has_value (codes "encryption_applied") (codes "1") item.props

abbrev pub has_id_of : Option (List ℕ) → Item → Bool
has_id_of None item = false
has_id_of (Some id) item = has_value (codes "id") id item.props

-- the item inside has the id of the one outside, and isn't sealed itself
abbrev pub is_inside : Item → Item → Bool
is_inside outer inner = has_id_of (value_of (codes "id") outer.props) inner && not (says_sealed inner)

-- the item of a text that was opened
abbrev pub inside : Item → Option Item → Result Item KeyErr
inside outer None = Err BadItem
inside outer (Some inner) = if is_inside outer inner then Ok inner else Err BadItem

abbrev pub opened_with : Item → Cipher → Option (List ℕ) → Result Item KeyErr
opened_with outer cipher None = Err (NoKey (Some cipher.key))
opened_with outer cipher (Some digits) =
    then_with (λ (text : List ℕ). inside outer (item_in text)) (by_jed (opened_text digits cipher))

-- The refusals come in this order: the cipher text isn't readable; its key isn't here; it doesn't open; what it opens
-- to is no item of the same id, or is sealed.
abbrev pub open_by : RingNow → Item → Result Item KeyErr
open_by ring outer =
    then_with (λ (cipher : Cipher). opened_with outer cipher (digits_of ring cipher.key))
    (by_jed (jed_in (cipher_of outer)))
