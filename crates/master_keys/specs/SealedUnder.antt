-- Items that are sealed under the active key, and why they aren't.
use Rattle.std.specs.Str.{IsUtf8}
use Rattle.std.specs.Prelude.{ℕ, ◌≡◌, ◌≤◌, ◌*◌, List, length, Option, None, Ok, IsSome}
use Rattle.item_text.specs.Grammar.{written}
use Rattle.item_text.specs.declared.item.Item.{Item}
use Rattle.jed_format.specs.Jed.{jed_in}
use Rattle.jed_format.specs.Opening.{opened_text}
use Rattle.jed_format.specs.Write.{jed_text}
use Rattle.jed_format.specs.declared.jed.Jed.{Jed}
use Rattle.jed_sealing.specs.Drawing.{IsMadeOfDrawn}
use Rattle.jed_sealing.specs.Sealing.{sealed_text}
use Rattle.jed_text.specs.Escape.{pieces_of}
use Rattle.jop_outside.specs.Outside.{HasRisen}
use Rattle.master_keys.specs.Frames.{framed}
use Rattle.master_keys.specs.Rings.{HasActive, RingNow, active_digits}
use Rattle.master_keys.specs.declared.key_err.KeyErr.{KeyErr}
use Rattle.master_keys.specs.declared.key_err.KeyErr.TheVariants as errors

-- the text of an item, sealed by these bytes
abbrev pub cipher_text : List ℕ → List ℕ → Item → List ℕ → List ℕ
cipher_text key digits item bytes = jed_text (sealed_text key digits (written item) bytes)

-- the item with that in its place
abbrev pub sealed_item : List ℕ → List ℕ → Item → List ℕ → Item
sealed_item key digits item bytes = framed item (cipher_text key digits item bytes)

-- a cipher text under this key, which the digits open to the text of the item
pub record OpensUnder (key digits : List ℕ) (item : Item) (cipher : List ℕ) : Type 0 where
  pub jed : Jed
  pub reads : jed_in cipher ≡ Ok jed
  pub names : jed.key ≡ key
  pub opens : opened_text digits jed ≡ Ok (written item)
  pub utf8 : IsUtf8 (written item)

-- sealed under the active key, by the next 24 bytes of the source a piece of 5,000 units
pub record IsSealedItem (ring : RingNow) (item : Item) (before : Option (List ℕ)) (outer : Item)
    (after : Option (List ℕ)) : Type 0 where
  pub key : List ℕ
  pub digits : List ℕ
  pub has : HasActive ring key digits
  pub drawn : IsMadeOfDrawn (sealed_item key digits item) (24 * length (pieces_of (written item)))
      before outer after

-- the key that seals isn't here; or the source failed, and its count rose; no other refusal changes it
abbrev pub IsUnsealed : RingNow → ℕ → KeyErr → ℕ → Type 0
IsUnsealed ring before (errors.NoKey id) after =
    (id ≡ ring.active) × (active_digits ring ≡ None) × (after ≡ before)
IsUnsealed ring before errors.EntropyFault after =
    IsSome (active_digits ring) × (before ≤ after) × HasRisen before after
IsUnsealed ring before errors.NoMemory after = after ≡ before
IsUnsealed ring before (errors.BadPassword id) after = ⊥
IsUnsealed ring before (errors.Jed e) after = ⊥
IsUnsealed ring before errors.BadItem after = ⊥
