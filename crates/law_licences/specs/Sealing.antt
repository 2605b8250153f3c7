-- What the keys of a session open, and which texts it puts for items that it seals.
use Rattle.std.specs.Prelude.{ℕ, List, Bool, false, Option, None}
use Rattle.item_text.specs.declared.item.Item.{Item}

-- The item that is sealed in an item, if a key of the session opens it; and whether a text is that of an item, sealed
-- under the key that seals. What a sealed text is, and what opens it, is said where the ciphers are known.
pub record Sealing : Type 0 where
  pub opens : Item → Option Item
  pub seals : Item → List ℕ → Bool

-- a session without keys opens nothing, and seals nothing
abbrev pub no_keys : Sealing
no_keys = record { opens = λ item. None; seals = λ item text. false }
