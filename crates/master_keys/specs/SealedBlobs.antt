-- Blobs that are sealed under the active key, and what they open to.
use Rattle.std.specs.Prelude.{ℕ, ◌≡◌, ◌*◌, List, length, Option, Some, None, Result, Ok, Err}
use Rattle.jed_format.specs.Jed.{jed_in}
use Rattle.jed_format.specs.Opening.{blob_in}
use Rattle.jed_format.specs.Sealed.{blob_pieces}
use Rattle.jed_format.specs.Write.{jed_text}
use Rattle.jed_format.specs.declared.jed.Jed.{Jed}
use Rattle.jed_sealing.specs.Drawing.{IsMadeOfDrawn}
use Rattle.jed_sealing.specs.Sealing.{parts_of_blob, sealed_blob}
use Rattle.master_keys.specs.Refusing.{by_jed, then_with}
use Rattle.master_keys.specs.Rings.{HasActive, RingNow, digits_of}
use Rattle.master_keys.specs.declared.key_err.KeyErr.{KeyErr}
use Rattle.master_keys.specs.declared.key_err.KeyErr.TheVariants as errors

-- the bytes of a blob, sealed by these bytes
abbrev pub blob_text : List ℕ → List ℕ → List ℕ → List ℕ → List ℕ
blob_text key digits blob bytes = jed_text (sealed_blob key digits blob bytes)

abbrev pub blob_with : Jed → Option (List ℕ) → Result (List ℕ) KeyErr
blob_with jed None = Err (errors.NoKey (Some jed.key))
blob_with jed (Some digits) = by_jed (blob_in digits jed)

-- what a sealed blob opens to, with the refusals of an item that come before it is read
abbrev pub open_blob_by : RingNow → List ℕ → Result (List ℕ) KeyErr
open_blob_by ring text =
    then_with (λ (jed : Jed). blob_with jed (digits_of ring jed.key)) (by_jed (jed_in text))

-- a text under this key, which the digits open to the blob
pub record BlobOpensUnder (key digits blob text : List ℕ) : Type 0 where
  pub jed : Jed
  pub reads : jed_in text ≡ Ok jed
  pub names : jed.key ≡ key
  pub opens : blob_in digits jed ≡ Ok blob

-- sealed under the active key, by the next 24 bytes of the source a part of 3,750 bytes
pub record IsBlobSealed (ring : RingNow) (blob : List ℕ) (before : Option (List ℕ)) (text : List ℕ)
    (after : Option (List ℕ)) : Type 0 where
  pub key : List ℕ
  pub digits : List ℕ
  pub has : HasActive ring key digits
  pub drawn : IsMadeOfDrawn (blob_text key digits blob) (24 * length (blob_pieces (parts_of_blob blob)))
      before text after
