-- What the sealed bytes of a resource open to, under a password for the key that they name, or why they don't.
use Rattle.std.specs.Prelude.{ℕ, List, Bool, false, Option, Some, None, Result, Err, if◌then◌else◌}
use Rattle.std.specs.Option.{ok_or}
use Rattle.jed_format.specs.Jed.{jed_in}
use Rattle.jed_format.specs.Opening.{blob_in, opened_piece}
use Rattle.jed_format.specs.declared.jed.Jed.{Jed}
use Rattle.jed_format.specs.declared.sjcl_chunk.SjclChunk.{SjclChunk}
use Rattle.master_keys.specs.Refusing.{by_jed, then_with}
use Rattle.master_keys.specs.Rings.{digits_of, is_shut, ring_of}
use Rattle.master_keys.specs.declared.key_err.KeyErr.{KeyErr}
use Rattle.master_keys.specs.declared.key_err.KeyErr.TheVariants.{NoKey, BadPassword}
use Rattle.sync_info.specs.declared.info.Info.{Info}

-- ---- the key

-- a password is given, and the record of the key is readable and doesn't open under it
abbrev pub is_wrong_for : Info → Option (List ℕ) → List ℕ → Bool
is_wrong_for info None key = false
is_wrong_for info (Some password) key = is_shut (ring_of info (Some password)) key

-- the digits of a key in the ring of the password, unless that is wrong for it
abbrev pub key_digits : Info → Option (List ℕ) → List ℕ → Result (List ℕ) KeyErr
key_digits info password key =
    if is_wrong_for info password key then Err (BadPassword key)
    else ok_or (digits_of (ring_of info password) key) (NoKey (Some key))

-- the same by what the key's record is sealed as
abbrev pub by_chunk : List ℕ → List ℕ → Option SjclChunk → Result (List ℕ) KeyErr
by_chunk password key None = Err (NoKey (Some key))
by_chunk password key (Some chunk) = ok_or (opened_piece password chunk) (BadPassword key)

-- ---- the bytes

abbrev pub blob_by : Jed → List ℕ → Result (List ℕ) KeyErr
blob_by jed digits = by_jed (blob_in digits jed)

abbrev pub jed_opened : Info → Option (List ℕ) → Jed → Result (List ℕ) KeyErr
jed_opened info password jed = then_with (blob_by jed) (key_digits info password jed.key)

-- The refusals come in this order: the bytes are no sealed text; there is no password for their key, or no readable
-- record of it; the password is wrong; they don't open.
abbrev pub opened_bytes : Info → Option (List ℕ) → List ℕ → Result (List ℕ) KeyErr
opened_bytes info password text = then_with (jed_opened info password) (by_jed (jed_in text))
