-- What is refused, and by which cause.
use Rattle.std.specs.Prelude.{◌≡◌, Result, Ok, Err}
use Rattle.jed_format.specs.declared.jed_err.JedErr.{JedErr}
use Rattle.jed_format.specs.declared.jed_err.JedErr.TheVariants as jeds
use Rattle.jed_sealing.specs.declared.seal_err.SealErr.{SealErr}
use Rattle.jed_sealing.specs.declared.seal_err.SealErr.TheVariants as seals
use Rattle.master_keys.specs.declared.key_err.KeyErr.{KeyErr}
use Rattle.master_keys.specs.declared.key_err.KeyErr.TheVariants.{NoKey, BadPassword, EntropyFault, Jed, BadItem, NoMemory}

-- want of memory is one thing, wherever it is met
abbrev pub of_jed : JedErr → KeyErr
of_jed jeds.NoMemory = NoMemory
of_jed (jeds.NotJed at) = Jed (jeds.NotJed at)
of_jed (jeds.BadChunk n) = Jed (jeds.BadChunk n)
of_jed (jeds.UnsupportedMethod m) = Jed (jeds.UnsupportedMethod m)
of_jed (jeds.UnsupportedMode n) = Jed (jeds.UnsupportedMode n)
of_jed (jeds.BadTag n) = Jed (jeds.BadTag n)

abbrev pub of_seal : SealErr → KeyErr
of_seal seals.EntropyFault = EntropyFault
of_seal seals.NoMemory = NoMemory

-- a refusal of a sealed text, as one of a key
abbrev pub by_jed : {T : Type 0} → Result T JedErr → Result T KeyErr
by_jed (Ok value) = Ok value
by_jed (Err e) = Err (Jed e)

-- the refusal is the one that is meant, or memory ran out
abbrev pub IsMeant : {T : Type 0} → Result T KeyErr → KeyErr → Type 0
IsMeant meant NoMemory = Unit {0}
IsMeant meant (NoKey id) = meant ≡ Err (NoKey id)
IsMeant meant (BadPassword id) = meant ≡ Err (BadPassword id)
IsMeant meant EntropyFault = meant ≡ Err EntropyFault
IsMeant meant (Jed e) = meant ≡ Err (Jed e)
IsMeant meant BadItem = meant ≡ Err BadItem

-- what comes of a value, or the refusal of it
abbrev pub then_with : {T U : Type 0} → (T → Result U KeyErr) → Result T KeyErr → Result U KeyErr
then_with next (Ok value) = next value
then_with next (Err e) = Err e
