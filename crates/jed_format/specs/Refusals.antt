-- What a reader may answer.
use Rattle.std.specs.Prelude.{◌≡◌, Result, Err}
use Rattle.jed_format.specs.declared.jed_err.JedErr.{JedErr}
use Rattle.jed_format.specs.declared.jed_err.JedErr.TheVariants as errors

-- the refusal is the one that is meant, or memory ran out
abbrev pub Refuses : {A : Type 0} → Result A JedErr → JedErr → Type 0
Refuses meant errors.NoMemory = Unit {0}
Refuses meant (errors.NotJed at) = meant ≡ Err (errors.NotJed at)
Refuses meant (errors.BadChunk n) = meant ≡ Err (errors.BadChunk n)
Refuses meant (errors.UnsupportedMethod m) = meant ≡ Err (errors.UnsupportedMethod m)
Refuses meant (errors.UnsupportedMode n) = meant ≡ Err (errors.UnsupportedMode n)
Refuses meant (errors.BadTag n) = meant ≡ Err (errors.BadTag n)
