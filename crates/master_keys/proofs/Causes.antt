-- Refusals that are handed on.
use Rattle.std.proofs.Common.{◌≡◌, None, Result, refl, ap, sym, subst}
use Rattle.std.specs.Result.{result_ok}
use Rattle.jed_format.specs.Refusals.{Refuses}
use Rattle.jed_format.specs.declared.jed_err.JedErr.{JedErr}
use Rattle.jed_format.specs.declared.jed_err.JedErr.TheVariants as jeds
use Rattle.master_keys.specs.Refusing.{IsMeant, by_jed, of_jed, then_with}
use Rattle.master_keys.specs.declared.key_err.KeyErr.{KeyErr}
use Rattle.master_keys.specs.declared.key_err.KeyErr.TheVariants.{NoKey, BadPassword, EntropyFault, Jed, BadItem, NoMemory}

of_refused : {T : Type 0} (meant : Result T JedErr) (e : JedErr) → Refuses meant e
    → IsMeant (by_jed meant) (of_jed e)
of_refused meant jeds.NoMemory h = tt
of_refused meant (jeds.NotJed at) h = ap by_jed h
of_refused meant (jeds.BadChunk n) h = ap by_jed h
of_refused meant (jeds.UnsupportedMethod m) h = ap by_jed h
of_refused meant (jeds.UnsupportedMode n) h = ap by_jed h
of_refused meant (jeds.BadTag n) h = ap by_jed h

-- the refusal of a sealed text, as one of a key
pub meant_by_jed : {T : Type 0} (meant : Result T JedErr) (e : JedErr) (k : KeyErr) → k ≡ of_jed e
    → Refuses meant e → IsMeant (by_jed meant) k
meant_by_jed meant e k is h = subst (IsMeant (by_jed meant)) (sym is) (of_refused meant e h)

-- the refusal of a value is that of what comes of it
pub meant_through : {T U : Type 0} (next : T → Result U KeyErr) (meant : Result T KeyErr) (e : KeyErr)
    → IsMeant meant e → IsMeant (then_with next meant) e
meant_through next meant NoMemory h = tt
meant_through next meant (NoKey id) h = ap (then_with next) h
meant_through next meant (BadPassword id) h = ap (then_with next) h
meant_through next meant EntropyFault h = ap (then_with next) h
meant_through next meant (Jed e) h = ap (then_with next) h
meant_through next meant BadItem h = ap (then_with next) h

pub meant_same : {T : Type 0} (meant other : Result T KeyErr) (e : KeyErr) → meant ≡ other → IsMeant other e
    → IsMeant meant e
meant_same {T} meant other e same h =
    let P : Result T KeyErr → Type 0 = λ (r : Result T KeyErr). IsMeant r e in subst P (sym same) h

-- what is refused, and not for want of memory, is nothing
pub refused_none : {T : Type 0} (meant : Result T JedErr) (e : JedErr) → Refuses meant e
    → (e ≡ jeds.NoMemory → ⊥) → result_ok meant ≡ None
refused_none meant jeds.NoMemory h some = absurd (some refl)
refused_none meant (jeds.NotJed at) h some = ap result_ok h
refused_none meant (jeds.BadChunk n) h some = ap result_ok h
refused_none meant (jeds.UnsupportedMethod m) h some = ap result_ok h
refused_none meant (jeds.UnsupportedMode n) h some = ap result_ok h
refused_none meant (jeds.BadTag n) h some = ap result_ok h
