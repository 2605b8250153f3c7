-- What sealing does to the random source.
use Rattle.std.specs.Prelude.{ℕ, ◌≤◌, ◌≡◌, Result, Ok, Err}
use Rattle.jop_outside.specs.Outside.{HasRisen}
use Rattle.jed_sealing.specs.declared.seal_err.SealErr.{SealErr}
use Rattle.jed_sealing.specs.declared.seal_err.SealErr.TheVariants.{EntropyFault, NoMemory}

-- the count of its faults rises if it failed, and stays at every other answer
abbrev pub Spends : {T : Type 0} → ℕ → Result T SealErr → ℕ → Type 0
Spends before (Ok value) after = after ≡ before
Spends before (Err EntropyFault) after = (before ≤ after) × HasRisen before after
Spends before (Err NoMemory) after = after ≡ before
