-- What a maker of changes may answer.
use Rattle.std.specs.Prelude.{◌≡◌, Result, Ok, Err}
use Rattle.local_changes.specs.declared.store_err.StoreErr.{StoreErr}
use Rattle.local_changes.specs.declared.store_err.StoreErr.TheVariants.{NotFound, Sealed, TimeEnd, NotEmpty, TooLarge, NoMemory}

-- the answer is the one that is due, unless memory ran out
abbrev pub IsDueOrMemory : {T : Type 0} → Result T StoreErr → Result T StoreErr → Type 0
IsDueOrMemory due (Ok value) = due ≡ Ok value
IsDueOrMemory due (Err (NotFound id)) = due ≡ Err (NotFound id)
IsDueOrMemory due (Err (Sealed id)) = due ≡ Err (Sealed id)
IsDueOrMemory due (Err (TimeEnd id)) = due ≡ Err (TimeEnd id)
IsDueOrMemory due (Err (NotEmpty id)) = due ≡ Err (NotEmpty id)
IsDueOrMemory due (Err (TooLarge len)) = due ≡ Err (TooLarge len)
IsDueOrMemory due (Err NoMemory) = Unit {0}
