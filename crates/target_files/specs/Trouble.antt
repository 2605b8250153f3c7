-- Why a folder gives no answer.
use Rattle.std.specs.Prelude.{◌≡◌, ◌⊎◌, Option, Some, None, Result, Ok, Err}
use Rattle.std.specs.IoError.{error_kind}
use Rattle.std.specs.declared.io.Error.{Error}
use Rattle.std.specs.declared.io.ErrorKind.{ErrorKind}
use Rattle.std.specs.declared.io.ErrorKind.TheVariants.{AlreadyExists, NotFound, IsADirectory, OutOfMemory}
use Rattle.target_files.specs.declared.trouble.Trouble.{Trouble}
use Rattle.target_files.specs.declared.trouble.Trouble.TheVariants.{Fault, NoMemory}

-- want of memory is no fault; every other error of the system is one
abbrev pub trouble_of : ErrorKind → Trouble
trouble_of OutOfMemory = NoMemory
trouble_of kind = Fault

-- there is no such file; a directory is no file
abbrev pub IsMissing : ErrorKind → Type 0
IsMissing kind = (kind ≡ NotFound) ⊎ (kind ≡ IsADirectory)

-- nothing is found where there is no such file, and there alone; every other error is handed on
abbrev pub Finds : {T : Type 0} → Result T Error → Result (Option T) Trouble → Type 0
Finds (Ok value) found = found ≡ Ok (Some value)
Finds (Err error) (Ok found) = IsMissing (error_kind error) × (found ≡ None)
Finds (Err error) (Err trouble) = ¬ IsMissing (error_kind error) × (trouble ≡ trouble_of (error_kind error))

-- nothing is made where something bears the name, and there alone; every other error is handed on
abbrev pub Creates : {T : Type 0} → Result T Error → Result (Option T) Trouble → Type 0
Creates (Ok value) made = made ≡ Ok (Some value)
Creates (Err error) (Ok made) = (error_kind error ≡ AlreadyExists) × (made ≡ None)
Creates (Err error) (Err trouble) = ¬ (error_kind error ≡ AlreadyExists) × (trouble ≡ trouble_of (error_kind error))
