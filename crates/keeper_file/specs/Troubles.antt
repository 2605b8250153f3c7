-- What becomes of a refusal.
use Rattle.std.specs.declared.io.ErrorKind.{ErrorKind}
use Rattle.std.specs.declared.io.ErrorKind.TheVariants as io_errors
use Rattle.sqlite.specs.declared.error.Error.{Error}
use Rattle.sqlite.specs.declared.error.Error.TheVariants.{SqliteFailure}
use Rattle.sqlite.specs.declared.error.ErrorCode.TheVariants.{OutOfMemory, DatabaseBusy}
use Rattle.keeper_columns.specs.declared.record_err.RecordErr.{RecordErr}
use Rattle.keeper_columns.specs.declared.record_err.RecordErr.TheVariants as record_errors
use Rattle.keeper_file.specs.declared.trouble.Trouble.{Trouble}
use Rattle.keeper_file.specs.declared.trouble.Trouble.TheVariants as trouble

-- Want of memory is no fault. Every other refusal of the database is one, or says that the file is in use.
abbrev pub trouble_of_error : Error → Trouble
trouble_of_error (SqliteFailure OutOfMemory) = trouble.NoMemory
trouble_of_error (SqliteFailure DatabaseBusy) = trouble.Busy
trouble_of_error error = trouble.Fault

-- the same of a refusal of the system
abbrev pub trouble_of_kind : ErrorKind → Trouble
trouble_of_kind io_errors.OutOfMemory = trouble.NoMemory
trouble_of_kind kind = trouble.Fault

-- a record that can't be read back is a fault
abbrev pub of_record : RecordErr → Trouble
of_record record_errors.Bad = trouble.Fault
of_record record_errors.NoMemory = trouble.NoMemory
