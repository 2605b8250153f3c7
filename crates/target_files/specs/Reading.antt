-- What is read of a file.
use Rattle.std.specs.Prelude.{ℕ, ◌≤◌, ◌<◌, vec_len}
use Rattle.target_files.specs.declared.files.Reading.{Reading}
use Rattle.target_files.specs.declared.files.Reading.TheVariants.{Whole, TooLarge}

-- no more than the limit is read, and a file is too large only where it is longer
abbrev pub IsWithin : ℕ → Reading → Type 0
IsWithin limit (Whole bytes) = vec_len bytes ≤ limit
IsWithin limit (TooLarge len) = limit < len
