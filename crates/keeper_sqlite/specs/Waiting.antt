-- How long a run waits for another.
use Rattle.std.specs.Prelude.{ℕ}

-- in milliseconds
abbrev pub longest_pause : ℕ
longest_pause = 5000
