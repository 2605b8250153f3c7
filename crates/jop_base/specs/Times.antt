-- Moments, in milliseconds since the beginning of 1970.
use Rattle.std.specs.Prelude.{ℕ}

-- the last moment of the year 9999
abbrev pub last_time : ℕ
last_time = 253402300799999
