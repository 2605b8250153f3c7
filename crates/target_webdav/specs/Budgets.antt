-- How much of an answer is kept.
use Rattle.std.specs.Prelude.{ℕ, ◌*◌}
use Rattle.jop_base.specs.declared.dir.Dir.TheVariants.{Root}
use Rattle.jop_target.specs.declared.call.Call.{Call}
use Rattle.jop_target.specs.declared.call.Call.TheVariants as calls

-- the most bytes that are kept of the body that answers a call: 256 MiB of a listing of the root, 8 MiB
-- of one of another folder, 64 MiB of a blob, and 16 MiB of any other body
abbrev pub kept_limit : Call → ℕ
kept_limit (calls.List Root) = 268_435_456
kept_limit (calls.List dir) = 8_388_608
kept_limit (calls.GetBlob id) = 67_108_864
kept_limit call = 16_777_216

-- the most bytes that may come behind its head: twice as many, so that the lines of chunks have room
abbrev pub came_limit : Call → ℕ
came_limit call = kept_limit call * 2
