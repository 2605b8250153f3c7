-- The two numbers in a database's header (SQLite's file format, section 1.3) by which its file says whose it is.
use Rattle.std.specs.Prelude.{ℕ, List}
use Rattle.sqlite_format.specs.Bytes.{u32_at}

-- the program's number, which `PRAGMA application_id` shows
abbrev pub application_in : List ℕ → ℕ
application_in head = u32_at head 68

-- the number of the tables' layout, which `PRAGMA user_version` shows
abbrev pub layout_in : List ℕ → ℕ
layout_in head = u32_at head 60
