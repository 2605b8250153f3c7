-- Bytes that are written whole.
use Rattle.std.specs.Prelude.{ℕ, ◌≤◌, ◌≡◌, ◌++◌, List, Option, Some, None, Result, Ok, Err}
use Rattle.jop_outside.specs.Outside.{SinkNow, HasRisen}
use Rattle.jop_outside.specs.declared.failed.Failed.{Failed}

-- these bytes stand in a sink behind all that stood there, if it tells
abbrev pub Appends : Option (List ℕ) → List ℕ → Option (List ℕ) → Type 0
Appends None bytes after = after ≡ None
Appends (Some before) bytes after = after ≡ Some (before ++ bytes)

-- the bytes were written whole, and the sink didn't fail
pub record WasWritten (old : SinkNow) (bytes : List ℕ) (new : SinkNow) : Type 0 where
  pub whole : Appends old.written bytes new.written
  pub stays : new.faults ≡ old.faults

-- a prefix of the bytes was written, and the sink's count rose
pub record WasCut (old : SinkNow) (bytes : List ℕ) (new : SinkNow) : Type 0 where
  pub start : List ℕ
  pub rest : List ℕ
  pub split : start ++ rest ≡ bytes
  pub written : Appends old.written start new.written
  pub later : old.faults ≤ new.faults
  pub rose : HasRisen old.faults new.faults

-- what writing bytes whole comes to
abbrev pub WritesAll : SinkNow → List ℕ → Result (Unit {0}) Failed → SinkNow → Type 0
WritesAll old bytes (Ok done) new = WasWritten old bytes new
WritesAll old bytes (Err e) new = WasCut old bytes new
