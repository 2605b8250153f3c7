-- How far a request line has come, byte by byte, up to the end of its target. `httparse` tests a
-- target for UTF-8 at its end alone, so until then it refuses nothing: these stages say where it
-- waits.
use Rattle.std.specs.Prelude.{ℕ, List, [], ◌∷◌, ◌==◌, if◌then◌else◌}
use Rattle.httparse.specs.Grammar.{is_token_byte, is_uri_byte}
use Rattle.dav_wire.specs.declared.target_stage.Stage.{Stage}
use Rattle.dav_wire.specs.declared.target_stage.Stage.TheVariants.{Blank, Return, Method, Target, Other}

-- one byte further
abbrev pub after_byte : Stage → ℕ → Stage
after_byte Blank b = if b == 13 then Return else (if b == 10 then Blank else
    (if is_token_byte b then Method else Other))
after_byte Return b = if b == 10 then Blank else Other
after_byte Method b = if b == 32 then Target else (if is_token_byte b then Method else Other)
after_byte Target b = if is_uri_byte b then Target else Other
after_byte Other b = Other

-- all bytes further
unfoldable pub after_bytes : Stage → List ℕ → Stage
after_bytes stage [] = stage
after_bytes stage (b ∷ bytes) = after_bytes (after_byte stage b) bytes
