-- A state of AES as four columns, each a word of four bytes of which the first is the highest.
use Rattle.std.specs.Prelude.{ℕ, List, [], ◌∷◌, ◌++◌}
use Rattle.std.specs.Int.{to_be_bytes, w32}
use Rattle.aes_ccm.specs.Aes.{mixed}
use Rattle.aes_ccm.specs.declared.state.State.TheInside.{Inside}

-- a column of these bytes, mixed
abbrev pub mixed_column : ℕ → ℕ → ℕ → ℕ → List ℕ
mixed_column a b c d = mixed a b c d ∷ mixed b c d a ∷ mixed c d a b ∷ mixed d a b c ∷ []

-- the 16 bytes of a state
unfoldable pub bytes_of_state : Inside → List ℕ
bytes_of_state s = to_be_bytes w32 s.a ++ to_be_bytes w32 s.b ++ to_be_bytes w32 s.c ++ to_be_bytes w32 s.d
