-- That a store tells the truth about an item's file.
use Rattle.std.specs.Prelude.{ℕ, List, [], ◌∷◌, Bool, true, ◌&&◌, is_none, Option, Some, None}
use Rattle.item_text.specs.Props.{is_text}
use Rattle.law_kept.specs.Acts.{Shown, Missing, Act, Gets, Puts, Deletes, FileStep}

-- the bytes of the file once a client has done something
abbrev pub bytes_after : Option (List ℕ) → Act → Option (List ℕ)
bytes_after file (Puts bytes true heard) = Some bytes
bytes_after file (Deletes true) = None
bytes_after file act = file

-- a get is answered by what the file holds, and nobody hears that a put landed which didn't
abbrev pub is_honest : Option (List ℕ) → Act → Bool
is_honest file (Gets (Shown bytes)) = is_text bytes file
is_honest file (Gets Missing) = is_none file
is_honest file (Puts bytes landed true) = landed
is_honest file act = true

-- so it is, step by step
unfoldable pub is_honest_from : Option (List ℕ) → List FileStep → Bool
is_honest_from file [] = true
is_honest_from file (s ∷ ss) =
    is_honest file s.act && is_honest_from (bytes_after file s.act) ss
