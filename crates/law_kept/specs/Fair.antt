-- The premises of the law on kept notes, of a history of one item.
use Rattle.std.specs.Prelude.{◌≡◌, ℕ, List, true, option_map, Option, Some, None}
use Rattle.item_text.specs.declared.item.Item.{Item}
use Rattle.law_kept.specs.Acts.{FileStep, Version, FileHistory}
use Rattle.law_kept.specs.Gap.{NoOtherUploadBetween}
use Rattle.law_kept.specs.Honest.{is_honest_from}
use Rattle.law_kept.specs.Licences.{obeys}
use Rattle.law_kept.specs.Own.{new_own, acts_by}

-- at first a file stands for the item that it reads to
abbrev pub StandsAsRead : (List ℕ → Option Item) → Option Version → Type 0
StandsAsRead reads None = Unit {0}
StandsAsRead reads (Some version) = version.item ≡ reads version.bytes

abbrev pub file_bytes : Option Version → Option (List ℕ)
file_bytes file = option_map (λ version. version.bytes) file

-- a client does what it may, by its own calls and changes
abbrev pub DoesAsItMay : (List ℕ → Option Item) → List FileStep → List ℕ → Type 0
DoesAsItMay reads ss client = obeys reads new_own (acts_by client ss) ≡ true

-- each client does
abbrev pub AllObey : (List ℕ → Option Item) → List FileStep → Type 0
AllObey reads ss = (client : List ℕ) → DoesAsItMay reads ss client

-- The store tells the truth, each client does what it may, and no other client's put lands between a check and the put
-- that follows it. `reads` says which item bytes are.
pub record IsFair (reads : List ℕ → Option Item) (h : FileHistory) : Type 0 where
  pub opening : StandsAsRead reads h.opening
  pub honest : is_honest_from (file_bytes h.opening) h.steps ≡ true
  pub obey : AllObey reads h.steps
  pub gapless : NoOtherUploadBetween h.steps
