-- The commands that print a text which is always the same, and do nothing else.
use Rattle.std.specs.Prelude.{ℕ, ◌≡◌, List, [], ◌∷◌, ◌++◌, codes, Option, Some, None, Ok}
use Rattle.client.specs.Outside.{OutsideNow}
use Rattle.jop_status.specs.Outcomes.{Outcome}
use Rattle.jop_status.specs.Statuses.{usage_line}
use Rattle.jop_words.specs.declared.verb.Verb.{Verb}
use Rattle.jop_words.specs.declared.verb.Verb.TheVariants as verbs

-- the name of the program and its version
abbrev pub version_line : List ℕ
version_line = codes "jop 0.2.0" ++ 10 ∷ []

-- the text that a command prints, if it is such a one: of `help`, how the program is called
abbrev pub constant_of : Verb → Option (List ℕ)
constant_of verbs.Help = Some usage_line
constant_of verbs.Version = Some version_line
constant_of verb = None

-- the text is what comes of it, and nothing was used
abbrev pub PrintsConstant : Option (List ℕ) → OutsideNow → Outcome → OutsideNow → Type 0
PrintsConstant None before outcome after = ⊥
PrintsConstant (Some text) before outcome after = (outcome ≡ Ok text) × (after ≡ before)
