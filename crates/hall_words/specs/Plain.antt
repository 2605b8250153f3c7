-- Words that are no flags.
use Rattle.std.specs.Prelude.{ℕ, ◌≡◌, List, [], ◌∷◌, false, nat_eq}

-- a word with a letter, the first of which isn't a hyphen
abbrev pub IsPlainWord : List ℕ → Type 0
IsPlainWord [] = ⊥
IsPlainWord (c ∷ cs) = nat_eq c 45 ≡ false
