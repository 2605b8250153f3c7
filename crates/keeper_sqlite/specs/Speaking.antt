-- What was said to a database, and what became of it.
use Rattle.std.specs.Prelude.{◌≡◌, List, [], ◌++◌, Option, Some, None, option_map, unwrap_or, IsSome, Result, Ok, Err}
use Rattle.keeper_sqlite.specs.declared.said.Said.{Said}

-- the statements that stand, and those of the transaction that is open, if one is
pub record Spoken : Type 0 where
  pub made : List Said
  pub waiting : Option (List Said)

abbrev pub spoken : List Said → Option (List Said) → Spoken
spoken made waiting = record { made = made; waiting = waiting }

-- behind what waits, if a transaction is open, and else behind what stands
abbrev pub said_in : List Said → List Said → Option (List Said) → Spoken
said_in said made None = spoken (made ++ said) None
said_in said made (Some waiting) = spoken made (Some (waiting ++ said))

-- Each of these speaks of a database that may not tell.

-- once these statements are said
unfoldable pub saying : List Said → Option Spoken → Option Spoken
saying said = option_map (λ now. said_in said now.made now.waiting)

-- once these statements are made together
unfoldable pub with_made : List Said → Option Spoken → Option Spoken
with_made said = option_map (λ now. spoken (now.made ++ said) None)

unfoldable pub after_begin : Option Spoken → Option Spoken
after_begin = option_map (λ now. spoken now.made (Some []))

-- what waits stands
unfoldable pub after_commit : Option Spoken → Option Spoken
after_commit = option_map (λ now. spoken (now.made ++ unwrap_or now.waiting []) None)

-- what waits is forgotten
unfoldable pub after_roll_back : Option Spoken → Option Spoken
after_roll_back = option_map (λ now. spoken now.made None)

-- the statements that stand
unfoldable pub standing_in : Option Spoken → Option (List Said)
standing_in = option_map (λ now. now.made)

-- no transaction is open
unfoldable pub IsShut : Option Spoken → Type 0
IsShut None = Unit {0}
IsShut (Some now) = now.waiting ≡ None

-- a transaction is open
unfoldable pub IsInTransaction : Option Spoken → Type 0
IsInTransaction None = Unit {0}
IsInTransaction (Some now) = IsSome now.waiting

-- none was open, and one is
pub record OpensTransaction (before after : Option Spoken) : Type 0 where
  pub shut : IsShut before
  pub begun : after ≡ after_begin before

-- no more stands than did before, and a transaction is open
pub record StaysBegun (before after : Option Spoken) : Type 0 where
  pub same : standing_in after ≡ standing_in before
  pub still : IsInTransaction after

-- no more stands than did before, and no transaction was left open
pub record MadeNoMore (before after : Option Spoken) : Type 0 where
  pub same : standing_in after ≡ standing_in before
  pub shut : IsShut before → IsShut after

-- ---- what calls come to

-- all these statements are said, or no more stands than did before
abbrev pub Says : {E : Type 0} → List Said → Option Spoken → Result (Unit {0}) E → Option Spoken
    → Type 0
Says said before (Ok done) after = after ≡ saying said before
Says said before (Err error) after = standing_in after ≡ standing_in before

-- all these statements stand, or none
abbrev pub MakesAll : {E : Type 0} → List Said → Option Spoken → Result (Unit {0}) E → Option Spoken
    → Type 0
MakesAll said before (Ok done) after = after ≡ with_made said before
MakesAll said before (Err error) after = MadeNoMore before after
