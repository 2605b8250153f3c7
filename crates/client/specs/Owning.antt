-- Whose client this is.
use Rattle.std.specs.Prelude.{ℕ, ◌≡◌, ◌⊎◌, List, Option, Some, None, Result, Ok, Err}
use Rattle.client.specs.Drawing.{Draws}
use Rattle.client.specs.Outside.{HasKeeperFailed, OutsideNow, with_change}
use Rattle.client.specs.declared.known.Known.{Known}
use Rattle.client.specs.declared.own_err.OwnErr.{OwnErr}
use Rattle.client.specs.declared.own_err.OwnErr.TheVariants.{KeeperFault, EntropyFault, NoMemory}
use Rattle.jop_outside.specs.Outside.{HasRisen}
use Rattle.keeper.specs.Keepers.{Kept}
use Rattle.keeper.specs.declared.keeper_err.KeeperErr.{KeeperErr}
use Rattle.keeper.specs.declared.keeper_err.KeeperErr.TheVariants as keeper_errors
use Rattle.local_store.specs.declared.change.Change.TheVariants.{Named}

abbrev pub keeper_err : KeeperErr → OwnErr
keeper_err keeper_errors.Fault = KeeperFault
keeper_err keeper_errors.NoMemory = NoMemory

-- the client that is known, or why none is
abbrev pub client_of : Result Known OwnErr → Result (List ℕ) OwnErr
client_of (Ok known) = Ok known.client
client_of (Err error) = Err error

-- the tables name this client, or none, if they are told
abbrev pub NamesClient : Option Kept → Option (List ℕ) → Type 0
NamesClient None client = Unit {0}
NamesClient (Some kept) client = kept.tables.client ≡ client

-- all is as it was, and the tables name the client
pub record WasNamed (client : List ℕ) (before after : OutsideNow) : Type 0 where
  pub named : NamesClient before.keeper.kept (Some client)
  pub same : after ≡ before

-- the tables named none; its id was drawn, and they name it now
pub record BecomesNamed (client : List ℕ) (before after : OutsideNow) : Type 0 where
  pub unnamed : NamesClient before.keeper.kept None
  pub drawn : Draws before.entropy.left (Ok client) after.entropy.left
  pub made : after ≡ with_change (Named client) (record before { entropy = after.entropy })

-- Each answer, by its cause. What is refused changes nothing; an id may have been drawn by then. No
-- failure of the keeper or of the random source is told as want of memory.
abbrev pub Owns : OutsideNow → Result (List ℕ) OwnErr → OutsideNow → Type 0
Owns before (Ok client) after = WasNamed client before after ⊎ BecomesNamed client before after
Owns before (Err KeeperFault) after =
    HasKeeperFailed (record before { entropy = after.entropy }) after
Owns before (Err EntropyFault) after =
    HasRisen before.entropy.faults after.entropy.faults
    × (after ≡ record before { entropy = after.entropy })
Owns before (Err NoMemory) after =
    (after.entropy.faults ≡ before.entropy.faults)
    × (after ≡ record before { entropy = after.entropy })
