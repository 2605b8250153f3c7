-- The licences of what a command makes.
use Rattle.std.specs.Prelude.{List, length}
use Rattle.client.specs.Outside.{OutsideNow}
use Rattle.law_licences.specs.Deeds.{deeds_of}
use Rattle.law_licences.specs.Licences.{ObeysData}
use Rattle.law_licences.specs.Sealing.{no_keys}
use Rattle.law_licences.specs.Views.{at_rest}
use Rattle.local_store.specs.declared.change.Change.{Change}
use Rattle.local_store.specs.declared.tables.Tables.{Tables}
use Rattle.local_commands.specs.Keeping.{AreNoted, trail_of}

-- the changes that were written down have their licences outside a session, whatever the tables
pub record NotesLicensed (old new : OutsideNow) : Type 0 where
  pub changes : List Change
  pub noted : AreNoted changes old new
  pub licensed : (t : Tables) →
      ObeysData (at_rest no_keys t) (deeds_of (trail_of (length old.made) changes) changes)
