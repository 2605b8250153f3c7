-- What is said to a database that is opened.
use Rattle.std.specs.Prelude.{◌≡◌, Option}
use Rattle.keeper_file.specs.declared.layout.Layout.{Layout}
use Rattle.keeper_file.specs.declared.layout.Layout.TheVariants.{Blank, Tables, Foreign}
use Rattle.keeper_sqlite.specs.Answers.{DatabaseNow, IsLayoutShown}
use Rattle.keeper_sqlite.specs.Speaking.{Spoken, with_made}
use Rattle.keeper_sqlite.specs.Statements.{first_statements}

-- Where nothing stands the tables are made, with what a new client knows. To tables that are there
-- nothing is said.
abbrev pub FillsBlank : Layout → Option Spoken → Option Spoken → Type 0
FillsBlank Blank before after = after ≡ with_made first_statements before
FillsBlank Tables before after = after ≡ before
FillsBlank Foreign before after = ⊥

-- what was found is what stands there, if that is told, and only where that is nothing something
-- was said
pub record HasTables (before after : DatabaseNow) : Type 0 where
  pub found : Layout
  pub shown : IsLayoutShown before.layout found
  pub fills : FillsBlank found before.spoken after.spoken
