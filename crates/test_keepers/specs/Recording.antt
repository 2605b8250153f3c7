-- What a recorder was told.
use Rattle.std.specs.Prelude.{List, [], Option, Some}
use Rattle.std.specs.List.{flat_map}
use Rattle.keeper_file.specs.declared.layout.Layout.TheVariants.{Tables}
use Rattle.keeper_sqlite.specs.declared.said.Said.{Said}
use Rattle.keeper_sqlite.specs.Answers.{DatabaseNow, QueryAnswers}
use Rattle.keeper_sqlite.specs.Speaking.{spoken}

-- those that were made together stand in a list of their own
unfoldable pub all_in : List (List Said) → List Said
all_in = flat_map (λ together. together)

-- no row answers any query
abbrev pub no_rows : QueryAnswers
no_rows query values = []

-- it tells what was said to it, and shows tables without a row
abbrev pub recorded : List (List Said) → Option (List Said) → DatabaseNow
recorded made waiting = record {
  spoken = Some (spoken (all_in made) waiting);
  shows = Some no_rows;
  layout = Some Tables;
}
