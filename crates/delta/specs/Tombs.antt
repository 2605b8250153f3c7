-- What a listing of the folder of deletions records, and which ids count as deleted.
use Rattle.std.specs.Prelude.{ℕ, List, [], ◌∷◌, Bool, true, Option, Some, None}
use Rattle.jop_base.specs.declared.path.Path.{Path}
use Rattle.jop_base.specs.declared.path.Path.TheVariants.{Tomb}
use Rattle.jop_target.specs.declared.reply.Entry.{Entry}
use Rattle.jop_target.specs.declared.reply.Listing.{Listing}
use Rattle.delta.specs.Order.{includes}

abbrev pub with_tomb : Path → List (List ℕ) → List (List ℕ)
with_tomb (Tomb id) ids = id ∷ ids
with_tomb path ids = ids

-- the ids whose deletion these files record, in their order
unfoldable pub recorded_in : List Entry → List (List ℕ)
recorded_in [] = []
recorded_in (e ∷ es) = with_tomb e.path (recorded_in es)

-- the ids that are recorded as deleted: none where deletions aren't recorded
abbrev pub recorded_by : Option Listing → List (List ℕ)
recorded_by None = []
recorded_by (Some tombs) = recorded_in tombs.entries

-- an id counts as deleted: where deletions are recorded only if it is, else by absence alone
abbrev pub counts_as_deleted : Option Listing → List ℕ → Bool
counts_as_deleted None id = true
counts_as_deleted (Some tombs) id = includes (recorded_in tombs.entries) id
