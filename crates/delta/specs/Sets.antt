-- What is asked of sets of ids.
use Rattle.std.specs.Prelude.{ℕ, List, Bool, true, ◌||◌, ◌&&◌, not, nat_lt, nat_eq, Option, Some, None}
use Rattle.std.specs.BTreeSet.{BTreeSet, contains}
use Rattle.jop_target.specs.declared.reply.Listing.{Listing}
use Rattle.delta.specs.Order.{IsSetOf, id_cmp}
use Rattle.delta.specs.Tombs.{recorded_in}
use Rattle.delta.specs.declared.mark.Mark.{Mark}

abbrev pub is_out : BTreeSet (List ℕ) → List ℕ → Bool
is_out set id = not (contains id_cmp set id)

-- the set of the ids that are recorded as deleted, where deletions are recorded
abbrev pub IsRecord : Option Listing → Option (BTreeSet (List ℕ)) → Type 0
IsRecord None None = Unit {0}
IsRecord (Some tombs) (Some recorded) = IsSetOf id_cmp (recorded_in tombs.entries) recorded
IsRecord tombs recorded = ⊥

-- an id counts as deleted by such a set
abbrev pub is_deleted : Option (BTreeSet (List ℕ)) → List ℕ → Bool
is_deleted None id = true
is_deleted (Some recorded) id = contains id_cmp recorded id

-- no file of the id is shown, and it counts as deleted
abbrev pub is_gone : BTreeSet (List ℕ) → Option (BTreeSet (List ℕ)) → List ℕ → Bool
is_gone shown recorded id = is_out shown id && is_deleted recorded id

-- a file was written past a moment, or at it and isn't one of those that were seen then
abbrev pub is_past : ℕ → BTreeSet (List ℕ) → Mark → Bool
is_past moment seen m =
    nat_lt moment m.stamp || (nat_eq moment m.stamp && is_out seen m.id)
