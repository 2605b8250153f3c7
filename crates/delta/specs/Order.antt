-- Lists in rising order, and the orders of ids and of items.
use Rattle.std.specs.Prelude.{ℕ, ◌≡◌, List, Bool, Contains, bytes_eq}
use Rattle.std.specs.BTreeSet.{BTreeSet, IsFromIterResult}
use Rattle.std.specs.Cmp.Lexicographic.{slice_cmp}
use Rattle.std.specs.List.Sorted.{IsStrictlySortedBy}
use Rattle.std.specs.Ordering.{nat_cmp, ordering_then}
use Rattle.std.specs.Set.{is_member}
use Rattle.std.specs.declared.cmp.Ordering.{Ordering}
use Rattle.delta.specs.declared.mark.Mark.{Mark}

abbrev pub id_cmp : List ℕ → List ℕ → Ordering
id_cmp = slice_cmp nat_cmp

-- which file was written first, and of two that were written at once which id is less
abbrev pub mark_cmp : Mark → Mark → Ordering
mark_cmp m n = ordering_then (nat_cmp m.stamp n.stamp) (id_cmp m.id n.id)

-- a list holds, in rising order and each once, just what has a property
pub record Lists {T : Type 0} (cmp : T → T → Ordering) (P : T → Type 0) (xs : List T) : Type 0 where
  pub rising : IsStrictlySortedBy cmp xs
  pub whole : (x : T) → P x → Contains xs x
  pub only : (x : T) → Contains xs x → P x

-- a set of just these items
abbrev pub IsSetOf : {T : Type 0} → (T → T → Ordering) → List T → BTreeSet T → Type 0
IsSetOf = IsFromIterResult

-- the items of such a set, in its order
pub record IsInOrder {T : Type 0} (cmp : T → T → Ordering) (items xs : List T) : Type 0 where
  pub set : BTreeSet T
  pub has : IsSetOf cmp items set
  pub are : xs ≡ set.keys

-- whether an id stands among these
abbrev pub includes : List (List ℕ) → List ℕ → Bool
includes = is_member bytes_eq
