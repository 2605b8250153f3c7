-- The order of files: that of their texts.
use Rattle.std.specs.Prelude.{ℕ, ◌+◌, ◌*◌, List, [], ◌∷◌}
use Rattle.std.specs.Cmp.Lexicographic.{slice_cmp}
use Rattle.std.specs.Ordering.{nat_cmp}
use Rattle.std.specs.declared.cmp.Ordering.{Ordering}
use Rattle.jop_base.specs.declared.lock_name.LockKind.{LockKind}
use Rattle.jop_base.specs.declared.lock_name.LockKind.TheVariants.{Sync, Exclusive}
use Rattle.jop_base.specs.declared.path.Path.{Path}
use Rattle.jop_base.specs.declared.path.Path.TheVariants.{Info, OldVersion, Item, Blob, Lock, Temp as TempFile, Tomb}
use Rattle.jop_base.specs.Paths.{path_text}

-- which text comes first, by bytes
unfoldable pub path_cmp : Path → Path → Ordering
path_cmp p q = slice_cmp nat_cmp (path_text p) (path_text q)

-- the first two bytes of a text, as a number
abbrev pub first_two : List ℕ → ℕ
first_two [] = 0
first_two (d ∷ []) = 0
first_two (d ∷ e ∷ ds) = 256 * d + e

abbrev pub lock_rank : LockKind → ℕ → ℕ
lock_rank Sync client_type = 400000 + client_type
lock_rank Exclusive client_type = 410000 + client_type

-- where a path stands among those that differ in more than an id. There is room between two ranks for another kind of
-- file, also among the items, of which each ten ranks belong to one start of an id: a deletion's record, whose text
-- begins with `deleted`, stands between the items whose ids begin with `de` and those with `df`
abbrev pub rank_of : Path → ℕ
rank_of (Blob id) = 100
rank_of OldVersion = 200
rank_of (Item id) = 10 * first_two id
rank_of Info = 300000
rank_of (Lock name) = lock_rank name.kind name.client_type
rank_of (TempFile id) = 500000
rank_of (Tomb id) = 257011
