-- The items that a listing shows, and which of them are new to a client.
use Rattle.std.specs.Prelude.{ℕ, List, [], ◌∷◌, map, Bool, ◌||◌, ◌&&◌, not, max, nat_lt, nat_eq}
use Rattle.jop_base.specs.declared.context.Context.{Context}
use Rattle.jop_base.specs.declared.path.Path.{Path}
use Rattle.jop_base.specs.declared.path.Path.TheVariants.{Item}
use Rattle.jop_target.specs.declared.reply.Entry.{Entry}
use Rattle.delta.specs.Order.{includes}
use Rattle.delta.specs.declared.mark.Mark.{Mark}

abbrev pub with_mark : Path → ℕ → List Mark → List Mark
with_mark (Item id) stamp marks = record { stamp = stamp; id = id } ∷ marks
with_mark path stamp marks = marks

-- the items' files among these, in their order
unfoldable pub marks_of : List Entry → List Mark
marks_of [] = []
marks_of (e ∷ es) = with_mark e.path e.stamp (marks_of es)

abbrev pub mark_id : Mark → List ℕ
mark_id m = m.id

abbrev pub ids_of : List Mark → List (List ℕ)
ids_of = map mark_id

-- A file is new where it was written past the context's moment, or at that moment and wasn't seen then.
abbrev pub is_new : Context → Mark → Bool
is_new context m =
    nat_lt context.moment m.stamp
    || (nat_eq context.moment m.stamp && not (includes context.seen m.id))

-- the last moment at which one of the files was written, or this one, where it is later
unfoldable pub latest : ℕ → List Mark → ℕ
latest moment [] = moment
latest moment (m ∷ ms) = latest (max moment m.stamp) ms

-- a file was written at this moment
abbrev pub is_at : ℕ → Mark → Bool
is_at moment m = nat_eq m.stamp moment

-- the files show no item of this id
abbrev pub lacks : List Mark → List ℕ → Bool
lacks marks id = not (includes (ids_of marks) id)
