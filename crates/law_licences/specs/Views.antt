-- What one sees of a client by its own calls and changes.
use Rattle.std.specs.Prelude.{ℕ, List, [], ◌∷◌, map, filter, Bool, true, false, is_some, if◌then◌else◌, Option, Some, None}
use Rattle.jop_base.specs.declared.context.Context.{Context}
use Rattle.jop_base.specs.declared.dir.Dir.{Dir}
use Rattle.jop_base.specs.declared.dir.Dir.TheVariants.{Locks, Root}
use Rattle.jop_base.specs.declared.path.Path.{Path}
use Rattle.jop_base.specs.declared.path.Path.TheVariants.{Lock}
use Rattle.jop_target.specs.declared.call.Call.{Call}
use Rattle.jop_target.specs.declared.call.Call.TheVariants.{List as ListDir, Get, Put, Delete, MakeDir}
use Rattle.jop_target.specs.declared.reply.Listing.{Listing}
use Rattle.jop_target.specs.declared.reply.Reply.{Reply}
use Rattle.jop_target.specs.declared.reply.Reply.TheVariants.{Listed}
use Rattle.local_store.specs.Changing.{after}
use Rattle.local_store.specs.Rows.{row_id}
use Rattle.local_store.specs.declared.change.Change.{Change}
use Rattle.local_store.specs.declared.change.Change.TheVariants.{ContextIs}
use Rattle.local_store.specs.declared.row.Row.{Row}
use Rattle.local_store.specs.declared.tables.Tables.{Tables}
use Rattle.law_licences.specs.Sealing.{Sealing}
use Rattle.law_licences.specs.Deeds.{Deed, Begins, Asks, Makes, MakesUntold, Ends, Stops}

-- a call, and its reply if one was heard
pub record Heard : Type 0 where
  pub call : Call
  pub reply : Option Reply

-- What was listed in the root, and in the folder of deletions where they are recorded; how far the
-- client had read the target then; and which items it had a base of.
pub record Shown : Type 0 where
  pub listing : Listing
  pub tombs : Option Listing
  pub context : Context
  pub synced : List (List ℕ)

pub data Stage : Type 0 where
  -- in no session
  Outside : Stage
  -- in a session
  Working : Stage
  -- in a session that has made its last change
  Finished : Stage

-- The client's tables; the calls of its session but those about locks, the last one first; what that session's last
-- listing of the root has shown; where the client stands; and what the keys of its session open and seal.
pub record View : Type 0 where
  pub tables : Tables
  pub calls : List Heard
  pub shown : Option Shown
  pub stage : Stage
  pub sealing : Sealing

-- a client with these tables, in no session, whose next one has these keys
abbrev pub at_rest : Sealing → Tables → View
at_rest sealing tables = record {
  tables = tables;
  calls = [];
  shown = None;
  stage = Outside;
  sealing = sealing;
}

-- ---- calls

abbrev pub is_lock_file : Path → Bool
is_lock_file (Lock name) = true
is_lock_file path = false

abbrev pub is_lock_dir : Dir → Bool
is_lock_dir Locks = true
is_lock_dir dir = false

-- a call about locks, which have a discipline of their own
abbrev pub is_about_locks : Call → Bool
is_about_locks (ListDir dir) = is_lock_dir dir
is_about_locks (MakeDir dir) = is_lock_dir dir
is_about_locks (Get path) = is_lock_file path
is_about_locks (Put path content) = is_lock_file path
is_about_locks (Delete path) = is_lock_file path
is_about_locks call = false

-- the items of which the client has a base, in the order of their ids
abbrev pub synced_ids : Tables → List (List ℕ)
synced_ids t = map row_id (filter (λ (r : Row). is_some r.base) t.rows)

-- what a listing of the root shows to a client with these tables, where no deletions are recorded
abbrev pub shown_to : Tables → Listing → Shown
shown_to t listing =
    record { listing = listing; tombs = None; context = t.context; synced = synced_ids t }

abbrev pub shown_by : View → Option Reply → Option Shown
shown_by v (Some (Listed listing)) = Some (shown_to v.tables listing)
shown_by v reply = None

abbrev pub shown_in : View → Dir → Option Reply → Option Shown
shown_in v Root reply = shown_by v reply
shown_in v dir reply = v.shown

abbrev pub shown_after : View → Call → Option Reply → Option Shown
shown_after v (ListDir dir) reply = shown_in v dir reply
shown_after v call reply = v.shown

-- these calls and, before them, this one, unless it is about locks
abbrev pub with_call : Call → Option Reply → List Heard → List Heard
with_call call reply calls =
    if is_about_locks call then calls else record { call = call; reply = reply } ∷ calls

-- what is seen once a call was made
abbrev pub view_after_call : View → Call → Option Reply → View
view_after_call v call reply = record v {
  calls = with_call call reply v.calls;
  shown = shown_after v call reply;
}

-- ---- changes

-- how far the target was read is a session's last change
abbrev pub stage_after : Stage → Change → Stage
stage_after stage (ContextIs context) = Finished
stage_after stage change = stage

-- what is seen once a change was made
abbrev pub view_after_change : View → Change → View
view_after_change v change = record v {
  tables = after v.tables change;
  stage = stage_after v.stage change;
}

-- ---- deeds

-- no session's calls are remembered behind its end, nor behind a stop
abbrev pub seen : View → Deed → View
seen v Begins = record v { calls = []; shown = None; stage = Working }
seen v (Asks call reply) = view_after_call v call reply
seen v (Makes change) = view_after_change v change
seen v MakesUntold = v
seen v Ends = record v { calls = []; shown = None; stage = Outside }
seen v Stops = record v { calls = []; shown = None; stage = Outside }

-- what is seen after these deeds
unfoldable pub view_from : View → List Deed → View
view_from v [] = v
view_from v (d ∷ ds) = view_from (seen v d) ds
