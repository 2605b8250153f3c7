-- How far a session has come, by its calls and their replies, and when that is drawn.
use Rattle.std.specs.Prelude.{ℕ, ◌-◌, Bool, true, false, List, ◌++◌, codes, filter, length, nat_le, nat_eq, if◌then◌else◌, Option, Some, None}
use Rattle.std.specs.Fmt.{decimal}
use Rattle.jop_base.specs.declared.dir.Dir.TheVariants.{Root}
use Rattle.jop_base.specs.declared.path.Path.TheVariants.{Item}
use Rattle.jop_outside.specs.Outside.{risen}
use Rattle.jop_target.specs.declared.call.Call.{Call}
use Rattle.jop_target.specs.declared.call.Call.TheVariants.{List as ListDir, Get, Put, Delete}
use Rattle.jop_target.specs.declared.reply.Reply.{Reply}
use Rattle.jop_target.specs.declared.reply.Reply.TheVariants.{Listed, Got, Done}
use Rattle.jop_watch.specs.declared.progress.Progress.{Progress}
use Rattle.local_store.specs.declared.row.Row.{Row}

-- how many of these rows wait to be uploaded
abbrev pub count_waiting : List Row → ℕ
count_waiting rows = length (filter (λ (r : Row). r.pending) rows)

-- nothing was done yet, and nothing is known to wait
abbrev pub no_progress : Progress
no_progress = record {
  waiting = record { rows = 0; deletions = 0 };
  uploaded = 0;
  deleted = 0;
  listed = false;
  received = 0;
}

-- what is got before the root is listed is what an upload checks, and isn't received
abbrev pub progress_after : Progress → Call → Reply → Progress
progress_after p (ListDir Root) (Listed listing) = record p { listed = true }
progress_after p (Put (Item id) content) (Done now) = record p { uploaded = risen p.uploaded }
progress_after p (Delete (Item id)) (Done now) = record p { deleted = risen p.deleted }
progress_after p (Get (Item id)) (Got now content) =
    if p.listed then record p { received = risen p.received } else p
progress_after p call reply = p

abbrev pub count_of_all : ℕ → ℕ → List ℕ
count_of_all count all = decimal count ++ (codes " of " ++ decimal all)

-- the last thing that was done: uploads come first, then deletions, then what is received
abbrev pub progress_text : Progress → List ℕ
progress_text p =
    if p.listed then codes "received " ++ decimal p.received
    else if nat_eq p.deleted 0 then codes "uploaded " ++ count_of_all p.uploaded p.waiting.rows
    else codes "deleted " ++ count_of_all p.deleted p.waiting.deletions

-- a second behind the beginning, and then a tenth of a second behind the last time
abbrev pub may_draw : ℕ → Option ℕ → ℕ → Bool
may_draw began None now = nat_le 1000 (now - began)
may_draw began (Some last) now = nat_le 100 (now - last)
