-- What the head of a response to a call means, by the statuses that real servers give (RFC 9110, 15; RFC 4918, 9 and
-- 11). A redirect is a failure like any other: it is never followed.
use Rattle.std.specs.Prelude.{ℕ, Bool, true, false, not, ◌||◌, ◌&&◌, ◌==◌, if◌then◌else◌, Option, Some, None, nat_lt}
use Rattle.jop_base.specs.declared.path.Path.TheVariants.{Blob as BlobPath}
use Rattle.jop_base.specs.declared.dir.Dir.{Dir}
use Rattle.jop_target.specs.Store.{limit_of}
use Rattle.jop_target.specs.declared.call.Call.{Call}
use Rattle.jop_target.specs.declared.call.Call.TheVariants as calls
use Rattle.http_exchange.specs.declared.told.Told.{Told}
use Rattle.webdav_calls.specs.declared.outcome.Outcome.{Outcome}
use Rattle.webdav_calls.specs.declared.outcome.Outcome.TheVariants.{Listing, Content, Blob, TooLong, Absent, Done, Failed}

abbrev pub done_if : Bool → Outcome
done_if true = Done
done_if false = Failed

-- what is told of a file whose body has this length, if it has one: too long, past the limit
abbrev pub content_outcome : Option ℕ → ℕ → Outcome → Outcome
content_outcome None limit content = content
content_outcome (Some length) limit content =
    if nat_lt limit length then TooLong length else content

-- 200, and 404 of a file that isn't there; a body that goes on until the link ends is none of a file, since it may be
-- cut
abbrev pub file_outcome : Told → ℕ → Outcome → Outcome
file_outcome told limit content =
    if (told.status == 200) && not told.endless then content_outcome told.length limit content
    else if told.status == 404 then Absent else Failed

-- 207; a folder that isn't there is no empty one
abbrev pub listed_outcome : ℕ → Dir → Outcome
listed_outcome status dir = if status == 207 then Listing dir else Failed

-- 200 and 204, and 404 of a file that isn't there
abbrev pub deleted_outcome : ℕ → Outcome
deleted_outcome status =
    if status == 404 then Absent else done_if ((status == 200) || (status == 204))

-- 200, 201 and 204
abbrev pub put_outcome : ℕ → Outcome
put_outcome status = done_if (((status == 200) || (status == 201)) || (status == 204))

-- 201, and 405 of a folder that is there
abbrev pub made_outcome : ℕ → Outcome
made_outcome status = done_if ((status == 201) || (status == 405))

-- what the head of a response to this call means
abbrev pub call_outcome : Call → Told → Outcome
call_outcome (calls.List dir) told = listed_outcome told.status dir
call_outcome (calls.Get path) told = file_outcome told (limit_of path) Content
call_outcome (calls.Put path content) told = put_outcome told.status
call_outcome (calls.Delete path) told = deleted_outcome told.status
call_outcome (calls.MakeDir dir) told = made_outcome told.status
call_outcome (calls.GetBlob id) told = file_outcome told (limit_of (BlobPath id)) Blob
call_outcome (calls.PutBlob id len) told = put_outcome told.status
