-- How calls, replies and events are printed.
use Rattle.std.specs.Prelude.{ℕ, List, ◌++◌, length, codes}
use Rattle.std.specs.Fmt.{decimal}
use Rattle.std.specs.List.{flat_map}
use Rattle.jop_base.specs.Paths.{dir_text, path_text}
use Rattle.jop_base.specs.declared.path.Path.TheVariants.{Blob}
use Rattle.jop_target.specs.declared.call.Call.{Call}
use Rattle.jop_target.specs.declared.call.Call.TheVariants.{List as ListDir, Get, Put, Delete, MakeDir, GetBlob, PutBlob}
use Rattle.jop_target.specs.declared.reply.Entry.{Entry}
use Rattle.jop_target.specs.declared.reply.Listing.{Listing}
use Rattle.jop_target.specs.declared.reply.Reply.{Reply}
use Rattle.jop_target.specs.declared.reply.Reply.TheVariants.{Listed, Got, GotBlob, Absent, Done, Failed, TooLarge}
use Rattle.jop_target.specs.declared.event.Event.{Event}
use Rattle.jop_target.specs.declared.event.Event.TheVariants.{Began, Sent, Called, Made, Ended}

-- how many bytes are put
abbrev pub put_text : ℕ → List ℕ
put_text len = codes ", " ++ (decimal len ++ codes " bytes")

-- what is done, where, and how many bytes are put
abbrev pub call_text : Call → List ℕ
call_text (ListDir dir) = codes "list " ++ (dir_text dir ++ codes "/")
call_text (Get path) = codes "get " ++ path_text path
call_text (Put path content) = codes "put " ++ (path_text path ++ put_text (length content))
call_text (Delete path) = codes "delete " ++ path_text path
call_text (MakeDir dir) = codes "make " ++ (dir_text dir ++ codes "/")
call_text (GetBlob id) = codes "get " ++ path_text (Blob id)
call_text (PutBlob id len) = codes "put " ++ (path_text (Blob id) ++ put_text len)

-- a file, and when it was written
abbrev pub entry_text : Entry → List ℕ
entry_text e = path_text e.path ++ (codes " of " ++ decimal e.stamp)

-- each behind a comma
abbrev pub entries_text : List Entry → List ℕ
entries_text entries = flat_map (λ (e : Entry). codes ", " ++ entry_text e) entries

-- the moment, and then each file
abbrev pub listing_text : Listing → List ℕ
listing_text l = codes "at " ++ (decimal l.now ++ entries_text l.entries)

-- what was answered, and when; of a file there is the number of its bytes
abbrev pub reply_text : Reply → List ℕ
reply_text (Listed listing) = codes "listed " ++ listing_text listing
reply_text (Got now content) =
    codes "got " ++ (decimal (length content) ++ (codes " bytes at " ++ decimal now))
reply_text (GotBlob now len) =
    codes "got blob of " ++ (decimal len ++ (codes " bytes at " ++ decimal now))
reply_text (Absent now) = codes "absent at " ++ decimal now
reply_text (Done now) = codes "done at " ++ decimal now
reply_text Failed = codes "failed"
reply_text (TooLarge len) = codes "too large, " ++ (decimal len ++ codes " bytes")

abbrev pub event_text : Event → List ℕ
event_text Began = codes "began"
event_text (Sent call) = codes "sent " ++ call_text call
event_text (Called call reply) = call_text call ++ (codes ": " ++ reply_text reply)
event_text (Made number) = codes "made " ++ decimal number
event_text Ended = codes "ended"
