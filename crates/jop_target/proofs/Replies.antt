-- What a reply may be, by its call.
use Rattle.std.proofs.Common.{◌≤◌, ◌<◌, ℕ, List, length}
use Rattle.jop_base.specs.declared.dir.Dir.{Dir}
use Rattle.jop_base.specs.declared.path.Path.{Path}
use Rattle.jop_base.specs.declared.path.Path.TheVariants.{Blob}
use Rattle.jop_base.specs.Times.{last_time}
use Rattle.jop_target.specs.declared.call.Call.TheVariants.{List as ListDir, Get, Put, Delete, MakeDir, GetBlob, PutBlob}
use Rattle.jop_target.specs.declared.reply.Listing.{Listing}
use Rattle.jop_target.specs.declared.reply.Reply.{Reply}
use Rattle.jop_target.specs.declared.reply.Reply.TheVariants.{Listed, Got, GotBlob, Absent, Done, Failed, TooLarge}
use Rattle.jop_target.specs.Replies.{IsListing, IsReplyTo}
use Rattle.jop_target.specs.Store.{limit_of}

-- each says of every reply to a call what is shown of those that may come

pub listed_or_failed : (P : Reply → Type 0) (dir : Dir) →
    P Failed → ((listing : Listing) → IsListing dir listing → P (Listed listing)) →
    (reply : Reply) → IsReplyTo (ListDir dir) reply → P reply
listed_or_failed P dir failed listed Failed shape = failed
listed_or_failed P dir failed listed (Listed listing) shape = listed listing shape
listed_or_failed P dir failed listed reply shape = absurd shape

pub got_absent_or_failed : (P : Reply → Type 0) (path : Path) →
    P Failed →
    ((now : ℕ) (content : List ℕ) →
    now ≤ last_time → length content ≤ limit_of path → P (Got now content)) →
    ((now : ℕ) → now ≤ last_time → P (Absent now)) →
    ((len : ℕ) → limit_of path < len → P (TooLarge len)) →
    (reply : Reply) → IsReplyTo (Get path) reply → P reply
got_absent_or_failed P path failed got absent large Failed shape = failed
got_absent_or_failed P path failed got absent large (Got now content) shape =
    got now content shape.0 shape.1
got_absent_or_failed P path failed got absent large (Absent now) shape = absent now shape
got_absent_or_failed P path failed got absent large (TooLarge len) shape = large len shape
got_absent_or_failed P path failed got absent large reply shape = absurd shape

pub done_or_failed : (P : Reply → Type 0) (path : Path) (content : List ℕ) →
    P Failed → ((now : ℕ) → now ≤ last_time → P (Done now)) →
    (reply : Reply) → IsReplyTo (Put path content) reply → P reply
done_or_failed P path content failed done Failed shape = failed
done_or_failed P path content failed done (Done now) shape = done now shape
done_or_failed P path content failed done reply shape = absurd shape

pub done_absent_or_failed : (P : Reply → Type 0) (path : Path) →
    P Failed →
    ((now : ℕ) → now ≤ last_time → P (Done now)) →
    ((now : ℕ) → now ≤ last_time → P (Absent now)) →
    (reply : Reply) → IsReplyTo (Delete path) reply → P reply
done_absent_or_failed P path failed done absent Failed shape = failed
done_absent_or_failed P path failed done absent (Done now) shape = done now shape
done_absent_or_failed P path failed done absent (Absent now) shape = absent now shape
done_absent_or_failed P path failed done absent reply shape = absurd shape

pub made_or_failed : (P : Reply → Type 0) (dir : Dir) →
    P Failed → ((now : ℕ) → now ≤ last_time → P (Done now)) →
    (reply : Reply) → IsReplyTo (MakeDir dir) reply → P reply
made_or_failed P dir failed done Failed shape = failed
made_or_failed P dir failed done (Done now) shape = done now shape
made_or_failed P dir failed done reply shape = absurd shape

pub got_blob_absent_or_failed : (P : Reply → Type 0) (id : List ℕ) →
    P Failed →
    ((now len : ℕ) → now ≤ last_time → len ≤ limit_of (Blob id) → P (GotBlob now len)) →
    ((now : ℕ) → now ≤ last_time → P (Absent now)) →
    ((len : ℕ) → limit_of (Blob id) < len → P (TooLarge len)) →
    (reply : Reply) → IsReplyTo (GetBlob id) reply → P reply
got_blob_absent_or_failed P id failed got absent large Failed shape = failed
got_blob_absent_or_failed P id failed got absent large (GotBlob now len) shape =
    got now len shape.0 shape.1
got_blob_absent_or_failed P id failed got absent large (Absent now) shape = absent now shape
got_blob_absent_or_failed P id failed got absent large (TooLarge len) shape = large len shape
got_blob_absent_or_failed P id failed got absent large reply shape = absurd shape

pub blob_done_or_failed : (P : Reply → Type 0) (id : List ℕ) (len : ℕ) →
    P Failed → ((now : ℕ) → now ≤ last_time → P (Done now)) →
    (reply : Reply) → IsReplyTo (PutBlob id len) reply → P reply
blob_done_or_failed P id len failed done Failed shape = failed
blob_done_or_failed P id len failed done (Done now) shape = done now shape
blob_done_or_failed P id len failed done reply shape = absurd shape
