-- What is asked of every target.
use Rattle.std.specs.Prelude.{ℕ, ◌≤◌, ◌<◌, ◌≡◌, ◌⊎◌, List, length, All, Bool, true, false, Option, Some, None, Result, Ok, Err}
use Rattle.std.specs.declared.alloc.AllocError.{AllocError}
use Rattle.jop_base.specs.Keyed.{IsSorted}
use Rattle.jop_outside.specs.Outside.{HasRisen}
use Rattle.jop_base.specs.Paths.{IsPath, dir_of}
use Rattle.jop_base.specs.declared.dir.Dir.{Dir}
use Rattle.jop_base.specs.declared.path.Path.{Path}
use Rattle.jop_base.specs.declared.path.Path.TheVariants.{Blob}
use Rattle.jop_base.specs.Times.{last_time}
use Rattle.jop_target.specs.declared.call.Call.{Call}
use Rattle.jop_target.specs.declared.call.Call.TheVariants.{List as ListDir, Get, Put, Delete, MakeDir, GetBlob, PutBlob}
use Rattle.jop_target.specs.declared.reply.Reply.{Reply}
use Rattle.jop_target.specs.declared.reply.Reply.TheVariants.{Listed, Got, GotBlob, Absent, Done, Failed, TooLarge}
use Rattle.jop_target.specs.declared.reply.Entry.{Entry}
use Rattle.jop_target.specs.declared.reply.Listing.{Listing}
use Rattle.jop_target.specs.Store.{Contents, Store, entry_key, limit_of, store_after, store_reply, bytes_of}

-- what a target holds, if it tells, and how often it has failed
pub record TargetNow : Type 0 where
  pub store : Option Store
  pub faults : ℕ

-- ---- which calls may be made

abbrev pub names_blob : Path → Bool
names_blob (Blob id) = true
names_blob path = false

-- a blob is got and put by its own calls, and put with the bytes that are handed in
abbrev pub IsCallable : Call → List ℕ → Type 0
IsCallable (Get path) blob = names_blob path ≡ false
IsCallable (Put path content) blob = names_blob path ≡ false
IsCallable (PutBlob id len) blob = len ≡ length blob
IsCallable call blob = Unit {0}

-- ---- which replies fit which call

-- each path's text stands before the next one's, so each path stands once
abbrev pub IsRising : List Entry → Type 0
IsRising entries = IsSorted entry_key entries

-- files of that folder alone, in the order of their texts
pub record IsListing (dir : Dir) (listing : Listing) : Type 0 where
  pub now : listing.now ≤ last_time
  pub paths : All (λ (e : Entry). IsPath e.path) listing.entries
  pub inside : All (λ (e : Entry). dir_of e.path ≡ dir) listing.entries
  pub stamps : All (λ (e : Entry). e.stamp ≤ last_time) listing.entries
  pub rising : IsRising listing.entries

-- `Failed` fits every call. `TooLarge` comes only for a file that is longer than its limit.
abbrev pub IsReplyTo : Call → Reply → Type 0
IsReplyTo call Failed = Unit {0}
IsReplyTo (ListDir dir) (Listed listing) = IsListing dir listing
IsReplyTo (Get path) (Got now content) = (now ≤ last_time) × (length content ≤ limit_of path)
IsReplyTo (Get path) (Absent now) = now ≤ last_time
IsReplyTo (Get path) (TooLarge len) = limit_of path < len
IsReplyTo (Put path content) (Done now) = now ≤ last_time
IsReplyTo (Delete path) (Done now) = now ≤ last_time
IsReplyTo (Delete path) (Absent now) = now ≤ last_time
IsReplyTo (MakeDir dir) (Done now) = now ≤ last_time
IsReplyTo (GetBlob id) (GotBlob now len) = (now ≤ last_time) × (len ≤ limit_of (Blob id))
IsReplyTo (GetBlob id) (Absent now) = now ≤ last_time
IsReplyTo (GetBlob id) (TooLarge len) = limit_of (Blob id) < len
IsReplyTo (PutBlob id len) (Done now) = now ≤ last_time
IsReplyTo call reply = ⊥

-- a count rises when `Failed` is answered, and stays at every other answer and without one
pub record HasReplyCause (before : ℕ) (result : Result Reply AllocError) (after : ℕ) : Type 0 where
  pub later : before ≤ after
  pub failed : result ≡ Ok Failed → HasRisen before after
  pub stays : ¬ (result ≡ Ok Failed) → after ≡ before

-- ---- what a target answers that tells what it holds

-- The reply is the store's, and the store is that after the call. Without a reply the call landed,
-- or was never asked.
abbrev pub Answers : Option Store → Call → List ℕ → Result Reply AllocError → Option Store → Type 0
Answers None call blob result after = after ≡ None
Answers (Some s) call blob (Ok reply) after =
    (reply ≡ store_reply s call) × (after ≡ Some (store_after s call blob))
Answers (Some s) call blob (Err e) after =
    (after ≡ Some (store_after s call blob)) ⊎ (after ≡ Some s)

-- what a store holds, if it is told
abbrev pub contents_in : Option Store → Option Contents
contents_in None = None
contents_in (Some s) = Some s.contents

-- the bytes that a got blob has, if they are told
abbrev pub IsBlobOf : Option Contents → Call → List ℕ → Type 0
IsBlobOf (Some c) (GetBlob id) bytes = bytes ≡ bytes_of c.blobs id
IsBlobOf contents call bytes = Unit {0}

-- without a reply, only a blob that was to be got may have changed the bytes
abbrev pub KeepsUnheard : Call → List ℕ → List ℕ → Type 0
KeepsUnheard (GetBlob id) before after = Unit {0}
KeepsUnheard call before after = after ≡ before

-- only a blob that was got changes the bytes that travel beside a call
abbrev pub KeepsBlob : Option Contents → Call → List ℕ → Result Reply AllocError → List ℕ → Type 0
KeepsBlob contents call before (Ok (GotBlob now len)) after =
    (len ≡ length after) × IsBlobOf contents call after
KeepsBlob contents call before (Ok reply) after = after ≡ before
KeepsBlob contents call before (Err e) after = KeepsUnheard call before after
