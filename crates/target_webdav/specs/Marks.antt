-- What is remembered of a server, by which a false clock is known, and a listing of another folder. An honest server
-- stamps a file no earlier than any moment that it told before the file was put, and what is there it shows.
use Rattle.std.specs.Prelude.{ℕ, ◌-◌, Bool, true, false, not, ◌&&◌, ◌||◌, List, Option, Some, None, nat_le, nat_lt, nat_eq, bytes_eq, if◌then◌else◌}
use Rattle.std.specs.List.{list_all, list_any}
use Rattle.jop_base.specs.LockNames.{Name, kind_digit}
use Rattle.jop_base.specs.Times.{last_time}
use Rattle.jop_base.specs.declared.dir.Dir.TheVariants.{Root}
use Rattle.jop_base.specs.declared.path.Path.{Path}
use Rattle.jop_base.specs.declared.path.Path.TheVariants.{Info, Lock}
use Rattle.jop_target.specs.Trail.{moment_of}
use Rattle.jop_target.specs.declared.call.Call.{Call}
use Rattle.jop_target.specs.declared.call.Call.TheVariants as calls
use Rattle.jop_target.specs.declared.reply.Entry.{Entry}
use Rattle.jop_target.specs.declared.reply.Listing.{Listing}
use Rattle.jop_target.specs.declared.reply.Reply.{Reply}
use Rattle.jop_target.specs.declared.reply.Reply.TheVariants as replies
use Rattle.target_webdav.specs.declared.mark.Mark.{Mark}
use Rattle.target_webdav.specs.declared.mark.OwnLock.{OwnLock}

-- nothing is remembered yet
abbrev pub no_mark : Mark
no_mark = record { heard = 0; own = None; info = false }

-- ---- what a reply must agree with

-- whether both are names of one lock
abbrev pub is_same_lock : Name → Name → Bool
is_same_lock a b =
    (bytes_eq a.client b.client && nat_eq (kind_digit a.kind) (kind_digit b.kind))
    && nat_eq a.client_type b.client_type

-- a lock is stamped no earlier than what was told before it was put, and at most a minute past the listing
abbrev pub is_stamp_between : ℕ → ℕ → ℕ → Bool
is_stamp_between floor now stamp = nat_le floor stamp && nat_le (stamp - 60_000) now

-- of the locks that a listing shows the one that was put last is stamped so
abbrev pub is_lock_between : Option OwnLock → ℕ → Name → ℕ → Bool
is_lock_between None now name stamp = true
is_lock_between (Some own) now name stamp =
    not (is_same_lock own.name name) || is_stamp_between own.floor now stamp

abbrev pub is_file_between : Option OwnLock → ℕ → Path → ℕ → Bool
is_file_between own now (Lock name) stamp = is_lock_between own now name stamp
is_file_between own now path stamp = true

-- a file was written before the end of all times, and the lock that was put last is stamped as it must be
abbrev pub is_entry_true : Option OwnLock → ℕ → Entry → Bool
is_entry_true own now e = nat_le e.stamp last_time && is_file_between own now e.path e.stamp

abbrev pub is_info : Path → Bool
is_info Info = true
is_info path = false

-- a listing of the root shows `info.json`, if that was got before
abbrev pub expects_info : Mark → Call → Bool
expects_info mark (calls.List Root) = mark.info
expects_info mark call = false

abbrev pub shows_info : List Entry → Bool
shows_info entries = list_any (λ e. is_info e.path) entries

-- it shows `info.json` if it must
abbrev pub shows_if : Bool → List Entry → Bool
shows_if info entries = not info || shows_info entries

abbrev pub are_entries_true : Option OwnLock → ℕ → List Entry → Bool
are_entries_true own now entries = list_all (λ e. is_entry_true own now e) entries

abbrev pub is_listing_true : Option OwnLock → Bool → Listing → Bool
is_listing_true own info listing =
    are_entries_true own listing.now listing.entries && shows_if info listing.entries

abbrev pub is_shown_true : Option OwnLock → Bool → Reply → Bool
is_shown_true own info (replies.Listed listing) = is_listing_true own info listing
is_shown_true own info reply = true

abbrev pub is_before_end : Option ℕ → Bool
is_before_end None = true
is_before_end (Some now) = nat_le now last_time

-- whether a reply agrees with what is remembered
abbrev pub is_reply_true : Mark → Call → Reply → Bool
is_reply_true mark call reply =
    is_before_end (moment_of reply) && is_shown_true mark.own (expects_info mark call) reply

-- ---- what is remembered then

-- the latest moment that was told
abbrev pub heard_after : ℕ → Option ℕ → ℕ
heard_after heard None = heard
heard_after heard (Some now) = if nat_lt heard now then now else heard

abbrev pub lock_name_of : Path → Option Name
lock_name_of (Lock name) = Some name
lock_name_of path = None

-- the lock that a call puts
abbrev pub put_lock : Call → Option Name
put_lock (calls.Put path content) = lock_name_of path
put_lock call = None

abbrev pub has_done : Reply → Bool
has_done (replies.Done now) = true
has_done reply = false

abbrev pub own_with : Option OwnLock → Option Name → ℕ → Option OwnLock
own_with own None heard = own
own_with own (Some name) heard = Some (record { name = name; floor = heard })

-- the lock that was put last, with the latest moment that was told before
abbrev pub own_lock_after : Mark → Call → Reply → Option OwnLock
own_lock_after mark call reply =
    if has_done reply then own_with mark.own (put_lock call) mark.heard else mark.own

abbrev pub gets_info : Call → Bool
gets_info (calls.Get path) = is_info path
gets_info call = false

abbrev pub takes_info_away : Call → Bool
takes_info_away (calls.Delete path) = is_info path
takes_info_away call = false

abbrev pub is_got : Reply → Bool
is_got (replies.Got now content) = true
is_got reply = false

-- whether `info.json` is there
abbrev pub info_after : Bool → Call → Reply → Bool
info_after info call reply =
    not (takes_info_away call) && (info || (gets_info call && is_got reply))

-- what is remembered once a call was answered
abbrev pub mark_after : Mark → Call → Reply → Mark
mark_after mark call reply = record {
  heard = heard_after mark.heard (moment_of reply);
  own = own_lock_after mark call reply;
  info = info_after mark.info call reply;
}
