-- The steps by which a session does all that it does.
use Rattle.std.specs.Prelude.{ℕ, ◌≡◌, List, Bool, true, false, Option, Some, Result, Ok, Err}
use Rattle.conflicts.specs.declared.error.StepErr.{StepErr}
use Rattle.client.specs.Sites.{SiteNow}
use Rattle.jop_base.specs.declared.dir.Dir.{Dir}
use Rattle.jop_base.specs.declared.dir.Dir.TheVariants.{Root}
use Rattle.jop_base.specs.declared.path.Path.{Path}
use Rattle.jop_base.specs.declared.path.Path.TheVariants.{Info, OldVersion, Item, Blob}
use Rattle.jop_target.specs.Trail.{EndsWith}
use Rattle.jop_target.specs.declared.call.Call.{Call}
use Rattle.jop_target.specs.declared.call.Call.TheVariants.{List as ListDir, Get, Put, Delete, GetBlob}
use Rattle.jop_target.specs.declared.reply.Reply.{Reply}
use Rattle.jop_target.specs.declared.reply.Reply.TheVariants.{GotBlob}
use Rattle.law_licences.specs.Checks.{last_on}
use Rattle.law_licences.specs.Items.{is_resource}
use Rattle.law_licences.specs.Licences.{MayCall}
use Rattle.law_licences.specs.Trails.{session_calls}
use Rattle.law_licences.specs.Views.{Shown, Working, stage_after}
use Rattle.local_store.specs.Rows.{item_of}
use Rattle.local_store.specs.Tables.{base_of, row_at}
use Rattle.local_store.specs.declared.change.Change.{Change}
use Rattle.local_store.specs.declared.content.Content.{Content}
use Rattle.session.specs.Asking.{IsAnswer}
use Rattle.session.specs.Doing.{Does, Ends, EndsAt, EndsGiving, GivesNothing}
use Rattle.session.specs.Findings.{IsSoundFinding, finding_of}
use Rattle.session.specs.Making.{MayMakeAllBy, MayMakeBy}
use Rattle.session.specs.Parts.{Changes, ForEach, Hears, Nothing, Part}
use Rattle.session.specs.Work.{WorkNow, knowing, view_of}
use Rattle.session.specs.declared.finding.Finding.{Finding}
use Rattle.keeper.specs.Keepers.{IsBlobOfKept}

-- ---- a call

abbrev pub is_root : Dir → Bool
is_root Root = true
is_root dir = false

-- a file that tells the target's version
abbrev pub is_version_path : Path → Bool
is_version_path Info = true
is_version_path OldVersion = true
is_version_path path = false

-- a file that is put as it is
abbrev pub is_put_whole : Path → Bool
is_put_whole Info = true
is_put_whole (Item id) = true
is_put_whole path = false

-- an item's file, or the bytes of a resource
abbrev pub is_data : Path → Bool
is_data (Item id) = true
is_data (Blob id) = true
is_data path = false

-- A call that is all of its step: it is none on locks or temporary files, moves no bytes of a resource, and gets no
-- item's file, which is judged in the same step.
abbrev pub is_whole_step : Call → Bool
is_whole_step (ListDir dir) = is_root dir
is_whole_step (Get path) = is_version_path path
is_whole_step (Put path content) = is_put_whole path
is_whole_step (Delete path) = is_data path
is_whole_step call = false

-- the call has its licence, whatever the session was shown
abbrev pub MayAsk : WorkNow → Call → Type 0
MayAsk w call = (shown : Option Shown) → MayCall (view_of shown w.site) call

-- the call was answered, and its reply is the last one
pub record HasHeard (call : Call) (sort : Call → Bool) (old new : WorkNow) : Type 0 where
  pub reply : Reply
  pub answer : IsAnswer call reply
  pub ends : EndsWith new.site.line.trail call reply
  pub does : Does (Hears call reply) sort old new

-- each answer, by its cause
abbrev pub HearsOr : Call → (Call → Bool) → WorkNow → Result (Unit {0}) StepErr → WorkNow → Type 0
HearsOr call sort old (Ok done) new = HasHeard call sort old new
HearsOr call sort old (Err e) new = GivesNothing sort old e new

-- ---- more than a call

-- the item's file is got, and is this to the row of its id
abbrev pub FindsFile : List ℕ → Finding → Part
FindsFile id finding v ds =
    (reply : Reply) × IsAnswer (Get (Item id)) reply
    × (finding ≡ finding_of id (base_of (row_at v.tables id)) reply)
    × IsSoundFinding id finding × Hears (Get (Item id)) reply v ds

-- the session's last call on the item's file got this, which is this to the row of its id
pub record IsFound (id : List ℕ) (finding : Finding) (d : SiteNow) : Type 0 where
  pub reply : Reply
  pub found : finding ≡ finding_of id (base_of (row_at d.tables id)) reply
  pub last : last_on id (session_calls d.line.trail)
      ≡ Some (record { call = Get (Item id); reply = Some reply })

-- the reply gave the bytes of a resource
abbrev pub gave_bytes : Reply → Bool
gave_bytes (GotBlob now len) = true
gave_bytes reply = false

-- the bytes of a resource are asked for, and those that are got are saved
abbrev pub Fetches : List ℕ → Part
Fetches id v ds =
    (reply : Reply) × (IsAnswer (GetBlob id) reply × Hears (GetBlob id) reply v ds)

-- those of a resource are asked for, and nothing of what is none
abbrev pub GetsBytes : List ℕ → Bool → Part
GetsBytes id true = Fetches id
GetsBytes id false = Nothing

-- the bytes that belong to an item, if it is a resource
abbrev pub GetsBytesOf : List ℕ → Content → Part
GetsBytesOf id content = GetsBytes id (is_resource (item_of content))

-- these bytes of a resource are kept, if that is told, and all is as it was; or why it gave none
abbrev pub LoadsOr : List ℕ → (Call → Bool) → WorkNow → Result (Option (List ℕ)) StepErr →
    WorkNow → Type 0
LoadsOr id sort old (Ok bytes) new = (new ≡ old) × IsBlobOfKept old.site.keeper.kept id bytes
LoadsOr id sort old (Err e) new = GivesNothing sort old e new

-- ---- by a sort of calls, whichever

-- the item's file is found so, or why it gave nothing
abbrev pub FindsOr : List ℕ → WorkNow → Result Finding StepErr → WorkNow → Type 0
FindsOr id old result new =
    (sort : Call → Bool) → sort (Get (Item id)) ≡ true
    → EndsGiving (FindsFile id) sort old result new

-- the bytes of a resource are got and saved
abbrev pub FetchesOr : List ℕ → WorkNow → Result (Unit {0}) StepErr → WorkNow → Type 0
FetchesOr id old result new =
    (sort : Call → Bool) → sort (GetBlob id) ≡ true → Ends (Fetches id) sort old result new

-- those that belong to an item are
abbrev pub FetchesOfOr : List ℕ → Content → WorkNow → Result (Unit {0}) StepErr → WorkNow → Type 0
FetchesOfOr id content old result new =
    (sort : Call → Bool) → sort (GetBlob id) ≡ true
    → Ends (GetsBytesOf id content) sort old result new

-- a call of the sort is answered
abbrev pub AsksOr : Call → WorkNow → Result (Unit {0}) StepErr → WorkNow → Type 0
AsksOr call old result new =
    (sort : Call → Bool) → sort call ≡ true → HearsOr call sort old result new

-- ---- changes

-- the change is made, if it has its licence by what the session was shown; it may be the session's last one
abbrev pub MakesLicensed : Change → WorkNow → Result (Unit {0}) StepErr → WorkNow → Type 0
MakesLicensed change old result new =
    (known : Option Shown) (sort : Call → Bool) → MayMakeBy known old.site change
    → EndsAt (stage_after Working change) (Changes change) sort (knowing known old) result
    (knowing known new)

-- these are made one after the other, if each has its licence at its turn
abbrev pub MakesEachOr : List Change → WorkNow → Result (Unit {0}) StepErr → WorkNow → Type 0
MakesEachOr changes old result new =
    (known : Option Shown) (sort : Call → Bool) → MayMakeAllBy known old.site changes
    → Ends (ForEach Changes changes) sort (knowing known old) result (knowing known new)
