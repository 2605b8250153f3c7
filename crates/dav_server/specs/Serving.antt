-- What a server does over one connection.
use Rattle.std.specs.Prelude.{ℕ, ◌-◌, ◌^◌, ◌≡◌, ◌⊎◌, max, List, [], ◌∷◌, ◌++◌, length, drop, Bool, true, false, Option, Some, None, Result, Ok, Err}
use Rattle.std.specs.declared.alloc.AllocError.{AllocError}
use Rattle.jop_outside.specs.Outside.{HasRisen}
use Rattle.jop_outside.specs.Writing.{Appends}
use Rattle.jop_target.specs.Trail.{LineNow, IsAnswered, IsSent, moment_of}
use Rattle.jop_target.specs.declared.call.Call.{Call}
use Rattle.jop_target.specs.declared.reply.Reply.{Reply}
use Rattle.jop_target.specs.Replies.{IsCallable}
use Rattle.dav_link.specs.Links.{LinkNow, TakesBytes, IsAtEnd}
use Rattle.dav_link.specs.Receiving.{HasBroken, HasKept, HasReadBytes}
use Rattle.dav_wire.specs.RequestReading.{RequestReadsAs}
use Rattle.dav_wire.specs.ResponseTexts.{IsResponse, IsResponseTo}
use Rattle.dav_wire.specs.declared.request.Request.{Request}
use Rattle.dav_wire.specs.declared.request_reader.ReadRequest.{ReadRequest}
use Rattle.dav_wire.specs.declared.request_reader.ReadRequest.TheVariants.{Whole, More, Bad}
use Rattle.dav_server.specs.declared.error.ServeErr.{ServeErr}
use Rattle.dav_server.specs.declared.error.ServeErr.TheVariants.{LinkFault, NoMemory}
use Rattle.dav_server.specs.declared.turn.Next.{Next}
use Rattle.dav_server.specs.declared.turn.Next.TheVariants.{Another, Over, Ended}

-- ---- one request

-- the greatest moment that the target told on a connection, after one reply more
abbrev pub later_date : ℕ → Option ℕ → ℕ
later_date date None = date
later_date date (Some now) = max date now

-- the call was made, and this is the response of the reply that stands in the trail
pub record HasAnswered (call : Call) (blob : List ℕ) (line : LineNow) (date : ℕ) (text : List ℕ)
    (after : LineNow) (last : ℕ) : Type 0 where
  pub reply : Reply
  pub bytes : List ℕ
  pub made : IsAnswered line call blob after bytes reply
  pub told : IsResponseTo call reply bytes date text
  pub moment : last ≡ later_date date (moment_of reply)

-- a request that asks for a call is answered by the reply, and one that is refused by its status
-- alone, without a call
abbrev pub Responds : Option Call → List ℕ → ℕ → LineNow → ℕ → List ℕ → LineNow → ℕ → Type 0
Responds (Some call) blob refusal line date text after last =
    HasAnswered call blob line date text after last
Responds None blob refusal line date text after last =
    (after ≡ line) × (last ≡ date) × IsResponse refusal date [] text

-- a connection between two requests: the bytes that came and weren't used, the line, and the
-- greatest moment that was told, 0 before the first
pub record ServedNow : Type 0 where
  pub bytes : List ℕ
  pub line : LineNow
  pub date : ℕ

-- what the bytes begin with is answered by this text
abbrev pub Serves : ReadRequest → ServedNow → List ℕ → ServedNow → Type 0
Serves (Whole request used) old text new =
    RequestReadsAs old.bytes (Whole request used) × (new.bytes ≡ drop used old.bytes)
    × Responds request.call request.blob request.refusal old.line old.date text new.line new.date
Serves (Bad status) old text new =
    RequestReadsAs old.bytes (Bad status) × (new ≡ old) × IsResponse status old.date [] text
Serves More old text new = ⊥

-- whether nothing more is read behind it
abbrev pub is_final : ReadRequest → Bool
is_final (Whole request used) = request.close
is_final (Bad status) = true
is_final More = false

-- ---- one request after another

-- whether the last request, which stands first, was one behind which nothing more is read
abbrev pub is_over : List ReadRequest → Bool
is_over [] = false
is_over (read ∷ reads) = is_final read

-- what was heard, the last first, was answered in order by this text, and each but the last was one
-- behind which more is read
unfoldable pub HasServed : List ReadRequest → ServedNow → List ℕ → ServedNow → Type 0
HasServed [] start text end = (end ≡ start) × (text ≡ [])
HasServed (read ∷ reads) start text end =
    (mid : ServedNow) × (earlier : List ℕ) × (last : List ℕ)
    × HasServed reads start earlier mid × (is_over reads ≡ false)
    × Serves read mid last end × (text ≡ earlier ++ last)

-- ---- a connection

-- Of a link these bytes were read, and the requests in them were answered by this text, from the
-- first on.
pub record Connection (old new : LinkNow) (line : LineNow) (text : List ℕ) (end : ServedNow)
    (reads : List ReadRequest) : Type 0 where
  pub heard : List ℕ
  pub served : HasServed reads (record { bytes = heard; line = line; date = 0 }) text end
  pub left : TakesBytes old.left heard new.left
  pub opened : new.opened ≡ old.opened

-- a server is done: behind a request that closes the connection or is refused as none, at the
-- link's end, or when it can't count on
abbrev pub IsServedOut : List ReadRequest → List ℕ → Option (List ℕ) → ℕ → Type 0
IsServedOut reads bytes left count =
    (is_over reads ≡ true) ⊎ ((RequestReadsAs bytes More × IsAtEnd left) ⊎ (count ≡ 2 ^ 64 - 1))

-- so many requests were answered, and the server is done
pub record WasServed (old new : LinkNow) (line after : LineNow) (count : ℕ) : Type 0 where
  pub reads : List ReadRequest
  pub text : List ℕ
  pub end : ServedNow
  pub connection : Connection old new line text end reads
  pub all : count ≡ length reads
  pub stands : after ≡ end.line
  pub written : Appends old.written text new.written
  pub stays : new.faults ≡ old.faults
  pub done : IsServedOut reads end.bytes new.left count

-- the link failed: with the last response cut, or before the next request was whole
pub record WasBroken (old new : LinkNow) (line after : LineNow) : Type 0 where
  pub reads : List ReadRequest
  pub sent : List ℕ
  pub rest : List ℕ
  pub end : ServedNow
  pub connection : Connection old new line (sent ++ rest) end reads
  pub stands : after ≡ end.line
  pub written : Appends old.written sent new.written
  pub rose : HasRisen old.faults new.faults

-- a call was made, and its reply isn't told: there was no memory for it or for its response
abbrev pub IsUntold : Call → List ℕ → LineNow → LineNow → Type 0
IsUntold call blob line after =
    (bytes : List ℕ) × (((reply : Reply) × IsAnswered line call blob after bytes reply)
    ⊎ ((e : AllocError) × IsSent line call blob after bytes e))

-- the next request's call was made, and its reply isn't told
abbrev pub HasUntold : ServedNow → LineNow → Type 0
HasUntold end after =
    (call : Call) × (blob : List ℕ) × (request : Request) × (used : ℕ)
    × RequestReadsAs end.bytes (Whole request used)
    × (request.call ≡ Some call) × (request.blob ≡ blob)
    × IsUntold call blob end.line after

-- there was no memory: the next request has no response, and its call wasn't made or isn't told
pub record WasStarved (old new : LinkNow) (line after : LineNow) : Type 0 where
  pub reads : List ReadRequest
  pub text : List ℕ
  pub end : ServedNow
  pub connection : Connection old new line text end reads
  pub stands : (after ≡ end.line) ⊎ HasUntold end after
  pub written : Appends old.written text new.written
  pub stays : new.faults ≡ old.faults

-- what serving a connection comes to
abbrev pub ServesAll : LinkNow → LineNow → Result ℕ ServeErr → LinkNow → LineNow → Type 0
ServesAll old line (Ok count) new after = WasServed old new line after count
ServesAll old line (Err LinkFault) new after = WasBroken old new line after
ServesAll old line (Err NoMemory) new after = WasStarved old new line after

-- ---- one turn

-- a request that may be answered: its call, if it asks for one, may be made
abbrev pub IsAnswerable : Option Call → List ℕ → Type 0
IsAnswerable (Some call) blob = IsCallable call blob
IsAnswerable None blob = Unit {0}

-- what answering a request comes to
abbrev pub AnswersOrNot : Option Call → List ℕ → ℕ → LineNow → ℕ → Result (List ℕ) AllocError
    → LineNow → ℕ → Type 0
AnswersOrNot call blob refusal line date (Ok text) after last =
    Responds call blob refusal line date text after last
AnswersOrNot call blob refusal line date (Err e) after last =
    (after ≡ line) ⊎ ((made : Call) × (call ≡ Some made) × IsUntold made blob line after)

-- what making a call, and telling its reply, comes to
abbrev pub CallsOrNot : Call → List ℕ → LineNow → ℕ → Result (List ℕ) AllocError → LineNow → ℕ
    → Type 0
CallsOrNot call blob line date result after last =
    AnswersOrNot (Some call) blob 0 line date result after last

-- the same of a whole request
abbrev pub RespondsOrNot : Request → LineNow → ℕ → Result (List ℕ) AllocError → LineNow → ℕ
    → Type 0
RespondsOrNot request line date result after last =
    AnswersOrNot request.call request.blob request.refusal line date result after last

-- bytes came behind those that were kept, and what they begin with is answered by this text
pub record HasTurned (old new : LinkNow) (before : List ℕ) (line : LineNow) (date : ℕ)
    (read : ReadRequest) (text after : List ℕ) (end : LineNow) (last : ℕ) : Type 0 where
  pub bytes : List ℕ
  pub serves : Serves read (record { bytes = before ++ bytes; line = line; date = date }) text
      (record { bytes = after; line = end; date = last })
  pub left : TakesBytes old.left bytes new.left
  pub opened : new.opened ≡ old.opened

pub record HasAnother (old new : LinkNow) (before : List ℕ) (line : LineNow) (date : ℕ)
    (over : Bool) (after : List ℕ) (end : LineNow) (last : ℕ) : Type 0 where
  pub read : ReadRequest
  pub text : List ℕ
  pub turned : HasTurned old new before line date read text after end last
  pub ends : is_final read ≡ over
  pub written : Appends old.written text new.written
  pub stays : new.faults ≡ old.faults

pub record HasNoOther (old new : LinkNow) (before : List ℕ) (line : LineNow) (date : ℕ)
    (after : List ℕ) (end : LineNow) (last : ℕ) : Type 0 where
  pub bytes : List ℕ
  pub kept : HasKept old before new after bytes
  pub more : RequestReadsAs after More
  pub ended : IsAtEnd new.left
  pub stands : end ≡ line
  pub moment : last ≡ date

pub record HasBrokenTurn (old new : LinkNow) (before : List ℕ) (line : LineNow) (date : ℕ)
    (end : LineNow) : Type 0 where
  pub read : ReadRequest
  pub sent : List ℕ
  pub rest : List ℕ
  pub after : List ℕ
  pub last : ℕ
  pub turned : HasTurned old new before line date read (sent ++ rest) after end last
  pub written : Appends old.written sent new.written
  pub rose : HasRisen old.faults new.faults

pub record HasStarvedTurn (old new : LinkNow) (before : List ℕ) (line end : LineNow) : Type 0 where
  pub bytes : List ℕ
  pub read : HasReadBytes old bytes new
  pub stays : new.faults ≡ old.faults
  pub made : (end ≡ line) ⊎ HasUntold
      (record { bytes = before ++ bytes; line = line; date = 0 }) end

-- what a turn comes to
abbrev pub TurnsAs : LinkNow → LinkNow → List ℕ → LineNow → ℕ → Result Next ServeErr → List ℕ
    → LineNow → ℕ → Type 0
TurnsAs old new before line date (Ok Another) after end last =
    HasAnother old new before line date false after end last
TurnsAs old new before line date (Ok Over) after end last =
    HasAnother old new before line date true after end last
TurnsAs old new before line date (Ok Ended) after end last =
    HasNoOther old new before line date after end last
TurnsAs old new before line date (Err LinkFault) after end last =
    (HasBroken old new × (end ≡ line)) ⊎ HasBrokenTurn old new before line date end
TurnsAs old new before line date (Err NoMemory) after end last =
    HasStarvedTurn old new before line end

-- the same of a link and a line, by what each tells of itself
abbrev pub Turns : {L N : Type 0} → (L → LinkNow) → (N → LineNow) → L → N → List ℕ → ℕ
    → Result Next ServeErr → L → N → List ℕ → ℕ → Type 0
Turns link_now line_now old line before date result new end after last =
    TurnsAs (link_now old) (link_now new) before (line_now line) date result after
    (line_now end) last
