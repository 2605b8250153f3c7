-- What each step of reading an answer comes to.
use Rattle.std.specs.Prelude.{ℕ, ◌≡◌, ◌↔◌, ◌⊎◌, Bool, IsTrue, ◌≤◌, ◌<◌, true, false, List, [], ◌++◌, length, Option, Some, None, Result, Ok, Err, nat_lt}
use Rattle.httparse.specs.Grammar.{Field, ResponseHead, status_code}
use Rattle.http1.specs.declared.client.Client.{Client}
use Rattle.http1.specs.declared.conn.Limits.{Limits}
use Rattle.http1.specs.declared.conn.Reading.TheVariants as Reads
use Rattle.http1.specs.declared.decode.Decoder.{Decoder}
use Rattle.http1.specs.declared.decode.Decoder.TheVariants.{UntilClose}
use Rattle.http1.specs.declared.framing.Framing.{Framing}
use Rattle.http1.specs.declared.framing.MethodKind.TheVariants as Method
use Rattle.http1.specs.Body.{Body, body_of, ReadsBody}
use Rattle.http1.specs.Conn.{awaits_head}
use Rattle.http1.specs.Decoder.{Completes, decoder_for, with_front}
use Rattle.http1.specs.Message.{AcceptsResponse, Response}
use Rattle.dav_link.specs.Links.{LinkNow}
use Rattle.dav_link.specs.Receiving.{HasReadBytes}
use Rattle.dav_link.specs.declared.error.LinkErr.{LinkErr}
use Rattle.dav_link.specs.declared.error.LinkErr.TheVariants.{Fault, NoMemory, TooLong}
use Rattle.http_exchange.specs.Answers.{BeginsWithAnswer, HasInterim, PassesInterims}
use Rattle.http_exchange.specs.Causes.{FailsAnswer, FailsBody, FailsHead, IsLargeBody}
use Rattle.http_exchange.specs.Heads.{told_in}
use Rattle.http_exchange.specs.declared.body.Look.{Look}
use Rattle.http_exchange.specs.declared.body.Look.TheVariants.{More, Piece, End}
use Rattle.http_exchange.specs.declared.receiving.Received.{Received}
use Rattle.http_exchange.specs.declared.told.Told.{Told}

-- the client has sent a request, and has read nothing of the answer
pub record IsAwaiting (c : Client) : Type 0 where
  pub head : c.reading ≡ Reads.Head
  pub sent : awaits_head c.writing ≡ false
  pub method : c.method ≡ Method.Other
  pub alone : c.wants_upgrade ≡ false

-- ---- heads

-- the bytes begin with a final head that tells this, and the client reads the body behind it
pub record TakesFinal (old : Client) (bytes : List ℕ) (told : Told) (new : Client) (after : List ℕ)
    : Type 0 where
  pub head : ResponseHead
  pub framing : Framing
  pub accepts : AcceptsResponse old.limits Method.Other bytes head framing after
  pub final : nat_lt (status_code head) 200 ≡ false
  pub tells : told ≡ told_in head
  pub reading : new.reading ≡ Reads.Body (decoder_for old.limits framing)
  pub limits : new.limits ≡ old.limits

-- the bytes begin with a head of 1xx, and the client is as it was
pub record TakesInterim (old : Client) (bytes : List ℕ) (new : Client) (after : List ℕ)
    : Type 0 where
  pub head : ResponseHead
  pub has : HasInterim old.limits bytes head after
  pub same : new ≡ old

abbrev pub TakesHead : Client → List ℕ → Option Told → Client → List ℕ → Type 0
TakesHead old bytes None new after = TakesInterim old bytes new after
TakesHead old bytes (Some told) new after = TakesFinal old bytes told new after

-- waiting for one head
abbrev pub AwaitsOneHead : Client → LinkNow → List ℕ → Result (Option Told) LinkErr → Client
    → LinkNow → List ℕ → Type 0
AwaitsOneHead old link kept (Ok told) new now after =
    (bytes : List ℕ) × HasReadBytes link bytes now × (now.faults ≡ link.faults)
    × TakesHead old (kept ++ bytes) told new after
AwaitsOneHead old link kept (Err Fault) new now after = FailsHead old.limits link kept now
AwaitsOneHead old link kept (Err NoMemory) new now after = Unit {0}
AwaitsOneHead old link kept (Err TooLong) new now after = ⊥

-- the bytes begin with heads of 1xx, so many at most, and then with the head of a response
pub record PassesHeads (old : Client) (bytes : List ℕ) (told : Told) (new : Client)
    (after : List ℕ) : Type 0 where
  pub heads : List ResponseHead
  pub few : length heads ≤ 16
  pub behind : List ℕ
  pub passes : PassesInterims old.limits heads bytes behind
  pub takes : TakesFinal old behind told new after

-- waiting for the head of the response
abbrev pub AwaitsFinal : Client → LinkNow → ℕ → ℕ → Result Told LinkErr → Client → LinkNow → List ℕ
    → Type 0
AwaitsFinal old link limit most (Ok told) new now after =
    (bytes : List ℕ) × HasReadBytes link bytes now × (now.faults ≡ link.faults)
    × PassesHeads old bytes told new after
AwaitsFinal old link limit most (Err Fault) new now after =
    FailsAnswer old.limits link limit most now
AwaitsFinal old link limit most (Err NoMemory) new now after = Unit {0}
AwaitsFinal old link limit most (Err TooLong) new now after = ⊥

-- ---- bodies

-- A look at the unread bytes found this piece of the body: whatever comes, the piece and a rest of the body make the
-- body as it was, and no other.
pub record FindsPiece (d : Decoder) (unread : List ℕ) (piece : List ℕ) (next : Decoder)
    (after : List ℕ) : Type 0 where
  pub back : (more : List ℕ) (body : Body) (rest : List ℕ)
      → Completes next (after ++ more) body rest
      → Completes d (unread ++ more) (with_front piece body) rest
  pub forth : (more : List ℕ) (whole : Body) (rest : List ℕ)
      → Completes d (unread ++ more) whole rest
      → (body : Body) × (whole ≡ with_front piece body) × Completes next (after ++ more) body rest

-- of a body that goes on until the link ends nothing stays unread
abbrev pub IsDrained : Decoder → List ℕ → Type 0
IsDrained UntilClose after = after ≡ []
IsDrained d after = Unit {0}

pub record HasMovedOn (c : Client) (d : Decoder) (unread body piece : List ℕ) (new : Client)
    (after got : List ℕ) : Type 0 where
  pub next : Decoder
  pub reading : new.reading ≡ Reads.Body next
  pub limits : new.limits ≡ c.limits
  pub finds : FindsPiece d unread piece next after
  pub joined : got ≡ body ++ piece

-- no piece was found, and the body doesn't end here, but perhaps with the link
pub record WantsMore (c : Client) (d : Decoder) (unread body : List ℕ) (new : Client)
    (after got : List ℕ) : Type 0 where
  pub moved : HasMovedOn c d unread body [] new after got
  pub drained : IsDrained moved.next after
  pub unfinished : ¬ (moved.next ≡ UntilClose)
      → (b : Body) (rest : List ℕ) → ¬ (Completes d unread b rest)

-- a piece of at least one byte was found, and all pieces are within the limit
pub record HasFoundPiece (c : Client) (d : Decoder) (unread body : List ℕ) (limit : ℕ)
    (new : Client) (after got : List ℕ) : Type 0 where
  pub piece : List ℕ
  pub moved : HasMovedOn c d unread body piece new after got
  pub some : 0 < length piece
  pub within : length got ≤ limit

-- whatever follows, no body comes that is kept
abbrev pub NeverKept : Decoder → List ℕ → List ℕ → ℕ → Type 0
NeverKept d unread body limit =
    (more : List ℕ) (b : Body) (rest : List ℕ) → Completes d (unread ++ more) b rest
    → IsLargeBody limit (with_front body b)

-- the body ends here
pub record HasFoundEnd (d : Decoder) (unread body after got : List ℕ) : Type 0 where
  pub trailers : List Field
  pub ends : (more : List ℕ) → Completes d (unread ++ more) (body_of [] trailers) (after ++ more)
  pub joined : got ≡ body

abbrev pub LooksAt : Client → Decoder → List ℕ → List ℕ → ℕ → Result Look LinkErr → Client → List ℕ
    → List ℕ → Type 0
LooksAt c d unread body limit (Ok More) new after got = WantsMore c d unread body new after got
LooksAt c d unread body limit (Ok Piece) new after got =
    HasFoundPiece c d unread body limit new after got
LooksAt c d unread body limit (Ok End) new after got = HasFoundEnd d unread body after got
LooksAt c d unread body limit (Err Fault) new after got = NeverKept d unread body limit
LooksAt c d unread body limit (Err NoMemory) new after got = Unit {0}
LooksAt c d unread body limit (Err TooLong) new after got = ⊥

-- what was unread behind the head and what came then begin with a body that carries this
pub record HasCarried (limits : Limits) (framing : Framing) (old : LinkNow) (unread : List ℕ)
    (carried : List ℕ) (new : LinkNow) (after : List ℕ) : Type 0 where
  pub bytes : List ℕ
  pub read : HasReadBytes old bytes new
  pub stays : new.faults ≡ old.faults
  pub body : Body
  pub rest : List ℕ
  pub reads : ReadsBody limits framing (unread ++ bytes) body rest
  pub alone : rest ≡ after
  pub carries : carried ≡ body.bytes

-- waiting for the body
abbrev pub AwaitsCarried : Limits → Framing → LinkNow → List ℕ → ℕ → ℕ → Result (List ℕ) LinkErr
    → LinkNow → List ℕ → Type 0
AwaitsCarried limits framing old unread limit most (Ok carried) new after =
    HasCarried limits framing old unread carried new after × (length carried ≤ limit)
AwaitsCarried limits framing old unread limit most (Err Fault) new after =
    FailsBody limits framing old unread limit most new
AwaitsCarried limits framing old unread limit most (Err NoMemory) new after = Unit {0}
AwaitsCarried limits framing old unread limit most (Err TooLong) new after = ⊥

-- ---- answers

-- the bytes that were read begin with an answer, which tells and carries this
pub record HasReceived (limits : Limits) (old : LinkNow) (received : Received) (new : LinkNow)
    : Type 0 where
  pub bytes : List ℕ
  pub read : HasReadBytes old bytes new
  pub stays : new.faults ≡ old.faults
  pub response : Response
  pub rest : List ℕ
  pub answer : BeginsWithAnswer limits bytes response rest
  pub tells : received.told ≡ told_in response.head
  pub body : received.body ≡ response.body.bytes
  pub goes_on : IsTrue received.ready ↔ ((received.told.lasting ≡ true) × (rest ≡ []))

-- whether a length is past a limit
abbrev pub is_longer_than : Option ℕ → ℕ → Bool
is_longer_than (Some length) limit = nat_lt limit length
is_longer_than None limit = false

-- The bytes that were read begin with heads of 1xx and with the head of a response, which tells this,
-- and whose body has a length past the limit. That isn't waited for.
pub record HasHeardLength (limits : Limits) (old : LinkNow) (limit : ℕ) (received : Received)
    (new : LinkNow) : Type 0 where
  pub bytes : List ℕ
  pub read : HasReadBytes old bytes new
  pub stays : new.faults ≡ old.faults
  pub heads : List ResponseHead
  pub few : length heads ≤ 16
  pub behind : List ℕ
  pub passes : PassesInterims limits heads bytes behind
  pub head : ResponseHead
  pub framing : Framing
  pub after : List ℕ
  pub accepts : AcceptsResponse limits Method.Other behind head framing after
  pub final : nat_lt (status_code head) 200 ≡ false
  pub tells : received.told ≡ told_in head
  pub past : is_longer_than received.told.length limit ≡ true
  pub none : received.body ≡ []
  pub closed : received.ready ≡ false

-- the answer came, or its length was told, which is past the limit
abbrev pub GivesAnswer : Limits → LinkNow → ℕ → Received → LinkNow → Type 0
GivesAnswer limits old limit received new =
    HasReceived limits old received new ⊎ HasHeardLength limits old limit received new

-- waiting for the answer
abbrev pub ReceivesAnswer : Limits → LinkNow → ℕ → ℕ → Result Received LinkErr → LinkNow → Type 0
ReceivesAnswer limits old limit most (Ok received) new =
    GivesAnswer limits old limit received new × (length received.body ≤ limit)
ReceivesAnswer limits old limit most (Err Fault) new = FailsAnswer limits old limit most new
ReceivesAnswer limits old limit most (Err NoMemory) new = Unit {0}
ReceivesAnswer limits old limit most (Err TooLong) new = ⊥
