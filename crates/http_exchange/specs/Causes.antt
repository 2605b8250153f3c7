-- Why no answer came.
use Rattle.std.specs.Prelude.{ℕ, ◌<◌, ◌≡◌, ◌⊎◌, List, [], ◌∷◌, ◌++◌, length, Contains}
use Rattle.httparse.specs.Grammar.{ResponseHead, status_code}
use Rattle.http1.specs.Body.{Body, ReadsBody}
use Rattle.http1.specs.Message.{AcceptsResponse, Response}
use Rattle.http1.specs.declared.conn.Limits.{Limits}
use Rattle.http1.specs.declared.framing.Framing.{Framing}
use Rattle.http1.specs.declared.framing.MethodKind.TheVariants as Method
use Rattle.dav_link.specs.Links.{LinkNow, IsAtEnd}
use Rattle.dav_link.specs.Receiving.{HasBroken, HasReadBytes}
use Rattle.http_exchange.specs.Answers.{BeginsWithAnswer}

-- these bytes were read without a fault, and P holds of them
pub record HasReadSo (old : LinkNow) (P : List ℕ → Type 0) (new : LinkNow) : Type 0 where
  pub bytes : List ℕ
  pub read : HasReadBytes old bytes new
  pub stays : new.faults ≡ old.faults
  pub holds : P bytes

-- ---- heads

-- a head that isn't read over: it answers a request for another protocol, or has more than 128 fields
abbrev pub IsOddHead : ResponseHead → Type 0
IsOddHead head = (status_code head ≡ 101) ⊎ (128 < length head.fields)

-- whatever follows, the bytes begin with no head but an odd one
abbrev pub NeverHeads : Limits → List ℕ → Type 0
NeverHeads limits bytes =
    (more : List ℕ) (head : ResponseHead) (framing : Framing) (rest : List ℕ)
    → AcceptsResponse limits Method.Other (bytes ++ more) head framing rest → IsOddHead head

-- the bytes begin with no head
abbrev pub IsHeadless : Limits → List ℕ → Type 0
IsHeadless limits bytes =
    (head : ResponseHead) (framing : Framing) (rest : List ℕ)
    → ¬ (AcceptsResponse limits Method.Other bytes head framing rest)

-- the link failed, or ended before a head was whole, or no head comes
abbrev pub FailsHead : Limits → LinkNow → List ℕ → LinkNow → Type 0
FailsHead limits old kept new =
    HasBroken old new
    ⊎ (HasReadSo old (λ bytes. IsAtEnd new.left × IsHeadless limits (kept ++ bytes)) new
    ⊎ HasReadSo old (λ bytes. NeverHeads limits (kept ++ bytes)) new)

-- ---- bodies

-- a body that isn't kept: it has more than 128 trailers, or more bytes than the limit
abbrev pub IsLargeBody : ℕ → Body → Type 0
IsLargeBody limit body = (128 < length body.trailers) ⊎ (limit < length body.bytes)

-- whatever follows, the bytes begin with no body but a large one
abbrev pub NeverEnds : Limits → Framing → ℕ → List ℕ → Type 0
NeverEnds limits framing limit bytes =
    (more : List ℕ) (body : Body) (rest : List ℕ)
    → ReadsBody limits framing (bytes ++ more) body rest → IsLargeBody limit body

-- the bytes begin with no body
abbrev pub IsBodiless : Limits → Framing → List ℕ → Type 0
IsBodiless limits framing bytes =
    (body : Body) (rest : List ℕ) → ¬ (ReadsBody limits framing bytes body rest)

-- the link failed, or ended before the body was whole, or no body comes that is kept, or too many bytes came
abbrev pub FailsBody : Limits → Framing → LinkNow → List ℕ → ℕ → ℕ → LinkNow → Type 0
FailsBody limits framing old unread limit most new =
    HasBroken old new
    ⊎ (HasReadSo old (λ bytes. IsAtEnd new.left × IsBodiless limits framing (unread ++ bytes)) new
    ⊎ (HasReadSo old (λ bytes. NeverEnds limits framing limit (unread ++ bytes)) new
    ⊎ HasReadSo old (λ bytes. most < length bytes) new))

-- ---- answers

-- one of these heads has more than 128 fields
abbrev pub IsCrowded : List ResponseHead → ResponseHead → Type 0
IsCrowded heads last =
    (head : ResponseHead) × Contains (heads ++ last ∷ []) head × (128 < length head.fields)

-- whatever follows, the bytes begin with no answer but one with a crowded head or a large body
abbrev pub NeverAnswers : Limits → ℕ → List ℕ → Type 0
NeverAnswers limits limit bytes =
    (more : List ℕ) (response : Response) (rest : List ℕ)
    (answer : BeginsWithAnswer limits (bytes ++ more) response rest)
    → IsCrowded answer.heads response.head ⊎ IsLargeBody limit response.body

-- the bytes begin with no answer
abbrev pub IsAnswerless : Limits → List ℕ → Type 0
IsAnswerless limits bytes =
    (response : Response) (rest : List ℕ) → ¬ (BeginsWithAnswer limits bytes response rest)

-- the link failed, or ended before the answer was whole, or no answer comes that is kept, or too many bytes came
abbrev pub FailsAnswer : Limits → LinkNow → ℕ → ℕ → LinkNow → Type 0
FailsAnswer limits old limit most new =
    HasBroken old new
    ⊎ (HasReadSo old (λ bytes. IsAtEnd new.left × IsAnswerless limits bytes) new
    ⊎ (HasReadSo old (λ bytes. NeverAnswers limits limit bytes) new
    ⊎ HasReadSo old (λ bytes. most < length bytes) new))
