-- The answer to a request, in the bytes that came behind it: heads of 1xx, which say nothing, and then a response
-- (RFC 9110, 15.2).
use Rattle.std.specs.Prelude.{◌≡◌, ◌≤◌, ℕ, true, false, List, [], ◌∷◌, length, nat_lt}
use Rattle.httparse.specs.Grammar.{ResponseHead, status_code}
use Rattle.http1.specs.Client.{is_interim}
use Rattle.http1.specs.Message.{AcceptsResponse, Response, ReadsResponseMessage}
use Rattle.http1.specs.declared.conn.Limits.{Limits}
use Rattle.http1.specs.declared.framing.Framing.{Framing}
use Rattle.http1.specs.declared.framing.MethodKind.TheVariants as Method

-- the bytes begin with this head of 1xx
pub record HasInterim (limits : Limits) (bytes : List ℕ) (head : ResponseHead) (after : List ℕ)
    : Type 0 where
  pub framing : Framing
  pub accepts : AcceptsResponse limits Method.Other bytes head framing after
  pub interim : is_interim (status_code head) ≡ true

-- the bytes begin with these heads of 1xx, and this follows them
abbrev pub PassesInterims : Limits → List ResponseHead → List ℕ → List ℕ → Type 0
PassesInterims limits [] bytes rest = bytes ≡ rest
PassesInterims limits (head ∷ heads) bytes rest =
    (after : List ℕ) × HasInterim limits bytes head after × PassesInterims limits heads after rest

-- the bytes begin with this response, before which there are at most sixteen heads of 1xx
pub record BeginsWithAnswer (limits : Limits) (bytes : List ℕ) (response : Response) (rest : List ℕ)
    : Type 0 where
  pub heads : List ResponseHead
  pub few : length heads ≤ 16
  pub behind : List ℕ
  pub passes : PassesInterims limits heads bytes behind
  pub final : nat_lt (status_code response.head) 200 ≡ false
  pub reads : ReadsResponseMessage limits Method.Other behind response rest
