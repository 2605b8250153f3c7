-- One request and its answer over a link.
use Rattle.std.specs.Prelude.{ℕ, ◌≡◌, ◌≤◌, ◌⊎◌, List, length, Result, Ok, Err}
use Rattle.http1.specs.declared.conn.Limits.{Limits}
use Rattle.http1.specs.Client.{new_client}
use Rattle.http1.specs.Fields.{Header}
use Rattle.jop_outside.specs.Writing.{Appends, WasCut}
use Rattle.dav_link.specs.Links.{LinkNow, sink_of}
use Rattle.dav_link.specs.declared.error.LinkErr.{LinkErr}
use Rattle.dav_link.specs.declared.error.LinkErr.TheVariants.{Fault, NoMemory, TooLong}
use Rattle.http_exchange.specs.Causes.{FailsAnswer}
use Rattle.http_exchange.specs.Steps.{GivesAnswer}
use Rattle.http_exchange.specs.Texts.{IsUnwritable, exchange_text}
use Rattle.http_exchange.specs.declared.receiving.Received.{Received}

-- a head, trailers, and what stands behind the sizes of chunks have at most 16,384 bytes
abbrev pub exchange_limits : Limits
exchange_limits = record {
  max_head_len = 16384;
  max_extensions_len = 16384;
  max_trailers_len = 16384;
}

-- a request of this text was written whole, and then its answer came
pub record HasExchanged (text : List ℕ) (old : LinkNow) (limit : ℕ) (received : Received)
    (new : LinkNow) : Type 0 where
  pub mid : LinkNow
  pub left : mid.left ≡ old.left
  pub opened : mid.opened ≡ old.opened
  pub written : Appends old.written text mid.written
  pub answer : GivesAnswer exchange_limits mid limit received new

-- a request of this text was written whole, and then no answer came
pub record HasAskedInVain (text : List ℕ) (old : LinkNow) (limit most : ℕ) (new : LinkNow)
    : Type 0 where
  pub mid : LinkNow
  pub left : mid.left ≡ old.left
  pub opened : mid.opened ≡ old.opened
  pub written : Appends old.written text mid.written
  pub none : FailsAnswer exchange_limits mid limit most new

-- A fault comes if `http1` refuses to write the request, if the link failed while it was written, or if no answer came
-- behind it.
abbrev pub ExchangesOnce : List ℕ → List ℕ → List Header → List ℕ → LinkNow → ℕ → ℕ
    → Result Received LinkErr → LinkNow → Type 0
ExchangesOnce method target headers body old limit most (Ok received) new =
    HasExchanged (exchange_text (new_client exchange_limits) method target headers body) old limit
    received new
    × (length received.body ≤ limit)
ExchangesOnce method target headers body old limit most (Err Fault) new =
    (IsUnwritable (new_client exchange_limits) method target headers body × (new ≡ old))
    ⊎ (WasCut (sink_of old) (exchange_text (new_client exchange_limits) method target headers body)
    (sink_of new)
    ⊎ HasAskedInVain (exchange_text (new_client exchange_limits) method target headers body) old
    limit most new)
ExchangesOnce method target headers body old limit most (Err NoMemory) new = Unit {0}
ExchangesOnce method target headers body old limit most (Err TooLong) new = ⊥
