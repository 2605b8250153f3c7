-- A client that has sent a request awaits its response.
use Rattle.std.proofs.Common.{◌≡◌, ◌∙◌, refl, sym, ap, ℕ, List, ◌++◌, Bool, true, false, ◌&&◌, not, Result, Ok, Err}
use Rattle.std.specs.Prelude.{if◌then◌else◌, ◌==◌}
use Rattle.std.proofs.lemmas.Bool.{false≢true}
use Rattle.http1.specs.declared.conn.BodySize.{BodySize}
use Rattle.http1.specs.declared.conn.BodySize.TheVariants.{Known}
use Rattle.http1.specs.declared.conn.Limits.{Limits}
use Rattle.http1.specs.declared.conn.Writing.{Writing}
use Rattle.http1.specs.declared.error.WriteError.{WriteError}
use Rattle.http1.specs.declared.error.WriteError.TheVariants as Refusal
use Rattle.http1.specs.declared.fields.KnownFields.{KnownFields}
use Rattle.http1.specs.declared.framing.Framing.{Framing}
use Rattle.http1.specs.declared.framing.FramingError.{FramingError}
use Rattle.http1.specs.declared.framing.MethodKind.{MethodKind}
use Rattle.http1.specs.declared.framing.MethodKind.TheVariants as Method
use Rattle.http1.specs.Client.{after_end, framing_headers, new_client, plan_fields, plan_framed, requesting, with_writing, writing}
use Rattle.http1.specs.Conn.{Plan, after_data, fits, is_plain}
use Rattle.http1.specs.Fields.{Header, known_fields}
use Rattle.http1.specs.Framing.{method_kind, request_framing}
use Rattle.http_exchange.specs.Steps.{IsAwaiting}
use Rattle.http_exchange.specs.Texts.{past_head, past_request, asks_to_upgrade}

framed_extra : (size : BodySize) (extra : List Header) (k : KnownFields) (r : Result Framing FramingError)
    (p : Plan) → plan_framed size extra k r ≡ Ok p → p.extra ≡ extra
framed_extra size extra k (Err e) p h = absurd (cc)
framed_extra size extra k (Ok framing) p h = by_fit (fits framing size) (is_plain k) h
  where
    by_fit : (a b : Bool) → (if not a then Err Refusal.BodySize
        else (if not b then Err Refusal.UnusualFraming
        else Ok (record { extra = extra; framing = framing; keep_alive = not k.close }))) ≡ Ok p
        → p.extra ≡ extra
    by_fit false b h = absurd (cc)
    by_fit true false h = absurd (cc)
    by_fit true true h = sym (ap extra_in h)
      where
        extra_in : Result Plan WriteError → List Header
        extra_in (Ok q) = q.extra
        extra_in (Err e) = extra

plan_extra : (kind : MethodKind) (size : BodySize) (headers : List Header) (p : Plan)
    → plan_fields kind size headers ≡ Ok p → p.extra ≡ framing_headers size headers
unfolding plan_fields
plan_extra kind size headers p h =
    let extra = framing_headers size headers in
    let k = known_fields (headers ++ extra) in
    one_host (k.hosts == 1) extra k (request_framing kind 1 k) h
  where
    one_host : (b : Bool) (extra : List Header) (k : KnownFields) (r : Result Framing FramingError)
        → (if b then plan_framed size extra k r else Err Refusal.Host) ≡ Ok p → p.extra ≡ extra
    one_host true extra k r e = framed_extra size extra k r p e
    one_host false extra k r e = absurd (cc)

and_false : (a b : Bool) → a ≡ false → (a && b) ≡ false
and_false true b h = absurd (false≢true (sym h))
and_false false b h = refl

planned : (l : Limits) (method : List ℕ) (headers : List Header) (size : BodySize) (w : Writing)
    (r : Result Plan WriteError) → r ≡ plan_fields (method_kind method) size headers
    → method_kind method ≡ Method.Other → asks_to_upgrade size headers ≡ false
    → IsAwaiting (after_end (with_writing (requesting (new_client l) method headers r) w))
planned l method headers size w (Err e) is kind plain =
    record { head = refl; sent = refl; method = refl; alone = refl }
planned l method headers size w (Ok p) is kind plain =
    let extra = plan_extra (method_kind method) size headers p (sym is) in
    record {
      head = refl;
      sent = refl;
      method = kind;
      alone = and_false _ _ (ap (λ (x : List Header). (known_fields (headers ++ x)).upgrade) extra ∙ plain);
    }

pub awaits : (l : Limits) (method : List ℕ) (headers : List Header) (count : ℕ)
    → method_kind method ≡ Method.Other → asks_to_upgrade (Known count) headers ≡ false
    → IsAwaiting (past_request (new_client l) method headers count)
awaits l method headers count kind plain =
    planned l method headers (Known count)
    (after_data (writing (past_head (new_client l) method headers count)) count)
    (plan_fields (method_kind method) (Known count) headers) refl kind plain

kept_limits : (l : Limits) (method : List ℕ) (headers : List Header) (w : Writing)
    (r : Result Plan WriteError)
    → (after_end (with_writing (requesting (new_client l) method headers r) w)).limits ≡ l
kept_limits l method headers w (Err e) = refl
kept_limits l method headers w (Ok p) = refl

pub limits_of : (l : Limits) (method : List ℕ) (headers : List Header) (count : ℕ)
    → (past_request (new_client l) method headers count).limits ≡ l
limits_of l method headers count =
    kept_limits l method headers
    (after_data (writing (past_head (new_client l) method headers count)) count)
    (plan_fields (method_kind method) (Known count) headers)
