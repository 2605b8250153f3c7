-- The text of a request: the one that `http1` writes for its method, its target, its fields and its body.
use Rattle.std.specs.Prelude.{ℕ, ◌⊎◌, Bool, List, [], ◌++◌, IsSome, length}
use Rattle.http1.specs.declared.client.Client.{Client}
use Rattle.http1.specs.declared.conn.BodySize.{BodySize}
use Rattle.http1.specs.declared.conn.BodySize.TheVariants.{Known}
use Rattle.http1.specs.Client.{after_end, after_request, framing_headers, planned_request, request_refusal, with_writing, writing}
use Rattle.http1.specs.Conn.{after_data, data_refusal, data_text, finish_refusal, finish_text}
use Rattle.http1.specs.Fields.{Header, known_fields}

-- a client that has written the head of a request with a body of so many bytes
abbrev pub past_head : Client → List ℕ → List Header → ℕ → Client
past_head c method headers count = after_request c method (Known count) headers

-- the same behind the body
abbrev pub past_body : Client → List ℕ → List Header → ℕ → Client
past_body c method headers count =
    with_writing (past_head c method headers count)
    (after_data (writing (past_head c method headers count)) count)

-- and behind the whole request
abbrev pub past_request : Client → List ℕ → List Header → ℕ → Client
past_request c method headers count = after_end (past_body c method headers count)

-- the text of a request with this body
abbrev pub exchange_text : Client → List ℕ → List ℕ → List Header → List ℕ → List ℕ
exchange_text c method target headers body =
    planned_request c method target (Known (length body)) headers
    ++ data_text (writing (past_head c method headers (length body))) body
    ++ finish_text (writing (past_body c method headers (length body))) []

-- whether the fields of a request ask for another protocol
abbrev pub asks_to_upgrade : BodySize → List Header → Bool
asks_to_upgrade size headers = (known_fields (headers ++ framing_headers size headers)).upgrade

-- `http1` refuses to write such a request
abbrev pub IsUnwritable : Client → List ℕ → List ℕ → List Header → List ℕ → Type 0
IsUnwritable c method target headers body =
    IsSome (request_refusal c method target (Known (length body)) headers)
    ⊎ (IsSome (data_refusal (writing (past_head c method headers (length body))) (length body))
    ⊎ IsSome (finish_refusal (writing (past_body c method headers (length body))) []))
