-- How replies and refusals are written as responses.
use Rattle.std.specs.Prelude.{◌≡◌, ℕ, ◌/◌, ◌==◌, List, [], ◌++◌, length, codes, if◌then◌else◌}
use Rattle.httpdate.specs.Date.{unix_secs, date_text}
use Rattle.httpdate.specs.declared.date.HttpDate.{HttpDate}
use Rattle.jop_target.specs.declared.call.Call.{Call}
use Rattle.jop_target.specs.declared.call.Call.TheVariants as calls
use Rattle.jop_target.specs.declared.reply.Entry.{Entry}
use Rattle.jop_target.specs.declared.reply.Reply.{Reply}
use Rattle.jop_target.specs.declared.reply.Reply.TheVariants as replies
use Rattle.dav_parts.specs.Multistatus.{IsMultistatus}
use Rattle.dav_wire.specs.Requests.{length_lines}

-- ---- lines

-- a status and its phrase (RFC 9110, 15, and RFC 4918, 11)
abbrev pub status_text : ℕ → List ℕ
status_text status =
    if status == 207 then codes "207 Multi-Status"
    else (if status == 200 then codes "200 OK"
    else (if status == 201 then codes "201 Created"
    else (if status == 204 then codes "204 No Content"
    else (if status == 404 then codes "404 Not Found"
    else (if status == 400 then codes "400 Bad Request"
    else (if status == 403 then codes "403 Forbidden"
    else (if status == 405 then codes "405 Method Not Allowed"
    else (if status == 413 then codes "413 Content Too Large"
    else codes "500 Internal Server Error"))))))))

unfoldable pub status_line : ℕ → List ℕ
status_line status = codes "HTTP/1.1 " ++ (status_text status ++ codes "\r\n")

unfoldable pub date_line : List ℕ → List ℕ
date_line date = codes "Date: " ++ (date ++ codes "\r\n")

-- a listing alone has a type
unfoldable pub type_line : ℕ → List ℕ
type_line status =
    if status == 207 then codes "Content-Type: application/xml; charset=\"utf-8\"\r\n" else []

-- the length, which a 204 doesn't have (RFC 9110, 8.6), and the empty line
unfoldable pub end_lines : ℕ → ℕ → List ℕ
end_lines status count = if status == 204 then codes "\r\n" else length_lines count

-- the status line, `Date`, `Content-Type` for a listing, `Content-Length` but for a 204, an empty
-- line and the body
unfoldable pub response_text : ℕ → List ℕ → List ℕ → List ℕ
response_text status date body =
    status_line status
    ++ (date_line date ++ (type_line status ++ (end_lines status (length body) ++ body)))

-- a response of this status at a moment, rounded down to seconds
abbrev pub IsResponse : ℕ → ℕ → List ℕ → List ℕ → Type 0
IsResponse status moment body text =
    (date : HttpDate) × (unix_secs date ≡ moment / 1_000)
    × (text ≡ response_text status (date_text date) body)

-- ---- replies

-- the status by which a reply is told; a delete that is done has no content
abbrev pub status_of : Call → Reply → ℕ
status_of call (replies.Listed listing) = 207
status_of call (replies.Got now content) = 200
status_of call (replies.GotBlob now len) = 200
status_of call (replies.Absent now) = 404
status_of (calls.Delete path) (replies.Done now) = 204
status_of call (replies.Done now) = 201
status_of call replies.Failed = 500
status_of call (replies.TooLarge len) = 413

-- the moment of a reply, or the one that is handed in
abbrev pub moment_or : Reply → ℕ → ℕ
moment_or (replies.Listed listing) date = listing.now
moment_or (replies.Got now content) date = now
moment_or (replies.GotBlob now len) date = now
moment_or (replies.Absent now) date = now
moment_or (replies.Done now) date = now
moment_or replies.Failed date = date
moment_or (replies.TooLarge len) date = date

-- the body by which any reply but a listing is told
abbrev pub plain_body : Reply → List ℕ → List ℕ
plain_body (replies.Got now content) blob = content
plain_body (replies.GotBlob now len) blob = blob
plain_body reply blob = []

-- the body by which a listing is told, which answers a call that lists
abbrev pub IsListingBody : Call → List Entry → List ℕ → Type 0
IsListingBody (calls.List dir) entries body = IsMultistatus dir entries body
IsListingBody call entries body = ⊥

-- the body by which a reply is told
abbrev pub IsBodyOf : Call → Reply → List ℕ → List ℕ → Type 0
IsBodyOf call (replies.Listed listing) blob body = IsListingBody call listing.entries body
IsBodyOf call reply blob body = body ≡ plain_body reply blob

-- the response that tells the reply to a call
abbrev pub IsResponseTo : Call → Reply → List ℕ → ℕ → List ℕ → Type 0
IsResponseTo call reply blob date text =
    (body : List ℕ) × IsBodyOf call reply blob body
    × IsResponse (status_of call reply) (moment_or reply date) body text
