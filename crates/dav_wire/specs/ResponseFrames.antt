-- What the head of a response tells of what follows it.
use Rattle.std.specs.Prelude.{ℕ, ◌*◌, Bool, false, not, ◌||◌, ◌==◌, List, [], ◌∷◌, length, codes, Option, Some, None, option_map, if◌then◌else◌, nat_lt}
use Rattle.httpdate.specs.Date.{parse_secs}
use Rattle.jop_target.specs.Store.{limit_of}
use Rattle.jop_target.specs.declared.call.Call.{Call}
use Rattle.jop_target.specs.declared.call.Call.TheVariants as calls
use Rattle.dav_parts.specs.Fields.{Fields, values_of}
use Rattle.jop_base.specs.Decimals.{decimal_in}
use Rattle.dav_wire.specs.Requests.{is_none}
use Rattle.dav_wire.specs.declared.frame.Frame.{Frame}
use Rattle.dav_wire.specs.declared.frame.Frame.TheVariants.{Unreadable, TooLong, Body}
use Rattle.dav_wire.specs.declared.outcome.Outcome.{Outcome}
use Rattle.dav_wire.specs.declared.outcome.Outcome.TheVariants as outcomes

-- a file that may be absent
abbrev got_outcome : ℕ → Outcome → Outcome
got_outcome status content =
    if status == 200 then content else (if status == 404 then outcomes.Absent else outcomes.Other)

-- what a status means in the response to a call (RFC 9110, 15, and RFC 4918, 9 and 11)
abbrev pub outcome_of : Call → ℕ → Outcome
outcome_of (calls.List dir) status =
    if status == 207 then outcomes.Listing dir else outcomes.Other
outcome_of (calls.Get path) status = got_outcome status (outcomes.Content (limit_of path))
outcome_of (calls.Put path content) status =
    if (status == 201) || (status == 204) then outcomes.Done else outcomes.Other
outcome_of (calls.Delete path) status =
    if status == 204 then outcomes.Done
    else (if status == 404 then outcomes.Absent else outcomes.Other)
outcome_of (calls.MakeDir dir) status =
    if (status == 201) || (status == 405) then outcomes.Done else outcomes.Other
outcome_of (calls.GetBlob id) status = got_outcome status outcomes.Blob
outcome_of (calls.PutBlob id len) status =
    if (status == 201) || (status == 204) then outcomes.Done else outcomes.Other

-- the one date, in milliseconds since 1970
abbrev pub now_of : List (List ℕ) → Option ℕ
now_of [] = None
now_of (value ∷ []) = option_map (λ secs. secs * 1_000) (parse_secs value)
now_of (value ∷ other ∷ values) = None

-- the one length
abbrev pub single_length : List (List ℕ) → Option ℕ
single_length [] = None
single_length (value ∷ []) = decimal_in value
single_length (value ∷ other ∷ values) = None

-- a response of status 204 has no body, whatever its fields say
abbrev pub body_count : ℕ → Fields → Option ℕ
body_count status fields =
    if status == 204 then Some 0 else single_length (values_of (codes "content-length") fields)

-- whether a file of that length is longer than its limit: a blob's is 64 MiB
abbrev pub is_too_long : Outcome → ℕ → Bool
is_too_long (outcomes.Content limit) count = nat_lt limit count
is_too_long outcomes.Blob count = nat_lt 67_108_864 count
is_too_long outcome count = false

-- what a moment, an outcome and a length tell together
abbrev pub frame_from : Option ℕ → Outcome → Option ℕ → Frame
frame_from (Some now) outcomes.Other (Some count) = Unreadable
frame_from (Some now) outcome (Some count) =
    if is_too_long outcome count then TooLong count else Body now outcome count
frame_from now outcome count = Unreadable

-- What a head tells: that it answers no such call, a length past the limit, or so many bytes of a
-- body. A head has at most 128 fields, and no `Transfer-Encoding`.
unfoldable pub frame_of : Call → ℕ → Fields → Frame
frame_of call status fields =
    if nat_lt 128 (length fields) || not (is_none (values_of (codes "transfer-encoding") fields))
    then Unreadable
    else frame_from (now_of (values_of (codes "date") fields)) (outcome_of call status)
    (body_count status fields)
