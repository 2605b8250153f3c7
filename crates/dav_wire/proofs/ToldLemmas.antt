-- What a response can tell of the reply to a call.
use Rattle.std.proofs.Common.{◌≡◌, ℕ, List, [], take, length}
use Rattle.jop_target.specs.declared.call.Call.{Call}
use Rattle.jop_target.specs.declared.reply.Reply.TheVariants.{Got, GotBlob, Absent, Done, Failed, TooLarge}
use Rattle.httparse.specs.Grammar.{print_response, status_code}
use Rattle.dav_wire.specs.ResponseFrames.{frame_of}
use Rattle.dav_wire.specs.ResponseReading.{IsReplyOf, ResponseReadsAs, ResponseBodyReadsAs, fields_of}
use Rattle.dav_wire.specs.declared.frame.Frame.{Frame}
use Rattle.dav_wire.specs.declared.frame.Frame.TheVariants.{Unreadable, TooLong, Body}
use Rattle.dav_wire.specs.declared.outcome.Outcome.{Outcome}
use Rattle.dav_wire.specs.declared.outcome.Outcome.TheVariants as outcomes
use Rattle.dav_wire.specs.declared.response_reader.ReadResponse.TheVariants.{Whole, Bad}

-- ---- no response tells a failure

outcome_tells : (now : ℕ) (outcome : Outcome) (body blob : List ℕ)
    → IsReplyOf now outcome body Failed blob → ⊥
outcome_tells now (outcomes.Listing dir) body blob h = h
outcome_tells now (outcomes.Content limit) body blob h = let e : Failed ≡ Got now body = h.0 in cc
outcome_tells now outcomes.Blob body blob h =
    let e : Failed ≡ GotBlob now (length body) = h.0 in cc
outcome_tells now outcomes.Absent body blob h = let e : Failed ≡ Absent now = h.0 in cc
outcome_tells now outcomes.Done body blob h = let e : Failed ≡ Done now = h.0 in cc
outcome_tells now outcomes.Other body blob h = h

frame_tells : (frame : Frame) (rest : List ℕ) (len : ℕ) (blob : List ℕ) (used : ℕ)
    → ResponseBodyReadsAs frame rest len (Whole Failed blob used) → ⊥
frame_tells Unreadable rest len blob used h = let e : Whole Failed blob used ≡ Bad = h in cc
frame_tells (TooLong count) rest len blob used h =
    let e : Whole Failed blob used ≡ Whole (TooLarge count) [] len = h in
    cc
frame_tells (Body now outcome count) rest len blob used h =
    outcome_tells now outcome (take count rest) blob h.1

pub no_failure : (call : Call) (bytes blob : List ℕ) (used : ℕ)
    → ResponseReadsAs call bytes (Whole Failed blob used) → ⊥
no_failure call bytes blob used h =
    frame_tells (frame_of call (status_code h.0) (fields_of h.0)) h.1
    (length (print_response h.0)) blob used h.3

-- ---- a blob that was got has the length that is told

outcome_blob : (now len : ℕ) (told : ℕ) (outcome : Outcome) (body blob : List ℕ)
    → IsReplyOf now outcome body (GotBlob told len) blob → len ≡ length blob
outcome_blob now len told (outcomes.Listing dir) body blob h = absurd h
outcome_blob now len told (outcomes.Content limit) body blob h =
    let e : GotBlob told len ≡ Got now body = h.0 in
    cc
outcome_blob now len told outcomes.Blob body blob h =
    let e : GotBlob told len ≡ GotBlob now (length body) = h.0 in
    let same : blob ≡ body = h.1 in
    cc
outcome_blob now len told outcomes.Absent body blob h =
    let e : GotBlob told len ≡ Absent now = h.0 in
    cc
outcome_blob now len told outcomes.Done body blob h =
    let e : GotBlob told len ≡ Done now = h.0 in
    cc
outcome_blob now len told outcomes.Other body blob h = absurd h

frame_blob : (frame : Frame) (rest : List ℕ) (head now len : ℕ) (blob : List ℕ) (used : ℕ)
    → ResponseBodyReadsAs frame rest head (Whole (GotBlob now len) blob used) → len ≡ length blob
frame_blob Unreadable rest head now len blob used h =
    let e : Whole (GotBlob now len) blob used ≡ Bad = h in
    cc
frame_blob (TooLong count) rest head now len blob used h =
    let e : Whole (GotBlob now len) blob used ≡ Whole (TooLarge count) [] head = h in
    cc
frame_blob (Body at outcome count) rest head now len blob used h =
    outcome_blob at len now outcome (take count rest) blob h.1

pub blob_length : (call : Call) (bytes : List ℕ) (now len : ℕ) (blob : List ℕ) (used : ℕ)
    → ResponseReadsAs call bytes (Whole (GotBlob now len) blob used) → len ≡ length blob
blob_length call bytes now len blob used h =
    frame_blob (frame_of call (status_code h.0) (fields_of h.0)) h.1
    (length (print_response h.0)) now len blob used h.3
