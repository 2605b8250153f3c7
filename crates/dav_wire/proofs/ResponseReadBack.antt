-- A response that is written is read back.
use Rattle.std.proofs.Common.{◌≡◌, ℕ, ◌+◌, ◌*◌, ◌<◌, ◌≤◌, List, [], ◌∷◌, ◌++◌, length, true, false, cond, Option, Some, None, refl, sym, ap, subst, ◌∙◌, arith}
use Rattle.std.specs.Prelude.{codes, ◌^◌, All, option_map}
use Rattle.std.proofs.lemmas.Bool.{cond-false, le-ltb}
use Rattle.std.proofs.lemmas.List.{length-append, take_at}
use Rattle.std.proofs.lemmas.List.Elements.{All-head, All-tail}
use Rattle.httparse.specs.Grammar.{Field, ResponseHead, print_response, status_code}
use Rattle.httpdate.specs.Date.{unix_secs, date_text}
use Rattle.httpdate.specs.declared.date.HttpDate.{HttpDate}
use Rattle.std.specs.Ordering.{is_lt}
use Rattle.std.specs.declared.cmp.Ordering.{Ordering}
use Rattle.std.specs.declared.cmp.Ordering.TheVariants.{Less, Equal, Greater}
use Rattle.jop_base.specs.Keyed.{IsAfter}
use Rattle.jop_base.specs.Order.{path_cmp}
use Rattle.jop_base.specs.Paths.{IsPath, dir_of, path_text}
use Rattle.jop_base.specs.declared.dir.Dir.{Dir}
use Rattle.jop_target.specs.Replies.{IsRising, IsReplyTo}
use Rattle.jop_target.specs.Store.{entry_key, limit_of}
use Rattle.jop_target.specs.declared.call.Call.{Call}
use Rattle.jop_target.specs.declared.call.Call.TheVariants as calls
use Rattle.jop_target.specs.declared.reply.Entry.{Entry}
use Rattle.jop_target.specs.declared.reply.Reply.{Reply}
use Rattle.jop_target.specs.declared.reply.Reply.TheVariants as replies
use Rattle.dav_parts.proofs.LineLemmas.{body_read}
use Rattle.dav_parts.specs.Multistatus.{AreListable, ComesAfter}
use Rattle.dav_wire.specs.ResponseBack.{IsWholeSecond, IsTellable, got_bytes}
use Rattle.dav_wire.specs.ResponseFrames.{outcome_of, now_of, body_count, is_too_long, frame_from, frame_of}
use Rattle.dav_wire.specs.ResponseReading.{IsReplyOf, ResponseBodyReadsAs, ResponseReadsAs, fields_of}
use Rattle.dav_wire.specs.ResponseTexts.{status_line, date_line, type_line, end_lines, response_text, status_of, moment_or, IsResponseTo}
use Rattle.dav_wire.specs.declared.frame.Frame.{Frame}
use Rattle.dav_wire.specs.declared.frame.Frame.TheVariants.{TooLong, Body}
use Rattle.dav_wire.specs.declared.outcome.Outcome.{Outcome}
use Rattle.dav_wire.specs.declared.outcome.Outcome.TheVariants as outcomes
use Rattle.dav_wire.specs.declared.response_reader.ReadResponse.TheVariants.{Whole}
use Rattle.dav_wire.proofs.DateTexts.{date_read}
use Rattle.dav_wire.proofs.FrameLemmas.{frame_plain}
use Rattle.dav_wire.proofs.ResponseHeads.{IsStatus, AreFields, head_for, text_is, head_fits, head_short, head_code, head_few, head_plain, head_date, head_count, status_207, status_200, status_201, status_204, status_404, fields_207, fields_200, fields_201, fields_204, fields_404}

-- ---- any response

-- the status and the body tell the reply at this moment
record Tells (call : Call) (status now : ℕ) (body : List ℕ) (reply : Reply) (blob : List ℕ)
    (outcome : Outcome) : Type 0 where
  means : outcome_of call status ≡ outcome
  known : (count : ℕ) → frame_from (Some now) outcome (Some count)
      ≡ cond (is_too_long outcome count) (TooLong count) (Body now outcome count)
  fits : is_too_long outcome (length body) ≡ false
  is : IsReplyOf now outcome body reply (got_bytes reply blob)

module _ (call : Call) (status : ℕ) (digits phrase body : List ℕ) (fields : List Field)
    (s : IsStatus status digits phrase) (f : AreFields status (length body) fields)
    (date : HttpDate) (outcome : Outcome) (reply : Reply) (blob : List ℕ)
    (t : Tells call status (unix_secs date * 1_000) body reply blob outcome) where
  head : ResponseHead
  head = head_for digits phrase (date_text date) fields

  framed : frame_of call (status_code head) (fields_of head) ≡ Body (unix_secs date * 1_000) outcome
      (length body)
  unfolding head
  framed =
      let count = length body in
      let now = unix_secs date * 1_000 in
      let dated = ap now_of (head_date status count digits phrase fields s f date)
      ∙ ap (option_map (λ (secs : ℕ). secs * 1_000)) (date_read date) in
      let code = head_code status count digits phrase fields s f date in
      let meant = ap (outcome_of call) code ∙ t.means in
      let counted = ap (λ (n : ℕ). body_count n (fields_of head)) code
      ∙ head_count status count digits phrase fields s f date in
      sym (frame_plain call (status_code head) (fields_of head)
      (head_few status count digits phrase fields s f date)
      (head_plain status count digits phrase fields s f date))
      ∙ (λ i. frame_from (dated i) (meant i) (counted i))
      ∙ t.known count
      ∙ cond-false (is_too_long outcome count) (TooLong count) (Body now outcome count) t.fits

  told_reads : (more : List ℕ) → ResponseReadsAs call (response_text status (date_text date) body
      ++ more) (Whole reply (got_bytes reply blob)
      (length (response_text status (date_text date) body)))
  unfolding head
  told_reads more =
      let count = length body in
      let len = length (print_response head) in
      let text = text_is status count digits phrase fields s f date in
      let now = unix_secs date * 1_000 in
      let got = got_bytes reply blob in
      let whole : length (response_text status (date_text date) body) ≡ len + count = omega (
        arith,
        ap (λ (x : List ℕ). length x) (text body [] refl),
        length-append (response_text status (date_text date) body) [],
        length-append (print_response head) (body ++ []),
        length-append body [],
      ) in
      let reads : ResponseBodyReadsAs (Body now outcome count) (body ++ more) len
      (Whole reply got (length (response_text status (date_text date) body))) = (
        omega (arith, length-append body more),
        subst (λ (b : List ℕ). IsReplyOf now outcome b reply got)
            (sym (take_at body more count refl)) t.is,
        whole,
      ) in (
        head,
        body ++ more,
        record {
          reads = (head_fits status count digits phrase fields s f date, text body more refl);
          short = head_short status count digits phrase fields s f date;
        },
        subst (λ (x : Frame). ResponseBodyReadsAs x (body ++ more) len
            (Whole reply got (length (response_text status (date_text date) body))))
            (sym framed) reads,
      )

-- ---- listings

FollowsFirst : Option Entry → List Entry → Type 0
FollowsFirst before [] = Unit {0}
FollowsFirst before (e ∷ es) = ComesAfter before e

less : (o : Ordering) → is_lt o ≡ true → o ≡ Less
less Less h = refl
less Equal h = cc
less Greater h = cc

next_follows : (e : Entry) (es : List Entry) → IsAfter entry_key (path_text e.path) es
    → FollowsFirst (Some e) es
unfolding FollowsFirst path_cmp
next_follows e [] h = tt
next_follows e (f ∷ es) h = less _ h

listable : (dir : Dir) (before : Option Entry) (es : List Entry) → FollowsFirst before es
    → All (λ (e : Entry). dir_of e.path ≡ dir) es → All (λ (e : Entry). IsWholeSecond e.stamp) es
    → All (λ (e : Entry). IsPath e.path) es → IsRising es → AreListable dir before es
unfolding FollowsFirst
listable dir before [] first inside whole paths rising = tt
listable dir before (e ∷ es) first inside whole paths rising = (
  All-head (λ (x : Entry). IsWholeSecond x.stamp) e es whole,
  All-head (λ (x : Entry). dir_of x.path ≡ dir) e es inside,
  All-head (λ (x : Entry). IsPath x.path) e es paths,
  first,
  listable dir (Some e) es (next_follows e es rising.0) (All-tail (λ (x : Entry). dir_of x.path
      ≡ dir) e es inside) (All-tail (λ (x : Entry). IsWholeSecond x.stamp) e es whole)
      (All-tail (λ (x : Entry). IsPath x.path) e es paths) rising.1,
)

any_first : (es : List Entry) → FollowsFirst None es
unfolding FollowsFirst
any_first [] = tt
any_first (e ∷ es) = tt

-- ---- each reply

-- a written response: its date, its body, and what they are
record Wrote (status : ℕ) (now : ℕ) (body text : List ℕ) : Type 0 where
  date : HttpDate
  second : unix_secs date * 1_000 ≡ now
  shown : text ≡ response_text status (date_text date) body
  small : length body < 2 ^ 64

body_short : (status : ℕ) (date body text : List ℕ) → text ≡ response_text status date body
    → length body ≤ length text
unfolding response_text
body_short status date body text is =
    omega (
      arith,
      ap (λ (t : List ℕ). length t) is,
      length-append (status_line status) (date_line date
          ++ (type_line status ++ (end_lines status (length body) ++ body))),
      length-append (date_line date) (type_line status ++ (end_lines status (length body) ++ body)),
      length-append (type_line status) (end_lines status (length body) ++ body),
      length-append (end_lines status (length body)) body,
    )

finish : (call : Call) (status now : ℕ) (digits phrase body text : List ℕ) (fields : List Field)
    → IsStatus status digits phrase → (w : Wrote status now body text)
    → AreFields status (length body) fields → (outcome : Outcome) (reply : Reply) (blob : List ℕ)
    → Tells call status now body reply blob outcome → (more : List ℕ)
    → ResponseReadsAs call (text ++ more) (Whole reply (got_bytes reply blob) (length text))
finish call status now digits phrase body text fields s w f outcome reply blob t more =
    let told = subst (λ (n : ℕ). Tells call status n body reply blob outcome) (sym w.second) t in
    subst (λ (x : List ℕ). ResponseReadsAs call (x ++ more) (Whole reply (got_bytes reply blob)
    (length x))) (sym w.shown) (told_reads call status digits phrase body fields s f w.date
    outcome reply blob told more)

wrote : (call : Call) (reply : Reply) (blob : List ℕ) (date : ℕ) (text : List ℕ)
    → length text < 2 ^ 64 → IsWholeSecond (moment_or reply date)
    → (h : IsResponseTo call reply blob date text)
    → Wrote (status_of call reply) (moment_or reply date) h.0 text
wrote call reply blob date text small whole h = record {
  date = h.2.0;
  second = ap (λ (s : ℕ). s * 1_000) h.2.1 ∙ sym whole;
  shown = h.2.2;
  small = omega (arith, small, body_short (status_of call reply) (date_text h.2.0) h.0 text h.2.2);
}

done_tells : (call : Call) (status now : ℕ) (body blob : List ℕ) → outcome_of call status
    ≡ outcomes.Done → Tells call status now body (replies.Done now) blob outcomes.Done
done_tells call status now body blob means = record {
  means = means;
  known = λ count. refl;
  fits =
      refl;
  is = (refl, refl);
}

absent_tells : (call : Call) (status now : ℕ) (body blob : List ℕ) → outcome_of call status
    ≡ outcomes.Absent → Tells call status now body (replies.Absent now) blob outcomes.Absent
absent_tells call status now body blob means = record {
  means = means;
  known = λ count. refl;
  fits =
      refl;
  is = (refl, refl);
}

pub written_is_read : (call : Call) (reply : Reply) (blob : List ℕ) (date : ℕ) (text more : List ℕ)
    → IsReplyTo call reply → IsTellable reply blob → length text < 2 ^ 64
    → IsResponseTo call reply blob date text → ResponseReadsAs call (text ++ more)
    (Whole reply (got_bytes reply blob) (length text))
written_is_read call replies.Failed blob date text more r t small h = absurd t
written_is_read call (replies.TooLarge len) blob date text more r t small h = absurd t
written_is_read (calls.List dir) (replies.Listed l) blob date text more r t small h =
    let w = wrote (calls.List dir) (replies.Listed l) blob date text small t.0 h in
    let files = listable dir None l.entries (any_first l.entries) r.inside t.1 t.2 r.rising in
    finish (calls.List dir) 207 l.now (codes "207") (codes "Multi-Status") h.0 text _ status_207 w
    (fields_207 (length h.0) w.small) (outcomes.Listing dir) (replies.Listed l) blob
    (record {
      means = refl;
      known = λ count. refl;
      fits = refl;
      is =
          (refl, body_read dir l.entries h.0 files h.1, refl);
    }) more
written_is_read (calls.Get path) (replies.Got now content) blob date text more r t small h =
    let w = wrote (calls.Get path) (replies.Got now content) blob date text small t h in
    let lower : length h.0 ≤ limit_of path =
    omega (arith, r.1, ap (λ (b : List ℕ). length b) h.1) in
    finish (calls.Get path) 200 now (codes "200") (codes "OK") h.0 text _ status_200 w
    (fields_200 (length h.0) w.small) (outcomes.Content (limit_of path))
    (replies.Got now content) blob
    (record {
      means = refl;
      known = λ count. refl;
      fits = le-ltb (limit_of path) (length h.0) lower;
      is = (ap (λ (b : List ℕ). replies.Got now b) (sym h.1), refl);
    }) more
written_is_read (calls.Get path) (replies.Absent now) blob date text more r t small h =
    let w = wrote (calls.Get path) (replies.Absent now) blob date text small t h in
    finish (calls.Get path) 404 now (codes "404") (codes "Not Found") h.0 text _ status_404 w
    (fields_404 (length h.0) w.small) outcomes.Absent (replies.Absent now) blob
    (absent_tells (calls.Get path) 404 now h.0 blob refl) more
written_is_read (calls.GetBlob id) (replies.GotBlob now len) blob date text more r t small h =
    let w = wrote (calls.GetBlob id) (replies.GotBlob now len) blob date text small t.0 h in
    let same : len ≡ length h.0 = t.1 ∙ ap (λ (b : List ℕ). length b) (sym h.1) in
    let lower : length h.0 ≤ 67_108_864 = omega (arith, r.1, same) in
    finish (calls.GetBlob id) 200 now (codes "200") (codes "OK") h.0 text _ status_200 w
    (fields_200 (length h.0) w.small) outcomes.Blob (replies.GotBlob now len) blob
    (record {
      means = refl;
      known = λ count. refl;
      fits = le-ltb 67_108_864 (length h.0) lower;
      is =
          (ap (λ (n : ℕ). replies.GotBlob now n) same, sym h.1);
    }) more
written_is_read (calls.GetBlob id) (replies.Absent now) blob date text more r t small h =
    let w = wrote (calls.GetBlob id) (replies.Absent now) blob date text small t h in
    finish (calls.GetBlob id) 404 now (codes "404") (codes "Not Found") h.0 text _ status_404 w
    (fields_404 (length h.0) w.small) outcomes.Absent (replies.Absent now) blob
    (absent_tells (calls.GetBlob id) 404 now h.0 blob refl) more
written_is_read (calls.Delete path) (replies.Absent now) blob date text more r t small h =
    let w = wrote (calls.Delete path) (replies.Absent now) blob date text small t h in
    finish (calls.Delete path) 404 now (codes "404") (codes "Not Found") h.0 text _ status_404 w
    (fields_404 (length h.0) w.small) outcomes.Absent (replies.Absent now) blob
    (absent_tells (calls.Delete path) 404 now h.0 blob refl) more
written_is_read (calls.Delete path) (replies.Done now) blob date text more r t small h =
    let w = wrote (calls.Delete path) (replies.Done now) blob date text small t h in
    let none : AreFields 204 (length h.0) [] = subst (λ (b : List ℕ). AreFields 204 (length b) [])
    (sym h.1) fields_204 in
    finish (calls.Delete path) 204 now (codes "204") (codes "No Content") h.0 text [] status_204 w
    none outcomes.Done (replies.Done now) blob (done_tells (calls.Delete path) 204 now h.0 blob
    refl) more
written_is_read (calls.Put path content) (replies.Done now) blob date text more r t small h =
    let w = wrote (calls.Put path content) (replies.Done now) blob date text small t h in
    finish (calls.Put path content) 201 now (codes "201") (codes "Created") h.0 text _ status_201 w
    (fields_201 (length h.0) w.small) outcomes.Done (replies.Done now) blob
    (done_tells (calls.Put path content) 201 now h.0 blob refl) more
written_is_read (calls.MakeDir dir) (replies.Done now) blob date text more r t small h =
    let w = wrote (calls.MakeDir dir) (replies.Done now) blob date text small t h in
    finish (calls.MakeDir dir) 201 now (codes "201") (codes "Created") h.0 text _ status_201 w
    (fields_201 (length h.0) w.small) outcomes.Done (replies.Done now) blob
    (done_tells (calls.MakeDir dir) 201 now h.0 blob refl) more
written_is_read (calls.PutBlob id len) (replies.Done now) blob date text more r t small h =
    let w = wrote (calls.PutBlob id len) (replies.Done now) blob date text small t h in
    finish (calls.PutBlob id len) 201 now (codes "201") (codes "Created") h.0 text _ status_201 w
    (fields_201 (length h.0) w.small) outcomes.Done (replies.Done now) blob
    (done_tells (calls.PutBlob id len) 201 now h.0 blob refl) more
written_is_read call reply blob date text more r t small h = absurd r
