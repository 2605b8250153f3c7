-- What the bytes so far read as, by what is counted of a body.
use Rattle.std.proofs.Common.{◌≡◌, ℕ, ◌+◌, ◌-◌, ◌<◌, ◌≤◌, List, [], ◌++◌, length, take, drop, refl, sym, ap, subst, ◌∙◌, arith, inl, inr, append-nil, Bool, None}
use Rattle.std.specs.Prelude.{codes}
use Rattle.std.specs.Char.{is_ascii_digit}
use Rattle.std.proofs.lemmas.Bool.{cases_lt}
use Rattle.std.proofs.lemmas.List.Elements.{All-nil}
use Rattle.std.proofs.lemmas.List.Sums.{AllPass-from_list_all}
use Rattle.std.proofs.Math.Seq.{drop-append-add}
use Rattle.std.proofs.lemmas.List.{length-append, drop_at}
use Rattle.httparse.specs.Grammar.{ResponseHead, IsField, IsResponseHead, print_response, HasNoResponse, is_value_byte, lf, status_code}
use Rattle.jop_target.specs.declared.call.Call.{Call}
use Rattle.jop_target.specs.declared.call.Call.TheVariants as calls
use Rattle.jop_target.specs.declared.reply.Reply.{Reply}
use Rattle.dav_wire.proofs.RequestStream.{take_both}
use Rattle.dav_wire.proofs.ResponseStream.{begins_append, bad_stays, head_within}
use Rattle.dav_wire.specs.HeadReading.{HeadTells, LeavesOpen}
use Rattle.dav_wire.specs.ResponseFrames.{frame_of}
use Rattle.dav_wire.specs.ResponseReading.{BeginsWith, IsNoReply, IsReplyOf, IsUnfinished, IsUnreadable, ResponseBodyReadsAs, ResponseReadsAs, fields_of}
use Rattle.dav_wire.specs.declared.frame.Frame.{Frame}
use Rattle.dav_wire.specs.declared.frame.Frame.TheVariants.{Body}
use Rattle.dav_wire.specs.declared.outcome.Outcome.{Outcome}
use Rattle.dav_wire.specs.declared.response_reader.ReadResponse.{ReadResponse}
use Rattle.dav_wire.specs.declared.response_reader.ReadResponse.TheVariants.{Whole, More, Bad}
use Rattle.reply_reader.specs.Pieces.{bare}

-- ---- calls

-- what a head tells doesn't depend on the bytes that a call puts
pub frame_bare : (call : Call) (status : ℕ) (fields : List (List ℕ × List ℕ)) →
    frame_of (bare call) status fields ≡ frame_of call status fields
unfolding frame_of
frame_bare (calls.List dir) status fields = refl
frame_bare (calls.Get path) status fields = refl
frame_bare (calls.Put path content) status fields = refl
frame_bare (calls.Delete path) status fields = refl
frame_bare (calls.MakeDir dir) status fields = refl
frame_bare (calls.GetBlob id) status fields = refl
frame_bare (calls.PutBlob id len) status fields = refl

pub head_bare : (call : Call) (bytes rest : List ℕ) (frame : Frame) (len : ℕ) →
    HeadTells (bare call) bytes rest frame len → HeadTells call bytes rest frame len
head_bare call bytes rest frame len h = record {
  head = h.head;
  begins = h.begins;
  tells = h.tells ∙ frame_bare call (status_code h.head) (fields_of h.head);
  long = h.long;
}

-- ---- by the head

abbrev Behind : Call → List ℕ → ReadResponse → Type 0
Behind call bytes read =
    (head : ResponseHead) × (rest : List ℕ) × BeginsWith bytes head rest
    × ResponseBodyReadsAs (frame_of call (status_code head) (fields_of head)) rest
    (length (print_response head)) read

-- what is read behind a head, by what it tells
pub by_head : (call : Call) (bytes rest : List ℕ) (frame : Frame) (len : ℕ) (read : ReadResponse) →
    HeadTells call bytes rest frame len → ResponseBodyReadsAs frame rest len read → Behind call bytes read
by_head call bytes rest frame len read h body = (
  h.head,
  rest,
  h.begins,
  subst (λ (f : Frame). ResponseBodyReadsAs f rest (length (print_response h.head)) read) h.tells
      (subst (λ (n : ℕ). ResponseBodyReadsAs frame rest n read) h.long body),
)

pub head_more : (call : Call) (bytes rest more : List ℕ) (frame : Frame) (len : ℕ) →
    HeadTells call bytes rest frame len → HeadTells call (bytes ++ more) (rest ++ more) frame len
head_more call bytes rest more frame len h = record {
  head = h.head;
  begins = begins_append bytes more h.head rest h.begins;
  tells = h.tells;
  long = h.long;
}

-- the bytes are the head and the rest
pub head_length : (call : Call) (bytes rest : List ℕ) (frame : Frame) (len : ℕ) →
    HeadTells call bytes rest frame len → length bytes ≡ len + length rest
head_length call bytes rest frame len h =
    omega (
      arith,
      ap (λ (t : List ℕ). length t) h.begins.reads.1,
      length-append (print_response h.head) rest,
      h.long,
    )

-- ---- a counted body

module _ (call : Call) (bytes body piece : List ℕ) (now : ℕ) (outcome : Outcome) (left len count : ℕ)
    (head : HeadTells call bytes (body ++ piece) (Body now outcome count) len)
    (counts : length body + left ≡ count) where
  pub misses : length piece < left → ResponseReadsAs call bytes More
  misses short = inl (by_head call bytes (body ++ piece) (Body now outcome count) len More head
      (omega (arith, counts, short, length-append body piece)))

  enough : left ≤ length piece → count ≤ length (body ++ piece)
  enough h = omega (arith, counts, h, length-append body piece)

  -- the whole body
  pub whole : take count (body ++ piece) ≡ body ++ take left piece
  whole = take_both count body piece (omega (arith, counts))
      ∙ ap (λ (n : ℕ). body ++ take n piece) (omega (arith, counts))

  pub tells : left ≤ length piece → (reply : Reply) (blob : List ℕ) →
      IsReplyOf now outcome (body ++ take left piece) reply blob →
      ResponseReadsAs call bytes (Whole reply blob (len + count))
  tells h reply blob is =
      by_head call bytes (body ++ piece) (Body now outcome count) len (Whole reply blob (len + count))
      head (enough h, subst (λ (t : List ℕ). IsReplyOf now outcome t reply blob) (sym whole) is, refl)

  pub refuses : left ≤ length piece → IsNoReply outcome (body ++ take left piece) →
      ResponseReadsAs call bytes Bad
  refuses h none = inl (by_head call bytes (body ++ piece) (Body now outcome count) len Bad head
      (enough h, subst (λ (t : List ℕ). IsNoReply outcome t) (sym whole) none))

  pub uses : left ≤ length piece → (len + count) + (length piece - left) ≡ length bytes
  uses h = omega (
    arith,
    counts,
    h,
    length-append body piece,
    head_length call bytes (body ++ piece) (Body now outcome count) len head,
  )

-- ---- a head

-- nothing is no head
head_some : (h : ResponseHead) → 0 < length (print_response h)
unfolding print_response
head_some h = simp length-append (omega arith)

nothing_no_head : HasNoResponse []
nothing_no_head h rest reads =
    omega (
      arith,
      ap (λ (t : List ℕ). length t) reads.1,
      length-append (print_response h) rest,
      head_some h,
    )

-- a head that wasn't whole before ends within the piece
pub ends_within : (call : Call) (told part rest : List ℕ) (frame : Frame) (len : ℕ) →
    HasNoResponse told → HeadTells call (told ++ part) rest frame len →
    (length told < len) × (len ≤ length told + length part)
ends_within call told part rest frame len none h =
    let head = h.head in
    let text : told ++ part ≡ print_response head ++ rest = h.begins.reads.1 in
    elim (cases_lt (length told) (length (print_response head))) [
      | inl less ↦ (
        omega (arith, less, h.long),
        omega (
          arith,
          h.long,
          ap (λ (t : List ℕ). length t) text,
          length-append told part,
          length-append (print_response head) rest,
        ),
      )
      | inr more ↦
          let early = head_within told part head rest h.begins more in
          absurd (none head (drop (length (print_response head)) told) early.reads)
    ]

-- what follows it is the end of the piece
pub rest_is : (call : Call) (told part rest : List ℕ) (frame : Frame) (len : ℕ) →
    HasNoResponse told → HeadTells call (told ++ part) rest frame len →
    rest ≡ drop (len - length told) part
rest_is call told part rest frame len none h =
    let within = ends_within call told part rest frame len none h in
    let text : told ++ part ≡ print_response h.head ++ rest = h.begins.reads.1 in
    let whole : drop len (told ++ part) ≡ drop (len - length told) part =
    ap (λ (n : ℕ). drop n (told ++ part)) (omega (arith, within.0))
    ∙ drop-append-add told part (len - length told) in
    sym (drop_at (print_response h.head) rest len (sym h.long)) ∙ ap (drop len) (sym text) ∙ whole

-- ---- too little to say, and no head

pub unreadable_bad : (call : Call) (bytes more : List ℕ) → IsUnreadable bytes →
    ResponseReadsAs call (bytes ++ more) Bad
unreadable_bad call bytes more h = bad_stays call bytes more (inr h)

-- ---- before the first piece

-- a head of a few bytes
abbrev least_head : ResponseHead
least_head = record {
  blank = [];
  minor = 1;
  digits = codes "200";
  reason = None;
  line_end = lf;
  fields = [];
  last = lf;
}

least_is_head : IsResponseHead least_head
least_is_head = record {
  minor = omega arith;
  digits = (refl, AllPass-from_list_all is_ascii_digit (codes "200") refl);
  reason = AllPass-from_list_all is_value_byte [] refl;
  fields = All-nil IsField;
}

pub nothing_unfinished : IsUnfinished []
nothing_unfinished = record {
  none = nothing_no_head;
  may = (
    print_response least_head,
    least_head,
    (least_is_head, sym (append-nil (print_response least_head))),
  );
  short = omega arith;
}

-- ---- whether the connection stays open

pub lasts_more : (bytes more : List ℕ) (lasts : Bool) → LeavesOpen bytes lasts
    → LeavesOpen (bytes ++ more) lasts
lasts_more bytes more lasts h = (h.0, h.1 ++ more, begins_append bytes more h.0 h.1 h.2, h.3)

pub lasts_same : (bytes : List ℕ) (a b : Bool) → a ≡ b → LeavesOpen bytes a → LeavesOpen bytes b
lasts_same bytes a b is h = subst (λ (x : Bool). LeavesOpen bytes x) is h
