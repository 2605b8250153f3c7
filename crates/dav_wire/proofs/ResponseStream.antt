-- What is read of a response that comes in pieces, and that it is one thing.
use Rattle.std.proofs.Common.{◌≡◌, ℕ, ◌+◌, ◌-◌, ◌<◌, ◌≤◌, ◌⊎◌, List, [], ◌++◌, length, take, drop, refl, sym, ap, subst, ◌∙◌, arith, inl, inr, append_assoc, append-nil}
use Rattle.std.proofs.lemmas.Bool.{cases_lt}
use Rattle.std.proofs.lemmas.List.{length-append, length-drop, take-append-drop, take-append-le, take_at}
use Rattle.httparse.specs.Grammar.{ResponseHead, print_response, HasNoResponse, NeverHasResponse, status_code}
use Rattle.httparse.proofs.GrammarLemmas.{ReadsResponse-append, response_prefix_free, response_unique}
use Rattle.jop_target.specs.declared.call.Call.{Call}
use Rattle.jop_target.specs.declared.reply.Reply.{Reply}
use Rattle.jop_target.specs.declared.reply.Reply.TheVariants as replies
use Rattle.dav_wire.specs.declared.frame.Frame.{Frame}
use Rattle.dav_wire.specs.declared.frame.Frame.TheVariants.{Unreadable, TooLong, Body}
use Rattle.dav_wire.specs.declared.outcome.Outcome.{Outcome}
use Rattle.dav_wire.specs.declared.outcome.Outcome.TheVariants as outcomes
use Rattle.dav_wire.specs.declared.response_reader.ReadResponse.{ReadResponse}
use Rattle.dav_wire.specs.declared.response_reader.ReadResponse.TheVariants.{Whole, More, Bad}
use Rattle.dav_wire.specs.ResponseFrames.{frame_of}
use Rattle.dav_wire.specs.ResponseReading.{IsReplyOf, IsNoReply, ResponseBodyReadsAs, BeginsWith, IsUnfinished, IsUnreadable, ResponseHeadReadsAs, ResponseReadsAs, fields_of}
use Rattle.dav_parts.proofs.LineLemmas.{files_unique}
use Rattle.dav_wire.proofs.RequestStream.{take_both}

-- ---- bytes that come later

pub begins_append : (bytes more : List ℕ) (head : ResponseHead) (rest : List ℕ)
    → BeginsWith bytes head rest → BeginsWith (bytes ++ more) head (rest ++ more)
begins_append bytes more head rest b = record {
  reads = ReadsResponse-append bytes head rest more
      b.reads;
  short = b.short;
}

whole_behind : (x : Frame) (rest more : List ℕ) (len : ℕ) (reply : Reply) (blob : List ℕ) (used : ℕ)
    → ResponseBodyReadsAs x rest len (Whole reply blob used)
    → ResponseBodyReadsAs x (rest ++ more) len (Whole reply blob used)
whole_behind Unreadable rest more len reply blob used h = h
whole_behind (TooLong count) rest more len reply blob used h = h
whole_behind (Body now outcome count) rest more len reply blob used h = (
  omega (arith, h.0, length-append rest more),
  subst (λ (b : List ℕ).
      IsReplyOf now outcome b reply blob) (sym (take-append-le count rest more h.0)) h.1,
  h.2,
)

bad_behind : (x : Frame) (rest more : List ℕ) (len : ℕ) → ResponseBodyReadsAs x rest len Bad
    → ResponseBodyReadsAs x (rest ++ more) len Bad
bad_behind Unreadable rest more len h = h
bad_behind (TooLong count) rest more len h = h
bad_behind (Body now outcome count) rest more len h = (
  omega (arith, h.0, length-append rest more),
  subst (λ (b : List ℕ). IsNoReply outcome b)
      (sym (take-append-le count rest more h.0)) h.1,
)

pub whole_stays : (call : Call) (bytes more : List ℕ) (reply : Reply) (blob : List ℕ) (used : ℕ)
    → ResponseReadsAs call bytes (Whole reply blob used) → ResponseReadsAs call (bytes ++ more)
    (Whole reply blob used)
whole_stays call bytes more reply blob used h = (
  h.0,
  h.1 ++ more,
  begins_append bytes more h.0 h.1 h.2,
  whole_behind
      (frame_of call (status_code h.0) (fields_of h.0)) h.1 more (length (print_response h.0)) reply
      blob used h.3,
)

lost_stays : (bytes more : List ℕ) → IsUnreadable bytes → IsUnreadable (bytes ++ more)
lost_stays bytes more h = elim (cases_lt (length bytes) 16384) [
  | inr full ↦ record {
    none = subst (λ (t : List ℕ). HasNoResponse t) (sym (take-append-le 16384 bytes more full))
        h.none;
    never = inl (omega (arith, full, length-append bytes more));
  }
  | inl short ↦
      let never : NeverHasResponse bytes = elim h.never [
        | inl full ↦
            absurd (omega arith)
        | inr never ↦ never
      ] in
      record {
        none = subst (λ (t : List ℕ). HasNoResponse t)
            (sym (take_both 16384 bytes more (omega arith)))
            (never (take (16384 - length bytes) more));
        never = inr (λ later head rest reads. never (more ++ later) head rest
            (reads.0, sym (append_assoc bytes more later) ∙ reads.1));
      }
]

pub bad_stays : (call : Call) (bytes more : List ℕ) → ResponseReadsAs call bytes Bad
    → ResponseReadsAs call (bytes ++ more) Bad
bad_stays call bytes more (inl h) = inl (
  h.0,
  h.1 ++ more,
  begins_append bytes more h.0 h.1 h.2,
  bad_behind (frame_of call (status_code h.0) (fields_of h.0)) h.1 more
      (length (print_response h.0)) h.3,
)
bad_stays call bytes more (inr h) = inr (lost_stays bytes more h)

-- ---- cuts

module _ (front rest : List ℕ) (head : ResponseHead) (tail : List ℕ)
    (begins : BeginsWith (front ++ rest) head tail) where
  head_text : take (length (print_response head)) (front ++ rest) ≡ print_response head
  head_text = ap (take (length (print_response head))) begins.reads.1
      ∙ take_at (print_response head) tail (length (print_response head)) refl

  pub open_within : length front < length (print_response head) → IsUnfinished front
  open_within short = record {
    none = λ other left reads.
        let same = response_prefix_free front rest other head left tail reads begins.reads in
        let long : length (print_response other) ≡ length (print_response head) =
        ap (λ (h : ResponseHead). length (print_response h)) same.0 in
        omega (
          arith,
          long,
          ap (λ (t : List ℕ). length t) reads.1,
          length-append
              (print_response other) left,
        );
    may = (
      take (length (print_response head) - length front) rest,
      head,
      (
        begins.reads.0,
        sym (take_both (length (print_response head)) front rest (omega arith))
            ∙ head_text ∙ sym (append-nil (print_response head)),
      ),
    );
    short = omega (arith, begins.short);
  }

  pub head_within : length (print_response head) ≤ length front
      → BeginsWith front head (drop (length (print_response head)) front)
  head_within long = record {
    reads = (
      begins.reads.0,
      sym (take-append-drop (length (print_response head)) front)
          ∙ ap (λ (t : List ℕ). t ++ drop (length (print_response head)) front)
          (sym (take-append-le (length (print_response head)) front rest long) ∙ head_text),
    );
    short = begins.short;
  }

cut_behind : (x : Frame) (rest less : List ℕ) (len : ℕ) (reply : Reply) (blob : List ℕ) (used : ℕ)
    → ResponseBodyReadsAs x rest len (Whole reply blob used) → len + length less < used
    → ResponseBodyReadsAs x less len More
cut_behind Unreadable rest less len reply blob used h cut = absurd (cc h)
cut_behind (TooLong count) rest less len reply blob used h cut = let same : used ≡ len = cc h in
    absurd (omega arith)
cut_behind (Body now outcome count) rest less len reply blob used h cut = omega (arith, h.2)

pub cut_is_more : (call : Call) (front rest : List ℕ) (reply : Reply) (blob : List ℕ) (used : ℕ)
    → ResponseReadsAs call (front ++ rest) (Whole reply blob used) → length front < used
    → ResponseReadsAs call front More
cut_is_more call front rest reply blob used h cut =
    let head = h.0 in
    let len = length (print_response head) in
    elim (cases_lt (length front) len) [
      | inl short ↦ inr (open_within front rest head h.1 h.2 short)
      | inr long ↦ inl (
        head,
        drop len front,
        head_within front rest head h.1 h.2 long,
        cut_behind
            (frame_of call (status_code head) (fields_of head)) h.1 (drop len front) len reply blob
            used h.3 (omega (arith, cut, long, length-drop len front)),
      )
    ]

-- ---- one thing is read

reply_unique : (now : ℕ) (outcome : Outcome) (body : List ℕ) (r s : Reply) (b c : List ℕ)
    → IsReplyOf now outcome body r b → IsReplyOf now outcome body s c → (r ≡ s) × (b ≡ c)
reply_unique now (outcomes.Listing dir) body (replies.Listed l) (replies.Listed m) b c h k =
    let moment = h.0 ∙ sym k.0 in
    let files = files_unique dir l.entries m.entries body h.1 k.1 in
    (λ i. replies.Listed (record { now = moment i; entries = files i }), h.2 ∙ sym k.2)
reply_unique now (outcomes.Listing dir) body (replies.Listed l) s b c h k = absurd k
reply_unique now (outcomes.Listing dir) body r s b c h k = absurd h
reply_unique now (outcomes.Content limit) body r s b c h k = (h.0 ∙ sym k.0, h.1 ∙ sym k.1)
reply_unique now outcomes.Blob body r s b c h k = (h.0 ∙ sym k.0, h.1 ∙ sym k.1)
reply_unique now outcomes.Absent body r s b c h k = (h.0 ∙ sym k.0, h.1 ∙ sym k.1)
reply_unique now outcomes.Done body r s b c h k = (h.0 ∙ sym k.0, h.1 ∙ sym k.1)
reply_unique now outcomes.Other body r s b c h k = absurd h

no_body_no_reply : (now : ℕ) (outcome : Outcome) (body : List ℕ) (r : Reply) (b : List ℕ)
    → IsNoReply outcome body → IsReplyOf now outcome body r b → ⊥
no_body_no_reply now (outcomes.Listing dir) body (replies.Listed l) b none h = none l.entries h.1
no_body_no_reply now (outcomes.Listing dir) body r b none h = h
no_body_no_reply now outcomes.Other body r b none h = h
no_body_no_reply now outcome body r b none h = none

behind_unique : (x : Frame) (rest : List ℕ) (len : ℕ) (a b : ReadResponse)
    → ResponseBodyReadsAs x rest len a → ResponseBodyReadsAs x rest len b → a ≡ b
behind_unique Unreadable rest len a b h k = h ∙ sym k
behind_unique (TooLong count) rest len a b h k = h ∙ sym k
behind_unique (Body now outcome count) rest len More More h k = refl
behind_unique (Body now outcome count) rest len More Bad h k = absurd (omega (arith, h, k.0))
behind_unique (Body now outcome count) rest len More (Whole reply blob used) h k =
    absurd (omega (arith, h, k.0))
behind_unique (Body now outcome count) rest len Bad More h k = absurd (omega (arith, k, h.0))
behind_unique (Body now outcome count) rest len Bad Bad h k = refl
behind_unique (Body now outcome count) rest len Bad (Whole reply blob used) h k =
    absurd (no_body_no_reply now outcome (take count rest) reply blob h.1 k.1)
behind_unique (Body now outcome count) rest len (Whole reply blob used) More h k =
    absurd (omega (arith, k, h.0))
behind_unique (Body now outcome count) rest len (Whole reply blob used) Bad h k =
    absurd (no_body_no_reply now outcome (take count rest) reply blob k.1 h.1)
behind_unique (Body now outcome count) rest len (Whole r b u) (Whole s c v) h k =
    let same = reply_unique now outcome (take count rest) r s b c h.1 k.1 in
    let used = h.2 ∙ sym k.2 in
    λ i. Whole (same.0 i) (same.1 i) (used i)

heads_unique : (call : Call) (bytes : List ℕ) (a b : ReadResponse)
    → ResponseHeadReadsAs call bytes a → ResponseHeadReadsAs call bytes b → a ≡ b
heads_unique call bytes a b h k =
    let same = response_unique bytes k.0 h.0 k.1 h.1 k.2.reads h.2.reads in
    let head = subst (λ (x : ResponseHead). ResponseBodyReadsAs (frame_of call (status_code x)
    (fields_of x)) k.1 (length (print_response x)) b) same.0 k.3 in
    let here = subst (λ (r : List ℕ). ResponseBodyReadsAs (frame_of call (status_code h.0)
    (fields_of h.0)) r (length (print_response h.0)) b) same.1 head in
    behind_unique (frame_of call (status_code h.0) (fields_of h.0)) h.1
    (length (print_response h.0)) a b h.3 here

not_open : (call : Call) (bytes : List ℕ) (a : ReadResponse) → ResponseHeadReadsAs call bytes a
    → IsUnfinished bytes → ⊥
not_open call bytes a h o = o.none h.0 h.1 h.2.reads

not_lost : (call : Call) (bytes : List ℕ) (a : ReadResponse) → ResponseHeadReadsAs call bytes a
    → IsUnreadable bytes → ⊥
not_lost call bytes a h l = l.none h.0 (take (16384 - length (print_response h.0)) h.1)
    (h.2.reads.0, ap (take 16384) h.2.reads.1 ∙ take_both 16384 (print_response h.0) h.1 h.2.short)

open_not_lost : (bytes : List ℕ) → IsUnfinished bytes → IsUnreadable bytes → ⊥
open_not_lost bytes o l = elim l.never [
  | inl full ↦ omega (arith, full, o.short)
  | inr never ↦ never o.may.0 o.may.1 [] o.may.2
]

abbrev Cases : Call → List ℕ → ReadResponse → Type 0
Cases call bytes a = ResponseHeadReadsAs call bytes a ⊎ ((IsUnfinished bytes × (a ≡ More))
    ⊎ (IsUnreadable bytes × (a ≡ Bad)))

cases : (call : Call) (bytes : List ℕ) (a : ReadResponse) → ResponseReadsAs call bytes a
    → Cases call bytes a
cases call bytes (Whole reply blob used) h = inl h
cases call bytes More (inl h) = inl h
cases call bytes More (inr o) = inr (inl (o, refl))
cases call bytes Bad (inl h) = inl h
cases call bytes Bad (inr l) = inr (inr (l, refl))

cases_unique : (call : Call) (bytes : List ℕ) (a b : ReadResponse) → Cases call bytes a
    → Cases call bytes b → a ≡ b
cases_unique call bytes a b (inl h) (inl k) = heads_unique call bytes a b h k
cases_unique call bytes a b (inl h) (inr (inl o)) = absurd (not_open call bytes a h o.0)
cases_unique call bytes a b (inl h) (inr (inr l)) = absurd (not_lost call bytes a h l.0)
cases_unique call bytes a b (inr (inl o)) (inl k) = absurd (not_open call bytes b k o.0)
cases_unique call bytes a b (inr (inl o)) (inr (inl p)) = o.1 ∙ sym p.1
cases_unique call bytes a b (inr (inl o)) (inr (inr l)) = absurd (open_not_lost bytes o.0 l.0)
cases_unique call bytes a b (inr (inr l)) (inl k) = absurd (not_lost call bytes b k l.0)
cases_unique call bytes a b (inr (inr l)) (inr (inl o)) = absurd (open_not_lost bytes o.0 l.0)
cases_unique call bytes a b (inr (inr l)) (inr (inr m)) = l.1 ∙ sym m.1

pub one_read : (call : Call) (bytes : List ℕ) (a b : ReadResponse) → ResponseReadsAs call bytes a
    → ResponseReadsAs call bytes b → a ≡ b
one_read call bytes a b h k = cases_unique call bytes a b (cases call bytes a h)
    (cases call bytes b k)

-- ---- any cut

pub cut_reads : (call : Call) (prefix rest : List ℕ) (early late : ReadResponse)
    → ResponseReadsAs call prefix early → ResponseReadsAs call (prefix ++ rest) late
    → (early ≡ More) ⊎ (early ≡ late)
cut_reads call prefix rest More late h k = inl refl
cut_reads call prefix rest (Whole reply blob used) late h k =
    inr (one_read call (prefix ++ rest) (Whole reply blob used) late
    (whole_stays call prefix rest reply blob used h) k)
cut_reads call prefix rest Bad late h k =
    inr (one_read call (prefix ++ rest) Bad late (bad_stays call prefix rest h) k)
