-- The head of a response that the bytes begin with.
use Rattle.std.proofs.Common.{◌≡◌, ℕ, ◌*◌, ◌<◌, ◌≤◌, List, [], ◌∷◌, ◌++◌, length, take, drop, Ok, sym, ap, subst, ◌∙◌, arith, inl, inr, append_assoc}
use Rattle.std.specs.Prelude.{All}
use Rattle.std.proofs.lemmas.Bool.{cases_lt}
use Rattle.std.proofs.lemmas.List.{length-append, length-take, take-append-drop, drop-append-le, take_all}
use Rattle.httparse.specs.Grammar.{IsField, ResponseHead, print_response, ReadsResponse, HasNoResponse, NeverHasResponse}
use Rattle.httparse.specs.Outcome.{OnPartial, IfComplete}
use Rattle.httparse.specs.Spans.{ResponseExceeds}
use Rattle.httparse.specs.declared.Error.{Error}
use Rattle.httparse.specs.declared.Status.{Status}
use Rattle.httparse.specs.declared.Status.TheVariants.{Complete, Partial}
use Rattle.httparse.specs.declared.spans.ResponseSpans.{ResponseSpans}
use Rattle.dav_wire.specs.declared.frame.Frame.{Frame}
use Rattle.dav_wire.specs.declared.response_reader.ReadResponse.{ReadResponse}
use Rattle.dav_wire.specs.ResponseReading.{ResponseBodyReadsAs, BeginsWith, IsUnreadable}
use Rattle.dav_wire.proofs.RequestHeadLemmas.{fields_long}

pub begins : (bytes front : List ℕ) (h : ResponseHead) (len : ℕ) → front ≡ take 16384 bytes
    → ReadsResponse front h (drop len front) → len ≡ length (print_response h) → len ≤ length front
    → BeginsWith bytes h (drop len bytes)
begins bytes front h len is reads len-is fits =
    let tail = drop 16384 bytes in
    let whole : bytes ≡ front ++ tail = sym (take-append-drop 16384 bytes)
    ∙ ap (λ (f : List ℕ). f ++ tail) (sym is) in
    let rest : drop len bytes ≡ drop len front ++ tail = ap (drop len) whole
    ∙ drop-append-le len front tail fits in
    record {
      reads = (
        reads.0,
        whole ∙ ap (λ (f : List ℕ). f ++ tail) reads.1
            ∙ append_assoc (print_response h) (drop len front) tail
            ∙ ap (λ (r : List ℕ). print_response h ++ r) (sym rest),
      );
      short = omega (arith, ap (λ (f : List ℕ). length f) is, length-take 16384 bytes);
    }

-- what is read, by equal parts
pub reads_same : (a b : Frame) (r s : List ℕ) (i j : ℕ) (read : ReadResponse) → a ≡ b → r ≡ s
    → i ≡ j → ResponseBodyReadsAs a r i read → ResponseBodyReadsAs b s j read
reads_same a b r s i j read e f g h =
    subst (λ (x : ℕ). ResponseBodyReadsAs b s x read) g
    (subst (λ (x : List ℕ). ResponseBodyReadsAs b x i read) f
    (subst (λ (x : Frame). ResponseBodyReadsAs x r i read) e h))

pub lost_full : (bytes : List ℕ) → HasNoResponse (take 16384 bytes) → 16384 ≤ length bytes
    → IsUnreadable bytes
lost_full bytes none full = record { none = none; never = inl full }

pub lost_for_ever : (bytes : List ℕ) → NeverHasResponse (take 16384 bytes) → IsUnreadable bytes
lost_for_ever bytes never = record {
  none = λ h rest reads. never [] h (rest ++ []) (
    reads.0,
    ap (λ (t : List ℕ). t ++ []) reads.1
        ∙ append_assoc (print_response h) rest [],
  );
  never = elim (cases_lt (length bytes) 16384) [
    | inl short ↦ inr (subst (λ (t : List ℕ). NeverHasResponse t)
        (take_all 16384 bytes (omega arith)) never)
    | inr full ↦ inl full
  ];
}

-- ---- a head has no more fields than a third of its bytes

head_long : (h : ResponseHead) → All IsField h.fields
    → 3 * length h.fields ≤ length (print_response h)
unfolding print_response
head_long h fields =
    let section = fields_long h.fields fields in
    simp length-append (omega arith)

pub never_crowded : (room : ℕ) (bytes : List ℕ) → 5461 ≤ room
    → ResponseExceeds room (take 16384 bytes) → ⊥
never_crowded room bytes large h =
    let front = h.0 in
    let rest = h.1 in
    let is : take 16384 bytes ≡ front ++ rest = h.2 in
    let head = h.3 in
    let reads = h.4 in
    let text : front ++ 10 ∷ [] ≡ print_response head ++ [] = reads.1 in
    let many : room < length head.fields = h.5 in
    omega (
      arith,
      many,
      head_long head reads.0.fields,
      ap (λ (t : List ℕ). length t) text,
      length-append front (10 ∷ []),
      length-append (print_response head) [],
      ap (λ (t : List ℕ).
          length t) is,
      length-append front rest,
      length-take 16384 bytes,
    )

-- ---- what is known of one answer of the parser

pub on_partial : (status : Status ResponseSpans) (P : Type 0) → OnPartial {E = Error} (Ok status) P
    → status ≡ Partial → P
on_partial status P h is = subst (λ (s : Status ResponseSpans). OnPartial {E = Error} (Ok s) P) is h

pub on_complete : (status : Status ResponseSpans) (head : ResponseSpans) (P : ResponseSpans
    → Type 0) → IfComplete {E = Error} (Ok status) P → status ≡ Complete head → P head
on_complete status head P h is = subst (λ (s : Status ResponseSpans). IfComplete {E = Error}
    (Ok s) P) is h
