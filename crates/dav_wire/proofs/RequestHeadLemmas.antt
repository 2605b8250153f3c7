-- The head that the bytes begin with.
use Rattle.std.proofs.Common.{◌≡◌, ℕ, ◌+◌, ◌*◌, ◌<◌, ◌≤◌, List, [], ◌∷◌, ◌++◌, length, take, drop, Ok, sym, ap, subst, ◌∙◌, arith, inl, inr, append_assoc}
use Rattle.std.specs.Prelude.{All}
use Rattle.std.specs.List.{flat_map}
use Rattle.std.proofs.lemmas.List.{length-append, length-take, take-append-drop, drop-append-le, take_all}
use Rattle.std.proofs.lemmas.List.Elements.{All-head, All-tail}
use Rattle.httparse.specs.Grammar.{LineEnd, crlf, lf, print_end, Field, IsField, print_field, RequestHead, print_request, ReadsRequest, HasNoRequest, NeverHasRequest, EndsInTarget}
use Rattle.httparse.specs.Outcome.{OnPartial, IfComplete}
use Rattle.httparse.specs.Spans.{RequestExceeds}
use Rattle.httparse.specs.declared.Error.{Error}
use Rattle.httparse.specs.declared.Status.{Status}
use Rattle.httparse.specs.declared.Status.TheVariants.{Complete, Partial}
use Rattle.httparse.specs.declared.spans.RequestSpans.{RequestSpans}
use Rattle.dav_wire.specs.declared.request_reader.ReadRequest.{ReadRequest}
use Rattle.dav_parts.specs.Fields.{Fields}
use Rattle.dav_wire.specs.RequestReading.{RequestBodyReadsAs, BeginsWith, IsUnfinished, IsUnreadable}

pub begins : (bytes front : List ℕ) (h : RequestHead) (len : ℕ) → front ≡ take 16384 bytes
    → ReadsRequest front h (drop len front) → len ≡ length (print_request h) → len ≤ length front
    → BeginsWith bytes h (drop len bytes)
begins bytes front h len is reads len-is fits =
    let tail = drop 16384 bytes in
    let whole : bytes ≡ front ++ tail = sym (take-append-drop 16384 bytes)
    ∙ ap (λ (f : List ℕ). f ++ tail) (sym is) in
    let rest : drop len bytes ≡ drop len front ++ tail = ap (drop len) whole
    ∙ drop-append-le len front tail fits in
    record {
      reads = (
        reads.0,
        whole ∙ ap (λ (f : List ℕ). f ++ tail) reads.1
            ∙ append_assoc (print_request h) (drop len front) tail
            ∙ ap (λ (r : List ℕ). print_request h ++ r) (sym rest),
      );
      short = omega (arith, ap (λ (f : List ℕ). length f) is, length-take 16384 bytes);
    }

-- what is read, by equal parts
pub reads_same : (m n t u : List ℕ) (f g : Fields) (r s : List ℕ) (i j : ℕ) (read : ReadRequest)
    → m ≡ n → t ≡ u → f ≡ g → r ≡ s → i ≡ j → RequestBodyReadsAs m t f r i read
    → RequestBodyReadsAs n u g s j read
reads_same m n t u f g r s i j read a b c d e h =
    subst (λ (x : ℕ). RequestBodyReadsAs n u g s x read) e
    (subst (λ (x : List ℕ). RequestBodyReadsAs n u g x i read) d
    (subst (λ (x : Fields). RequestBodyReadsAs n u x r i read) c
    (subst (λ (x : List ℕ). RequestBodyReadsAs n x f r i read) b
    (subst (λ (x : List ℕ). RequestBodyReadsAs x t f r i read) a h))))

pub lost_full : (bytes : List ℕ) → HasNoRequest (take 16384 bytes) → 16384 ≤ length bytes
    → IsUnreadable bytes
lost_full bytes none full = record { none = none; never = inl full }

none_for_ever : (bytes : List ℕ) → NeverHasRequest bytes → HasNoRequest bytes
none_for_ever bytes never = λ h rest reads. never [] h (rest ++ [])
    (reads.0, ap (λ (t : List ℕ). t ++ []) reads.1 ∙ append_assoc (print_request h) rest [])

-- after a refusal of the parser
pub refused_full : (bytes : List ℕ) → NeverHasRequest (take 16384 bytes) → 16384 ≤ length bytes
    → IsUnreadable bytes
refused_full bytes never full = record {
  none = none_for_ever (take 16384 bytes) never;
  never =
      inl full;
}

pub refused_elsewhere : (bytes : List ℕ) → NeverHasRequest (take 16384 bytes) → length bytes < 16384
    → (EndsInTarget bytes → ⊥) → IsUnreadable bytes
refused_elsewhere bytes never short elsewhere =
    let here : NeverHasRequest bytes = subst (λ (t : List ℕ). NeverHasRequest t)
    (take_all 16384 bytes (omega arith)) never in
    record {
      none = none_for_ever (take 16384 bytes) never;
      never = inr (λ may. elim may [
        | inl found ↦ here found.0 found.1 [] found.2
        | inr inside ↦
            elsewhere inside
      ]);
    }

pub refused_in_target : (bytes : List ℕ) → NeverHasRequest (take 16384 bytes) → length bytes < 16384
    → EndsInTarget bytes → IsUnfinished bytes
refused_in_target bytes never short inside = record {
  none = none_for_ever bytes (subst (λ (t : List ℕ). NeverHasRequest t)
      (take_all 16384 bytes (omega arith)) never);
  may = inr inside;
  short = short;
}

-- ---- a head has no more fields than a third of its bytes

end_long : (end : LineEnd) → 1 ≤ length (print_end end)
end_long crlf = omega arith
end_long lf = omega arith

field_long : (f : Field) → 0 < length f.name → 3 ≤ length (print_field f)
field_long f some = simp length-append (omega (arith, some, end_long f.end))

pub fields_long : (fields : List Field) → All IsField fields
    → 3 * length fields ≤ length (flat_map print_field fields)
fields_long [] h = omega arith
fields_long (f ∷ fields) h =
    let rest = fields_long fields (All-tail IsField f fields h) in
    let name : 0 < length f.name = (All-head IsField f fields h).name.0 in
    let one : 3 ≤ length (print_field f) = field_long f name in
    let both : length (print_field f ++ flat_map print_field fields)
    ≡ length (print_field f) + length (flat_map print_field fields) =
    length-append (print_field f) (flat_map print_field fields) in
    rw both (omega (arith, rest, one))

head_long : (h : RequestHead) → All IsField h.fields
    → 3 * length h.fields ≤ length (print_request h)
unfolding print_request
head_long h fields =
    let section = fields_long h.fields fields in
    simp length-append (omega arith)

pub never_crowded : (room : ℕ) (bytes : List ℕ) → 5461 ≤ room
    → RequestExceeds room (take 16384 bytes) → ⊥
never_crowded room bytes large h =
    let front = h.0 in
    let rest = h.1 in
    let is : take 16384 bytes ≡ front ++ rest = h.2 in
    let head = h.3 in
    let reads = h.4 in
    let text : front ++ 10 ∷ [] ≡ print_request head ++ [] = reads.1 in
    let many : room < length head.fields = h.5 in
    omega (
      arith,
      many,
      head_long head reads.0.fields,
      ap (λ (t : List ℕ). length t) text,
      length-append front (10 ∷ []),
      length-append (print_request head) [],
      ap (λ (t : List ℕ).
          length t) is,
      length-append front rest,
      length-take 16384 bytes,
    )

-- ---- what is known of one answer of the parser

pub on_partial : (status : Status RequestSpans) (P : Type 0) → OnPartial {E = Error} (Ok status) P
    → status ≡ Partial → P
on_partial status P h is = subst (λ (s : Status RequestSpans). OnPartial {E = Error} (Ok s) P) is h

pub on_complete : (status : Status RequestSpans) (head : RequestSpans) (P : RequestSpans → Type 0)
    → IfComplete {E = Error} (Ok status) P → status ≡ Complete head → P head
on_complete status head P h is = subst (λ (s : Status RequestSpans). IfComplete {E = Error}
    (Ok s) P) is h
