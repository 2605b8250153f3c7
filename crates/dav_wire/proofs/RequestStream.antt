-- What is read of a request that comes in pieces.
use Rattle.std.proofs.Common.{◌≡◌, ℕ, zero, suc, ◌+◌, ◌-◌, ◌<◌, ◌≤◌, List, [], ◌∷◌, ◌++◌, length, take, drop, refl, sym, ap, subst, ◌∙◌, arith, inl, inr, append_assoc, append-nil}
use Rattle.std.proofs.lemmas.Bool.{cases_lt}
use Rattle.std.proofs.lemmas.List.{length-append, length-drop, take-append-drop, take-append-le, take_all, take_at}
use Rattle.std.specs.Prelude.{codes, slice_index, IsTrue}
use Rattle.std.specs.Str.{IsUtf8}
use Rattle.std.proofs.lemmas.Str.{IsUtf8-from_ascii}
use Rattle.std.proofs.lemmas.List.Elements.{All-cons, All-nil, All-take}
use Rattle.httparse.specs.Grammar.{RequestHead, IsRequestHead, print_request, print_blank, ReadsRequest, HasNoRequest, MayBecomeRequest, LineEnd, crlf, IsField, IsToken, AllPass, is_uri_byte}
use Rattle.httparse.proofs.GrammarLemmas.{ReadsRequest-append, request_prefix_free, cons-append}
use Rattle.dav_wire.specs.declared.request.Request.{Request}
use Rattle.dav_wire.specs.declared.request_reader.ReadRequest.TheVariants.{Whole, More, Bad}
use Rattle.dav_wire.specs.Requests.{IsRequestFrom}
use Rattle.dav_wire.specs.RequestReading.{BeginsWith, IsUnfinished, IsUnreadable, RequestReadsAs, fields_of}

-- so many bytes of two texts in a row, the first of which is no longer
pub take_both : (n : ℕ) (s t : List ℕ) → length s ≤ n → take n (s ++ t) ≡ s ++ take (n - length s) t
take_both n [] t h = ap (λ (k : ℕ). take k t) (omega arith)
take_both zero (b ∷ s) t h = absurd (omega arith)
take_both (suc n) (b ∷ s) t h =
    let count : n - length s ≡ suc n - length (b ∷ s) = omega arith in
    ap (λ (xs : List ℕ). b ∷ xs) (take_both n s t (omega arith))
    ∙ ap (λ (k : ℕ). b ∷ (s ++ take k t)) count

pub begins_append : (bytes more : List ℕ) (head : RequestHead) (rest : List ℕ)
    → BeginsWith bytes head rest → BeginsWith (bytes ++ more) head (rest ++ more)
begins_append bytes more head rest b =
    record { reads = ReadsRequest-append bytes head rest more b.reads; short = b.short }

pub whole_stays : (bytes more : List ℕ) (request : Request) (used : ℕ)
    → RequestReadsAs bytes (Whole request used) → RequestReadsAs (bytes ++ more)
    (Whole request used)
whole_stays bytes more request used h =
    let head = h.0 in
    let rest = h.1 in
    let n = h.3.0 in
    let fits : n ≤ length rest = h.3.2 in (
      head,
      rest ++ more,
      begins_append bytes more head rest h.2,
      (
        n,
        h.3.1,
        omega (arith, fits, length-append rest more),
        subst (λ (body : List ℕ). IsRequestFrom head.method head.target (fields_of head) body
            request) (sym (take-append-le n rest more fits)) h.3.3,
        h.3.4,
      ),
    )

-- ---- what may still become a request could before its last bytes came

bare : List LineEnd → List ℕ → RequestHead
bare blank method = record {
  blank = blank;
  method = method;
  target = 47 ∷ [];
  minor = 1;
  line_end =
      crlf;
  fields = [];
  last = crlf;
}

slash_is_text : IsUtf8 (47 ∷ [])
slash_is_text = IsUtf8-from_ascii (47 ∷ []) ascii
  where
    ascii : (i : ℕ) → slice_index (47 ∷ []) i < 128
    ascii zero = omega arith
    ascii (suc i) = omega arith

bare_head : (blank : List LineEnd) (method : List ℕ) → IsToken method
    → IsRequestHead (bare blank method)
unfolding bare
bare_head blank method token = record {
  method = token;
  target = (
    omega arith,
    All-cons (λ b. IsTrue (is_uri_byte b)) 47 [] refl
        (All-nil (λ b. IsTrue (is_uri_byte b))),
  );
  target_text = slash_is_text;
  minor = omega arith;
  fields = All-nil IsField;
}

abbrev bare_rest : List ℕ
bare_rest = codes "/ HTTP/1.1\r\n\r\n"

bare_text : (blank : List LineEnd) (method : List ℕ) → (print_blank blank ++ (method ++ 32 ∷ []))
    ++ bare_rest ≡ print_request (bare blank method)
unfolding bare print_request
bare_text blank method = simp (append_assoc, cons-append)

cut_line : (bytes more : List ℕ) (blank : List LineEnd) (method target : List ℕ) → IsToken method
    → AllPass is_uri_byte target → bytes ++ more ≡ (print_blank blank ++ (method ++ 32 ∷ []))
    ++ target → MayBecomeRequest bytes
cut_line bytes more blank method target token uri e =
    let start = print_blank blank ++ (method ++ 32 ∷ []) in
    elim (cases_lt (length bytes) (length start)) [
      | inl short ↦
          let left = take (length start - length bytes) more in
          let begun : bytes ++ left ≡ start =
          sym (take_both (length start) bytes more (omega arith)) ∙ ap (take (length start)) e
          ∙ take_at start target (length start) refl in
          inl (
            left ++ bare_rest,
            bare blank method,
            (
              bare_head blank method token,
              sym (append_assoc bytes left bare_rest)
                  ∙ ap (λ (t : List ℕ). t ++ bare_rest) begun ∙ bare_text blank method
                  ∙ sym (append-nil (print_request (bare blank method))),
            ),
          )
      | inr long ↦
          let kept = take (length bytes - length start) target in
          let whole : bytes ≡ start ++ kept = sym (take_at bytes more (length bytes) refl)
          ∙ ap (take (length bytes)) e ∙ take_both (length bytes) start target long in
          inr (
            blank,
            method,
            kept,
            token,
            All-take (λ b. IsTrue (is_uri_byte b))
                (length bytes - length start) target uri,
            whole
                ∙ regroup (print_blank blank) method kept,
          )
    ]
  where
    regroup : (a b c : List ℕ) → (a ++ (b ++ 32 ∷ [])) ++ c ≡ a ++ b ++ 32 ∷ c
    regroup a b c = simp (append_assoc, cons-append)

pub may_before : (bytes more : List ℕ) → MayBecomeRequest (bytes ++ more) → MayBecomeRequest bytes
may_before bytes more (inl found) =
    inl (more ++ found.0, found.1, (found.2.0, sym (append_assoc bytes more found.0) ∙ found.2.1))
may_before bytes more (inr inside) = cut_line bytes more inside.0 inside.1 inside.2 inside.3
    inside.4 (inside.5 ∙ regroup (print_blank inside.0) inside.1 inside.2)
  where
    regroup : (a b c : List ℕ) → a ++ b ++ 32 ∷ c ≡ (a ++ (b ++ 32 ∷ [])) ++ c
    regroup a b c = simp (append_assoc, cons-append)

-- if a head is whole later and none is yet, one may still be
may_by_later : (bytes more : List ℕ) (head : RequestHead) (rest : List ℕ) → HasNoRequest bytes
    → ReadsRequest (bytes ++ more) head rest → MayBecomeRequest bytes
may_by_later bytes more head rest none reads =
    let len = length (print_request head) in
    elim (cases_lt (length bytes) len) [
      | inl short ↦ inl (
        take (len - length bytes) more,
        head,
        (
          reads.0,
          sym (take_both len bytes more (omega arith)) ∙ ap (take len) reads.1
              ∙ take_at (print_request head) rest len refl ∙ sym (append-nil (print_request head)),
        ),
      )
      | inr long ↦
          let front : take len bytes ≡ print_request head = sym (take-append-le len bytes more long)
          ∙ ap (take len) reads.1 ∙ take_at (print_request head) rest len refl in
          absurd (none head (drop len bytes) (
            reads.0,
            sym (take-append-drop len bytes)
                ∙ ap (λ (t : List ℕ). t ++ drop len bytes) front,
          ))
    ]

lost_stays : (bytes more : List ℕ) → IsUnreadable bytes → IsUnreadable (bytes ++ more)
lost_stays bytes more h = elim (cases_lt (length bytes) 16384) [
  | inr full ↦ record {
    none = subst (λ (t : List ℕ). HasNoRequest t) (sym (take-append-le 16384 bytes more full))
        h.none;
    never = inl (omega (arith, full, length-append bytes more));
  }
  | inl short ↦
      let never : MayBecomeRequest bytes
      → ⊥ = elim h.never [ inl full ↦ absurd (omega arith) | inr never ↦ never ] in
      let none : HasNoRequest bytes = subst (λ (t : List ℕ). HasNoRequest t)
      (take_all 16384 bytes (omega arith)) h.none in
      record {
        none = subst (λ (t : List ℕ). HasNoRequest t)
            (sym (take_both 16384 bytes more (omega arith))) (λ head rest reads.
            never (may_by_later bytes (take (16384 - length bytes) more) head rest none reads));
        never = inr (λ may. never (may_before bytes more may));
      }
]

pub bad_stays : (bytes more : List ℕ) (status : ℕ) → RequestReadsAs bytes (Bad status)
    → RequestReadsAs (bytes ++ more) (Bad status)
bad_stays bytes more status (inl h) = inl (
  h.0,
  h.1 ++ more,
  begins_append bytes more h.0 h.1 h.2,
  h.3,
)
bad_stays bytes more status (inr h) = inr (lost_stays bytes more h.0, h.1)

-- ---- cut within the head

module _ (front rest : List ℕ) (head : RequestHead) (tail : List ℕ)
    (begins : BeginsWith (front ++ rest) head tail) where
  head_text : take (length (print_request head)) (front ++ rest) ≡ print_request head
  head_text = ap (take (length (print_request head))) begins.reads.1
      ∙ take_at (print_request head) tail (length (print_request head)) refl

  open_within : length front < length (print_request head) → IsUnfinished front
  open_within short = record {
    none = λ other left reads.
        let same = request_prefix_free front rest other head left tail reads begins.reads in
        let long : length (print_request other) ≡ length (print_request head) =
        ap (λ (h : RequestHead). length (print_request h)) same.0 in
        omega (
          arith,
          long,
          ap (λ (t : List ℕ). length t) reads.1,
          length-append
              (print_request other) left,
        );
    may = inl (
      take (length (print_request head) - length front) rest,
      head,
      (
        begins.reads.0,
        sym (take_both (length (print_request head)) front rest (omega arith))
            ∙ head_text ∙ sym (append-nil (print_request head)),
      ),
    );
    short = omega (arith, begins.short);
  }

  head_within : length (print_request head) ≤ length front
      → BeginsWith front head (drop (length (print_request head)) front)
  head_within long = record {
    reads = (
      begins.reads.0,
      sym (take-append-drop (length (print_request head)) front)
          ∙ ap (λ (t : List ℕ). t ++ drop (length (print_request head)) front)
          (sym (take-append-le (length (print_request head)) front rest long) ∙ head_text),
    );
    short = begins.short;
  }

pub cut_is_more : (front rest : List ℕ) (request : Request) (used : ℕ)
    → RequestReadsAs (front ++ rest) (Whole request used) → length front < used
    → RequestReadsAs front More
cut_is_more front rest request used h cut =
    let head = h.0 in
    let len = length (print_request head) in
    let n = h.3.0 in
    let used-is : used ≡ len + n = h.3.4 in
    elim (cases_lt (length front) len) [
      | inl short ↦ inr (open_within front rest head h.1 h.2 short)
      | inr long ↦ inl (
        head,
        drop len front,
        head_within front rest head h.1 h.2 long,
        (n, h.3.1, omega (arith, long, used-is, cut, length-drop len front)),
      )
    ]
