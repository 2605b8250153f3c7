-- How many bytes of a request are missing.
use Rattle.std.proofs.Common.{◌≡◌, ℕ, ◌-◌, ◌<◌, List, ◌++◌, length, take, drop, ap, ◌∙◌, arith, inl, inr}
use Rattle.std.proofs.lemmas.List.{take-append-drop, length-append, length-map}
use Rattle.httparse.specs.Grammar.{RequestHead, print_request, HasNoRequest}
use Rattle.httparse.specs.Spans.{RequestOverflows, name_and_value}
use Rattle.httparse.proofs.GrammarLemmas.{request_unique}
use Rattle.dav_wire.specs.Requests.{framing_of}
use Rattle.dav_wire.specs.RequestReading.{BeginsWith, IsRequestMissing, RequestReadsAs, fields_of}
use Rattle.dav_wire.specs.declared.framing.Framing.TheVariants.{Refused}
use Rattle.dav_wire.proofs.FramingLemmas.{framing_crowded}
use Rattle.dav_wire.specs.declared.request_reader.ReadRequest.TheVariants.{More}
use Rattle.dav_wire.proofs.RequestStream.{begins_append, take_both}

framed_alike : (bytes : List ℕ) (a b : RequestHead) (r q : List ℕ) → BeginsWith bytes a r
    → BeginsWith bytes b q
    → framing_of a.method a.target (fields_of a) ≡ framing_of b.method b.target (fields_of b)
framed_alike bytes a b r q x y =
    ap (λ (h : RequestHead). framing_of h.method h.target (fields_of h))
    (request_unique bytes a b r q x.reads y.reads).0

pub refused_misses_nothing : (bytes : List ℕ) (h : RequestHead) (rest : List ℕ) (status : ℕ)
    → BeginsWith bytes h rest → framing_of h.method h.target (fields_of h) ≡ Refused status
    → (missing : ℕ) → IsRequestMissing bytes missing → ⊥
refused_misses_nothing bytes h rest status begun refused missing m =
    let same = framed_alike bytes m.0 h m.1 rest m.2 begun in
    let body = m.4 in
    cc

pub none_misses_nothing : (bytes : List ℕ) → HasNoRequest (take 16384 bytes)
    → (missing : ℕ) → IsRequestMissing bytes missing → ⊥
none_misses_nothing bytes none missing m =
    none m.0 (take (16384 - length (print_request m.0)) m.1)
    (m.2.reads.0, ap (take 16384) m.2.reads.1 ∙ take_both 16384 (print_request m.0) m.1 m.2.short)

pub crowded_misses_nothing : (bytes : List ℕ) → RequestOverflows 128 (take 16384 bytes)
    → (missing : ℕ) → IsRequestMissing bytes missing → ⊥
crowded_misses_nothing bytes over missing m =
    let whole : take 16384 bytes ++ drop 16384 bytes ≡ bytes = take-append-drop 16384 bytes in
    let many : 128 < length m.0.fields =
    over (drop 16384 bytes) m.0 m.1 (m.2.reads.0, whole ∙ m.2.reads.1) in
    let refused = framing_crowded m.0.method m.0.target (fields_of m.0)
    (omega (arith, many, length-map m.0.fields name_and_value)) in
    let body = m.4 in
    cc

-- ---- what is missing and what is read

pub more_while_missing : (bytes : List ℕ) (missing : ℕ) → IsRequestMissing bytes missing
    → 0 < missing
    → RequestReadsAs bytes More
more_while_missing bytes missing m some =
    inl (m.0, m.1, m.2, (m.3, m.4, omega (arith, m.5, some)))

pub missing_falls : (bytes more : List ℕ) (missing : ℕ) → IsRequestMissing bytes missing
    → IsRequestMissing (bytes ++ more) (missing - length more)
missing_falls bytes more missing m = (
  m.0,
  m.1 ++ more,
  begins_append bytes more m.0 m.1 m.2,
  m.3,
  m.4,
  omega (arith, m.5, length-append m.1 more),
)

pub none_missing : (bytes : List ℕ) → IsRequestMissing bytes 0 → RequestReadsAs bytes More → ⊥
none_missing bytes m (inl h) =
    let same = request_unique bytes m.0 h.0 m.1 h.1 m.2.reads h.2.reads in
    let framed = framed_alike bytes m.0 h.0 m.1 h.1 m.2 h.2 in
    let n : m.3 ≡ h.3.0 = cc (m.4, h.3.1, framed) in
    omega (arith, n, m.5, h.3.2, ap (λ (t : List ℕ). length t) same.1)
none_missing bytes m (inr o) = o.none m.0 m.1 m.2.reads
