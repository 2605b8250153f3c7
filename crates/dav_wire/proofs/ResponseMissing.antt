-- How many bytes of a response are missing.
use Rattle.std.proofs.Common.{◌≡◌, ℕ, ◌-◌, ◌<◌, List, [], ◌++◌, length, take, drop, refl, sym, ap, subst, ◌∙◌, arith, inl, inr}
use Rattle.std.proofs.lemmas.List.{take-append-drop, length-append, length-map}
use Rattle.httparse.specs.Grammar.{ResponseHead, print_response, HasNoResponse, status_code}
use Rattle.httparse.specs.Spans.{ResponseOverflows, name_and_value}
use Rattle.httparse.proofs.GrammarLemmas.{response_unique}
use Rattle.jop_target.specs.declared.call.Call.{Call}
use Rattle.dav_wire.specs.ResponseFrames.{frame_of}
use Rattle.dav_wire.specs.ResponseReading.{BeginsWith, IsResponseMissing, ResponseBodyReadsAs, ResponseHeadReadsAs, ResponseReadsAs, fields_of}
use Rattle.dav_wire.proofs.FrameLemmas.{frame_crowded}
use Rattle.dav_wire.specs.declared.frame.Frame.{Frame}
use Rattle.dav_wire.specs.declared.response_reader.ReadResponse.TheVariants.{Whole, More, Bad}
use Rattle.dav_wire.proofs.RequestStream.{take_both}
use Rattle.dav_wire.proofs.ResponseStream.{begins_append}
use Rattle.dav_wire.specs.declared.frame.Frame.TheVariants.{Unreadable, TooLong, Body}
use Rattle.jop_target.specs.declared.reply.Reply.TheVariants.{TooLarge}
use Rattle.dav_wire.specs.declared.outcome.Outcome.{Outcome}

pub framed_alike : (call : Call) (bytes : List ℕ) (a b : ResponseHead) (r q : List ℕ)
    → BeginsWith bytes a r → BeginsWith bytes b q
    → frame_of call (status_code a) (fields_of a) ≡ frame_of call (status_code b) (fields_of b)
framed_alike call bytes a b r q x y =
    ap (λ (h : ResponseHead). frame_of call (status_code h) (fields_of h))
    (response_unique bytes a b r q x.reads y.reads).0

pub other_misses_nothing : (call : Call) (bytes : List ℕ) (h : ResponseHead) (rest : List ℕ)
    → BeginsWith bytes h rest
    → ((now : ℕ) (outcome : Outcome) (n : ℕ)
    → frame_of call (status_code h) (fields_of h) ≡ Body now outcome n → ⊥)
    → (missing : ℕ) → IsResponseMissing call bytes missing → ⊥
other_misses_nothing call bytes h rest begun other missing m =
    other m.3 m.4 m.5 (framed_alike call bytes h m.0 rest m.1 begun m.2 ∙ m.6)

pub none_misses_nothing : (call : Call) (bytes : List ℕ) → HasNoResponse (take 16384 bytes)
    → (missing : ℕ) → IsResponseMissing call bytes missing → ⊥
none_misses_nothing call bytes none missing m =
    none m.0 (take (16384 - length (print_response m.0)) m.1)
    (m.2.reads.0, ap (take 16384) m.2.reads.1 ∙ take_both 16384 (print_response m.0) m.1 m.2.short)

pub crowded_misses_nothing : (call : Call) (bytes : List ℕ)
    → ResponseOverflows 128 (take 16384 bytes)
    → (missing : ℕ) → IsResponseMissing call bytes missing → ⊥
crowded_misses_nothing call bytes over missing m =
    let whole : take 16384 bytes ++ drop 16384 bytes ≡ bytes = take-append-drop 16384 bytes in
    let many : 128 < length m.0.fields =
    over (drop 16384 bytes) m.0 m.1 (m.2.reads.0, whole ∙ m.2.reads.1) in
    let refused = frame_crowded call (status_code m.0) (fields_of m.0)
    (omega (arith, many, length-map m.0.fields name_and_value)) in
    let body = m.6 in
    cc

-- ---- what is missing and what is read

pub more_while_missing : (call : Call) (bytes : List ℕ) (missing : ℕ)
    → IsResponseMissing call bytes missing → 0 < missing → ResponseReadsAs call bytes More
more_while_missing call bytes missing m some =
    let len = length (print_response m.0) in
    let short : length m.1 < m.5 = omega (arith, m.7, some) in
    inl (m.0, m.1, m.2, subst (λ (x : Frame). ResponseBodyReadsAs x m.1 len More) (sym m.6) short)

pub missing_falls : (call : Call) (bytes more : List ℕ) (missing : ℕ)
    → IsResponseMissing call bytes missing
    → IsResponseMissing call (bytes ++ more) (missing - length more)
missing_falls call bytes more missing m = (
  m.0,
  m.1 ++ more,
  begins_append bytes more m.0 m.1 m.2,
  m.3,
  m.4,
  m.5,
  m.6,
  omega (arith, m.7, length-append m.1 more),
)

pub none_missing : (call : Call) (bytes : List ℕ) → IsResponseMissing call bytes 0
    → ResponseReadsAs call bytes More → ⊥
none_missing call bytes m (inl h) =
    let same = response_unique bytes m.0 h.0 m.1 h.1 m.2.reads h.2.reads in
    let len = length (print_response h.0) in
    let framed = sym (framed_alike call bytes m.0 h.0 m.1 h.1 m.2 h.2) ∙ m.6 in
    let short : length h.1 < m.5 =
    subst (λ (x : Frame). ResponseBodyReadsAs x h.1 len More) framed h.3 in
    omega (arith, m.7, short, ap (λ (t : List ℕ). length t) same.1)
none_missing call bytes m (inr o) = o.none m.0 m.1 m.2.reads

-- ---- a head that isn't whole

no_more_bad : More ≡ Bad → ⊥
no_more_bad h = cc

no_more_whole : (count len : ℕ) → More ≡ Whole (TooLarge count) [] len → ⊥
no_more_whole count len h = cc

headed : (call : Call) (bytes : List ℕ) (h : ResponseHead) (rest : List ℕ) (frame : Frame) (len : ℕ)
    → BeginsWith bytes h rest → frame_of call (status_code h) (fields_of h) ≡ frame
    → ResponseBodyReadsAs frame rest len More → (missing : ℕ) × IsResponseMissing call bytes missing
headed call bytes h rest Unreadable len begun is read = absurd (no_more_bad read)
headed call bytes h rest (TooLong count) len begun is read = absurd (no_more_whole count len read)
headed call bytes h rest (Body now outcome n) len begun is read =
    (n - length rest, (h, rest, begun, now, outcome, n, is, refl))

headed_misses : (call : Call) (bytes : List ℕ)
    → ((missing : ℕ) → ¬ (IsResponseMissing call bytes missing))
    → ResponseHeadReadsAs call bytes More → ⊥
headed_misses call bytes none h =
    let found = headed call bytes h.0 h.1 (frame_of call (status_code h.0) (fields_of h.0))
    (length (print_response h.0)) h.2 refl h.3 in
    none found.0 found.1

-- without a head that tells what is missing, too little is less than a head
pub open_is_short : (call : Call) (bytes : List ℕ)
    → ((missing : ℕ) → ¬ (IsResponseMissing call bytes missing))
    → ResponseReadsAs call bytes More → length bytes < 16_384
open_is_short call bytes none more = elim more [
  | inl head ↦ absurd (headed_misses call bytes none head)
  | inr early ↦ early.short
]
