-- Heads of 1xx that were read over: they are those with which any answer begins.
use Rattle.std.proofs.Common.{◌≡◌, ◌∙◌, ◌<◌, arith, inl, inr, refl, sym, ap, subst, append_assoc, ℕ, List, [], ◌∷◌, ◌++◌, length, Bool, true, false, not}
use Rattle.std.specs.Prelude.{Contains, ◌==◌, nat_lt}
use Rattle.std.proofs.lemmas.Bool.{and_parts, eq-eqb, false≢true}
use Rattle.std.proofs.lemmas.List.{length-append}
use Rattle.std.proofs.lemmas.List.Elements.{Contains-append_right}
use Rattle.httparse.specs.Grammar.{ResponseHead, status_code}
use Rattle.httparse.proofs.GrammarLemmas.{ReadsResponse-append, response_prefix_free}
use Rattle.http1.specs.declared.conn.Limits.{Limits}
use Rattle.http1.specs.declared.framing.Framing.{Framing}
use Rattle.http1.specs.declared.framing.MethodKind.TheVariants as Method
use Rattle.http1.specs.Client.{is_interim}
use Rattle.http1.specs.Message.{AcceptsResponse, Response}
use Rattle.http_exchange.specs.Answers.{BeginsWithAnswer, HasInterim, PassesInterims}
use Rattle.http_exchange.specs.Causes.{IsCrowded, IsHeadless, IsOddHead, NeverAnswers, NeverHeads}

pub accepts_more : (limits : Limits) (bytes : List ℕ) (head : ResponseHead) (framing : Framing)
    (after more : List ℕ) → AcceptsResponse limits Method.Other bytes head framing after
    → AcceptsResponse limits Method.Other (bytes ++ more) head framing (after ++ more)
accepts_more limits bytes head framing after more a = record {
  reads = ReadsResponse-append bytes head after more a.reads;
  strict = a.strict;
  status = a.status;
  framed = a.framed;
}

-- more bytes follow
pub passes_more : (limits : Limits) (heads : List ResponseHead) (bytes rest more : List ℕ)
    → PassesInterims limits heads bytes rest
    → PassesInterims limits heads (bytes ++ more) (rest ++ more)
passes_more limits [] bytes rest more is = ap (λ (t : List ℕ). t ++ more) is
passes_more limits (head ∷ heads) bytes rest more (after, has, later) = (
  after ++ more,
  record {
    framing = has.framing;
    accepts = accepts_more limits bytes head has.framing after more has.accepts;
    interim = has.interim;
  },
  passes_more limits heads after rest more later,
)

-- one head more
pub passes_one : (limits : Limits) (heads : List ResponseHead) (bytes rest : List ℕ)
    (head : ResponseHead) (after : List ℕ) → PassesInterims limits heads bytes rest
    → HasInterim limits rest head after → PassesInterims limits (heads ++ head ∷ []) bytes after
passes_one limits [] bytes rest head after is has =
    (after, subst (λ (t : List ℕ). HasInterim limits t head after) (sym is) has, refl)
passes_one limits (first ∷ heads) bytes rest head after (mid, is, later) has =
    (mid, is, passes_one limits heads mid rest head after later has)

pub interim_is_low : (status : ℕ) → is_interim status ≡ true → nat_lt status 200 ≡ true
interim_is_low status is = (and_parts (nat_lt status 200) (not (status == 101)) is).0

not_both : (b : Bool) → b ≡ true → not b ≡ true → ⊥
not_both true h k = false≢true k
not_both false h k = false≢true h

interim_is_no_101 : (status : ℕ) → is_interim status ≡ true → ¬ (status ≡ 101)
interim_is_no_101 status is same =
    not_both (status == 101) (eq-eqb status 101 same)
    (and_parts (nat_lt status 200) (not (status == 101)) is).1

final_is_no_101 : (status : ℕ) → nat_lt status 200 ≡ false → ¬ (status ≡ 101)
final_is_no_101 status final same =
    false≢true (sym final ∙ ap (λ (n : ℕ). nat_lt n 200) same)

-- ---- an answer of bytes that begin with heads of 1xx

-- what is left of the answer behind these heads
pub record GoesOn (limits : Limits) (heads : List ResponseHead) (bytes : List ℕ)
    (response : Response) (rest : List ℕ) (all : List ResponseHead) (behind : List ℕ) : Type 0 where
  pub later : List ResponseHead
  pub all_are : all ≡ heads ++ later
  pub passes : PassesInterims limits later bytes behind

goes_on_at : (limits : Limits) (heads all : List ResponseHead) (bytes mid more behind : List ℕ)
    (response : Response) (rest after : List ℕ) (framing : Framing)
    → PassesInterims limits heads bytes mid → PassesInterims limits all (bytes ++ more) behind
    → nat_lt (status_code response.head) 200 ≡ false
    → AcceptsResponse limits Method.Other behind response.head framing after
    → GoesOn limits heads (mid ++ more) response rest all behind
goes_on_at limits [] all bytes mid more behind response rest after framing is passes final accepts =
    record {
      later = all;
      all_are = refl;
      passes = subst (λ (t : List ℕ). PassesInterims limits all (t ++ more) behind) is passes;
    }
goes_on_at limits (head ∷ heads) [] bytes mid more behind response rest after framing (next, has, later) passes final accepts =
    let one = response_prefix_free bytes more head response.head next after has.accepts.reads
    (subst (λ (t : List ℕ).
    AcceptsResponse limits Method.Other t response.head framing after) (sym passes) accepts).reads in
    absurd (false≢true (sym final
    ∙ ap (λ (h : ResponseHead). nat_lt (status_code h) 200) (sym one.0)
    ∙ interim_is_low (status_code head) has.interim))
goes_on_at limits (head ∷ heads) (first ∷ all) bytes mid more behind response rest after framing (next, has, later) (mine, is, passes) final accepts =
    let one = response_prefix_free bytes more head first next mine has.accepts.reads is.accepts.reads in
    let r = goes_on_at limits heads all next mid more behind response rest after framing later
    (subst (λ (t : List ℕ). PassesInterims limits all t behind) (sym one.1) passes) final accepts in
    record {
      later = r.later;
      all_are = (λ i. sym one.0 i ∷ r.all_are i);
      passes = r.passes;
    }

pub goes_on : (limits : Limits) (heads : List ResponseHead) (bytes mid more : List ℕ)
    (response : Response) (rest : List ℕ) → PassesInterims limits heads bytes mid
    → (answer : BeginsWithAnswer limits (bytes ++ more) response rest)
    → GoesOn limits heads (mid ++ more) response rest answer.heads answer.behind
goes_on limits heads bytes mid more response rest passed answer =
    goes_on_at limits heads answer.heads bytes mid more answer.behind response rest
    answer.reads.after_head answer.reads.framing passed answer.passes answer.final answer.reads.head

-- the head that comes next in an answer, which is none of 101
record HasNext (limits : Limits) (bytes : List ℕ) (later : List ResponseHead) (last : ResponseHead)
    : Type 0 where
  head : ResponseHead
  framing : Framing
  after : List ℕ
  accepts : AcceptsResponse limits Method.Other bytes head framing after
  plain : ¬ (status_code head ≡ 101)
  among : Contains (later ++ last ∷ []) head

next_of : (limits : Limits) (bytes behind after : List ℕ) (later : List ResponseHead)
    (last : ResponseHead) (framing : Framing) → PassesInterims limits later bytes behind
    → nat_lt (status_code last) 200 ≡ false
    → AcceptsResponse limits Method.Other behind last framing after → HasNext limits bytes later last
next_of limits bytes behind after [] last framing is final accepts = record {
  head = last;
  framing = framing;
  after = after;
  accepts = subst (λ (t : List ℕ). AcceptsResponse limits Method.Other t last framing after) (sym is)
      accepts;
  plain = final_is_no_101 (status_code last) final;
  among = (0, omega arith, refl);
}
next_of limits bytes behind after (head ∷ later) last framing (mid, has, passes) final accepts = record {
  head = head;
  framing = has.framing;
  after = mid;
  accepts = has.accepts;
  plain = interim_is_no_101 (status_code head) has.interim;
  among = (0, omega arith, refl);
}

crowded : (heads later all : List ResponseHead) (last head : ResponseHead) → all ≡ heads ++ later
    → Contains (later ++ last ∷ []) head → 128 < length head.fields → IsCrowded all last
crowded heads later all last head are among many = (
  head,
  subst (λ (hs : List ResponseHead). Contains hs head)
      (sym (append_assoc heads later (last ∷ []))
      ∙ ap (λ (hs : List ResponseHead). hs ++ last ∷ []) (sym are))
      (Contains-append_right heads (later ++ last ∷ []) head among),
  many,
)

no_odd : (head : ResponseHead) → ¬ (status_code head ≡ 101) → IsOddHead head
    → 128 < length head.fields
no_odd head plain (inl is) = absurd (plain is)
no_odd head plain (inr many) = many

-- behind heads of 1xx no other one comes that is read over, so no answer
pub never_behind : (limits : Limits) (limit : ℕ) (heads : List ResponseHead)
    (bytes mid more_bytes : List ℕ) → PassesInterims limits heads bytes mid
    → NeverHeads limits (mid ++ more_bytes) → NeverAnswers limits limit (bytes ++ more_bytes)
never_behind limits limit heads bytes mid more_bytes passed never more response rest answer =
    let longer = passes_more limits heads bytes mid more_bytes passed in
    let g = goes_on limits heads (bytes ++ more_bytes) (mid ++ more_bytes) more response rest longer
    answer in
    let n = next_of limits ((mid ++ more_bytes) ++ more) answer.behind answer.reads.after_head g.later
    response.head answer.reads.framing g.passes answer.final answer.reads.head in
    inl (crowded heads g.later answer.heads response.head n.head g.all_are n.among
    (no_odd n.head n.plain (never more n.head n.framing n.after n.accepts)))

-- behind heads of 1xx nothing but the end came, so no answer
pub answerless_behind : (limits : Limits) (heads : List ResponseHead) (bytes mid more_bytes : List ℕ)
    → PassesInterims limits heads bytes mid → IsHeadless limits (mid ++ more_bytes)
    → (response : Response) (rest : List ℕ) → ¬ (BeginsWithAnswer limits (bytes ++ more_bytes) response rest)
answerless_behind limits heads bytes mid more_bytes passed none response rest answer =
    let g = goes_on limits heads bytes mid more_bytes response rest passed answer in
    let n = next_of limits (mid ++ more_bytes) answer.behind answer.reads.after_head g.later
    response.head answer.reads.framing g.passes answer.final answer.reads.head in
    none n.head n.framing n.after n.accepts

-- more than sixteen heads of 1xx begin no answer
pub never_so_many : (limits : Limits) (limit : ℕ) (heads : List ResponseHead) (bytes mid : List ℕ)
    → PassesInterims limits heads bytes mid → 16 < length heads → NeverAnswers limits limit bytes
never_so_many limits limit heads bytes mid passed many more response rest answer =
    let g = goes_on limits heads bytes mid more response rest passed answer in
    let sum = ap (λ (hs : List ResponseHead). length hs) g.all_are ∙ length-append heads g.later in
    let few = answer.few in absurd (omega (arith, sum, few, many))
