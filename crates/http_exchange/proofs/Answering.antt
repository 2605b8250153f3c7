-- Heads of 1xx, the head of a response and the body behind it are one answer.
use Rattle.std.proofs.Common.{◌≡◌, ◌∙◌, ◌≤◌, ◌<◌, ◌+◌, inl, inr, arith, refl, sym, ap, subst, subst₂, append_assoc, ℕ, List, [], ◌∷◌, ◌++◌, length, Bool, true, false, Option, Some, None, Ok, Err}
use Rattle.std.specs.Prelude.{◌↔◌, IsTrue, nat_lt}
use Rattle.std.proofs.lemmas.Bool.{false≢true}
use Rattle.std.proofs.lemmas.List.{length-append}
use Rattle.httparse.specs.Grammar.{ResponseHead, status_code}
use Rattle.httparse.proofs.GrammarLemmas.{response_prefix_free}
use Rattle.http1.specs.declared.client.Client.{Client}
use Rattle.http1.specs.declared.conn.Limits.{Limits}
use Rattle.http1.specs.declared.conn.Reading.TheVariants as Reads
use Rattle.http1.specs.declared.framing.Framing.{Framing}
use Rattle.http1.specs.declared.framing.MethodKind.TheVariants as Method
use Rattle.http1.specs.Body.{ReadsBody}
use Rattle.http1.specs.Decoder.{decoder_for}
use Rattle.http1.specs.Framing.{response_framing}
use Rattle.http1.specs.Message.{AcceptsResponse, Response, ReadsResponseMessage, known_of}
use Rattle.jop_outside.specs.Outside.{HasRisen}
use Rattle.dav_link.specs.Links.{LinkNow}
use Rattle.dav_link.specs.Receiving.{HasReadBytes}
use Rattle.dav_link.specs.declared.error.LinkErr.{LinkErr}
use Rattle.dav_link.specs.declared.error.LinkErr.TheVariants.{Fault, NoMemory, TooLong}
use Rattle.dav_link.proofs.LinkLaws.{HasReadBytes-append}
use Rattle.http_exchange.specs.Answers.{BeginsWithAnswer, HasInterim, PassesInterims}
use Rattle.http_exchange.specs.Causes.{FailsAnswer, FailsBody, FailsHead}
use Rattle.http_exchange.specs.Steps.{AwaitsCarried, AwaitsFinal, AwaitsOneHead, GivesAnswer, HasCarried, PassesHeads, ReceivesAnswer, TakesFinal, TakesInterim, is_longer_than}
use Rattle.http_exchange.specs.declared.told.Told.{Told}
use Rattle.http_exchange.proofs.Interims.{accepts_more, answerless_behind, goes_on, interim_is_low, never_behind, never_so_many, passes_more, passes_one}

-- ---- an answer

pub one_answer : (old mid new : LinkNow) (c d : Client) (bytes unread carried : List ℕ) (told : Told)
    (ready : Bool) (limit : ℕ) (last : List ℕ)
    → (IsTrue ready ↔ ((told.lasting ≡ true) × (last ≡ []))) → HasReadBytes old bytes mid
    → mid.faults ≡ old.faults → PassesHeads c bytes told d unread
    → ((framing : Framing) → d.reading ≡ Reads.Body (decoder_for d.limits framing)
    → HasCarried d.limits framing mid unread carried new last × (length carried ≤ limit))
    → GivesAnswer c.limits old limit (record { told = told; body = carried; ready = ready }) new
    × (length carried ≤ limit)
one_answer old mid new c d bytes unread carried told ready limit last goes read stays h within =
    let t = h.takes in
    let both = within t.framing
    (t.reading ∙ ap (λ (l : Limits). Reads.Body (decoder_for l t.framing)) (sym t.limits)) in
    let b = both.0 in (
      inl (record {
        bytes = bytes ++ b.bytes;
        read = HasReadBytes-append old mid new bytes b.bytes read b.read;
        stays = b.stays ∙ stays;
        response = record { head = t.head; body = b.body };
        rest = b.rest;
        answer = record {
          heads = h.heads;
          few = h.few;
          behind = h.behind ++ b.bytes;
          passes = passes_more c.limits h.heads bytes h.behind b.bytes h.passes;
          final = t.final;
          reads = record {
            framing = t.framing;
            after_head = unread ++ b.bytes;
            head = accepts_more c.limits h.behind t.head t.framing unread b.bytes t.accepts;
            body =
                subst (λ (l : Limits). ReadsBody l t.framing (unread ++ b.bytes) b.body b.rest) t.limits
                b.reads;
          };
        };
        tells = t.tells;
        body = b.carries;
        goes_on = (
          λ is. let p = goes.0 is in (p.0, b.alone ∙ p.1),
          λ p. goes.1 (p.0, sym b.alone ∙ p.1),
        );
      }),
      both.1,
    )

-- an answer whose length is past the limit
pub one_length : (old mid : LinkNow) (c d : Client) (bytes unread body : List ℕ) (told : Told)
    (limit : ℕ) → HasReadBytes old bytes mid → mid.faults ≡ old.faults
    → PassesHeads c bytes told d unread → is_longer_than told.length limit ≡ true → body ≡ []
    → GivesAnswer c.limits old limit (record { told = told; body = body; ready = false }) mid
    × (length body ≤ limit)
one_length old mid c d bytes unread body told limit read stays h past none =
    let t = h.takes in (
      inr (record {
        bytes = bytes;
        read = read;
        stays = stays;
        heads = h.heads;
        few = h.few;
        behind = h.behind;
        passes = h.passes;
        head = t.head;
        framing = t.framing;
        after = unread;
        accepts = t.accepts;
        final = t.final;
        tells = t.tells;
        past = past;
        none = none;
        closed = refl;
      }),
      subst (λ (l : List ℕ). length l ≤ limit) (sym none) (omega arith),
    )

-- ---- no answer

-- bytes that begin with a head carry a body behind it, if they begin with a response
body_behind : (limits : Limits) (bytes after : List ℕ) (head : ResponseHead) (framing : Framing)
    → AcceptsResponse limits Method.Other bytes head framing after → (more : List ℕ)
    (response : Response) (rest : List ℕ)
    → ReadsResponseMessage limits Method.Other (bytes ++ more) response rest
    → ReadsBody limits framing (after ++ more) response.body rest
body_behind limits bytes after head framing a more response rest m =
    let one = response_prefix_free bytes more head response.head after m.after_head a.reads m.head.reads in
    let framed =
    sym a.framed
    ∙ ap (λ (h : ResponseHead). response_framing Method.Other (status_code h) h.minor (known_of h.fields)) one.0
    ∙ m.head.framed in
    let same : framing ≡ m.framing = cc in
    subst₂ (λ (f : Framing) (s : List ℕ). ReadsBody limits f s response.body rest) (sym same) (sym one.1)
    m.body

body_at : (limits : Limits) (later : List ResponseHead) (bytes behind after : List ℕ)
    (head : ResponseHead) (framing : Framing) (more : List ℕ) (response : Response) (rest : List ℕ)
    → AcceptsResponse limits Method.Other bytes head framing after
    → nat_lt (status_code head) 200 ≡ false → PassesInterims limits later (bytes ++ more) behind
    → ReadsResponseMessage limits Method.Other behind response rest
    → ReadsBody limits framing (after ++ more) response.body rest
body_at limits [] bytes behind after head framing more response rest a final is m =
    body_behind limits bytes after head framing a more response rest
    (subst (λ (t : List ℕ). ReadsResponseMessage limits Method.Other t response rest) (sym is) m)
body_at limits (first ∷ later) bytes behind after head framing more response rest a final (mid, has, passes) m =
    let one = response_prefix_free bytes more head first after mid a.reads has.accepts.reads in
    absurd (false≢true (sym final
    ∙ ap (λ (h : ResponseHead). nat_lt (status_code h) 200) one.0
    ∙ interim_is_low (status_code first) has.interim))

-- the body of an answer whose heads were read
body_of_answer : (c d : Client) (bytes unread : List ℕ) (told : Told) (more : List ℕ)
    (response : Response) (rest : List ℕ) (h : PassesHeads c bytes told d unread)
    → BeginsWithAnswer c.limits (bytes ++ more) response rest
    → ReadsBody c.limits h.takes.framing (unread ++ more) response.body rest
body_of_answer c d bytes unread told more response rest h answer =
    let t = h.takes in
    let g = goes_on c.limits h.heads bytes h.behind more response rest h.passes answer in
    body_at c.limits g.later h.behind answer.behind unread t.head t.framing more response rest t.accepts
    t.final g.passes answer.reads

module _ (old mid new : LinkNow) (c d : Client) (bytes unread : List ℕ) (told : Told)
    (limit most : ℕ) (read : HasReadBytes old bytes mid) (stays : mid.faults ≡ old.faults)
    (h : PassesHeads c bytes told d unread) where
  bodiless : FailsBody c.limits h.takes.framing mid unread limit most new
      → FailsAnswer c.limits old limit most new
  bodiless (inl broken) = inl (record {
    bytes = bytes ++ broken.bytes;
    read = HasReadBytes-append old mid new bytes broken.bytes read broken.read;
    rose = subst (λ (n : ℕ). HasRisen n new.faults) stays broken.rose;
  })
  bodiless (inr (inl g)) = inr (inl (record {
    bytes = bytes ++ g.bytes;
    read = HasReadBytes-append old mid new bytes g.bytes read g.read;
    stays = g.stays ∙ stays;
    holds = (
      g.holds.0,
      λ response rest answer.
          g.holds.1 response.body rest
          (body_of_answer c d bytes unread told g.bytes response rest h answer),
    );
  }))
  bodiless (inr (inr (inl g))) = inr (inr (inl (record {
    bytes = bytes ++ g.bytes;
    read = HasReadBytes-append old mid new bytes g.bytes read g.read;
    stays = g.stays ∙ stays;
    holds = λ more response rest answer.
        inr (g.holds more response.body rest
        (subst (λ (t : List ℕ). ReadsBody c.limits h.takes.framing t response.body rest)
        (sym (append_assoc unread g.bytes more))
        (body_of_answer c d bytes unread told (g.bytes ++ more) response rest h
        (subst (λ (t : List ℕ). BeginsWithAnswer c.limits t response rest)
        (append_assoc bytes g.bytes more) answer))));
  })))
  bodiless (inr (inr (inr g))) = inr (inr (inr (record {
    bytes = bytes ++ g.bytes;
    read = HasReadBytes-append old mid new bytes g.bytes read g.read;
    stays = g.stays ∙ stays;
    holds =
        let sum = length-append bytes g.bytes in
        let over = g.holds in omega (arith, sum, over);
  })))

  pub no_body : (error : LinkErr) (last : List ℕ)
      → ((framing : Framing) → d.reading ≡ Reads.Body (decoder_for d.limits framing)
      → AwaitsCarried d.limits framing mid unread limit most (Err error) new last)
      → ReceivesAnswer c.limits old limit most (Err error) new
  no_body error last within =
      let t = h.takes in
      failed error last (within t.framing
      (t.reading ∙ ap (λ (l : Limits). Reads.Body (decoder_for l t.framing)) (sym t.limits)))
    where
      failed : (e : LinkErr) (end : List ℕ)
          → AwaitsCarried d.limits h.takes.framing mid unread limit most (Err e) new end
          → ReceivesAnswer c.limits old limit most (Err e) new
      failed Fault end b =
          bodiless (subst (λ (l : Limits). FailsBody l h.takes.framing mid unread limit most new)
          h.takes.limits b)
      failed NoMemory end b = tt
      failed TooLong end b = b

pub no_head : (c d : Client) (old now : LinkNow) (after : List ℕ) (limit most : ℕ)
    (error : LinkErr) → AwaitsFinal c old limit most (Err error) d now after
    → ReceivesAnswer c.limits old limit most (Err error) now
no_head c d old now after limit most Fault h = h
no_head c d old now after limit most NoMemory h = tt
no_head c d old now after limit most TooLong h = h

-- ---- many heads

-- so many heads of 1xx were read, and the client awaits one more
pub record HasPassed (c : Client) (old : LinkNow) (round : ℕ) (d : Client) (now : LinkNow)
    (unread : List ℕ) : Type 0 where
  pub bytes : List ℕ
  pub read : HasReadBytes old bytes now
  pub stays : now.faults ≡ old.faults
  pub heads : List ResponseHead
  pub count : length heads ≡ round
  pub passes : PassesInterims c.limits heads bytes unread
  pub same : d ≡ c

pub none_passed : (c : Client) (old : LinkNow) (unread : List ℕ) → unread ≡ []
    → HasReadBytes old [] old → HasPassed c old 0 c old unread
none_passed c old unread empty nothing = record {
  bytes = [];
  read = nothing;
  stays = refl;
  heads = [];
  count = refl;
  passes = sym empty;
  same = refl;
}

module _ (c d e : Client) (old now later : LinkNow) (round : ℕ) (unread after : List ℕ)
    (p : HasPassed c old round d now unread) where
  pub one_passed : (told : Option Told) → told ≡ None
      → AwaitsOneHead d now unread (Ok told) e later after
      → HasPassed c old (round + 1) e later after
  one_passed told none h =
      let i = subst (λ (t : Option Told). AwaitsOneHead d now unread (Ok t) e later after) none h in
      let taken : TakesInterim d (unread ++ i.0) e after = i.3 in record {
        bytes = p.bytes ++ i.0;
        read = HasReadBytes-append old now later p.bytes i.0 p.read i.1;
        stays = i.2 ∙ p.stays;
        heads = p.heads ++ taken.head ∷ [];
        count =
            let count = p.count in
            let sum = length-append p.heads (taken.head ∷ []) in omega (arith, sum, count);
        passes = passes_one c.limits p.heads (p.bytes ++ i.0) (unread ++ i.0) taken.head after
            (passes_more c.limits p.heads p.bytes unread i.0 p.passes)
            (subst (λ (x : Client). HasInterim x.limits (unread ++ i.0) taken.head after) p.same taken.has);
        same = taken.same ∙ p.same;
      }

  pub last_passed : (found : Option Told) (told : Told) → found ≡ Some told → round ≤ 16
      → AwaitsOneHead d now unread (Ok found) e later after
      → (bytes : List ℕ) × HasReadBytes old bytes later × (later.faults ≡ old.faults)
      × PassesHeads c bytes told e after
  last_passed found told is few h =
      let i = subst (λ (t : Option Told). AwaitsOneHead d now unread (Ok t) e later after) is h in
      let taken : TakesFinal c (unread ++ i.0) told e after =
      subst (λ (x : Client). TakesFinal x (unread ++ i.0) told e after) p.same i.3 in (
        p.bytes ++ i.0,
        HasReadBytes-append old now later p.bytes i.0 p.read i.1,
        i.2 ∙ p.stays,
        record {
          heads = p.heads;
          few = let count = p.count in omega (arith, count, few);
          behind = unread ++ i.0;
          passes = passes_more c.limits p.heads p.bytes unread i.0 p.passes;
          takes = taken;
        },
      )

  failed_head : (limit most : ℕ) → FailsHead c.limits now unread later
      → FailsAnswer c.limits old limit most later
  failed_head limit most (inl broken) = inl (record {
    bytes = p.bytes ++ broken.bytes;
    read = HasReadBytes-append old now later p.bytes broken.bytes p.read broken.read;
    rose = subst (λ (n : ℕ). HasRisen n later.faults) p.stays broken.rose;
  })
  failed_head limit most (inr (inl g)) = inr (inl (record {
    bytes = p.bytes ++ g.bytes;
    read = HasReadBytes-append old now later p.bytes g.bytes p.read g.read;
    stays = g.stays ∙ p.stays;
    holds = (
      g.holds.0,
      λ response rest. answerless_behind c.limits p.heads p.bytes unread g.bytes p.passes g.holds.1
          response rest,
    );
  }))
  failed_head limit most (inr (inr g)) = inr (inr (inl (record {
    bytes = p.bytes ++ g.bytes;
    read = HasReadBytes-append old now later p.bytes g.bytes p.read g.read;
    stays = g.stays ∙ p.stays;
    holds = never_behind c.limits limit p.heads p.bytes unread g.bytes p.passes g.holds;
  })))

  pub head_failed : (limit most : ℕ) (error : LinkErr) (new : Client) (rest : List ℕ)
      → AwaitsOneHead d now unread (Err error) e later after
      → AwaitsFinal c old limit most (Err error) new later rest
  head_failed limit most Fault new rest h =
      failed_head limit most (subst (λ (x : Client). FailsHead x.limits now unread later) p.same h)
  head_failed limit most NoMemory new rest h = tt
  head_failed limit most TooLong new rest h = h

pub too_many_passed : (c d : Client) (old now : LinkNow) (round : ℕ) (unread : List ℕ)
    (limit most : ℕ) → HasPassed c old round d now unread → 16 < round
    → FailsAnswer c.limits old limit most now
too_many_passed c d old now round unread limit most p many = inr (inr (inl (record {
  bytes = p.bytes;
  read = p.read;
  stays = p.stays;
  holds = never_so_many c.limits limit p.heads p.bytes unread p.passes
      (let count = p.count in omega (arith, count, many));
})))
