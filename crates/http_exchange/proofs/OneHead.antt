-- What a read finds where a head is due.
use Rattle.std.proofs.Common.{◌≡◌, ◌∙◌, ◌<◌, inl, inr, Err, refl, sym, ap, subst, ℕ, ◌/◌, List, ◌++◌, length, drop, map, take, Bool, true, false, ◌&&◌, ◌||◌, not}
use Rattle.std.specs.Prelude.{IsTrue, IsFalse, ◌==◌, nat_lt, if◌then◌else◌}
use Rattle.std.proofs.lemmas.Bool.{eqb-true, false≢true}
use Rattle.httparse.specs.Grammar.{status_code}
use Rattle.httparse.specs.Spans.{header_bytes}
use Rattle.httparse.specs.declared.spans.HeaderSpan.{HeaderSpan}
use Rattle.httparse.specs.declared.spans.ResponseSpans.{ResponseSpans}
use Rattle.http1.specs.declared.client.Client.{Client}
use Rattle.http1.specs.declared.conn.Limits.{Limits}
use Rattle.http1.specs.declared.conn.Progress.{Progress}
use Rattle.http1.specs.declared.conn.Reading.{Reading}
use Rattle.http1.specs.declared.error.ReadError.{ReadError}
use Rattle.http1.specs.declared.framing.MethodKind.{MethodKind}
use Rattle.http1.specs.declared.framing.MethodKind.TheVariants as Method
use Rattle.http1.specs.Conn.{is_connect}
use Rattle.http1.specs.Client.{ClientReads, ClientRefuses, HasNoHead, RefusesAt, RefusesFirst, ReadsAt, ReadsFirst, ReadsHead, TakesHead, is_interim, reading_body, switches, upgraded_client}
use Rattle.http1.specs.Message.{AcceptsResponse, known_of}
use Rattle.jop_outside.specs.Outside.{HasRisen}
use Rattle.dav_link.specs.Links.{LinkNow}
use Rattle.dav_link.specs.Receiving.{FailsReading, HasKept}
use Rattle.dav_link.specs.declared.error.LinkErr.{LinkErr}
use Rattle.dav_link.specs.declared.error.LinkErr.TheVariants.{Fault, NoMemory, TooLong}
use Rattle.dav_link.proofs.LinkLaws.{HasReadBytes-append}
use Rattle.http_exchange.specs.Causes.{FailsHead, IsOddHead, NeverHeads}
use Rattle.http_exchange.specs.Heads.{told_from}
use Rattle.http_exchange.specs.Steps.{AwaitsOneHead, IsAwaiting, TakesFinal, TakesInterim}

pub reads_head : (c new : Client) (input : List ℕ) (spans : List HeaderSpan)
    (p : Progress ResponseSpans) → IsAwaiting c → ClientReads c input spans new p
    → ReadsHead c input spans new p.consumed p.event
reads_head c new input spans p w h =
    subst (λ (b : Bool). ReadsFirst b c input spans new p) w.sent
    (subst (λ (r : Reading). ReadsAt r c input spans new p) w.head h)

-- a head for which nobody asked isn't that of another protocol, and below 200 it is one of 1xx
final_parts : (e up con two lt : Bool) → up ≡ false → con ≡ false → (not e || up) ≡ true
    → (lt && not e) ≡ false → ((e || (con && two)) ≡ false) × (lt ≡ false)
final_parts true true con two lt u k x i = absurd (false≢true (sym u))
final_parts true false con two lt u k x i = absurd (false≢true x)
final_parts false up true two lt u k x i = absurd (false≢true (sym k))
final_parts false up false two true u k x i = absurd (false≢true (sym i))
final_parts false up false two false u k x i = (refl, refl)

interim_parts : (e con two lt : Bool) → con ≡ false → (lt && not e) ≡ true
    → ((e || (con && two)) ≡ false) × (lt ≡ true)
interim_parts e true two lt k i = absurd (false≢true (sym k))
interim_parts e false two false k i = absurd (false≢true i)
interim_parts true false two true k i = absurd (false≢true i)
interim_parts false false two true k i = (refl, refl)

last_choice : {A : Type 0} (a b : Bool) (x y z : A) → a ≡ false → b ≡ false
    → (if a then x else (if b then y else z)) ≡ z
last_choice true b x y z h k = absurd (false≢true (sym h))
last_choice false true x y z h k = absurd (false≢true (sym k))
last_choice false false x y z h k = refl

middle_choice : {A : Type 0} (a b : Bool) (x y z : A) → a ≡ false → b ≡ true
    → (if a then x else (if b then y else z)) ≡ y
middle_choice true b x y z h k = absurd (false≢true (sym h))
middle_choice false true x y z h k = refl
middle_choice false false x y z h k = absurd (false≢true k)

pub takes_final : (c new : Client) (input : List ℕ) (spans : List HeaderSpan) (len : ℕ)
    (r : ResponseSpans) → IsAwaiting c → IsFalse (is_interim r.code)
    → TakesHead c input spans new len r
    → TakesFinal c input (told_from r.code r.version (map (header_bytes input) (take r.headers spans)))
    new (drop len input)
takes_final c new input spans len r w final t =
    let status = status_code t.head in
    let at = final_parts (status == 101) c.wants_upgrade (is_connect c.method) (status / 100 == 2)
    (nat_lt status 200) w.alone (ap is_connect w.method) t.expected
    (ap is_interim (sym t.covered.code) ∙ final) in
    let body = reading_body c t.head.minor (known_of t.head.fields) t.framing in
    let next : new ≡ body = t.next
    ∙ last_choice (switches c status) (nat_lt status 200) (upgraded_client c) c body at.0 at.1 in
    record {
      head = t.head;
      framing = t.framing;
      accepts =
          subst (λ (m : MethodKind).
          AcceptsResponse c.limits m input t.head t.framing (drop len input)) w.method t.accepts;
      final = at.1;
      tells = λ i. told_from (t.covered.code i) (t.covered.version i) (t.covered.fields i);
      reading = ap (λ (x : Client). x.reading) next;
      limits = ap (λ (x : Client). x.limits) next;
    }

pub takes_interim : (c new : Client) (input : List ℕ) (spans : List HeaderSpan) (len : ℕ)
    (r : ResponseSpans) → IsAwaiting c → IsTrue (is_interim r.code)
    → TakesHead c input spans new len r → TakesInterim c input new (drop len input)
takes_interim c new input spans len r w interim t =
    let status = status_code t.head in
    let is : is_interim status ≡ true = ap is_interim (sym t.covered.code) ∙ interim in
    let at = interim_parts (status == 101) (is_connect c.method) (status / 100 == 2)
    (nat_lt status 200) (ap is_connect w.method) is in
    let body = reading_body c t.head.minor (known_of t.head.fields) t.framing in
    record {
      head = t.head;
      has = record {
        framing = t.framing;
        accepts =
            subst (λ (m : MethodKind).
            AcceptsResponse c.limits m input t.head t.framing (drop len input)) w.method t.accepts;
        interim = is;
      };
      same = t.next
          ∙ middle_choice (switches c status) (nat_lt status 200) (upgraded_client c) c body at.0 at.1;
    }

-- ---- no head

expected : (e u : Bool) → e ≡ false → (not e || u) ≡ true
expected true u h = absurd (false≢true (sym h))
expected false u h = refl

-- the bytes begin with no head that is read over
pub never_expected : (c : Client) (input shown : List ℕ) (room : ℕ) (e : ReadError) → IsAwaiting c
    → shown ≡ input → room ≡ 128 → ClientRefuses c shown room e → NeverHeads c.limits input
never_expected c input shown room e w same is h more head framing rest a =
    by (status_code head == 101) refl
  where
    at : HasNoHead c shown room
    at =
        (subst (λ (b : Bool). RefusesFirst b c shown room e) w.sent
        (subst (λ (r : Reading). RefusesAt r c shown room e) w.head h)).0

    accepted : AcceptsResponse c.limits c.method (shown ++ more) head framing rest
    accepted =
        subst (λ (m : MethodKind). AcceptsResponse c.limits m (shown ++ more) head framing rest)
        (sym w.method)
        (subst (λ (i : List ℕ). AcceptsResponse c.limits Method.Other (i ++ more) head framing rest)
        (sym same) a)

    by : (b : Bool) → (status_code head == 101) ≡ b → IsOddHead head
    by true s = inl (eqb-true (status_code head) 101 s)
    by false s =
        inr (subst (λ (n : ℕ). n < length head.fields) is
        (at more head framing rest accepted (expected (status_code head == 101) c.wants_upgrade s)))

module _ (limits : Limits) (old now : LinkNow) (kept unread bytes : List ℕ)
    (k : HasKept old kept now unread bytes) where
  pub never_after : NeverHeads limits unread → FailsHead limits old kept now
  never_after h = inr (inr (record {
    bytes = bytes;
    read = k.read;
    stays = k.stays;
    holds = subst (λ (i : List ℕ). NeverHeads limits i) k.kept h;
  }))

  pub unread_after : (c new : Client) (after : List ℕ) (error : LinkErr) (later : LinkNow)
      → c.limits ≡ limits → FailsReading error now later
      → AwaitsOneHead c old kept (Err error) new later after
  unread_after c new after Fault later same b = inl (record {
    bytes = bytes ++ b.bytes;
    read = HasReadBytes-append old now later bytes b.bytes k.read b.read;
    rose = subst (λ (n : ℕ). HasRisen n later.faults) k.stays b.rose;
  })
  unread_after c new after NoMemory later same b = tt
  unread_after c new after TooLong later same b = b
