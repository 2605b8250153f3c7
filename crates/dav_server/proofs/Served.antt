-- One request after another.
use Rattle.std.proofs.Common.{◌≡◌, ◌≤◌, ◌-◌, ◌+◌, ◌^◌, ◌⊎◌, ◌∙◌, refl, sym, ap, subst, inl, inr, arith, ℕ, List, [], ◌∷◌, ◌++◌, length, length-append, append-nil, append_assoc, true, false, Option, Some, None, Result, Err}
use Rattle.std.proofs.lemmas.List.{drop-append-le}
use Rattle.jop_outside.specs.Writing.{Appends}
use Rattle.jop_target.specs.Trail.{LineNow}
use Rattle.dav_link.specs.Links.{LinkNow, TakesBytes}
use Rattle.dav_link.specs.Receiving.{HasBroken}
use Rattle.dav_link.proofs.LinkLaws.{TakesBytes-nil, TakesBytes-append}
use Rattle.httparse.specs.Grammar.{print_request}
use Rattle.dav_wire.specs.RequestReading.{RequestReadsAs}
use Rattle.dav_wire.specs.declared.request.Request.{Request}
use Rattle.dav_wire.specs.declared.request_reader.ReadRequest.{ReadRequest}
use Rattle.dav_wire.specs.declared.request_reader.ReadRequest.TheVariants.{Whole, More, Bad}
use Rattle.dav_wire.proofs.RequestStream.{whole_stays, bad_stays}
use Rattle.dav_server.specs.declared.error.ServeErr.{ServeErr}
use Rattle.dav_server.specs.declared.error.ServeErr.TheVariants.{LinkFault, NoMemory}
use Rattle.dav_server.specs.declared.turn.Next.{Next}
use Rattle.dav_server.specs.Serving.{ServedNow, Serves, HasServed, Connection, WasServed, WasBroken, WasStarved, HasTurned, HasAnother, HasNoOther, HasBrokenTurn, HasStarvedTurn, TurnsAs, ServesAll, is_over}

-- ---- bytes that come later

-- a place with more bytes behind
abbrev pub behind : ServedNow → List ℕ → ServedNow
behind place more =
    record { bytes = place.bytes ++ more; line = place.line; date = place.date }

pub used_within : (bytes : List ℕ) (request : Request) (used : ℕ)
    → RequestReadsAs bytes (Whole request used) → used ≤ length bytes
used_within bytes request used h =
    let long : length bytes ≡ length (print_request h.0) + length h.1 =
    ap (λ (l : List ℕ). length l) h.2.reads.1 ∙ length-append (print_request h.0) h.1 in
    omega (arith, long, h.3.2, h.3.4)

serves_more : (read : ReadRequest) (old new : ServedNow) (text more : List ℕ)
    → Serves read old text new → Serves read (behind old more) text (behind new more)
serves_more (Whole request used) old new text more h = (
  whole_stays old.bytes more request used h.0,
  ap (λ (l : List ℕ). l ++ more) h.1
      ∙ sym (drop-append-le used old.bytes more (used_within old.bytes request used h.0)),
  h.2,
)
serves_more (Bad status) old new text more h =
    (bad_stays old.bytes more status h.0, ap (λ (p : ServedNow). behind p more) h.1, h.2)
serves_more More old new text more h = absurd h

pub served_more : (reads : List ReadRequest) (start end : ServedNow) (text more : List ℕ)
    → HasServed reads start text end → HasServed reads (behind start more) text (behind end more)
unfolding HasServed
served_more [] start end text more h = (ap (λ (p : ServedNow). behind p more) h.0, h.1)
served_more (read ∷ reads) start end text more h = (
  behind h.0 more,
  h.1,
  h.2,
  served_more reads start h.0 h.1 more h.3,
  h.4,
  serves_more read h.0 end h.2 more h.5,
  h.6,
)

served_none : (start : ServedNow) → HasServed [] start [] start
unfolding HasServed
served_none start = (refl, refl)

served_next : (read : ReadRequest) (reads : List ReadRequest) (start mid end : ServedNow)
    (text last : List ℕ) → HasServed reads start text mid → is_over reads ≡ false
    → Serves read mid last end → HasServed (read ∷ reads) start (text ++ last) end
unfolding HasServed
served_next read reads start mid end text last served going serves =
    (mid, text, last, served, going, serves, refl)

-- ---- a connection

connection_more : (old mid new : LinkNow) (line : LineNow) (text : List ℕ) (end : ServedNow)
    (reads : List ReadRequest) (bytes : List ℕ) → Connection old mid line text end reads
    → TakesBytes mid.left bytes new.left → new.opened ≡ mid.opened
    → Connection old new line text (behind end bytes) reads
connection_more old mid new line text end reads bytes c takes opened = record {
  heard = c.heard ++ bytes;
  served = served_more reads (record { bytes = c.heard; line = line; date = 0 }) end text bytes
      c.served;
  left = TakesBytes-append old.left mid.left new.left c.heard bytes c.left takes;
  opened = opened ∙ c.opened;
}

-- the place where bytes are kept, a line stands, and a moment was told
abbrev pub place_of : List ℕ → LineNow → ℕ → ServedNow
place_of kept line date = record { bytes = kept; line = line; date = date }

connection_turn : (old mid new : LinkNow) (line : LineNow) (text kept : List ℕ) (at : LineNow)
    (date : ℕ) (reads : List ReadRequest) (read : ReadRequest) (last after : List ℕ) (end : LineNow)
    (now : ℕ) → Connection old mid line text (place_of kept at date) reads
    → is_over reads ≡ false → HasTurned mid new kept at date read last after end now
    → Connection old new line (text ++ last) (place_of after end now) (read ∷ reads)
connection_turn old mid new line text kept at date reads read last after end now c going turned =
    let more = connection_more old mid new line text (place_of kept at date) reads turned.bytes c
    turned.left turned.opened in
    record {
      heard = more.heard;
      served = served_next read reads (record { bytes = more.heard; line = line; date = 0 })
          (behind (place_of kept at date) turned.bytes) (place_of after end now) text last
          more.served going turned.serves;
      left = more.left;
      opened = more.opened;
    }

Appends-none : (a : Option (List ℕ)) → Appends a [] a
Appends-none None = refl
Appends-none (Some w) = ap (λ (l : List ℕ). Some l) (sym (append-nil w))

Appends-both : (a b c : Option (List ℕ)) (first second : List ℕ)
    → Appends a first b → Appends b second c → Appends a (first ++ second) c
Appends-both None None c first second h k = k
Appends-both None (Some w) c first second h k = cc
Appends-both (Some v) None c first second h k = cc
Appends-both (Some v) (Some w) c first second h k = let joined = append_assoc v first second in cc

-- ---- between two requests

-- a server that has answered so many requests and may read another
pub record IsServing (old new : LinkNow) (line after : LineNow) (kept : List ℕ) (date count : ℕ)
    : Type 0 where
  pub reads : List ReadRequest
  pub text : List ℕ
  pub connection : Connection old new line text (place_of kept after date) reads
  pub written : Appends old.written text new.written
  pub stays : new.faults ≡ old.faults
  pub going : is_over reads ≡ false
  pub all : count ≡ length reads

pub serving_start : (link : LinkNow) (line : LineNow) → IsServing link link line line [] 0 0
serving_start link line = record {
  reads = [];
  text = [];
  connection = record {
    heard = [];
    served = served_none (place_of [] line 0);
    left = TakesBytes-nil link.left;
    opened = refl;
  };
  written = Appends-none link.written;
  stays = refl;
  going = refl;
  all = refl;
}

pub serving_on : (old mid new : LinkNow) (line at : LineNow) (kept : List ℕ) (date count : ℕ)
    (after : List ℕ) (end : LineNow) (now : ℕ) → IsServing old mid line at kept date count
    → HasAnother mid new kept at date false after end now
    → IsServing old new line end after now (count + 1)
serving_on old mid new line at kept date count after end now s a = record {
  reads = a.read ∷ s.reads;
  text = s.text ++ a.text;
  connection = connection_turn old mid new line s.text kept at date s.reads a.read a.text after end
      now s.connection s.going a.turned;
  written = Appends-both old.written mid.written new.written s.text a.text s.written a.written;
  stays = a.stays ∙ s.stays;
  going = a.ends;
  all = let is = s.all in omega arith;
}

pub served_over : (old mid new : LinkNow) (line at : LineNow) (kept : List ℕ) (date count : ℕ)
    (after : List ℕ) (end : LineNow) (now : ℕ) → IsServing old mid line at kept date count
    → HasAnother mid new kept at date true after end now
    → WasServed old new line end (count + 1)
served_over old mid new line at kept date count after end now s a = record {
  reads = a.read ∷ s.reads;
  text = s.text ++ a.text;
  end = place_of after end now;
  connection = connection_turn old mid new line s.text kept at date s.reads a.read a.text after end
      now s.connection s.going a.turned;
  all = let is = s.all in omega arith;
  stands = refl;
  written = Appends-both old.written mid.written new.written s.text a.text s.written a.written;
  stays = a.stays ∙ s.stays;
  done = inl a.ends;
}

pub served_all : (old mid new : LinkNow) (line at : LineNow) (kept : List ℕ) (date count : ℕ)
    (after : List ℕ) (end : LineNow) (now : ℕ) → IsServing old mid line at kept date count
    → HasNoOther mid new kept at date after end now → WasServed old new line end count
served_all old mid new line at kept date count after end now s n = record {
  reads = s.reads;
  text = s.text;
  end = place_of (kept ++ n.bytes) at date;
  connection = connection_more old mid new line s.text (place_of kept at date) s.reads n.bytes
      s.connection n.kept.read.left n.kept.read.alone.opened;
  all = s.all;
  stands = n.stands;
  written = subst (λ (w : Option (List ℕ)). Appends old.written s.text w)
      (sym n.kept.read.alone.written) s.written;
  stays = n.kept.stays ∙ s.stays;
  done = inr (inl (subst (λ (l : List ℕ). RequestReadsAs l More) n.kept.kept n.more, n.ended));
}

pub served_full : (old new : LinkNow) (line at : LineNow) (kept : List ℕ) (date count : ℕ)
    → IsServing old new line at kept date count → count ≡ 2 ^ 64 - 1
    → WasServed old new line at count
served_full old new line at kept date count s full = record {
  reads = s.reads;
  text = s.text;
  end = place_of kept at date;
  connection = s.connection;
  all = s.all;
  stands = refl;
  written = s.written;
  stays = s.stays;
  done = inr (inr full);
}

pub was_broken : (old mid new : LinkNow) (line at : LineNow) (kept : List ℕ) (date count : ℕ)
    (end : LineNow) → IsServing old mid line at kept date count
    → (HasBroken mid new × (end ≡ at)) ⊎ HasBrokenTurn mid new kept at date end
    → WasBroken old new line end
was_broken old mid new line at kept date count end s (inl h) = record {
  reads = s.reads;
  sent = s.text;
  rest = [];
  end = place_of (kept ++ h.0.bytes) at date;
  connection = subst (λ (text : List ℕ).
      Connection old new line text (place_of (kept ++ h.0.bytes) at date) s.reads)
      (sym (append-nil s.text))
      (connection_more old mid new line s.text (place_of kept at date) s.reads h.0.bytes
      s.connection h.0.read.left h.0.read.alone.opened);
  stands = h.1;
  written = subst (λ (w : Option (List ℕ)). Appends old.written s.text w)
      (sym h.0.read.alone.written) s.written;
  rose = let rose = h.0.rose in let same = s.stays in omega arith;
}
was_broken old mid new line at kept date count end s (inr t) = record {
  reads = t.read ∷ s.reads;
  sent = s.text ++ t.sent;
  rest = t.rest;
  end = place_of t.after end t.last;
  connection = subst (λ (text : List ℕ).
      Connection old new line text (place_of t.after end t.last) (t.read ∷ s.reads))
      (sym (append_assoc s.text t.sent t.rest))
      (connection_turn old mid new line s.text kept at date s.reads t.read (t.sent ++ t.rest)
      t.after end t.last s.connection s.going t.turned);
  stands = refl;
  written = Appends-both old.written mid.written new.written s.text t.sent s.written t.written;
  rose = let rose = t.rose in let same = s.stays in omega arith;
}

pub was_starved : (old mid new : LinkNow) (line at : LineNow) (kept : List ℕ) (date count : ℕ)
    (end : LineNow) → IsServing old mid line at kept date count
    → HasStarvedTurn mid new kept at end → WasStarved old new line end
was_starved old mid new line at kept date count end s t = record {
  reads = s.reads;
  text = s.text;
  end = place_of (kept ++ t.bytes) at date;
  connection = connection_more old mid new line s.text (place_of kept at date) s.reads t.bytes
      s.connection t.read.left t.read.alone.opened;
  stands = t.made;
  written = subst (λ (w : Option (List ℕ)). Appends old.written s.text w)
      (sym t.read.alone.written) s.written;
  stays = t.stays ∙ s.stays;
}

-- ---- by what a turn comes to

pub serving_begun : (link : LinkNow) (line : LineNow) (kept : List ℕ) → kept ≡ []
    → IsServing link link line line kept 0 0
serving_begun link line kept none =
    subst (λ (l : List ℕ). IsServing link link line line l 0 0) (sym none) (serving_start link line)

turn_error : (old mid new : LinkNow) (line at : LineNow) (kept : List ℕ) (date count : ℕ)
    (after : List ℕ) (end : LineNow) (last : ℕ) (error : ServeErr)
    → IsServing old mid line at kept date count
    → TurnsAs mid new kept at date (Err error) after end last
    → ServesAll old line (Err error) new end
turn_error old mid new line at kept date count after end last LinkFault s h =
    was_broken old mid new line at kept date count end s h
turn_error old mid new line at kept date count after end last NoMemory s h =
    was_starved old mid new line at kept date count end s h

pub turn_failed : (old mid new : LinkNow) (line at : LineNow) (kept : List ℕ) (date count : ℕ)
    (after : List ℕ) (end : LineNow) (last : ℕ) (r : Result Next ServeErr) (error : ServeErr)
    → IsServing old mid line at kept date count
    → TurnsAs mid new kept at date r after end last → r ≡ Err error
    → ServesAll old line (Err error) new end
turn_failed old mid new line at kept date count after end last r error s turns is =
    let T : Result Next ServeErr → Type 0 = λ x. TurnsAs mid new kept at date x after end last in
    turn_error old mid new line at kept date count after end last error s (subst T is turns)
