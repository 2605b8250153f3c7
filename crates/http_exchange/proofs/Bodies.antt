-- What many looks at the unread bytes come to.
use Rattle.std.proofs.Common.{◌≡◌, ◌∙◌, refl, sym, ap, subst, arith, ℕ, ◌+◌, ◌-◌, ◌<◌, ◌≤◌, ◌∷◌, List, [], ◌++◌, length, append_assoc, append-nil, inl, inr, Result, Ok, Err, Bool, true, false}
use Rattle.std.proofs.lemmas.Bool.{false≢true}
use Rattle.std.specs.Result.{IsErr, IsErrAnd}
use Rattle.http1.specs.declared.client.Client.{Client}
use Rattle.http1.specs.declared.conn.Event.TheVariants as events
use Rattle.http1.specs.declared.conn.Limits.{Limits}
use Rattle.http1.specs.declared.conn.Reading.{Reading}
use Rattle.http1.specs.declared.conn.Reading.TheVariants as Reads
use Rattle.http1.specs.declared.decode.Decoder.{Decoder}
use Rattle.http1.specs.declared.decode.Decoder.TheVariants.{Length, Chunked, UntilClose}
use Rattle.http1.specs.declared.framing.Framing.{Framing}
use Rattle.http1.specs.Body.{Body, body_of, ReadsBody}
use Rattle.std.specs.Prelude.{if◌then◌else◌}
use Rattle.http1.specs.Conn.{awaits_head}
use Rattle.http1.specs.Client.{at_eof, closed_client, cut_short}
use Rattle.http1.specs.Decoder.{Completes, decoder_for, with_front}
use Rattle.http1.proofs.OneParse.{body_from_completes, completes_from_body}
use Rattle.std.proofs.lemmas.List.{length-append}
use Rattle.jop_outside.specs.Outside.{HasRisen}
use Rattle.dav_link.specs.Links.{LinkNow}
use Rattle.dav_link.specs.declared.error.LinkErr.{LinkErr}
use Rattle.dav_link.specs.declared.error.LinkErr.TheVariants.{Fault, NoMemory, TooLong}
use Rattle.dav_link.specs.Receiving.{HasBroken, HasReadBytes, HasKept, ReadsMore}
use Rattle.http_exchange.specs.declared.body.Look.{Look}
use Rattle.http_exchange.specs.declared.body.Look.TheVariants.{More, Piece, End}
use Rattle.dav_link.proofs.LinkLaws.{HasReadBytes-append}
use Rattle.http_exchange.specs.Causes.{FailsBody, IsLargeBody}
use Rattle.http_exchange.specs.Steps.{AwaitsCarried, HasCarried, HasFoundEnd, HasMovedOn, WantsMore, IsDrained, NeverKept, LooksAt}

-- ---- many reads

-- Of the bytes behind a head some were unread at first, and others came; what comes completes a body that carries
-- what was got so far, and no other body. Each round had a byte of its own, and there was room for each byte.
pub record IsWithin (limits : Limits) (framing : Framing) (old : LinkNow) (start : List ℕ)
    (limit most round room : ℕ) (c : Client) (now : LinkNow) (unread got : List ℕ) : Type 0 where
  pub d : Decoder
  pub reading : c.reading ≡ Reads.Body d
  pub bytes : List ℕ
  pub read : HasReadBytes old bytes now
  pub stays : now.faults ≡ old.faults
  pub back : (more : List ℕ) (body : Body) (rest : List ℕ) → Completes d (unread ++ more) body rest
      → ReadsBody limits framing ((start ++ bytes) ++ more) (with_front got body) rest
  pub forth : (more : List ℕ) (whole : Body) (rest : List ℕ)
      → ReadsBody limits framing ((start ++ bytes) ++ more) whole rest
      → (body : Body) × (whole ≡ with_front got body) × Completes d (unread ++ more) body rest
  pub within : length got ≤ limit
  pub progress : round ≤ length bytes + length got
  pub counted : room + length bytes ≡ most

module _ (limits : Limits) (framing : Framing) (old : LinkNow) (start : List ℕ) (limit most : ℕ) where
  -- a piece more
  pub within_piece : (round later room : ℕ) (c new : Client) (now : LinkNow)
      (unread after got piece joined : List ℕ)
      (w : IsWithin limits framing old start limit most round room c now unread got)
      → HasMovedOn c w.d unread got piece new after joined → length joined ≤ limit
      → later ≤ round + length piece
      → IsWithin limits framing old start limit most later room new now after joined
  within_piece round later room c new now unread after got piece joined w m fits more_rounds = record {
    d = m.next;
    reading = m.reading;
    bytes = w.bytes;
    read = w.read;
    stays = w.stays;
    back = λ more body rest k.
        subst (λ (t : List ℕ). ReadsBody limits framing ((start ++ w.bytes) ++ more)
        (record body { bytes = t }) rest)
        (sym (append_assoc got piece body.bytes) ∙ ap (λ (t : List ℕ). t ++ body.bytes) (sym m.joined))
        (w.back more (with_front piece body) rest (m.finds.back more body rest k));
    forth = λ more whole rest k.
        let f = w.forth more whole rest k in
        let g = m.finds.forth more f.0 rest f.2 in (
          g.0,
          f.1 ∙ ap (λ (b : Body). with_front got b) g.1
              ∙ ap (λ (t : List ℕ). record g.0 { bytes = t })
              (sym (append_assoc got piece g.0.bytes)
              ∙ ap (λ (t : List ℕ). t ++ g.0.bytes) (sym m.joined)),
          g.2,
        );
    within = fits;
    progress =
        let sum = ap length m.joined ∙ length-append got piece in
        let progress = w.progress in omega (arith, sum, progress, more_rounds);
    counted = w.counted;
  }

  -- bytes more
  pub within_more : (round next room left : ℕ) (c : Client) (now later : LinkNow)
      (unread after got bytes : List ℕ)
      (w : IsWithin limits framing old start limit most round room c now unread got)
      → HasKept now unread later after bytes → next ≤ round + length bytes
      → left + length bytes ≡ room
      → IsWithin limits framing old start limit most next left c later after got
  within_more round next room left c now later unread after got bytes w k more_rounds less = record {
    d = w.d;
    reading = w.reading;
    bytes = w.bytes ++ bytes;
    read = HasReadBytes-append old now later w.bytes bytes w.read k.read;
    stays = k.stays ∙ w.stays;
    back = λ more body rest h.
        subst (λ (t : List ℕ). ReadsBody limits framing t (with_front got body) rest)
        (sym (append_assoc (start ++ w.bytes) bytes more)
        ∙ ap (λ (t : List ℕ). t ++ more) (append_assoc start w.bytes bytes))
        (w.back (bytes ++ more) body rest
        (subst (λ (t : List ℕ). Completes w.d t body rest)
        (ap (λ (t : List ℕ). t ++ more) k.kept ∙ append_assoc unread bytes more) h));
    forth = λ more whole rest h.
        let f = w.forth (bytes ++ more) whole rest
        (subst (λ (t : List ℕ). ReadsBody limits framing t whole rest)
        (sym (sym (append_assoc (start ++ w.bytes) bytes more)
        ∙ ap (λ (t : List ℕ). t ++ more) (append_assoc start w.bytes bytes))) h) in (
          f.0,
          f.1,
          subst (λ (t : List ℕ). Completes w.d t f.0 rest)
              (sym (ap (λ (t : List ℕ). t ++ more) k.kept ∙ append_assoc unread bytes more)) f.2,
        );
    within = w.within;
    progress =
        let sum = length-append w.bytes bytes in
        let progress = w.progress in omega (arith, sum, progress, more_rounds);
    counted =
        let sum = length-append w.bytes bytes in
        let counted = w.counted in omega (arith, sum, counted, less);
  }

  -- nothing so far
  pub within_start : (c : Client) → c.reading ≡ Reads.Body (decoder_for limits framing)
      → HasReadBytes old [] old
      → IsWithin limits framing old start limit most 0 most c old start []
  within_start c e nothing = record {
    d = decoder_for limits framing;
    reading = e;
    bytes = [];
    read = nothing;
    stays = refl;
    back = λ more body rest h.
        subst (λ (t : List ℕ). ReadsBody limits framing (t ++ more) body rest)
        (sym (append-nil start)) (body_from_completes limits framing (start ++ more) body rest h);
    forth = λ more whole rest h. (
      whole,
      refl,
      completes_from_body limits framing (start ++ more) whole rest
          (subst (λ (t : List ℕ). ReadsBody limits framing (t ++ more) whole rest) (append-nil start) h),
    );
    within = omega arith;
    progress = omega arith;
    counted = omega arith;
  }

  -- the body ends
  pub within_end : (round room : ℕ) (c : Client) (now : LinkNow) (unread after got joined : List ℕ)
      (w : IsWithin limits framing old start limit most round room c now unread got)
      → HasFoundEnd w.d unread got after joined
      → HasCarried limits framing old start joined now after × (length joined ≤ limit)
  within_end round room c now unread after got joined w e = (
    record {
      bytes = w.bytes;
      read = w.read;
      stays = w.stays;
      body = with_front got (body_of [] e.trailers);
      rest = after ++ [];
      reads =
          subst (λ (t : List ℕ).
          ReadsBody limits framing t (with_front got (body_of [] e.trailers)) (after ++ []))
          (append-nil (start ++ w.bytes)) (w.back [] (body_of [] e.trailers) (after ++ []) (e.ends []));
      alone = append-nil after;
      carries = e.joined ∙ sym (append-nil got);
    },
    subst (λ (t : List ℕ). length t ≤ limit) (sym e.joined) w.within,
  )

  -- no body is taken, whatever follows
  pub within_hopeless : (round room : ℕ) (c : Client) (now : LinkNow) (unread got : List ℕ)
      (w : IsWithin limits framing old start limit most round room c now unread got)
      → NeverKept w.d unread got limit → FailsBody limits framing old start limit most now
  within_hopeless round room c now unread got w h = inr (inr (inl (record {
    bytes = w.bytes;
    read = w.read;
    stays = w.stays;
    holds = λ more whole rest k.
        let f = w.forth more whole rest k in
        subst (λ (b : Body). IsLargeBody limit b) (sym f.1) (h more f.0 rest f.2);
  })))

  -- the link failed
  pub within_broken : (round room : ℕ) (c : Client) (now later : LinkNow) (unread got : List ℕ)
      (w : IsWithin limits framing old start limit most round room c now unread got)
      → HasBroken now later → FailsBody limits framing old start limit most later
  within_broken round room c now later unread got w b = inl (record {
    bytes = w.bytes ++ b.bytes;
    read = HasReadBytes-append old now later w.bytes b.bytes w.read b.read;
    rose = subst (λ (n : ℕ). HasRisen n later.faults) w.stays b.rose;
  })

  -- too many bytes came
  pub within_flood : (round room : ℕ) (c : Client) (now later : LinkNow)
      (unread after got bytes : List ℕ)
      (w : IsWithin limits framing old start limit most round room c now unread got)
      → HasKept now unread later after bytes → room < length bytes
      → FailsBody limits framing old start limit most later
  within_flood round room c now later unread after got bytes w k over = inr (inr (inr (record {
    bytes = w.bytes ++ bytes;
    read = HasReadBytes-append old now later w.bytes bytes w.read k.read;
    stays = k.stays ∙ w.stays;
    holds =
        let sum = length-append w.bytes bytes in
        let counted = w.counted in omega (arith, sum, counted, over);
  })))

-- ---- the end of the link

nothing_in : (bytes : List ℕ) → length bytes < 1 → bytes ≡ []
nothing_in [] h = refl
nothing_in (b ∷ bytes) h = absurd (omega arith)

closed_or_cut : (b : Bool) (c : Client) (count : ℕ)
    → (if b then (Ok events.Closed, closed_client c) else cut_short c).0 ≡ Ok (events.End count) → ⊥
closed_or_cut true c count e = cc
closed_or_cut false c count e = cc

runs_on : (c : Client) (r : Reading) (count : ℕ) → (at_eof r c).0 ≡ Ok (events.End count)
    → r ≡ Reads.Body UntilClose
runs_on c Reads.Head count e = absurd (closed_or_cut (awaits_head c.writing) c count e)
runs_on c (Reads.Body (Length left)) count e = absurd (cc)
runs_on c (Reads.Body (Chunked chunks max_len)) count e = absurd (cc)
runs_on c (Reads.Body UntilClose) count e = refl
runs_on c Reads.Done count e = absurd (cc)
runs_on c Reads.Upgraded count e = absurd (cc)
runs_on c Reads.Closed count e = absurd (cc)
runs_on c (Reads.Failed error) count e = absurd (cc)

decoder_is : (d : Decoder) → Reads.Body d ≡ Reads.Body UntilClose → d ≡ UntilClose
decoder_is (Length left) e = absurd (cc)
decoder_is (Chunked chunks max_len) e = absurd (cc)
decoder_is UntilClose e = refl

-- the body runs until the link's end, which has come
pub within_eof : (limits : Limits) (framing : Framing) (old : LinkNow) (start : List ℕ)
    (limit most round room : ℕ) (c : Client) (now later : LinkNow) (unread after got bytes : List ℕ)
    (count : ℕ) (w : IsWithin limits framing old start limit most round room c now unread got)
    → IsDrained w.d unread → HasKept now unread later after bytes → length bytes < 1
    → (at_eof c.reading c).0 ≡ Ok (events.End count)
    → HasCarried limits framing old start got later after × (length got ≤ limit)
within_eof limits framing old start limit most round room c now later unread after got bytes count w none k short e =
    let is = decoder_is w.d (sym w.reading ∙ runs_on c c.reading count e) in
    let empty : unread ≡ [] = subst (λ (d : Decoder). IsDrained d unread) is none in
    let ends : Completes UntilClose (unread ++ []) (body_of [] []) [] =
    (sym (ap (λ (t : List ℕ). t ++ []) empty), refl, refl) in
    let at = subst (λ (d : Decoder). Completes d (unread ++ []) (body_of [] []) []) (sym is) ends in
    let nothing = nothing_in bytes short in
    let same : w.bytes ++ bytes ≡ w.bytes =
    ap (λ (t : List ℕ). w.bytes ++ t) nothing ∙ append-nil w.bytes in (
      record {
        bytes = w.bytes ++ bytes;
        read = HasReadBytes-append old now later w.bytes bytes w.read k.read;
        stays = k.stays ∙ w.stays;
        body = with_front got (body_of [] []);
        rest = [];
        reads =
            subst (λ (t : List ℕ). ReadsBody limits framing t (with_front got (body_of [] [])) [])
            (append-nil (start ++ w.bytes) ∙ ap (λ (t : List ℕ). start ++ t) (sym same))
            (w.back [] (body_of [] []) [] at);
        alone = sym (k.kept ∙ ap (λ (t : List ℕ). t ++ bytes) empty ∙ nothing);
        carries = sym (append-nil got);
      },
      w.within,
    )

-- nothing of a body that has ended with the link is missing
ends_there : (c : Client) (r : Reading) → r ≡ Reads.Body UntilClose
    → (at_eof r c).0 ≡ Ok (events.End 0)
ends_there c r e = ap (λ (x : Reading). (at_eof x c).0) e

-- ---- one look, and what it makes of the whole

module _ (limits : Limits) (framing : Framing) (old : LinkNow) (start : List ℕ)
    (limit most round room : ℕ) (c new : Client) (now : LinkNow) (unread after body got : List ℕ)
    (look : Look) (w : IsWithin limits framing old start limit most round room c now unread body)
    (h : LooksAt c w.d unread body limit (Ok look) new after got) where
  pub end_of : look ≡ End → HasCarried limits framing old start got now after × (length got ≤ limit)
  end_of is = within_end limits framing old start limit most round room c now unread after body got w
      (subst (λ (x : Look). LooksAt c w.d unread body limit (Ok x) new after got) is h)

  pub piece_of : look ≡ Piece → (next : ℕ) → next ≤ round + 1
      → IsWithin limits framing old start limit most next room new now after got
  piece_of is next step =
      let m = subst (λ (x : Look). LooksAt c w.d unread body limit (Ok x) new after got) is h in
      let some = m.some in
      within_piece limits framing old start limit most round next room c new now unread after body
      m.piece got w m.moved m.within (omega (arith, some, step))

  more : look ≡ More → WantsMore c w.d unread body new after got
  more is = subst (λ (x : Look). LooksAt c w.d unread body limit (Ok x) new after got) is h

  moved_on : (m : WantsMore c w.d unread body new after got)
      → IsWithin limits framing old start limit most round room new now after got
  moved_on m =
      let within = w.within in
      let same = ap length m.moved.joined ∙ length-append body [] in
      within_piece limits framing old start limit most round round room c new now unread after body []
      got w m.moved (omega (arith, within, same)) (omega arith)

  pub more_of : look ≡ More → (came : Bool) (later : LinkNow) (kept : List ℕ) (count left next : ℕ)
      → came ≡ true → ReadsMore now after 1 (Ok came) later kept → count ≡ length kept - length after
      → left ≡ room - count → count ≤ room → next ≤ round + 1
      → IsWithin limits framing old start limit most next left new later kept got
  more_of is came later kept count left next yes_came r counts less fits step =
      let k = subst (λ (b : Bool). ReadsMore now after 1 (Ok b) later kept) yes_came r in
      let sum = ap length k.kept.kept ∙ length-append after k.bytes in
      let enough = k.enough in
      within_more limits framing old start limit most round next room left new now later after kept got
      k.bytes (moved_on (more is)) k.kept (omega (arith, enough, step))
      (omega (arith, sum, counts, less, fits))

  pub flood_of : look ≡ More → (came : Bool) (later : LinkNow) (kept : List ℕ) (count : ℕ)
      → came ≡ true → ReadsMore now after 1 (Ok came) later kept → count ≡ length kept - length after
      → room < count → FailsBody limits framing old start limit most later
  flood_of is came later kept count yes_came r counts over =
      let k = subst (λ (b : Bool). ReadsMore now after 1 (Ok b) later kept) yes_came r in
      let sum = ap length k.kept.kept ∙ length-append after k.bytes in
      within_flood limits framing old start limit most round room new now later after kept got k.bytes
      (moved_on (more is)) k.kept (omega (arith, sum, counts, over))

  pub broken_of : look ≡ More → (later : LinkNow) → HasBroken now later
      → FailsBody limits framing old start limit most later
  broken_of is later b = within_broken limits framing old start limit most round room new now later
      after got (moved_on (more is)) b

  pub eof_of : look ≡ More → (came : Bool) (later : LinkNow) (kept : List ℕ) (count : ℕ)
      → came ≡ false → ReadsMore now after 1 (Ok came) later kept
      → (at_eof new.reading new).0 ≡ Ok (events.End count)
      → HasCarried limits framing old start got later kept × (length got ≤ limit)
  unfolding within_piece moved_on more
  eof_of is came later kept count none r e =
      let m = more is in
      let k = subst (λ (b : Bool). ReadsMore now after 1 (Ok b) later kept) none r in
      within_eof limits framing old start limit most round room new now later after kept got k.bytes
      count (moved_on m) m.drained k.kept k.short e

  -- the link has ended within the body
  pub cut_of : look ≡ More → (came : Bool) (later : LinkNow) (kept : List ℕ) → came ≡ false
      → ReadsMore now after 1 (Ok came) later kept
      → ((count : ℕ) → ¬ ((at_eof new.reading new).0 ≡ Ok (events.End count)))
      → FailsBody limits framing old start limit most later
  cut_of is came later kept none r other =
      let m = more is in
      let k = subst (λ (b : Bool). ReadsMore now after 1 (Ok b) later kept) none r in
      let nothing = nothing_in k.bytes k.short in
      let same : w.bytes ++ k.bytes ≡ w.bytes =
      ap (λ (t : List ℕ). w.bytes ++ t) nothing ∙ append-nil w.bytes in
      inr (inl (record {
        bytes = w.bytes ++ k.bytes;
        read = HasReadBytes-append old now later w.bytes k.bytes w.read k.kept.read;
        stays = k.kept.stays ∙ w.stays;
        holds = (
          k.ended,
          λ whole rest reads.
              let f = w.forth [] whole rest
              (subst (λ (t : List ℕ). ReadsBody limits framing t whole rest)
              (ap (λ (t : List ℕ). start ++ t) same ∙ sym (append-nil (start ++ w.bytes))) reads) in
              m.unfinished
              (λ (u : m.moved.next ≡ UntilClose).
              other 0 (ends_there new new.reading
              (m.moved.reading ∙ ap (λ (d : Decoder). Reads.Body d) u))) f.0 rest
              (subst (λ (t : List ℕ). Completes w.d t f.0 rest) (append-nil unread) f.2),
        );
      }))

-- what a refusal of a look, or of reading on, makes of the whole
module _ (limits : Limits) (framing : Framing) (old : LinkNow) (start : List ℕ)
    (limit most round room : ℕ) (c new : Client) (now : LinkNow) (unread after body got : List ℕ)
    (w : IsWithin limits framing old start limit most round room c now unread body) where
  pub refused_of : (error : LinkErr) → LooksAt c w.d unread body limit (Err error) new after got
      → AwaitsCarried limits framing old start limit most (Err error) now after
  refused_of Fault h = within_hopeless limits framing old start limit most round room c now unread body w h
  refused_of NoMemory h = tt
  refused_of TooLong h = absurd h

  pub unread_of : (look : Look) → LooksAt c w.d unread body limit (Ok look) new after got → look ≡ More
      → (error : LinkErr) (later : LinkNow) (kept : List ℕ)
      → ReadsMore now after 1 (Err error) later kept
      → AwaitsCarried limits framing old start limit most (Err error) later kept
  unread_of look h is Fault later kept r =
      broken_of limits framing old start limit most round room c new now unread after body got look w h
      is later r
  unread_of look h is NoMemory later kept r = tt
  unread_of look h is TooLong later kept r = absurd r

-- an error that is handed on
pub passed_on : {A : Type 0} (P : Result A LinkErr → Type 0) (r : Result A LinkErr) (e : LinkErr)
    → IsErr r → IsErrAnd r (λ x. x ≡ e) → P (Err e) → P r
passed_on P (Ok x) e h k p = absurd (false≢true h)
passed_on P (Err x) e h k p = subst (λ (y : LinkErr). P (Err y)) (sym k) p
