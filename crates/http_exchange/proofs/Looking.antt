-- What one look at the unread bytes finds of a body.
use Rattle.std.proofs.Common.{◌≡◌, ◌∙◌, refl, sym, ap, subst, arith, ℕ, ◌-◌, ◌<◌, ◌≤◌, List, [], ◌++◌, length, drop, append-nil, ◌⊎◌, inl, inr}
use Rattle.std.proofs.lemmas.List.{drop_all}
use Rattle.httparse.specs.Spans.{span_bytes}
use Rattle.httparse.specs.declared.spans.HeaderSpan.{HeaderSpan}
use Rattle.httparse.specs.declared.spans.Span.{Span}
use Rattle.httparse.specs.declared.spans.ResponseSpans.{ResponseSpans}
use Rattle.http1.specs.declared.client.Client.{Client}
use Rattle.http1.specs.declared.conn.Event.TheVariants as events
use Rattle.http1.specs.declared.conn.Progress.{Progress}
use Rattle.http1.specs.declared.conn.Reading.{Reading}
use Rattle.http1.specs.declared.conn.Reading.TheVariants as Reads
use Rattle.http1.specs.declared.decode.Decoder.{Decoder}
use Rattle.http1.specs.declared.decode.Decoder.TheVariants.{Length, Chunked, UntilClose}
use Rattle.http1.specs.Body.{Body, body_of}
use Rattle.http1.specs.Conn.{ReadsPiece}
use Rattle.http1.specs.declared.conn.Event.{Event}
use Rattle.http1.specs.Client.{ClientReads, ClientRefuses, ReadsAt, ReadsInBody, RefusesAt, after_piece}
use Rattle.http1.specs.Decoder.{AwaitsTrailers, Completes, Runs}
use Rattle.http1.specs.declared.error.ReadError.{ReadError}
use Rattle.httparse.proofs.RunLemmas.{length-slice_range}
use Rattle.std.proofs.lemmas.List.{length-append}
use Rattle.http_exchange.specs.Steps.{HasFoundEnd, WantsMore, HasFoundPiece, IsDrained, NeverKept}

pub reads_in_body : (c new : Client) (input : List ℕ) (spans : List HeaderSpan)
    (p : Progress ResponseSpans) (d : Decoder) → c.reading ≡ Reads.Body d
    → ClientReads c input spans new p → ReadsInBody d c input spans new p
reads_in_body c new input spans p d e h =
    subst (λ (r : Reading). ReadsAt r c input spans new p) e h

moved_to : (c new : Client) (next : Decoder) (r : Reading) → r ≡ Reads.Body next
    → new ≡ after_piece c r → (new.reading ≡ Reads.Body next) × (new.limits ≡ c.limits)
moved_to c new next r is e = (
  ap (λ (x : Client). x.reading) e ∙ ap (λ (n : Reading). (after_piece c n).reading) is,
  ap (λ (x : Client). x.limits) e ∙ ap (λ (n : Reading). (after_piece c n).limits) is,
)

drained : (next : Decoder) (len : ℕ) (input after : List ℕ) → after ≡ drop len input
    → (len ≡ length input) ⊎ AwaitsTrailers next (length (drop len input)) → IsDrained next after
drained (Length left) len input after e h = tt
drained (Chunked chunks max_len) len input after e h = tt
drained UntilClose len input after e (inl h) = e ∙ drop_all len input (omega (arith, h))
drained UntilClose len input after e (inr h) = absurd h

span_len : (input : List ℕ) (s : Span) → s.start < s.end → s.end ≤ length input
    → 0 < length (span_bytes input s)
span_len input s some within =
    let e = length-slice_range input s.start s.end (omega (arith, some)) within in
    omega (arith, some, e)

pub piece_found : (c new : Client) (d : Decoder) (input : List ℕ) (spans : List HeaderSpan)
    (len : ℕ) (s : Span) (body after got : List ℕ) (limit : ℕ)
    → ReadsInBody d c input spans new (record { consumed = len; event = events.Data s })
    → got ≡ body ++ span_bytes input s → after ≡ drop len input
    → length (span_bytes input s) ≤ limit - length body → HasFoundPiece c d input body limit new after got
piece_found c new d input spans len s body after got limit h joined rest fits =
    let p = h.1 in
    let at = moved_to c new p.0 h.0 p.1 h.2 in
    let some = span_len input s p.3 p.4.within in
    let sum = ap length joined ∙ length-append body (span_bytes input s) in
    record {
      piece = span_bytes input s;
      moved = record {
        next = p.0;
        reading = at.0;
        limits = at.1;
        finds = record {
          back = λ more b r k.
              p.4.back more b r
              (subst (λ (t : List ℕ). Completes p.0 (t ++ more) b r)
              (rest ∙ ap (λ (n : ℕ). drop n input) p.2) k);
          forth = λ more whole r k.
              let f = p.4.forth more whole r k in (
                f.0,
                f.1,
                subst (λ (t : List ℕ). Completes p.0 (t ++ more) f.0 r)
                    (sym (rest ∙ ap (λ (n : ℕ). drop n input) p.2)) f.2,
              );
        };
        joined = joined;
      };
      some = some;
      within = omega (arith, some, fits, sum);
    }

-- a decoder of what runs until the end stays one
stays_endless : (d next : Decoder) (input : List ℕ) (len : ℕ) (piece : List ℕ)
    → Runs d input next len piece → d ≡ UntilClose → next ≡ UntilClose
stays_endless (Length left) next input len piece runs e = absurd (cc)
stays_endless (Chunked chunks max_len) next input len piece runs e = absurd (cc)
stays_endless UntilClose next input len piece runs e = runs

pub more_wanted : (c new : Client) (d : Decoder) (input : List ℕ) (spans : List HeaderSpan)
    (len : ℕ) (body after : List ℕ)
    → ReadsInBody d c input spans new (record { consumed = len; event = events.NeedMore })
    → after ≡ drop len input → WantsMore c d input body new after body
more_wanted c new d input spans len body after h rest =
    let p = h.1 in
    let at = moved_to c new p.0 h.0 p.1 h.2 in
    record {
      moved = record {
        next = p.0;
        reading = at.0;
        limits = at.1;
        finds = record {
          back = λ more b r k.
              p.2.continues.back more b r
              (subst (λ (t : List ℕ). Completes p.0 (t ++ more) b r) rest k);
          forth = λ more whole r k.
              let f = p.2.continues.forth more whole r k in (
                f.0,
                f.1,
                subst (λ (t : List ℕ). Completes p.0 (t ++ more) f.0 r) (sym rest) f.2,
              );
        };
        joined = sym (append-nil body);
      };
      drained = drained p.0 len input after rest p.2.drained;
      unfinished = λ other.
          p.2.unfinished (λ same. other (stays_endless d p.0 input len [] p.2.continues.runs same));
    }

pub end_found : (c new : Client) (d : Decoder) (input : List ℕ) (spans : List HeaderSpan)
    (len count : ℕ) (body after : List ℕ)
    → ReadsInBody d c input spans new (record { consumed = len; event = events.End count })
    → after ≡ drop len input → HasFoundEnd d input body after body
end_found c new d input spans len count body after h rest =
    let ends = h.1.1 in
    record {
      trailers = ends.trailers;
      ends = λ more.
          subst (λ (t : List ℕ). Completes d (input ++ more) (body_of [] ends.trailers) (t ++ more))
          (sym rest) (ends.completes more);
      joined = refl;
    }

-- a body with this piece is past the limit
pub past_limit : (c new : Client) (d : Decoder) (input : List ℕ) (spans : List HeaderSpan)
    (len : ℕ) (s : Span) (body : List ℕ) (limit : ℕ)
    → ReadsInBody d c input spans new (record { consumed = len; event = events.Data s })
    → limit - length body < length (span_bytes input s) → NeverKept d input body limit
past_limit c new d input spans len s body limit h over more b rest k =
    let f = h.1.4.forth more b rest k in
    let joined = ap (λ (x : Body). length x.bytes) f.1 ∙ length-append (span_bytes input s) f.0.bytes in
    let sum = length-append body b.bytes in inr (omega (arith, over, joined, sum))

-- the bytes are no body
pub refused : (c : Client) (d : Decoder) (input shown body : List ℕ) (room limit : ℕ) (e : ReadError)
    → c.reading ≡ Reads.Body d → shown ≡ input → room ≡ 128 → ClientRefuses c shown room e
    → NeverKept d input body limit
refused c d input shown body room limit e reading same is h more b rest k =
    let at = subst (λ (r : Reading). RefusesAt r c shown room e) reading h in
    inl (subst (λ (n : ℕ). n < length b.trailers) is
    (at.0 more b rest (subst (λ (i : List ℕ). Completes d (i ++ more) b rest) (sym same) k)))

-- what a call of `read` found where nothing more came
pub wants_more : (c new : Client) (d : Decoder) (input shown : List ℕ) (spans : List HeaderSpan)
    (p : Progress ResponseSpans) (body after : List ℕ) → c.reading ≡ Reads.Body d
    → shown ≡ input → ClientReads c shown spans new p → p.event ≡ events.NeedMore
    → after ≡ drop p.consumed input → WantsMore c d input body new after body
wants_more c new d input shown spans p body after reading same read is rest =
    let h = reads_in_body c new input spans p d reading
    (subst (λ (i : List ℕ). ClientReads c i spans new p) same read) in
    let at = subst (λ (v : Event ResponseSpans). ReadsPiece d input spans h.0 p.consumed v) is h.1 in
    more_wanted c new d input spans p.consumed body after (h.0, at, h.2) rest

-- what a call of `read` found where a piece came
pub takes_piece : (c new : Client) (d : Decoder) (input shown again : List ℕ) (spans : List HeaderSpan)
    (p : Progress ResponseSpans) (s : Span) (piece body after got : List ℕ) (limit : ℕ)
    → c.reading ≡ Reads.Body d → shown ≡ input → again ≡ input → ClientReads c shown spans new p
    → p.event ≡ events.Data s → piece ≡ span_bytes again s → got ≡ body ++ piece
    → after ≡ drop p.consumed input → length piece ≤ limit - length body
    → HasFoundPiece c d input body limit new after got
takes_piece c new d input shown again spans p s piece body after got limit reading same twice read is at joined rest fits =
    let h = reads_in_body c new input spans p d reading
    (subst (λ (i : List ℕ). ClientReads c i spans new p) same read) in
    let found = subst (λ (v : Event ResponseSpans). ReadsPiece d input spans h.0 p.consumed v) is h.1 in
    let span : piece ≡ span_bytes input s = at ∙ ap (λ (i : List ℕ). span_bytes i s) twice in
    piece_found c new d input spans p.consumed s body after got limit (h.0, found, h.2)
    (joined ∙ ap (λ (t : List ℕ). body ++ t) span) rest
    (subst (λ (t : List ℕ). length t ≤ limit - length body) span fits)
