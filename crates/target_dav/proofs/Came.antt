-- How the response to a call comes.
use Rattle.std.proofs.Common.{◌≡◌, ◌∙◌, ◌<◌, ◌+◌, ◌==◌, refl, sym, subst, inl, inr, arith, ℕ, Bool, List, [], ◌++◌, length, take, nat_eq, append-nil, Result, Ok, Err}
use Rattle.std.proofs.lemmas.Bool.Decides.{nat_tests}
use Rattle.jop_outside.specs.Outside.{HasRisen, Reads}
use Rattle.jop_outside.specs.declared.failed.Failed.{Failed}
use Rattle.jop_target.specs.declared.call.Call.{Call}
use Rattle.jop_target.specs.declared.reply.Reply.{Reply}
use Rattle.dav_link.proofs.LinkLaws.{HasReadBytes-append, HasReadBytes-nil, read_end, read_failed, read_piece}
use Rattle.dav_link.specs.Links.{LinkNow, ReadsAlone}
use Rattle.dav_link.specs.Receiving.{HasBroken, HasReadBytes, HasStarved}
use Rattle.dav_link.specs.declared.error.LinkErr.{LinkErr}
use Rattle.dav_link.specs.declared.error.LinkErr.TheVariants.{Fault, NoMemory, TooLong}
use Rattle.dav_wire.specs.HeadReading.{LeavesOpen}
use Rattle.dav_wire.specs.ResponseReading.{ResponseReadsAs}
use Rattle.dav_wire.specs.declared.response_reader.ReadResponse.TheVariants.{Whole as Replied}
use Rattle.reply_reader.specs.Pieces.{Feeds, HasBeenTold, missing_of}
use Rattle.reply_reader.specs.declared.fed.Fed.{Fed}
use Rattle.reply_reader.specs.declared.fed.Fed.TheVariants.{More, Whole, Bad}
use Rattle.reply_reader.specs.declared.reply_reader.ReplyReader.{ReplyReader}
use Rattle.reply_reader.specs.declared.state.State.TheVariants.{Told}
use Rattle.reply_reader.proofs.Standing.{is_missing, too_little}
use Rattle.target_dav.specs.Responses.{HasSaid, HasNoResponse, HasResponse, IsReading, ReadsPiece, Receives, response_limit}
use Rattle.target_dav.specs.declared.receiving.Received.{Received}

pub reading_nothing : (call : Call) (link : LinkNow) (r : ReplyReader) → HasBeenTold call r []
    → IsReading call link link r
reading_nothing call link r told =
    record { bytes = []; read = HasReadBytes-nil link; stays = refl; told = told }

-- ---- a piece more

-- a piece was read behind what was read before
module _ (call : Call) (old mid new : LinkNow) (r : ReplyReader) (into : List ℕ) (count : ℕ)
    (at : IsReading call old mid r) (reads : Reads mid.left (Ok count) into new.left)
    (alone : ReadsAlone mid new) (stays : new.faults ≡ mid.faults) where
  all_read : HasReadBytes old (at.bytes ++ take count into) new
  all_read = HasReadBytes-append old mid new at.bytes (take count into) at.read
      (read_piece mid new into count reads alone)

  pub came_unread : HasStarved old new
  came_unread =
      record { bytes = at.bytes ++ take count into; read = all_read; stays = stays ∙ at.stays }

  pub came_answered : (fed : Fed) (s : ReplyReader) → Feeds call (at.bytes ++ take count into) fed s
      → HasSaid call old new fed s
  came_answered fed s says = record {
    bytes = at.bytes ++ take count into;
    read = all_read;
    stays = stays ∙ at.stays;
    says = says;
  }

-- ---- by the answer

-- to a piece
answered : (call : Call) (old new : LinkNow) (r : ReplyReader) (fed other : Fed)
    → HasSaid call old new fed r → fed ≡ other → HasSaid call old new other r
answered call old new r fed other h is =
    subst (λ (f : Fed). HasSaid call old new f r) is h

pub reading_on : (call : Call) (old new : LinkNow) (r : ReplyReader) (fed : Fed)
    → HasSaid call old new fed r → fed ≡ More → IsReading call old new r
reading_on call old new r fed h is =
    let more = answered call old new r fed More h is in
    record { bytes = more.bytes; read = more.read; stays = more.stays; told = more.says.1 }

pub came_bad : (call : Call) (old new : LinkNow) (r : ReplyReader) (fed : Fed)
    → HasSaid call old new fed r → fed ≡ Bad → HasNoResponse call old new
came_bad call old new r fed h is =
    let bad = answered call old new r fed Bad h is in
    record { bytes = bad.bytes; read = bad.read; stays = bad.stays; none = inl bad.says }

is_alone : (used rest long : ℕ) → used + rest ≡ long → (rest == 0) ≡ nat_eq used long
is_alone used rest long e = grind (arith, nat_tests)

same_reply : (call : Call) (bytes : List ℕ) (reply : Reply) (blob : List ℕ) (used : ℕ)
    (received : Received) → Told reply blob ≡ Told received.reply received.blob
    → ResponseReadsAs call bytes (Replied reply blob used)
    → ResponseReadsAs call bytes (Replied received.reply received.blob used)
same_reply call bytes reply blob used received e h =
    let same : reply ≡ received.reply = cc e in
    let alike : blob ≡ received.blob = cc e in
    subst (λ (r : Reply). ResponseReadsAs call bytes (Replied r received.blob used)) same
    (subst (λ (b : List ℕ). ResponseReadsAs call bytes (Replied reply b used)) alike h)

pub came_whole : (call : Call) (old new : LinkNow) (r : ReplyReader) (fed : Fed) (rest : ℕ)
    (received : Received) → HasSaid call old new fed r → fed ≡ Whole rest
    → r.state ≡ Told received.reply received.blob → received.alone ≡ (rest == 0)
    → received.lasts ≡ r.lasts → HasResponse call old received new
came_whole call old new r fed rest received h is told ends lasts =
    let whole = answered call old new r fed (Whole rest) h is in
    let said = whole.says in
    record {
      bytes = whole.bytes;
      read = whole.read;
      stays = whole.stays;
      used = said.used;
      response = same_reply call whole.bytes said.reply said.blob said.used received
          (sym said.told ∙ told) said.response;
      alone = ends ∙ is_alone said.used rest (length whole.bytes) said.counts;
      lasts = subst (λ (b : Bool). LeavesOpen whole.bytes b) (sym lasts) said.lasts;
    }

-- ---- no response

receives_failure : (call : Call) (old new : LinkNow) (r : ReplyReader) (error : LinkErr)
    → ReadsPiece call old (Err error) new r → Receives call old (Err error) new
receives_failure call old new r Fault h = h
receives_failure call old new r NoMemory h = h
receives_failure call old new r TooLong h = absurd h

pub receives_none : (call : Call) (old new : LinkNow) (r : ReplyReader) (result : Result Fed LinkErr)
    (error : LinkErr) → ReadsPiece call old result new r → result ≡ Err error
    → Receives call old (Err error) new
receives_none call old new r result error reads is =
    let A : Result Fed LinkErr → Type 0 = λ x. ReadsPiece call old x new r in
    receives_failure call old new r error (subst A is reads)

pub came_too_long : (call : Call) (old new : LinkNow) (r : ReplyReader) → IsReading call old new r
    → response_limit call < missing_of r.state → HasNoResponse call old new
came_too_long call old new r at long = record {
  bytes = at.bytes;
  read = at.read;
  stays = at.stays;
  none = inr (inr (
    missing_of r.state,
    is_missing call r at.bytes at.told (omega (arith, long)),
    long,
  ));
}

pub ended_early : (call : Call) (old mid new : LinkNow) (r : ReplyReader) (into : List ℕ)
    → IsReading call old mid r → 0 < length into → Reads mid.left (Ok 0) into new.left
    → ReadsAlone mid new → new.faults ≡ mid.faults → HasNoResponse call old new
ended_early call old mid new r into at room reads alone stays = record {
  bytes = at.bytes;
  read = subst (λ (t : List ℕ). HasReadBytes old t new) (append-nil at.bytes)
      (HasReadBytes-append old mid new at.bytes (take 0 into) at.read
      (read_piece mid new into 0 reads alone));
  stays = stays ∙ at.stays;
  none = inr (inl (too_little call r at.bytes at.told, read_end mid new into room reads));
}

pub broke_off : (call : Call) (old mid new : LinkNow) (r : ReplyReader) (into : List ℕ) (e : Failed)
    → IsReading call old mid r → Reads mid.left (Err e) into new.left → ReadsAlone mid new
    → HasRisen mid.faults new.faults → HasBroken old new
broke_off call old mid new r into e at reads alone rose =
    let failed = read_failed mid new into e reads alone rose in
    record {
      bytes = at.bytes ++ failed.bytes;
      read = HasReadBytes-append old mid new at.bytes failed.bytes at.read failed.read;
      rose = let rose = failed.rose in let same = at.stays in omega arith;
    }
