-- What a reader stands at behind a piece.
use Rattle.std.proofs.Common.{◌≡◌, ℕ, ◌+◌, ◌-◌, ◌<◌, ◌≤◌, List, [], ◌++◌, length, take, drop, refl, sym, ap, subst, ◌∙◌, arith, inr, append_assoc, Bool}
use Rattle.std.proofs.lemmas.List.{length-append, length-take, take-append-drop, take_all}
use Rattle.std.proofs.Math.Seq.{drop-append-le}
use Rattle.httparse.specs.Grammar.{HasNoResponse}
use Rattle.jop_target.specs.declared.call.Call.{Call}
use Rattle.jop_target.specs.declared.reply.Entry.{Entry}
use Rattle.jop_target.specs.declared.reply.Reply.{Reply}
use Rattle.jop_target.specs.declared.reply.Reply.TheVariants as replies
use Rattle.dav_parts.specs.Multistatus.{ReadsMultistatus}
use Rattle.dav_wire.specs.HeadReading.{HeadTells, HeadReadsAs, LeavesOpen}
use Rattle.dav_wire.specs.declared.head_reader.ReadHead.{ReadHead}
use Rattle.dav_wire.specs.declared.head_reader.ReadHead.TheVariants as heads
use Rattle.jop_base.specs.declared.dir.Dir.{Dir}
use Rattle.dav_wire.specs.ResponseReading.{IsReplyOf, IsResponseMissing, IsUnfinished, IsUnreadable, ResponseReadsAs}
use Rattle.dav_wire.specs.declared.frame.Frame.{Frame}
use Rattle.dav_wire.specs.declared.frame.Frame.TheVariants.{TooLong, Body}
use Rattle.dav_wire.specs.declared.outcome.Outcome.{Outcome}
use Rattle.dav_wire.specs.declared.outcome.Outcome.TheVariants.{Listing, Content, Blob, Absent, Done, Other}
use Rattle.dav_wire.specs.declared.response_reader.ReadResponse.TheVariants.{Whole, More, Bad}
use Rattle.reply_reader.specs.Layouts.{HasReadLayout}
use Rattle.reply_reader.specs.Pieces.{CountsBody, HasBeenTold, HasReadReply, KeepsBody, StateAfter, bare, body_kept, missing_of}
use Rattle.reply_reader.specs.declared.layout_reader.LayoutReader.{LayoutReader}
use Rattle.reply_reader.specs.declared.reply_reader.ReplyReader.{ReplyReader}
use Rattle.reply_reader.specs.declared.state.State.{State}
use Rattle.reply_reader.specs.declared.state.State.TheVariants as states
use Rattle.dav_wire.proofs.ResponseMissing.{more_while_missing}
use Rattle.reply_reader.proofs.Counting.{by_head, ends_within, head_bare, head_length, head_more, lasts_more, misses, refuses, rest_is, tells, unreadable_bad, uses}

-- ---- what is kept

pub keeps_more : (o : Outcome) (kept body piece : List ℕ) → KeepsBody o kept body
    → KeepsBody o (body_kept o kept piece) (body ++ piece)
keeps_more (Content limit) kept body piece h = ap (λ (t : List ℕ). t ++ piece) h
keeps_more Blob kept body piece h = ap (λ (t : List ℕ). t ++ piece) h
keeps_more Absent kept body piece h = h
keeps_more Done kept body piece h = h
keeps_more (Listing dir) kept body piece h = h
keeps_more Other kept body piece h = h

-- at first nothing is kept, of a body that is
pub keeps_none : (o : Outcome) (kept : List ℕ) → ((dir : Dir) → o ≡ Listing dir → ⊥)
    → (o ≡ Other → ⊥) → kept ≡ [] → KeepsBody o kept []
keeps_none (Content limit) kept lists other none = none
keeps_none Blob kept lists other none = none
keeps_none Absent kept lists other none = none
keeps_none Done kept lists other none = none
keeps_none (Listing dir) kept lists other none = absurd (lists dir refl)
keeps_none Other kept lists other none = absurd (other refl)

-- ---- a body of which bytes are missing

lacking : (call : Call) (told : List ℕ) (now : ℕ) (outcome : Outcome) (left : ℕ) (body : List ℕ)
    → CountsBody call told now outcome left body → IsResponseMissing call told left
lacking call told now outcome left body c = (
  c.head.head,
  body,
  c.head.begins,
  now,
  outcome,
  c.count,
  sym c.head.tells,
  omega (arith, c.counts),
)

lacks : (call : Call) (told : List ℕ) (now : ℕ) (outcome : Outcome) (left : ℕ) (body : List ℕ)
    → CountsBody call told now outcome left body → 0 < left → ResponseReadsAs call told More
lacks call told now outcome left body c some =
    more_while_missing call told left (lacking call told now outcome left body c) some

-- ---- a body that lists no folder

module _ (call asked : Call) (bytes body piece : List ℕ) (now : ℕ) (outcome : Outcome)
    (left len count : ℕ) (lasts : Bool) (asks : asked ≡ bare call)
    (head : HeadTells call bytes (body ++ piece) (Body now outcome count) len)
    (stays : LeavesOpen bytes lasts) (counts : length body + left ≡ count) where
  counted : length piece < left
      → CountsBody call bytes now outcome (left - length piece) (body ++ piece)
  counted short = record {
    len = len;
    count = count;
    head = head;
    counts = omega (arith, counts, short, length-append body piece);
  }

  pub body_goes_on : (kept next : List ℕ) → length piece < left → KeepsBody outcome kept body
      → next ≡ body_kept outcome kept piece
      → ResponseReadsAs call bytes More
      × HasBeenTold call (record {
        call = asked;
        lasts = lasts;
        state = states.Body now outcome (left - length piece) next;
      }) bytes
  body_goes_on kept next short keeps is = (
    misses call bytes body piece now outcome left len count head counts short,
    record {
      asks = asks;
      stands = (
        body ++ piece,
        counted short,
        subst (λ (t : List ℕ). KeepsBody outcome t (body ++ piece)) (sym is)
            (keeps_more outcome kept body piece keeps),
        omega (arith, short),
        stays,
      );
    },
  )

  pub body_ends : (reply : Reply) (blob : List ℕ) → left ≤ length piece
      → IsReplyOf now outcome (body ++ take left piece) reply blob
      → HasReadReply call bytes (length piece - left)
      (record { call = asked; lasts = lasts; state = states.Told reply blob })
  body_ends reply blob h is = record {
    reply = reply;
    blob = blob;
    used = len + count;
    response = tells call bytes body piece now outcome left len count head counts h reply blob is;
    counts = uses call bytes body piece now outcome left len count head counts h;
    told = refl;
    lasts = stays;
  }

-- ---- a listing

module _ (call asked : Call) (bytes body piece : List ℕ) (now : ℕ) (lines new : LayoutReader)
    (left len count : ℕ) (lasts : Bool) (asks : asked ≡ bare call)
    (head : HeadTells call bytes (body ++ piece) (Body now (Listing lines.dir) count) len)
    (stays : LeavesOpen bytes lasts) (counts : length body + left ≡ count)
    (dir : new.dir ≡ lines.dir) where
  pub lines_go_on : length piece < left → HasReadLayout new (body ++ piece)
      → ResponseReadsAs call bytes More
      × HasBeenTold call (record {
        call = asked;
        lasts = lasts;
        state = states.Lines now (left - length piece) new;
      }) bytes
  lines_go_on short at = (
    misses call bytes body piece now (Listing lines.dir) left len count head counts short,
    record {
      asks = asks;
      stands = (
        body ++ piece,
        record {
          len = len;
          count = count;
          head = subst (λ (o : Outcome). HeadTells call bytes (body ++ piece) (Body now o count) len)
              (ap Listing (sym dir)) head;
          counts = omega (arith, counts, short, length-append body piece);
        },
        at,
        omega (arith, short),
        stays,
      );
    },
  )

  pub lines_refuse : left ≤ length piece
      → ((entries : List Entry) → ReadsMultistatus new.dir entries (body ++ take left piece) → ⊥)
      → ResponseReadsAs call bytes Bad
  lines_refuse h none =
      refuses call bytes body piece now (Listing lines.dir) left len count head counts h
      (λ entries read. none entries
      (subst (λ (d : Dir). ReadsMultistatus d entries (body ++ take left piece)) (sym dir) read))

  pub lines_end : left ≤ length piece → (entries : List Entry) (blob : List ℕ) → blob ≡ []
      → ReadsMultistatus new.dir entries (body ++ take left piece)
      → HasReadReply call bytes (length piece - left) (record {
        call = asked;
        lasts = lasts;
        state = states.Told (replies.Listed (record { now = now; entries = entries })) blob;
      })
  lines_end h entries blob nothing read = record {
    reply = replies.Listed (record { now = now; entries = entries });
    blob = blob;
    used = len + count;
    response = tells call bytes body piece now (Listing lines.dir) left len count head counts h
        (replies.Listed (record { now = now; entries = entries })) blob (
          refl,
          subst (λ (d : Dir). ReadsMultistatus d entries (body ++ take left piece)) dir read,
          nothing,
        );
    counts = uses call bytes body piece now (Listing lines.dir) left len count head counts h;
    told = refl;
    lasts = stays;
  }

-- ---- a length past the limit

pub too_long : (call asked : Call) (bytes rest : List ℕ) (frame : Frame) (len count : ℕ)
    (blob : List ℕ) (lasts : Bool) → HeadTells call bytes rest frame len → frame ≡ TooLong count
    → blob ≡ [] → LeavesOpen bytes lasts
    → HasReadReply call bytes (length rest) (record {
      call = asked;
      lasts = lasts;
      state = states.Told (replies.TooLarge count) blob;
    })
too_long call asked bytes rest frame len count blob lasts h is nothing stays =
    let head = subst (λ (f : Frame). HeadTells call bytes rest f len) is h in
    record {
      reply = replies.TooLarge count;
      blob = blob;
      used = len;
      response = by_head call bytes rest (TooLong count) len
          (Whole (replies.TooLarge count) blob len) head
          (ap (λ (t : List ℕ). Whole (replies.TooLarge count) t len) nothing);
      counts = sym (head_length call bytes rest frame len h);
      told = refl;
      lasts = stays;
    }

-- ---- a head

pub head_told : (asked : Call) (text whole : List ℕ) (read : ReadHead) (frame : Frame) (len : ℕ)
    (lasts : Bool) → text ≡ whole → read ≡ heads.Whole frame len lasts → HeadReadsAs asked text read
    → (rest : List ℕ) × HeadTells asked whole rest frame len × LeavesOpen whole lasts
head_told asked text whole read frame len lasts same is h =
    subst (λ (r : ReadHead). HeadReadsAs asked whole r) is
    (subst (λ (t : List ℕ). HeadReadsAs asked t read) same h)

pub head_bad : (asked : Call) (text whole : List ℕ) (read : ReadHead) → text ≡ whole
    → read ≡ heads.Bad → HeadReadsAs asked text read → IsUnreadable whole
head_bad asked text whole read same is h =
    subst (λ (r : ReadHead). HeadReadsAs asked whole r) is
    (subst (λ (t : List ℕ). HeadReadsAs asked t read) same h)

pub head_more_to_come : (asked : Call) (text whole : List ℕ) (read : ReadHead) → text ≡ whole
    → read ≡ heads.More → HeadReadsAs asked text read → IsUnfinished whole
head_more_to_come asked text whole read same is h =
    subst (λ (r : ReadHead). HeadReadsAs asked whole r) is
    (subst (λ (t : List ℕ). HeadReadsAs asked t read) same h)

-- the first n bytes of a piece behind what is kept
module _ (kept piece part : List ℕ) (n : ℕ) (is : part ≡ take n piece) where
  text : (kept ++ part) ++ drop n piece ≡ kept ++ piece
  text = append_assoc kept part (drop n piece)
      ∙ ap (λ (t : List ℕ). kept ++ t) (ap (λ (t : List ℕ). t ++ drop n piece) is ∙ take-append-drop n piece)

  pub within_piece : (asked : Call) (rest : List ℕ) (frame : Frame) (len : ℕ) → HasNoResponse kept
      → HeadTells asked (kept ++ part) rest frame len
      → (length kept < len) × (len ≤ length kept + length piece)
  within_piece asked rest frame len none h =
      let in_part = ends_within asked kept part rest frame len none h in
      (in_part.0, omega (arith, in_part.1, ap (λ (t : List ℕ). length t) is, length-take n piece))

  pub whole_in : (call asked : Call) (rest : List ℕ) (frame : Frame) (len : ℕ) → HasNoResponse kept
      → asked ≡ bare call → HeadTells asked (kept ++ part) rest frame len
      → HeadTells call (kept ++ piece) (drop (len - length kept) piece) frame len
  whole_in call asked rest frame len none asks h =
      let here = head_bare call (kept ++ part) rest frame len
      (subst (λ (c : Call). HeadTells c (kept ++ part) rest frame len) asks h) in
      let in_part = ends_within call kept part rest frame len none here in
      let behind : rest ++ drop n piece ≡ drop (len - length kept) piece =
      ap (λ (t : List ℕ). t ++ drop n piece) (rest_is call kept part rest frame len none here)
      ∙ sym (drop-append-le (len - length kept) part (drop n piece) (omega (arith, in_part.1)))
      ∙ ap (λ (t : List ℕ). drop (len - length kept) t)
      (ap (λ (t : List ℕ). t ++ drop n piece) is ∙ take-append-drop n piece) in
      subst (λ (t : List ℕ). HeadTells call (kept ++ piece) t frame len) behind
      (subst (λ (t : List ℕ). HeadTells call t (rest ++ drop n piece) frame len) text
      (head_more call (kept ++ part) rest (drop n piece) frame len here))

  pub lasts_in : (lasts : Bool) → LeavesOpen (kept ++ part) lasts → LeavesOpen (kept ++ piece) lasts
  lasts_in lasts h = subst (λ (t : List ℕ). LeavesOpen t lasts) text
      (lasts_more (kept ++ part) (drop n piece) lasts h)

  -- as long as less than a head came, all of the piece is taken
  pub whole_piece : n ≡ 16384 - length kept → length (kept ++ part) < 16384
      → kept ++ piece ≡ kept ++ part
  whole_piece e short = ap (λ (t : List ℕ). kept ++ t) (sym (is ∙ take_all n piece
      (omega (
        arith,
        e,
        short,
        length-append kept part,
        ap (λ (t : List ℕ). length t) is,
        length-take n piece,
      ))))

  pub bad_in : (call : Call) → IsUnreadable (kept ++ part) → ResponseReadsAs call (kept ++ piece) Bad
  bad_in call h = subst (λ (t : List ℕ). ResponseReadsAs call t Bad) text
      (unreadable_bad call (kept ++ part) (drop n piece) h)

-- a head that isn't whole
pub head_goes_on : (call asked : Call) (bytes kept : List ℕ) (lasts : Bool) → asked ≡ bare call
    → bytes ≡ kept → IsUnfinished kept
    → ResponseReadsAs call bytes More
    × HasBeenTold call (record { call = asked; lasts = lasts; state = states.Head kept }) bytes
head_goes_on call asked bytes kept lasts asks is h =
    let here = subst (λ (t : List ℕ). IsUnfinished t) (sym is) h in
    (inr here, record { asks = asks; stands = (is, here) })

-- ---- a reader that goes on

module _ (call : Call) (r : ReplyReader) (told : List ℕ) (after : HasBeenTold call r told) where
  -- in this state
  pub stands_in : (state : State) → r.state ≡ state → StateAfter call state r.lasts told
  stands_in state is = subst (λ (s : State). StateAfter call s r.lasts told) is after.stands

-- what came so far is too little
more_in : (call : Call) (state : State) (lasts : Bool) (told : List ℕ)
    → StateAfter call state lasts told → ResponseReadsAs call told More
more_in call (states.Head kept) lasts told h = inr h.1
more_in call (states.Body now outcome left kept) lasts told h =
    lacks call told now outcome left h.0 h.1 h.3
more_in call (states.Lines now left lines) lasts told h =
    lacks call told now (Listing lines.dir) left h.0 h.1 h.3
more_in call (states.Told reply blob) lasts told h = absurd h
more_in call states.Over lasts told h = absurd h

pub too_little : (call : Call) (r : ReplyReader) (told : List ℕ) → HasBeenTold call r told
    → ResponseReadsAs call told More
too_little call r told h = more_in call r.state r.lasts told h.stands

-- and so many bytes are missing of a body
missing_in : (call : Call) (state : State) (lasts : Bool) (told : List ℕ)
    → StateAfter call state lasts told → 0 < missing_of state
    → IsResponseMissing call told (missing_of state)
missing_in call (states.Head kept) lasts told h some = absurd (omega (arith, some))
missing_in call (states.Body now outcome left kept) lasts told h some =
    lacking call told now outcome left h.0 h.1
missing_in call (states.Lines now left lines) lasts told h some =
    lacking call told now (Listing lines.dir) left h.0 h.1
missing_in call (states.Told reply blob) lasts told h some = absurd h
missing_in call states.Over lasts told h some = absurd h

pub is_missing : (call : Call) (r : ReplyReader) (told : List ℕ) → HasBeenTold call r told
    → 0 < missing_of r.state → IsResponseMissing call told (missing_of r.state)
is_missing call r told h some = missing_in call r.state r.lasts told h.stands some
