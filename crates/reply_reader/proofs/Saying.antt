-- What a reader says, and how little it holds.
use Rattle.std.proofs.Common.{ℕ, ◌<◌, Bool, List, [], ◌∷◌, ◌++◌, length, ap, subst, arith, append_assoc}
use Rattle.jop_base.specs.declared.dir.Dir.{Dir}
use Rattle.jop_target.specs.declared.call.Call.{Call}
use Rattle.dav_wire.specs.ResponseReading.{ResponseReadsAs}
use Rattle.dav_wire.specs.declared.response_reader.ReadResponse.{ReadResponse}
use Rattle.dav_wire.specs.declared.response_reader.ReadResponse.TheVariants as reads
use Rattle.dav_wire.proofs.ResponseStream.{one_read}
use Rattle.reply_reader.specs.Layouts.{IsHalfLine}
use Rattle.reply_reader.specs.Pieces.{Feeds, HasBeenTold, HoldsLittle, RunsTo, SaysAs, StateAfter, text_of_pieces}
use Rattle.reply_reader.specs.declared.layout_reader.Place.{Place}
use Rattle.reply_reader.specs.declared.layout_reader.Place.TheVariants.{Front, Files, Ended, Lost}
use Rattle.reply_reader.specs.declared.fed.Fed.{Fed}
use Rattle.reply_reader.specs.declared.fed.Fed.TheVariants.{More, Whole, Bad}
use Rattle.reply_reader.specs.declared.reply_reader.ReplyReader.{ReplyReader}
use Rattle.reply_reader.specs.declared.state.State.{State}
use Rattle.reply_reader.specs.declared.state.State.TheVariants.{Head, Body, Lines, Told, Over}

pub says : (call : Call) (bytes : List ℕ) (fed : Fed) (new : ReplyReader) (read : ReadResponse)
    → Feeds call bytes fed new → ResponseReadsAs call bytes read → SaysAs bytes fed new read
says call bytes More new read h k = one_read call bytes read reads.More k h.0
says call bytes (Whole rest) new read h k = (
  h.reply,
  h.blob,
  h.used,
  one_read call bytes read (reads.Whole h.reply h.blob h.used) k h.response,
  h.counts,
  h.told,
)
says call bytes Bad new read h k = one_read call bytes read reads.Bad k h

-- ---- a list of pieces

-- behind bytes that were told before
runs : (call : Call) (old new : ReplyReader) (told : List ℕ) (pieces : List (List ℕ))
    (last : List ℕ) (fed : Fed) → HasBeenTold call old told → RunsTo old pieces last fed new
    → Feeds call (told ++ text_of_pieces pieces last) fed new
unfolding RunsTo text_of_pieces
runs call old new told [] last fed h run = run call told h
runs call old new told (piece ∷ pieces) last fed h run =
    subst (λ (t : List ℕ). Feeds call t fed new)
    (append_assoc told piece (text_of_pieces pieces last))
    (runs call run.0 new (told ++ piece) pieces last fed (run.1 call told h).1 run.2)

pub says_of_all : (call : Call) (old new : ReplyReader) (pieces : List (List ℕ)) (last : List ℕ)
    (fed : Fed) (read : ReadResponse) → HasBeenTold call old [] → RunsTo old pieces last fed new
    → ResponseReadsAs call (text_of_pieces pieces last) read
    → SaysAs (text_of_pieces pieces last) fed new read
says_of_all call old new pieces last fed read h run k =
    says call (text_of_pieces pieces last) fed new read (runs call old new [] pieces last fed h run) k

-- ---- what is held

half_short : (place : Place) (dir : Dir) (line : List ℕ) → IsHalfLine place dir line
    → length line < 512
half_short Front dir line h = h.1
half_short Files dir line h = h.1
half_short Ended dir line h = omega (arith, ap (λ (t : List ℕ). length t) h)
half_short Lost dir line h = omega (arith, ap (λ (t : List ℕ). length t) h)

little : (call : Call) (state : State) (lasts : Bool) (told : List ℕ)
    → StateAfter call state lasts told → HoldsLittle state
little call (Head kept) lasts told h =
    omega (arith, h.1.short, ap (λ (t : List ℕ). length t) h.0)
little call (Body now outcome left kept) lasts told h = omega arith
little call (Lines now left lines) lasts told h = half_short lines.place lines.dir lines.line h.2.half
little call (Told reply blob) lasts told h = omega arith
little call Over lasts told h = omega arith

pub holds_little : (call : Call) (reader : ReplyReader) (told : List ℕ)
    → HasBeenTold call reader told → HoldsLittle reader.state
holds_little call reader told h = little call reader.state reader.lasts told h.stands
