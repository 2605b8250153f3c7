-- A session from its begin to its end, over any lawful middle.
use Rattle.std.proofs.Common.{◌≡◌, ◌∙◌, refl, sym, ap, subst, inl, inr, arith, ℕ, zero, suc, List, [], ◌∷◌, ◌++◌, Bool, true, false, append_assoc, append-nil}
use Rattle.std.specs.Prelude.{All}
use Rattle.std.proofs.lemmas.Bool.{and_from}
use Rattle.jop_target.specs.declared.event.Event.{Event}
use Rattle.jop_target.specs.declared.event.Event.TheVariants.{Began, Ended}
use Rattle.jop_target.specs.Replies.{TargetNow}
use Rattle.jop_target.specs.Runs.{Continues, LeadsTo, TellsRun, has_failed}
use Rattle.jop_target.specs.Store.{Store}
use Rattle.jop_target.specs.Trail.{LineNow}
use Rattle.jop_target.proofs.Runs.{continues_same}
use Rattle.std.proofs.Common.{Option, Some, None}
use Rattle.lease.specs.WholeSession.{IsInner, AddsWhole, AddsBegun}
use Rattle.lease.specs.Calls.{GoesOn}
use Rattle.lease.specs.Discipline.{Session, session_of, phase_of, session_from, session_after, begun, outside, ends_released, lawful_from, released_from, ObeysLocks}
use Rattle.lease.specs.Phase.{Free}
use Rattle.lease.specs.Standing.{StandsIn}
use Rattle.lease.proofs.Sessions.{session_from-append, session_from-last}

-- ---- the monitor

pub begun_stands : (client : List ℕ) (old new : List Event) → new ≡ old ++ Began ∷ [] →
    StandsIn client new Free
begun_stands client old new is =
    let whole : session_of client new ≡ begun = ap (session_of client) is ∙
    session_from-last client outside old Began in
    record { running = rw whole refl; lawful = rw whole refl; phase = rw whole refl }

-- what stands before a session doesn't matter to it
session_of-begun : (client : List ℕ) (old middle : List Event) →
    session_of client (old ++ Began ∷ middle) ≡ session_from client begun middle
unfolding session_from
session_of-begun client old middle = session_from-append client outside old (Began ∷ middle)

lawful_from-inner : (client : List ℕ) (middle tail : List Event) (s : Session) →
    All IsInner middle →
    lawful_from client s (middle ++ tail) ≡ lawful_from client (session_from client s middle) tail
unfolding session_from lawful_from
lawful_from-inner client [] tail s each = refl
lawful_from-inner client (Began ∷ es) tail s each = absurd (each 0 Began (omega arith))
lawful_from-inner client (e ∷ es) tail s each =
    lawful_from-inner client es tail (session_after client s e)
    (λ i d lt. each (suc i) d (omega arith))

released_from-inner : (client : List ℕ) (middle tail : List Event) (s : Session) →
    All IsInner middle →
    released_from client s (middle ++ tail) ≡ released_from client (session_from client s middle)
    tail
unfolding session_from released_from
released_from-inner client [] tail s each = refl
released_from-inner client (Ended ∷ es) tail s each = absurd (each 0 Ended (omega arith))
released_from-inner client (e ∷ es) tail s each =
    released_from-inner client es tail (session_after client s e)
    (λ i d lt. each (suc i) d (omega arith))

-- a session that has kept its locks, and has ended without them
pub obeys_whole : (client : List ℕ) (old middle : List Event) → All IsInner middle →
    (session_of client (old ++ Began ∷ middle)).running ≡ true →
    (session_of client (old ++ Began ∷ middle)).lawful ≡ true →
    ends_released (phase_of client (old ++ Began ∷ middle)) ≡ true →
    ObeysLocks client (Began ∷ (middle ++ Ended ∷ []))
unfolding lawful_from released_from
obeys_whole client old middle each running lawful released =
    let same = session_of-begun client old middle in
    let s = session_from client begun middle in
    record {
      keeps = lawful_from-inner client middle (Ended ∷ []) begun each
          ∙ and_from s.lawful s.running (ap (λ (t : Session). t.lawful) (sym same) ∙ lawful)
          (ap (λ (t : Session). t.running) (sym same) ∙ running);
      releases = released_from-inner client middle (Ended ∷ []) begun each
          ∙ and_from (ends_released s.phase) true (ap (λ (t : Session). ends_released t.phase)
          (sym same)
          ∙ released) refl;
    }

-- one that hasn't ended
pub obeys_begun : (client : List ℕ) (old middle : List Event) → All IsInner middle →
    (session_of client (old ++ Began ∷ middle)).lawful ≡ true → ObeysLocks client (Began ∷ middle)
unfolding lawful_from released_from
obeys_begun client old middle each lawful =
    let same = session_of-begun client old middle in
    record {
      keeps = ap (lawful_from client begun) (sym (append-nil middle))
          ∙ (lawful_from-inner client middle [] begun each ∙
          (ap (λ (t : Session). t.lawful) (sym same) ∙ lawful));
      releases =
          ap (released_from client begun) (sym (append-nil middle)) ∙
          released_from-inner client middle [] begun each;
    }

pub obeys_none : (client : List ℕ) → ObeysLocks client []
unfolding lawful_from released_from
obeys_none client = record { keeps = refl; releases = refl }

-- ---- the trail

pub at_seam : (old more : List Event) (begun' mid : List Event) → begun' ≡ old ++ Began ∷ [] →
    mid ≡ begun' ++ more →
    mid ≡ old ++ Began ∷ more
at_seam old more begun' mid is on =
    on ∙ (ap (λ (t : List Event). t ++ more) is ∙ append_assoc old (Began ∷ []) more)

pub adds_whole : (P : Event → Type 0) (client : List ℕ) (old new : List Event)
    (start mid : LineNow) →
    ((e : Event) → P e → IsInner e) → start.trail ≡ old ++ Began ∷ [] → GoesOn P client start mid →
    ends_released (phase_of client mid.trail) ≡ true → new ≡ mid.trail ++ Ended ∷ [] →
    AddsWhole P client old new
adds_whole P client old new start mid inner b goes released n =
    let is = at_seam old goes.line.more start.trail mid.trail b goes.line.trail in
    record {
      middle = goes.line.more;
      trail =
          n ∙ (ap (λ (t : List Event). t ++ Ended ∷ []) is ∙
          append_assoc old (Began ∷ goes.line.more) (Ended ∷ []));
      each = goes.line.each;
      obeys = obeys_whole client old goes.line.more (λ i d lt. inner _ (goes.line.each i d lt))
          (ap (λ (t : List Event). (session_of client t).running) (sym is) ∙ goes.running)
          (ap (λ (t : List Event). (session_of client t).lawful) (sym is) ∙ goes.lawful)
          (ap (λ (t : List Event). ends_released (phase_of client t)) (sym is) ∙ released);
    }

pub adds_none : (P : Event → Type 0) (client : List ℕ) (old new : List Event) → new ≡ old →
    AddsBegun P client old new
adds_none P client old new is =
    record {
      more = [];
      trail = is ∙ sym (append-nil old);
      begun = inl refl;
      obeys = obeys_none client;
    }

pub adds_begun : (P : Event → Type 0) (client : List ℕ) (old new : List Event)
    (start mid : LineNow) →
    ((e : Event) → P e → IsInner e) → start.trail ≡ old ++ Began ∷ [] → GoesOn P client start mid →
    new ≡ mid.trail →
    AddsBegun P client old new
adds_begun P client old new start mid inner b goes n =
    let is = at_seam old goes.line.more start.trail mid.trail b goes.line.trail in
    record {
      more = Began ∷ goes.line.more;
      trail = n ∙ is;
      begun = inr (goes.line.more, refl, goes.line.each);
      obeys = obeys_begun client old goes.line.more (λ i d lt. inner _ (goes.line.each i d lt))
          (ap (λ (t : List Event). (session_of client t).lawful) (sym is) ∙ goes.lawful);
    }

-- ---- the line

-- `Began` and `Ended`
abbrev pub is_mark : Event → Bool
is_mark Began = true
is_mark Ended = true
is_mark event = false

marked_run : (o : Option Store) (e : Event) → is_mark e ≡ true → TellsRun o (e ∷ []) o
unfolding LeadsTo
marked_run None e mark = refl
marked_run (Some s) Began mark = (s, refl, refl)
marked_run (Some s) Ended mark = (s, refl, refl)
marked_run (Some s) e mark = cc

unfailed : (e : Event) → is_mark e ≡ true → has_failed (e ∷ []) ≡ false
unfolding has_failed
unfailed Began mark = refl
unfailed Ended mark = refl
unfailed e mark = cc

one : (P : Event → Type 0) (e : Event) → P e → All P (e ∷ [])
one P e h zero d lt = h
one P e h (suc i) d lt = absurd (omega arith)

abbrev pub line_of : List Event → TargetNow → LineNow
line_of trail target = record { trail = trail; target = target }

pub continues_marked : (P : Event → Type 0) (old new : List Event) (target : TargetNow)
    (e : Event) → is_mark e ≡ true →
    P e → new ≡ old ++ e ∷ [] → Continues P (line_of old target) (line_of new target)
continues_marked P old new target e mark each is = record {
  more = e ∷ [];
  trail = is;
  each = one P e each;
  later = omega arith;
  fault = λ failed. absurd (cc (unfailed e mark));
  stays = λ none. refl;
  store = marked_run target.store e mark;
}

pub continues_unmarked : (P : Event → Type 0) (old new : List Event) (target : TargetNow) →
    new ≡ old →
    Continues P (line_of old target) (line_of new target)
continues_unmarked P old new target is =
    subst (λ (t : List Event). Continues P (line_of old target) (line_of t target)) (sym is)
    (continues_same P (line_of old target))
