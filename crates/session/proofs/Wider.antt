-- Work of one sort is work of a wider one.
use Rattle.std.specs.Prelude.{ℕ, ◌≡◌, List, [], ◌∷◌, Bool, true, false, ◌&&◌, ◌||◌, not, Result, Ok, Err, refl}
use Rattle.std.proofs.Common.{inl, inr}
use Rattle.conflicts.specs.declared.error.StepErr.{StepErr}
use Rattle.conflicts.specs.declared.error.StepErr.TheVariants.{Lost, TargetFault, KeeperFault, Refused, NoMemory}
use Rattle.jop_target.proofs.Runs.{continues_weaker}
use Rattle.jop_target.specs.declared.call.Call.{Call}
use Rattle.jop_target.specs.declared.event.Event.{Event}
use Rattle.jop_target.specs.declared.event.Event.TheVariants.{Began, Sent, Called, Made, Ended}
use Rattle.jop_target.specs.Trail.{LineNow}
use Rattle.lease.specs.Calls.{GoesOn}
use Rattle.lease.specs.Discipline.{Session, session_after}
use Rattle.lease.specs.Idle.{is_work}
use Rattle.lease.specs.Phase.{role_of}
use Rattle.law_licences.specs.Views.{Stage}
use Rattle.session.specs.Doing.{DoesTo, Ends, GivesNothing, CameToEnd, Went}
use Rattle.session.specs.Parts.{Part}
use Rattle.session.specs.Saving.{Told}
use Rattle.session.specs.Steps.{IsStep, is_sorted, works_by}
use Rattle.session.specs.Work.{WorkNow}

-- each call of the first sort is one of the second
abbrev pub IsWithin : (Call → Bool) → (Call → Bool) → Type 0
IsWithin sort wide = (call : Call) → sort call ≡ true → wide call ≡ true

-- ---- events

step_within : (sort wide : Call → Bool) (client : List ℕ) → IsWithin sort wide
    → (e : Event) → IsStep sort client e → IsStep wide client e
step_within sort wide client within (Sent call) (inl is) = inl (within call is)
step_within sort wide client within (Sent call) (inr own) = inr own
step_within sort wide client within (Called call reply) (inl is) = inl (within call is)
step_within sort wide client within (Called call reply) (inr own) = inr own
step_within sort wide client within (Made number) is = tt
step_within sort wide client within Began is = absurd is
step_within sort wide client within Ended is = absurd is

pub goes_within : (sort wide : Call → Bool) (client : List ℕ) (old new : LineNow)
    → IsWithin sort wide → GoesOn (IsStep sort client) client old new
    → GoesOn (IsStep wide client) client old new
goes_within sort wide client old new within h = record {
  running = h.running;
  lawful = h.lawful;
  line = continues_weaker (IsStep sort client) (IsStep wide client) old new
      (step_within sort wide client within) h.line;
}

either : (a b c : Bool) → (b ≡ true → c ≡ true) → (a || b) ≡ true → (a || c) ≡ true
either true b c also is = refl
either false b c also is = also is

sorted_within : (sort wide : Call → Bool) (client : List ℕ) (s : Session) (e : Event)
    → IsWithin sort wide → is_sorted sort client s e ≡ true → is_sorted wide client s e ≡ true
sorted_within sort wide client s (Sent call) within is =
    either (not (is_work s.phase (role_of client call))) (sort call) (wide call) (within call) is
sorted_within sort wide client s (Called call reply) within is =
    either (not (is_work s.phase (role_of client call))) (sort call) (wide call) (within call) is
sorted_within sort wide client s (Made number) within is = refl
sorted_within sort wide client s Began within is = is
sorted_within sort wide client s Ended within is = is

both : (a b c d : Bool) → (a ≡ true → c ≡ true) → (b ≡ true → d ≡ true) → (a && b) ≡ true
    → (c && d) ≡ true
both true b c d first second is = rw (first refl) (second is)
both false b c d first second is = absurd cc

pub works_within : (sort wide : Call → Bool) (client : List ℕ) (s : Session) (es : List Event)
    → IsWithin sort wide → works_by sort client s es ≡ true → works_by wide client s es ≡ true
unfolding works_by
works_within sort wide client s [] within is = refl
works_within sort wide client s (e ∷ es) within is =
    both (is_sorted sort client s e) (works_by sort client (session_after client s e) es)
    (is_sorted wide client s e) (works_by wide client (session_after client s e) es)
    (sorted_within sort wide client s e within)
    (works_within sort wide client (session_after client s e) es within) is

-- ---- parts

unfoldable pub went_within : (sort wide : Call → Bool) (a b : WorkNow) → IsWithin sort wide
    → Went sort a b → Went wide a b
went_within sort wide a b within h = record {
  deeds = h.deeds;
  saves = h.saves;
  owed = h.owed;
  trail = h.trail;
  made = h.made;
  kept = h.kept;
  got = h.got;
  work = h.work;
  obeys = h.obeys;
  goes = goes_within sort wide a.lease.client a.site.line b.site.line within h.goes;
  sorted = works_within sort wide a.lease.client _ _ within h.sorted;
  later = h.later;
  same = h.same;
  place = h.place;
}

pub does_within : {there : Stage} {left : List Told} {P : Part} (sort wide : Call → Bool)
    (a b : WorkNow) → IsWithin sort wide → DoesTo there left P sort a b
    → DoesTo there left P wide a b
unfolding went_within
does_within sort wide a b within h = record {
  went = went_within sort wide a b within h.went;
  told = h.told;
  part = h.part;
  stands = h.stands;
  sees = h.sees;
  owes = h.owes;
  agrees = h.agrees;
  heard = h.heard;
  well = h.well;
  ready = h.ready;
}

pub stops_within : (sort wide : Call → Bool) (a b : WorkNow) → IsWithin sort wide
    → CameToEnd sort a b → CameToEnd wide a b
unfolding went_within
stops_within sort wide a b within h =
    record { went = went_within sort wide a b within h.went; told = h.told }

pub gives_up_within : (sort wide : Call → Bool) (a b : WorkNow) (e : StepErr)
    → IsWithin sort wide → GivesNothing sort a e b → GivesNothing wide a e b
gives_up_within sort wide a b (Lost seen) within h = (stops_within sort wide a b within h.0, h.1)
gives_up_within sort wide a b TargetFault within h = (stops_within sort wide a b within h.0, h.1)
gives_up_within sort wide a b KeeperFault within h = record {
  stops = stops_within sort wide a b within h.stops;
  ready = h.ready;
  rose = h.rose;
}
gives_up_within sort wide a b (Refused why) within h = absurd h
gives_up_within sort wide a b NoMemory within h =
    record { went = went_within sort wide a b within h.went; heard = h.heard; well = h.well }

pub ends_within : {R : Type 0} (P : Part) (sort wide : Call → Bool) (a b : WorkNow)
    (result : Result R StepErr) → IsWithin sort wide → Ends P sort a result b
    → Ends P wide a result b
ends_within P sort wide a b (Ok value) within h = does_within sort wide a b within h
ends_within P sort wide a b (Err e) within h = gives_up_within sort wide a b e within h
