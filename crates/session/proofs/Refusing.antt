-- A part that may be refused, whatever it is refused for.
use Rattle.std.specs.Prelude.{◌≡◌, List, Bool, Option}
use Rattle.conflicts.specs.declared.error.StepErr.{StepErr}
use Rattle.conflicts.specs.declared.error.StepErr.TheVariants.{Refused}
use Rattle.conflicts.specs.declared.refusal.Refusal.{Refusal}
use Rattle.jop_target.specs.declared.call.Call.{Call}
use Rattle.law_licences.specs.Deeds.{Deed}
use Rattle.law_licences.specs.Views.{Shown}
use Rattle.session.proofs.Behind.{went_given_up}
use Rattle.session.proofs.Ending.{does_as, gives_up_behind}
use Rattle.session.proofs.Joins.{does_then}
use Rattle.session.proofs.Recast.{does_placed, gives_up_placed}
use Rattle.session.proofs.Wider.{IsWithin, does_within, gives_up_within}
use Rattle.session.specs.Doing.{Does, GivesNothing, RefusesOr, Went}
use Rattle.session.specs.Parts.{Part, Then}
use Rattle.session.specs.Work.{WorkNow, WorkPlace, placed, view_of}

-- it wasn't refused
pub not_refused : (Refuses : Refusal → Part) (sort : Call → Bool) (a b : WorkNow) (e : StepErr)
    → GivesNothing sort a e b → RefusesOr Refuses sort a e b
not_refused Refuses sort a b (Refused why) h = absurd h
not_refused Refuses sort a b e h = h

-- the session has gone on
pub went_refused : (Refuses : Refusal → Part) (sort : Call → Bool) (a b : WorkNow) (e : StepErr)
    → RefusesOr Refuses sort a e b → Went sort a b
went_refused Refuses sort a b (Refused why) h = h.went
went_refused Refuses sort a b e h = went_given_up sort a b e h

pub refuses_within : (Refuses : Refusal → Part) (sort wide : Call → Bool) (a b : WorkNow)
    (e : StepErr) → IsWithin sort wide → RefusesOr Refuses sort a e b → RefusesOr Refuses wide a e b
refuses_within Refuses sort wide a b (Refused why) within h = does_within sort wide a b within h
refuses_within Refuses sort wide a b e within h = gives_up_within sort wide a b e within h

-- what was done then may be told in other words
pub refuses_as : (Says Tells : Refusal → Part) (sort : Call → Bool) (a b : WorkNow) (e : StepErr)
    → ((why : Refusal) (shown : Option Shown) (ds : List Deed)
    → Says why (view_of shown a.site) ds → Tells why (view_of shown a.site) ds)
    → RefusesOr Says sort a e b → RefusesOr Tells sort a e b
refuses_as Says Tells sort a b (Refused why) also h =
    does_as (Says why) (Tells why) sort a b (also why) h
refuses_as Says Tells sort a b e also h = h

-- behind a part that was done
pub refuses_behind : (P : Part) (Refuses : Refusal → Part) (sort : Call → Bool) (a b c : WorkNow)
    (e : StepErr) → Does P sort a b → RefusesOr Refuses sort b e c
    → RefusesOr (λ why. Then P (Refuses why)) sort a e c
refuses_behind P Refuses sort a b c (Refused why) h k = does_then P (Refuses why) sort a b c h k
refuses_behind P Refuses sort a b c e h k = gives_up_behind P sort a b c e h k

-- by other references
pub refuses_placed : (Refuses : Refusal → Part) (sort : Call → Bool) (p q : WorkPlace)
    (a b : WorkNow) (e : StepErr) → q ≡ p → RefusesOr Refuses sort a e b
    → RefusesOr Refuses sort (placed p a) e (placed q b)
refuses_placed Refuses sort p q a b (Refused why) stays h =
    does_placed (Refuses why) sort p q a b stays h
refuses_placed Refuses sort p q a b e stays h = gives_up_placed sort p q a b e stays h
