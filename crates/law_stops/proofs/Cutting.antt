-- What is said of a trail is said of what is left of it, if it is so at its last place.
use Rattle.std.proofs.Common.{◌≡◌, subst, ℕ, List, [], ◌∷◌, ◌++◌, true, length}
use Rattle.std.proofs.lemmas.Bool.{and_from, and_parts}
use Rattle.std.proofs.Math.Seq.{take-nil}
use Rattle.std.specs.Prelude.{take, Some, None}
use Rattle.jop_target.specs.declared.event.Event.{Event}
use Rattle.jop_target.specs.declared.event.Event.TheVariants.{Began, Sent, Called, Made, Ended}
use Rattle.law_licences.specs.Deeds.{Deed, Begins, Asks, Makes, MakesUntold, Ends, deeds_of}
use Rattle.law_licences.specs.Licences.{Each}
use Rattle.law_licences.specs.Views.{View, seen}
use Rattle.lease.specs.Discipline.{Session, begun, lawful_from, session_after}
use Rattle.local_store.specs.Tale.{made_in}
use Rattle.local_store.specs.declared.change.Change.{Change}
use Rattle.target_upgrade.specs.Course.{Course, allowed_from, begun_course, course_after}

-- ---- the lock discipline

-- wherever a session stands, this is lawful if that is
abbrev pub LawfulIf : List ℕ → List Event → List Event → Type 0
LawfulIf client fs gs =
    (s : Session) → lawful_from client s fs ≡ true → lawful_from client s gs ≡ true

pub lawful-behind : (client : List ℕ) (es fs gs : List Event) → LawfulIf client fs gs
    → LawfulIf client (es ++ fs) (es ++ gs)
unfolding lawful_from
lawful-behind client [] fs gs at s h = at s h
lawful-behind client (Began ∷ es) fs gs at s h =
    let parts = and_parts s.lawful (lawful_from client begun (es ++ fs)) h in
    and_from s.lawful (lawful_from client begun (es ++ gs)) parts.0
    (lawful-behind client es fs gs at begun parts.1)
lawful-behind client (e ∷ es) fs gs at s h =
    lawful-behind client es fs gs at (session_after client s e) h

-- ---- what is done under a lease

-- wherever a session stands, this is allowed if that is
abbrev pub AllowedIf : List ℕ → List Event → List Event → Type 0
AllowedIf client fs gs =
    (c : Course) → allowed_from client c fs ≡ true → allowed_from client c gs ≡ true

pub allowed-behind : (client : List ℕ) (es fs gs : List Event) → AllowedIf client fs gs
    → AllowedIf client (es ++ fs) (es ++ gs)
unfolding allowed_from
allowed-behind client [] fs gs at c h = at c h
allowed-behind client (Began ∷ es) fs gs at c h =
    let parts = and_parts c.lawful (allowed_from client begun_course (es ++ fs)) h in
    and_from c.lawful (allowed_from client begun_course (es ++ gs)) parts.0
    (allowed-behind client es fs gs at begun_course parts.1)
allowed-behind client (e ∷ es) fs gs at c h =
    allowed-behind client es fs gs at (course_after client c e) h

-- ---- licences

-- of these changes those that the trail has numbers for
abbrev pub made_by : List Event → List Change → List Change
made_by es cs = take (length (made_in es)) cs

-- whatever was seen, this has its licences if that has them
abbrev pub LicensedIf : (View → Deed → Type 0) → List Event → List Event → Type 0
LicensedIf P fs gs =
    (v : View) (cs : List Change) → Each P v (deeds_of fs cs) →
    Each P v (deeds_of gs (made_by gs cs))

pub licensed-behind : (P : View → Deed → Type 0) (es fs gs : List Event) → LicensedIf P fs gs
    → LicensedIf P (es ++ fs) (es ++ gs)
unfolding deeds_of made_in Each
licensed-behind P [] fs gs at v cs h = at v cs h
licensed-behind P (Began ∷ es) fs gs at v cs h =
    (h.0, licensed-behind P es fs gs at (seen v Begins) cs h.1)
licensed-behind P (Sent call ∷ es) fs gs at v cs h =
    (h.0, licensed-behind P es fs gs at (seen v (Asks call None)) cs h.1)
licensed-behind P (Called call reply ∷ es) fs gs at v cs h =
    (h.0, licensed-behind P es fs gs at (seen v (Asks call (Some reply))) cs h.1)
licensed-behind P (Made number ∷ es) fs gs at v [] h = (
  h.0,
  subst (λ (cs : List Change). Each P (seen v MakesUntold) (deeds_of (es ++ gs) cs))
      (take-nil (length (made_in (es ++ gs))))
      (licensed-behind P es fs gs at (seen v MakesUntold) [] h.1),
)
licensed-behind P (Made number ∷ es) fs gs at v (c ∷ cs) h =
    (h.0, licensed-behind P es fs gs at (seen v (Makes c)) cs h.1)
licensed-behind P (Ended ∷ es) fs gs at v cs h =
    (h.0, licensed-behind P es fs gs at (seen v Ends) cs h.1)
