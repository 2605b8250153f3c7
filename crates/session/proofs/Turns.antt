-- Changes that are made one after the other, and which may be.
use Rattle.std.specs.Prelude.{ℕ, ◌+◌, ◌<◌, ◌≡◌, List, [], length, take, drop, Bool, Option, Some, None, refl}
use Rattle.std.proofs.Common.{sym, subst, get_or}
use Rattle.client.specs.Sites.{SiteNow}
use Rattle.conflicts.specs.declared.error.StepErr.{StepErr}
use Rattle.jop_target.specs.declared.call.Call.{Call}
use Rattle.law_licences.specs.Trails.{session_calls}
use Rattle.law_licences.specs.Views.{Shown, View, Working, stage_after}
use Rattle.local_store.specs.Changing.{after}
use Rattle.local_store.specs.declared.change.Change.{Change}
use Rattle.session.proofs.Behind.{calls_changed, tables_changed}
use Rattle.session.proofs.Ending.{does_nothing, does_there, gives_up_behind}
use Rattle.session.proofs.Joins.{seen_between}
use Rattle.session.proofs.Repeating.{does_here, here_and_left}
use Rattle.session.specs.Doing.{Does, DoesTo, GivesNothing}
use Rattle.session.specs.Parts.{Changes, ForEach}
use Rattle.session.specs.Work.{MayBeShown, IsAtWork, WorkNow, knowing, view_of}
use Rattle.session.specs.Making.{MayMakeAll, MayMakeAllBy, MayMakeBy, MayMakeNow}

-- what may be made from a place on: the one there, and then those behind it
pub next_may : (v : View) (cs : List Change) (i : ℕ) (c : Change) → i < length cs
    → c ≡ get_or cs i c → MayMakeAll v (drop i cs)
    → MayMakeNow v c × MayMakeAll (record v { tables = after v.tables c }) (drop (i + 1) cs)
unfolding MayMakeAll
next_may v cs i c within is may =
    subst (λ (rest : List Change). MayMakeAll v rest) (here_and_left cs i c within is) may

-- what is seen once a change was made
pub seen_then : (shown : Option Shown) (old new : SiteNow) (c : Change)
    → new.tables ≡ after old.tables c
    → session_calls new.line.trail ≡ session_calls old.line.trail
    → record (view_of shown old) { tables = after old.tables c } ≡ view_of shown new
seen_then shown old new c tables calls =
    seen_between (record (view_of shown old) { tables = after old.tables c }) (view_of shown new)
    (sym tables) (sym calls) refl refl refl

-- so the others may be made then
pub rest_may : (shown : Option Shown) (old new : SiteNow) (cs : List Change) (i : ℕ) (c : Change)
    → i < length cs → c ≡ get_or cs i c → new.tables ≡ after old.tables c
    → session_calls new.line.trail ≡ session_calls old.line.trail
    → MayMakeAll (view_of shown old) (drop i cs)
    → MayMakeAll (view_of shown new) (drop (i + 1) cs)
rest_may shown old new cs i c within is tables calls may =
    subst (λ (v : View). MayMakeAll v (drop (i + 1) cs)) (seen_then shown old new c tables calls)
    (next_may (view_of shown old) cs i c within is may).1

-- ---- by what is known

pub first_may : (known : Option Shown) (d : SiteNow) (cs : List Change) (i : ℕ) (c : Change)
    → i < length cs → c ≡ get_or cs i c → MayMakeAllBy known d (drop i cs) → MayMakeBy known d c
first_may known d cs i c within is may shown fits =
    (next_may (view_of shown d) cs i c within is (may shown fits)).0.may

pub others_may : (known : Option Shown) (old new : SiteNow) (cs : List Change) (i : ℕ) (c : Change)
    → i < length cs → c ≡ get_or cs i c → new.tables ≡ after old.tables c
    → session_calls new.line.trail ≡ session_calls old.line.trail
    → MayMakeAllBy known old (drop i cs) → MayMakeAllBy known new (drop (i + 1) cs)
others_may known old new cs i c within is tables calls may shown fits =
    rest_may shown old new cs i c within is tables calls (may shown fits)

-- it isn't the session's last one
pub more_left : (v : View) (cs : List Change) (i : ℕ) (c : Change) → i < length cs
    → c ≡ get_or cs i c → MayMakeAll v (drop i cs) → stage_after Working c ≡ Working
more_left v cs i c within is may = (next_may v cs i c within is may).0.more

-- what the session may have been shown
pub fitting : (known : Option Shown) → (shown : Option Shown) × MayBeShown known shown
fitting None = (None, tt)
fitting (Some s) = (Some s, refl)

pub stays_working : (known : Option Shown) (d : SiteNow) (cs : List Change) (i : ℕ) (c : Change)
    → i < length cs → c ≡ get_or cs i c → MayMakeAllBy known d (drop i cs)
    → stage_after Working c ≡ Working
stays_working known d cs i c within is may =
    let f = fitting known in
    more_left (view_of f.0 d) cs i c within is (may f.0 f.1)

-- ---- in a loop

-- those before a place are made, and those from there on may be
pub record IsAtTurn (known : Option Shown) (sort : Call → Bool) (cs : List Change) (i : ℕ)
    (a b : WorkNow) : Type 0 where
  pub does : Does (ForEach Changes (take i cs)) sort (knowing known a) (knowing known b)
  pub may : MayMakeAllBy known b.site (drop i cs)

pub no_turn : (known : Option Shown) (sort : Call → Bool) (cs : List Change) (a : WorkNow)
    → IsAtWork a → MayMakeAllBy known a.site cs → IsAtTurn known sort cs 0 a a
unfolding ForEach
no_turn known sort cs a ready may =
    record { does = does_nothing sort (knowing known a) ready; may = may }

-- the one at that place is made, as it may be
pub next_turn : (known : Option Shown) (sort : Call → Bool) (cs : List Change) (i : ℕ) (c : Change)
    (a b d : WorkNow) → i < length cs → c ≡ get_or cs i c
    → IsAtTurn known sort cs i a b
    → (MayMakeBy known b.site c
    → DoesTo (stage_after Working c) [] (Changes c) sort (knowing known b) (knowing known d))
    → IsAtTurn known sort cs (i + 1) a d
next_turn known sort cs i c a b d within is turn makes =
    let made = does_there (stays_working known b.site cs i c within is turn.may)
    (makes (first_may known b.site cs i c within is turn.may)) in
    record {
      does = does_here Changes sort cs i c _ _ _ within is turn.does made;
      may = others_may known b.site d.site cs i c within is
          (tables_changed c sort (knowing known b) (knowing known d) made)
          (calls_changed c sort (knowing known b) (knowing known d) made) turn.may;
    }

-- it isn't made
pub turn_given_up : (known : Option Shown) (sort : Call → Bool) (cs : List Change)
    (i : ℕ) (c : Change) (a b d : WorkNow) (e : StepErr) → i < length cs → c ≡ get_or cs i c
    → IsAtTurn known sort cs i a b
    → (MayMakeBy known b.site c → GivesNothing sort (knowing known b) e d)
    → GivesNothing sort (knowing known a) e d
turn_given_up known sort cs i c a b d e within is turn fails =
    gives_up_behind (ForEach Changes (take i cs)) sort (knowing known a) (knowing known b) d e
    turn.does (fails (first_may known b.site cs i c within is turn.may))
