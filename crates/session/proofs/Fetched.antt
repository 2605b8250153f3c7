-- What it comes to that the bytes of an item are got, if it is a resource.
use Rattle.std.specs.Prelude.{ℕ, ◌≡◌, List, Bool, true, false, Result}
use Rattle.std.proofs.Common.{ap, subst, sym}
use Rattle.conflicts.specs.declared.error.StepErr.{StepErr}
use Rattle.client.specs.Sites.{SiteNow}
use Rattle.jop_target.specs.declared.call.Call.{Call}
use Rattle.law_licences.specs.Checks.{last_on}
use Rattle.law_licences.specs.Deeds.{Deed}
use Rattle.law_licences.specs.Trails.{session_calls}
use Rattle.law_licences.specs.Views.{view_from}
use Rattle.session.proofs.Behind.{behind, last_fetched, tables_fetched}
use Rattle.session.proofs.Ending.{does_nothing}
use Rattle.session.proofs.Recast.{ShowsNone, fetches_none}
use Rattle.session.specs.Doing.{Does, Ends}
use Rattle.session.specs.Parts.{Nothing}
use Rattle.session.specs.Sessions.{Fetches, GetsBytes}
use Rattle.session.specs.Work.{IsAtWork, WorkNow}

-- ---- told

pub gets_bytes : {R : Type 0} (id : List ℕ) (is : Bool) (sort : Call → Bool) (a b : WorkNow)
    (result : Result R StepErr) → is ≡ true → Ends (Fetches id) sort a result b
    → Ends (GetsBytes id is) sort a result b
gets_bytes id is sort a b result same h =
    subst (λ (x : Bool). Ends (GetsBytes id x) sort a result b) (sym same) h

pub gets_none : (id : List ℕ) (is : Bool) (sort : Call → Bool) (a : WorkNow) → is ≡ false
    → IsAtWork a → Does (GetsBytes id is) sort a a
gets_none id is sort a same ready =
    subst (λ (x : Bool). Does (GetsBytes id x) sort a a) (sym same) (does_nothing sort a ready)

-- ---- what stands behind it

-- tables are as they were, and so is the last call on an item's file
pub record Keeps (id : List ℕ) (a b : SiteNow) : Type 0 where
  pub tables : b.tables ≡ a.tables
  pub last : last_on id (session_calls b.line.trail) ≡ last_on id (session_calls a.line.trail)

pub got_keeps : (id : List ℕ) (is : Bool) (sort : Call → Bool) (a b : WorkNow)
    → Does (GetsBytes id is) sort a b → Keeps id a.site b.site
unfolding view_from
got_keeps id true sort a b h = record {
  tables = tables_fetched id sort a b h;
  last = last_fetched id id sort a b h;
}
got_keeps id false sort a b h = record {
  tables = behind (λ t cs u us. u ≡ t) Nothing sort a b
      (λ v ds it. ap (λ (x : List Deed). (view_from v x).tables) it) h;
  last = behind (λ t cs u us. last_on id us ≡ last_on id cs) Nothing sort a b
      (λ v ds it. ap (λ (x : List Deed). last_on id (view_from v x).calls) it) h;
}

-- it lists nothing
pub gets_shows_none : (id : List ℕ) (is : Bool) → ShowsNone (GetsBytes id is)
unfolding view_from
gets_shows_none id true v ds h = fetches_none id v ds h
gets_shows_none id false v ds h = ap (λ (x : List Deed). (view_from v x).shown) h
