-- How new files are taken.
use Rattle.std.specs.Prelude.{ℕ, ◌≡◌, List, Bool, true, false, if◌then◌else◌, Option, Some, None, Result, refl}
use Rattle.std.proofs.Common.{sym, ap, subst, ◌∙◌}
use Rattle.conflicts.specs.Rules.{conflict_change}
use Rattle.conflicts.specs.declared.error.StepErr.{StepErr}
use Rattle.client.specs.Sites.{SiteNow}
use Rattle.download.specs.Asked.{PageAsksFor}
use Rattle.download.specs.Taking.{Meets, MeetsUnlessKey, MeetsFound, TakesOne, is_taking, met_by}
use Rattle.law_licences.specs.Checks.{IsOther, is_pending}
use Rattle.law_licences.specs.Conflicts.{MayConflict}
use Rattle.law_licences.specs.Copies.{copies_for}
use Rattle.law_licences.specs.Deeds.{Deed}
use Rattle.law_licences.specs.Sealing.{no_keys}
use Rattle.law_licences.specs.Views.{Shown, Stage, View, Working, stage_after, view_from}
use Rattle.local_store.specs.Sound.{IsAllowed, IsContentOf}
use Rattle.local_store.specs.Tables.{base_of, row_at}
use Rattle.local_store.specs.declared.change.Change.{Change}
use Rattle.local_store.specs.declared.change.Change.TheVariants.{Taken}
use Rattle.local_store.specs.declared.content.Content.{Content}
use Rattle.local_store.specs.declared.row.Row.{Row}
use Rattle.local_store.specs.declared.tables.Tables.{Tables}
use Rattle.session.proofs.Fetched.{Keeps}
use Rattle.session.proofs.WaitingRow.{Waits, waits}
use Rattle.session.proofs.Ending.{does_as, does_nothing, ends_as, ends_then}
use Rattle.session.proofs.Found.{other_found}
use Rattle.session.specs.Doing.{Does, Ends, EndsAt}
use Rattle.session.specs.Findings.{finding_of, waiting}
use Rattle.session.specs.Making.{MayMakeBy}
use Rattle.session.specs.Parts.{Changes, Nothing, Then}
use Rattle.session.specs.Sessions.{FindsFile, IsFound}
use Rattle.session.specs.Work.{IsAtWork, WorkNow, view_of}
use Rattle.session.specs.declared.finding.Finding.{Finding}
use Rattle.session.specs.declared.finding.Finding.TheVariants.{Other}

-- ---- licences

-- what was found is still so behind calls on other files
pub still_found : (id : List ℕ) (finding : Finding) (a b : SiteNow) → Keeps id a b
    → IsFound id finding a → IsFound id finding b
still_found id finding a b keeps h = record {
  reply = h.reply;
  found =
      h.found
      ∙ ap (λ (t : Tables). finding_of id (base_of (row_at t id)) h.reply) (sym keeps.tables);
  last = keeps.last ∙ h.last;
}

-- another file that the page asks for may be taken
pub may_take : (id : List ℕ) (remote : List ℕ × Content) (d : SiteNow) (known : Shown)
    → PageAsksFor known id → IsFound id (Other remote) d → is_pending (row_at d.tables id) ≡ false
    → MayMakeBy (Some known) d (Taken id remote.0 remote.1)
may_take id remote d known asks h unchanged shown fits = record {
  page = asks.page;
  reply = h.reply;
  has = record { shown = known; last = fits; is = asks.is };
  taken = asks.taken;
  unchanged = unchanged;
  check = h.last;
  other = other_found id (base_of (row_at d.tables id)) h.reply remote h.found;
}

unchanged_if : (row : Row) (pending : Bool) → row.pending ≡ pending
    → None ≡ (if pending then Some row else None) → pending ≡ false
unchanged_if row true e is = absurd cc
unchanged_if row false e is = refl

unchanged_by : (stood : Option Row) → None ≡ waiting stood → is_pending stood ≡ false
unchanged_by None is = refl
unchanged_by (Some row) is = unchanged_if row row.pending refl is

pub unchanged : (t : Tables) (id : List ℕ) → None ≡ waiting (row_at t id)
    → is_pending (row_at t id) ≡ false
unchanged t id is = unchanged_by (row_at t id) is

-- a row that waits may give way to it
pub may_conflict : (id : List ℕ) (remote : List ℕ × Content) (d : SiteNow) (known : Option Shown)
    (row : Row) → Waits d.tables id row → IsFound id (Other remote) d
    → MayMakeBy known d (conflict_change row (Some remote))
may_conflict id remote d known row w h shown fits =
    subst (λ (k : List ℕ).
    MayConflict (view_of shown d) k (Some remote) (copies_for row.content (Some remote)))
    (sym w.same) (record {
      row = row;
      reply = h.reply;
      pending = record { at = w.at; pending = w.pending };
      check = h.last;
      other = subst (λ (base : Option (List ℕ)). IsOther no_keys id base h.reply (Some remote))
          (ap base_of w.at)
          (other_found id (base_of (row_at d.tables id)) h.reply remote h.found);
      copied = refl;
    })

-- whichever row waits, the file may be met
pub may_meet : (id : List ℕ) (remote : List ℕ × Content) (d : SiteNow) (known : Shown)
    (row : Option Row) → row ≡ waiting (row_at d.tables id) → PageAsksFor known id
    → IsFound id (Other remote) d → MayMakeBy (Some known) d (met_by id remote row)
may_meet id remote d known None is asks h =
    may_take id remote d known asks h (unchanged d.tables id is)
may_meet id remote d known (Some row) is asks h =
    may_conflict id remote d (Some known) row (waits d.tables id row is) h

pub met_allowed : (id : List ℕ) (remote : List ℕ × Content) (t : Tables) (row : Option Row)
    → row ≡ waiting (row_at t id) → IsContentOf id remote.1 → IsAllowed (met_by id remote row)
met_allowed id remote t None is sound = sound
met_allowed id remote t (Some row) is sound =
    subst (λ k. IsContentOf k remote.1) (sym (waits t id row is).same) sound

met_more : (id : List ℕ) (remote : List ℕ × Content) (row : Option Row)
    → stage_after Working (met_by id remote row) ≡ Working
met_more id remote None = refl
met_more id remote (Some row) = refl

-- ---- told

-- the file is met by the change of the row that waits
pub meets_as : {R : Type 0} (id : List ℕ) (remote : List ℕ × Content) (row own : Option Row)
    (change : Change) (a b : WorkNow) (result : Result R StepErr) → row ≡ own
    → change ≡ met_by id remote row
    → EndsAt (stage_after Working change) (Changes change) is_taking a result b
    → Ends (Changes (met_by id remote own)) is_taking a result b
meets_as id remote row own change a b result same is h =
    let it : change ≡ met_by id remote own = is ∙ ap (met_by id remote) same in
    subst (λ (there : Stage). EndsAt there (Changes (met_by id remote own)) is_taking a result b)
    (met_more id remote own)
    (subst (λ (x : Change). EndsAt (stage_after Working x) (Changes x) is_taking a result b) it h)

-- what is done, told by what the file is
pub reads_as : {R : Type 0} (id : List ℕ) (finding f : Finding) (a b : WorkNow)
    (result : Result R StepErr) → finding ≡ f → Ends (MeetsFound id f) is_taking a result b
    → Ends (MeetsFound id finding) is_taking a result b
reads_as id finding f a b result is h =
    subst (λ (x : Finding). Ends (MeetsFound id x) is_taking a result b) (sym is) h

pub reads_nothing : (id : List ℕ) (finding f : Finding) (a : WorkNow) → finding ≡ f
    → Does (MeetsFound id f) is_taking a a → Does (MeetsFound id finding) is_taking a a
reads_nothing id finding f a is h =
    subst (λ (x : Finding). Does (MeetsFound id x) is_taking a a) (sym is) h

-- a key is passed over
pub key_passed : (id : List ℕ) (remote : List ℕ × Content) (key : Bool) (a : WorkNow)
    → key ≡ true → IsAtWork a → Does (MeetsUnlessKey id remote key) is_taking a a
key_passed id remote true a e ready =
    does_as Nothing (MeetsUnlessKey id remote true) is_taking a a (λ shown ds h. h)
    (does_nothing is_taking a ready)
key_passed id remote false a e ready = absurd cc

-- and else the item is met
pub item_met : {R : Type 0} (id : List ℕ) (remote : List ℕ × Content) (key : Bool)
    (a b : WorkNow) (result : Result R StepErr) → key ≡ false
    → Ends (Meets id remote (waiting (row_at a.site.tables id))) is_taking a result b
    → Ends (MeetsUnlessKey id remote key) is_taking a result b
item_met id remote true a b result e h = absurd cc
item_met id remote false a b result e h =
    ends_as (Meets id remote (waiting (row_at a.site.tables id))) (MeetsUnlessKey id remote false)
    is_taking a b result (λ shown ds part. part) h

one_told : (id : List ℕ) (finding : Finding) (v : View) (ds : List Deed)
    → Then (FindsFile id finding) (MeetsFound id finding) v ds → TakesOne id v ds
one_told id finding v ds h =
    let f = h.before in (
      f.0,
      (
        f.1,
        record {
          first = h.first;
          second = h.second;
          both = h.both;
          before = f.4;
          behind = subst (λ (x : Finding). MeetsFound id x (view_from v h.first) h.second) f.2 h.behind;
        },
      ),
    )

-- the file is got, and then that is done
pub ends_one : {R : Type 0} (id : List ℕ) (finding : Finding) (a b c : WorkNow)
    (result : Result R StepErr) → Does (FindsFile id finding) is_taking a b
    → Ends (MeetsFound id finding) is_taking b result c → Ends (TakesOne id) is_taking a result c
ends_one id finding a b c result h k =
    ends_as (Then (FindsFile id finding) (MeetsFound id finding)) (TakesOne id) is_taking a c result
    (λ shown ds it. one_told id finding (view_of shown a.site) ds it)
    (ends_then (FindsFile id finding) (MeetsFound id finding) is_taking a b c result h k)
