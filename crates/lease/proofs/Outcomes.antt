-- The answers of a lease's calls, from those of its single calls.
use Rattle.std.proofs.Common.{◌≡◌, ◌≤◌, ◌∙◌, refl, ap, subst, inl, inr, arith, ℕ, List, [], ◌∷◌, ◌++◌, Bool, true, false, Result, Ok, Err}
use Rattle.jop_base.specs.declared.lock_name.LockKind.{LockKind}
use Rattle.jop_base.specs.declared.path.Path.{Path}
use Rattle.jop_base.specs.declared.path.Path.TheVariants.{Lock as LockFile}
use Rattle.jop_target.specs.declared.call.Call.{Call}
use Rattle.jop_target.specs.declared.call.Call.TheVariants.{Delete}
use Rattle.jop_target.specs.declared.event.Event.{Event}
use Rattle.jop_target.specs.declared.event.Event.TheVariants.{Called}
use Rattle.jop_target.specs.declared.reply.Reply.{Reply}
use Rattle.jop_target.specs.declared.reply.Reply.TheVariants.{Failed}
use Rattle.jop_target.specs.Trail.{LineNow}
use Rattle.lease.specs.declared.error.AskErr.{AskErr}
use Rattle.lease.specs.declared.error.AskErr.TheVariants.{Fault, NoMemory as WantsMemory}
use Rattle.lease.specs.declared.error.LeaseErr.{LeaseErr}
use Rattle.lease.specs.declared.error.LeaseErr.TheVariants.{Busy, Lost, TargetFault, NoMemory}
use Rattle.lease.specs.declared.lease.Lease.{Lease}
use Rattle.lease.specs.Added.{AddsCalls, Makes, leave_calls}
use Rattle.lease.specs.Calls.{IsRefused, IsHeard, GivesUp, is_held}
use Rattle.lease.specs.Discipline.{phase_of}
use Rattle.lease.specs.Locks.{own_name}
use Rattle.lease.specs.Outcomes.{Acquires, Releases, Renews, lease_err}
use Rattle.lease.specs.Phase.{Phase, Held}
use Rattle.lease.specs.Standing.{StandsIn}
use Rattle.lease.proofs.Added.{adds_heard, adds_called, adds_more, adds_on}
use Rattle.lease.proofs.Calls.{gives_up, starved}

-- ---- how far the calls came

pub makes_none : (T : Type 0) (client : List ℕ) (calls others : List Call) (old new : LineNow)
    (e : AskErr) →
    GivesUp calls client old new e → Makes {T =
    T} (calls ++ others) old.trail new.trail (Err (lease_err e))
makes_none T client calls others old new Fault h =
    (h.1.0 ++ others, adds_more calls h.1.0 others true _ _ h.1.1)
makes_none T client calls others old new WantsMemory h =
    (h.1.0 ++ others, adds_more calls h.1.0 others false _ _ h.1.1)

pub makes_on : {T : Type 0} (first calls : List Call) (a b c : List Event)
    (result : Result T LeaseErr) →
    AddsCalls first [] false a b → Makes calls b c result → Makes (first ++ calls) a c result
makes_on first calls a b c (Ok value) h k = (k.0, adds_on first calls k.0 false a b c h k.1)
makes_on first calls a b c (Err NoMemory) h k = (k.0, adds_on first calls k.0 false a b c h k.1)
makes_on first calls a b c (Err TargetFault) h k = (k.0, adds_on first calls k.0 true a b c h k.1)
makes_on first calls a b c (Err (Busy lock now)) h k =
    (k.0, k.1, adds_on first calls k.0 k.1 a b c h k.2)
makes_on first calls a b c (Err (Lost seen)) h k =
    (k.0, k.1, adds_on first calls k.0 k.1 a b c h k.2)

-- ---- its own lock is deleted

leave_is : (kind : LockKind) (client : List ℕ) (path : Path) →
    path ≡ LockFile (own_name kind client) →
    Delete path ∷ [] ≡ leave_calls kind client
leave_is kind client path is = ap (λ (p : Path). Delete p ∷ []) is

pub leave_starved : (kind : LockKind) (client : List ℕ) (old new : LineNow) (path : Path) →
    path ≡ LockFile (own_name kind client) → IsRefused client (Delete path) old new WantsMemory →
    GivesUp (leave_calls kind client) client old new WantsMemory
leave_starved kind client old new path is refused =
    subst (λ (cs : List Call). GivesUp cs client old new WantsMemory) (leave_is kind client path is)
    (starved client old new (Delete path) [] refused)

pub left_calls : (kind : LockKind) (client : List ℕ) (reply : Reply) (old new : List Event) →
    new ≡ old ++ Called (Delete (LockFile (own_name kind client))) reply ∷ [] →
    (rest : List Call) × (failed : Bool) × AddsCalls (leave_calls kind client) rest failed old new
left_calls kind client reply old new is =
    let h = adds_called (Delete (LockFile (own_name kind client))) [] reply old new is in
    ([], h.0, h.1)

pub release_heard : (kind : LockKind) (client : List ℕ) (old new : LineNow) (path : Path)
    (done : Unit {0}) → path ≡ LockFile (own_name kind client) →
    IsHeard client (Delete path) old new →
    Makes (leave_calls kind client) old.trail new.trail (Ok done)
release_heard kind client old new path done is h = (
  [],
  subst (λ (cs : List Call). AddsCalls cs [] false old.trail new.trail)
      (leave_is kind client path is)
      (adds_heard (Delete path) [] h.0 old.trail new.trail h.1.trail h.2),
)

release_gives_up : (lease : Lease) (old new : LineNow) (path : Path) (e : AskErr) →
    StandsIn lease.client old.trail (Held lease.kind lease.stamp) →
    path ≡ LockFile (own_name lease.kind lease.client) →
    IsRefused lease.client (Delete path) old new e →
    GivesUp (leave_calls lease.kind lease.client) lease.client old new e
release_gives_up lease old new path e s is refused =
    subst (λ (cs : List Call). GivesUp cs lease.client old new e)
    (leave_is lease.kind lease.client path is)
    (gives_up lease.client old new (Delete path) [] (Held lease.kind lease.stamp) e s refl refused)

pub release_refused : (lease : Lease) (old new : LineNow) (path : Path) (e : AskErr) →
    StandsIn lease.client old.trail (Held lease.kind lease.stamp) →
    path ≡ LockFile (own_name lease.kind lease.client) →
    IsRefused lease.client (Delete path) old new e → Releases lease old new (Err (lease_err e))
release_refused lease old new path Fault s is refused =
    let gone = release_gives_up lease old new path Fault s is refused in
    record {
      trail = refused.0.trail ∙ ap (λ (p : Path). old.trail ++ Called (Delete p) Failed ∷ []) is;
      fails = gone.0;
    }
release_refused lease old new path WantsMemory s is refused =
    elim refused [ inl same ↦ inl same | inr last ↦ inr last.over ]

pub release_makes : (lease : Lease) (old new : LineNow) (path : Path) (e : AskErr) →
    StandsIn lease.client old.trail (Held lease.kind lease.stamp) →
    path ≡ LockFile (own_name lease.kind lease.client) →
    IsRefused lease.client (Delete path) old new e →
    Makes {T =
    Unit {0}} (leave_calls lease.kind lease.client) old.trail new.trail (Err (lease_err e))
release_makes lease old new path e s is refused =
    makes_none (Unit {0}) lease.client (leave_calls lease.kind lease.client) [] old new e
    (release_gives_up lease old new path e s is refused)

-- ---- what was given up

unheld_since : (client : List ℕ) (old new : List Event) (at : Phase) → StandsIn client old at →
    is_held at ≡ false →
    new ≡ old → is_held (phase_of client new) ≡ false
unheld_since client old new at s free same = rw (same, s.phase) free

pub acquires_none : (kind : LockKind) (client : List ℕ) (calls : List Call) (a b c : LineNow)
    (at : Phase) (e : AskErr) →
    a.target.faults ≤ b.target.faults → StandsIn client b.trail at → is_held at ≡ false →
    GivesUp calls client b c e →
    Acquires kind client a c (Err (lease_err e))
acquires_none kind client calls a b c at Fault later s free h =
    record { failed = h.0.failed; rose = let r = h.0.rose in omega arith }
acquires_none kind client calls a b c at WantsMemory later s free h =
    elim (h.0) [
      | inl same ↦ unheld_since client b.trail c.trail at s free same
      | inr unheld ↦ unheld
    ]

-- ---- an answer behind calls that were heard

pub acquires_on : (kind : LockKind) (client : List ℕ) (a b c : LineNow)
    (result : Result Lease LeaseErr) →
    a.target.faults ≤ b.target.faults → Acquires kind client b c result →
    Acquires kind client a c result
acquires_on kind client a b c (Err TargetFault) later h =
    record { failed = h.failed; rose = let r = h.rose in omega arith }
acquires_on kind client a b c result later h = h

pub renews_on : (before after : Lease) (a b c : LineNow) (result : Result (Unit {0}) LeaseErr) →
    a.target.faults ≤ b.target.faults →
    (result ≡ Err NoMemory → is_held (phase_of before.client c.trail) ≡ false) →
    Renews before after b c result → Renews before after a c result
renews_on before after a b c (Err TargetFault) later unheld h =
    record { failed = h.failed; rose = let r = h.rose in omega arith }
renews_on before after a b c (Err NoMemory) later unheld h = inr (unheld refl)
renews_on before after a b c result later unheld h = h
