-- The calls of a lease, each in the phases that allow it.
use Rattle.std.proofs.Common.{◌≡◌, ◌≤◌, ◌∙◌, refl, sym, ap, subst, inl, inr, arith, ℕ, List, [], ◌∷◌, ◌++◌, true, false, Option, Some, None}
use Rattle.std.proofs.lemmas.Slice.Eq.{bytes_eq-Decides}
use Rattle.jop_base.specs.declared.lock_name.LockKind.{LockKind}
use Rattle.jop_base.specs.declared.lock_name.LockKind.TheVariants.{Sync, Exclusive}
use Rattle.jop_base.specs.declared.dir.Dir.TheVariants.{Locks}
use Rattle.jop_base.specs.declared.path.Path.{Path}
use Rattle.jop_base.specs.declared.path.Path.TheVariants.{Lock as LockFile}
use Rattle.jop_target.specs.declared.call.Call.{Call}
use Rattle.jop_target.specs.declared.call.Call.TheVariants.{List as ListDir, Put, Delete, MakeDir}
use Rattle.jop_target.specs.declared.reply.Reply.{Reply}
use Rattle.jop_target.specs.declared.reply.Reply.TheVariants.{Listed, Done, Failed}
use Rattle.jop_target.specs.declared.reply.Listing.{Listing}
use Rattle.jop_target.specs.declared.event.Event.{Event}
use Rattle.jop_target.specs.Runs.{is_failed}
use Rattle.jop_target.specs.Trail.{LineNow, EndsWith}
use Rattle.jop_target.proofs.Replies.{made_or_failed, done_or_failed, listed_or_failed}
use Rattle.lease.specs.declared.error.AskErr.{AskErr}
use Rattle.lease.specs.declared.error.AskErr.TheVariants.{Fault, NoMemory}
use Rattle.lease.specs.declared.lock.Lock.{Lock}
use Rattle.lease.specs.Added.{AddsCalls, put_calls}
use Rattle.lease.specs.Calls.{MayAskOwn, HearsReply, IsHeard, IsRefused, GivesUp, MayPutLock, HasAsked, EndsFailed, asking, is_held, is_leaving}
use Rattle.lease.specs.Discipline.{phase_of, keeps_lock_order, renews_in_time}
use Rattle.lease.specs.Idle.{is_working, is_work}
use Rattle.lease.specs.Locks.{own_name, is_own, same_kind, content_of}
use Rattle.lease.specs.Phase.{Phase, Free, Looked, Asked, Held, Renewing, Leaving, Over, Role, MakesLocks, ListsLocks, PutsOwn, DeletesOwn, Plain, role_of, putting_role, deleting_role, allows, heard, listed_phase}
use Rattle.lease.specs.Standing.{StandsIn}
use Rattle.lease.proofs.Added.{adds_none, adds_sent, adds_heard, adds_failed, adds_on}
use Rattle.lease.proofs.Sessions.{may_call, hears_at}

-- ---- roles

pub same_kind-itself : (kind : LockKind) → same_kind kind kind ≡ true
same_kind-itself Sync = refl
same_kind-itself Exclusive = refl

is_own-own : (kind : LockKind) (client : List ℕ) → is_own client (own_name kind client) ≡ true
is_own-own kind client = (bytes_eq-Decides client client).1 refl

role_of-put : (kind : LockKind) (client : List ℕ) (path : Path) (content : List ℕ) →
    path ≡ LockFile (own_name kind client) →
    role_of client (Put path content) ≡ PutsOwn kind
role_of-put kind client path content is =
    ap (putting_role client) is ∙ rw (is_own-own kind client) refl

role_of-delete : (kind : LockKind) (client : List ℕ) (path : Path) →
    path ≡ LockFile (own_name kind client) →
    role_of client (Delete path) ≡ DeletesOwn kind
role_of-delete kind client path is = ap (deleting_role client) is ∙ rw (is_own-own kind client) refl

-- ---- the folder of locks is made

pub asks_make : (client : List ℕ) (trail : List Event) → StandsIn client trail Free →
    MayAskOwn client trail (MakeDir Locks)
asks_make client trail s = record {
  may = may_call client trail Free (MakeDir Locks) MakesLocks s refl refl refl
      (made_or_failed (λ r. keeps_lock_order (heard client Free MakesLocks r) ≡ true) Locks refl
      (λ now early. refl));
  own = tt;
  idle = rw (s.phase) refl;
}

pub after_make : (client : List ℕ) (old new : LineNow) → StandsIn client old.trail Free →
    IsHeard client (MakeDir Locks) old new → StandsIn client new.trail Free
after_make client old new s h =
    let Stays : Reply → Type 0 = λ r.
    ¬ (r ≡ Failed) → StandsIn client new.trail (heard client Free MakesLocks r) →
    StandsIn client new.trail Free in
    made_or_failed Stays Locks (λ n t. absurd (n refl)) (λ now early n t. t) h.0 h.1.shape h.2
    (hears_at client Free old new (MakeDir Locks) MakesLocks h.0 s refl h.1)

-- ---- the folder of locks is listed

keeps-listed : (kind : LockKind) (own : Option ℕ) (blocking : Option Lock) →
    keeps_lock_order (listed_phase kind own blocking) ≡ true
keeps-listed kind None blocking = refl
keeps-listed kind (Some stamp) None = refl
keeps-listed kind (Some stamp) (Some lock) = refl

lists_in_order : (client : List ℕ) (at : Phase) (l : Listing) → allows client at ListsLocks ≡ true →
    keeps_lock_order (heard client at ListsLocks (Listed l)) ≡ true
lists_in_order client Free l h = refl
lists_in_order client (Asked kind) l h = keeps-listed kind _ _
lists_in_order client (Renewing kind stamp) l h = keeps-listed kind _ _
lists_in_order client at l h = cc

lists_in_time : (client : List ℕ) (at : Phase) (now : ℕ) → allows client at ListsLocks ≡ true →
    renews_in_time at now ListsLocks ≡ true
lists_in_time client (Held kind stamp) now h = cc
lists_in_time client at now h = refl

lists_idly : (client : List ℕ) (at : Phase) → allows client at ListsLocks ≡ true →
    is_work at ListsLocks ≡ false
lists_idly client (Held kind stamp) h = cc
lists_idly client at h = refl

pub asks_list : (client : List ℕ) (trail : List Event) (at : Phase) → StandsIn client trail at →
    allows client at ListsLocks ≡ true → MayAskOwn client trail (ListDir Locks)
asks_list client trail at s allowed = record {
  may =
      may_call client trail at (ListDir Locks) ListsLocks s refl allowed
      (lists_in_time client at _ allowed)
      (listed_or_failed (λ r. keeps_lock_order (heard client at ListsLocks r) ≡ true) Locks refl
      (λ l shape. lists_in_order client at l allowed));
  own = tt;
  idle = rw (s.phase) (lists_idly client at allowed);
}

pub after_list : (client : List ℕ) (at : Phase) (old new : LineNow) → StandsIn client old.trail at →
    IsHeard client (ListDir Locks) old new → (listing : Listing)
    × HasAsked client at new.trail listing
after_list client at old new s h =
    let Lists : Reply → Type 0 = λ r.
    ¬ (r ≡ Failed) → HearsReply client (ListDir Locks) old new r →
    (listing : Listing) × HasAsked client at new.trail listing in
    listed_or_failed Lists Locks (λ n hears. absurd (n refl)) (λ l shape n hears. (
      l,
      record {
        before = old.trail;
        asked = s;
        ends = hears.trail;
        shape = shape;
        stands = hears_at client at old new (ListDir Locks) ListsLocks (Listed l) s refl hears;
      },
    )) h.0 h.1.shape h.2 h.1

-- the listing that was read is the one that was heard
pub listed_as : (client : List ℕ) (at : Phase) (new : List Event) (r : Reply) (l : Listing) →
    (listing : Listing) × HasAsked client at new listing →
    ((c : Call) (y : Reply) → EndsWith new c y → r ≡ y) →
    r ≡ Listed l → HasAsked client at new l
listed_as client at new r l h last is =
    let heard : Listed h.0 ≡ Listed l = sym (last (ListDir Locks) (Listed h.0)
    (h.1.before, h.1.ends)) ∙ is in
    let same : h.0 ≡ l = cc in
    subst (λ (m : Listing). HasAsked client at new m) same h.1

-- ---- its own lock is put

heard_put : (kind : LockKind) (client : List ℕ) (at : Phase) (now : ℕ) →
    allows client at (PutsOwn kind) ≡ true →
    heard client at (PutsOwn kind) (Done now) ≡ asking kind at
heard_put kind client (Looked listing) now h = refl
heard_put kind client (Held own stamp) now h = refl
heard_put kind client at now h = cc

asking_in_order : (kind : LockKind) (at : Phase) → keeps_lock_order (asking kind at) ≡ true
asking_in_order kind (Held own stamp) = refl
asking_in_order kind at = refl

puts_idly : (kind : LockKind) (at : Phase) → is_work at (PutsOwn kind) ≡ false
puts_idly kind (Held own stamp) = refl
puts_idly kind at = refl

puts_in_earnest : (kind : LockKind) (client : List ℕ) (at : Phase) →
    allows client at (PutsOwn kind) ≡ true →
    is_leaving at ≡ false
puts_in_earnest kind client (Leaving own) h = cc
puts_in_earnest kind client at h = refl

pub asking_lists : (kind : LockKind) (client : List ℕ) (at : Phase) →
    allows client (asking kind at) ListsLocks ≡ true
asking_lists kind client (Held own stamp) = refl
asking_lists kind client at = refl

asking_unheld : (kind : LockKind) (at : Phase) → is_held (asking kind at) ≡ false
asking_unheld kind (Held own stamp) = refl
asking_unheld kind at = refl

asking_in_earnest : (kind : LockKind) (at : Phase) → is_leaving (asking kind at) ≡ false
asking_in_earnest kind (Held own stamp) = refl
asking_in_earnest kind at = refl

pub asks_put : (kind : LockKind) (client : List ℕ) (trail : List Event) (path : Path)
    (content : List ℕ) →
    MayPutLock kind client trail → path ≡ LockFile (own_name kind client) →
    content ≡ content_of kind client →
    MayAskOwn client trail (Put path content)
asks_put kind client trail path content may is whole =
    let at = phase_of client trail in
    let role = role_of-put kind client path content is in
    record {
      may =
          may_call client trail at (Put path content) (PutsOwn kind)
          may.stands role may.allowed may.in_time
          (done_or_failed (λ r. keeps_lock_order (heard client at (PutsOwn kind) r) ≡ true)
          path content refl
          (λ now early. ap keeps_lock_order (heard_put kind client at now may.allowed) ∙
          asking_in_order kind at));
      own = (kind, is, whole);
      idle = rw role (puts_idly kind at);
    }

pub after_put : (kind : LockKind) (client : List ℕ) (old new : LineNow) (path : Path)
    (content : List ℕ) →
    MayPutLock kind client old.trail → path ≡ LockFile (own_name kind client) →
    IsHeard client (Put path content) old new →
    StandsIn client new.trail (asking kind (phase_of client old.trail))
after_put kind client old new path content may is h =
    let at = phase_of client old.trail in
    let Asks : Reply → Type 0 = λ r.
    ¬ (r ≡ Failed) → StandsIn client new.trail (heard client at (PutsOwn kind) r) →
    StandsIn client new.trail (asking kind at) in
    done_or_failed Asks path content (λ n t. absurd (n refl))
    (λ now early n t. subst (λ (p : Phase). StandsIn client new.trail p)
    (heard_put kind client at now may.allowed) t)
    h.0 h.1.shape h.2
    (hears_at client at old new (Put path content) (PutsOwn kind) h.0 may.stands
    (role_of-put kind client path content is) h.1)

-- ---- its own lock is deleted

pub over_deleted : (kind : LockKind) (client : List ℕ) (at : Phase) (reply : Reply) →
    allows client at (DeletesOwn kind) ≡ true → heard client at (DeletesOwn kind) reply ≡ Over
over_deleted kind client (Leaving own) Failed h = refl
over_deleted kind client (Leaving own) reply h = refl
over_deleted kind client (Held own stamp) Failed h = refl
over_deleted kind client (Held own stamp) reply h = refl
over_deleted kind client at reply h = cc

deletes_in_time : (kind : LockKind) (at : Phase) (now : ℕ) →
    renews_in_time at now (DeletesOwn kind) ≡ true
deletes_in_time kind (Held own stamp) now = refl
deletes_in_time kind at now = refl

deletes_idly : (kind : LockKind) (at : Phase) → is_work at (DeletesOwn kind) ≡ false
deletes_idly kind (Held own stamp) = refl
deletes_idly kind at = refl

pub asks_delete : (kind : LockKind) (client : List ℕ) (at : Phase) (trail : List Event)
    (path : Path) →
    StandsIn client trail at → allows client at (DeletesOwn kind) ≡ true →
    path ≡ LockFile (own_name kind client) →
    MayAskOwn client trail (Delete path)
asks_delete kind client at trail path s allowed is =
    let role = role_of-delete kind client path is in
    record {
      may =
          may_call client trail at (Delete path) (DeletesOwn kind) s role allowed
          (deletes_in_time kind at _)
          (λ reply shape. ap keeps_lock_order (over_deleted kind client at reply allowed));
      own = (kind, is);
      idle = rw (s.phase, role) (deletes_idly kind at);
    }

-- ---- a lease is held on

pub held_stays : (client : List ℕ) (kind : LockKind) (stamp : ℕ) (role : Role) (reply : Reply) →
    is_working role ≡ true →
    is_failed reply ≡ false → heard client (Held kind stamp) role reply ≡ Held kind stamp
held_stays client kind stamp MakesLocks Failed h f = cc
held_stays client kind stamp MakesLocks reply h f = refl
held_stays client kind stamp Plain Failed h f = cc
held_stays client kind stamp Plain reply h f = refl
held_stays client kind stamp role reply h f = cc

-- ---- calls that gave nothing

ends_failed : (client : List ℕ) (old new : LineNow) (call : Call) (at : Phase) →
    StandsIn client old.trail at →
    is_leaving at ≡ false → HearsReply client call old new Failed → EndsFailed client new.trail
ends_failed client old new call at s stays h = record {
  before = old.trail;
  call = call;
  ends = h.trail;
  matters = rw (s.phase) stays;
  over = h.stands;
}

pub starved : (client : List ℕ) (old new : LineNow) (call : Call) (rest : List Call) →
    IsRefused client call old new NoMemory → GivesUp (call ∷ rest) client old new NoMemory
starved client old new call rest refused = elim refused [
  | inl same ↦ (inl same, (call ∷ rest, adds_none (call ∷ rest) old.trail new.trail same))
  | inr last ↦ (
    inr (rw (last.over.phase) refl),
    (rest, adds_sent call rest old.trail new.trail last.trail),
  )
]

-- the first of some calls
pub gives_up : (client : List ℕ) (old new : LineNow) (call : Call) (rest : List Call) (at : Phase)
    (e : AskErr) →
    StandsIn client old.trail at → is_leaving at ≡ false → IsRefused client call old new e →
    GivesUp (call ∷ rest) client old new e
gives_up client old new call rest at Fault s stays refused = (
  record { failed = ends_failed client old new call at s stays refused.0; rose = refused.1 },
  (rest, adds_failed call rest old.trail new.trail refused.0.trail),
)
gives_up client old new call rest at NoMemory s stays refused =
    starved client old new call rest refused

-- some calls behind others
pub gives_up_on : (client : List ℕ) (a b c : LineNow) (first calls : List Call) (at : Phase)
    (e : AskErr) →
    AddsCalls first [] false a.trail b.trail → a.target.faults ≤ b.target.faults →
    StandsIn client b.trail at → is_held at ≡ false →
    GivesUp calls client b c e → GivesUp (first ++ calls) client a c e
gives_up_on client a b c first calls at Fault h later s free k = (
  record { failed = k.0.failed; rose = let r = k.0.rose in omega arith },
  (k.1.0, adds_on first calls k.1.0 true a.trail b.trail c.trail h k.1.1),
)
gives_up_on client a b c first calls at NoMemory h later s free k = (
  elim (k.0) [ inl same ↦ inr (rw (same, s.phase) free) | inr unheld ↦ inr unheld ],
  (k.1.0, adds_on first calls k.1.0 false a.trail b.trail c.trail h k.1.1),
)

-- ---- the put and the listing behind it

pub put_heard : (kind : LockKind) (client : List ℕ) (old new : LineNow) (path : Path)
    (content : List ℕ) →
    path ≡ LockFile (own_name kind client) → content ≡ content_of kind client →
    IsHeard client (Put path content) old new →
    AddsCalls (Put (LockFile (own_name kind client)) (content_of kind client) ∷ []) []
    false old.trail new.trail
put_heard kind client old new path content is whole h =
    let put : Put path content ≡ Put (LockFile (own_name kind client)) (content_of kind client) =
    cc in
    subst (λ (c : Call). AddsCalls (c ∷ []) [] false old.trail new.trail) put
    (adds_heard (Put path content) [] h.0 old.trail new.trail h.1.trail h.2)

pub put_refused : (kind : LockKind) (client : List ℕ) (old new : LineNow) (path : Path)
    (content : List ℕ) (e : AskErr) →
    MayPutLock kind client old.trail → path ≡ LockFile (own_name kind client) →
    content ≡ content_of kind client →
    IsRefused client (Put path content) old new e → GivesUp (put_calls kind client) client old new e
put_refused kind client old new path content e may is whole refused =
    let put : Put path content ≡ Put (LockFile (own_name kind client)) (content_of kind client) =
    cc in
    subst (λ (c : Call). GivesUp (c ∷ ListDir Locks ∷ []) client old new e) put
    (gives_up client old new (Put path content) (ListDir Locks ∷ []) (phase_of client old.trail)
    e may.stands
    (puts_in_earnest kind client (phase_of client old.trail) may.allowed) refused)

pub look_refused : (kind : LockKind) (client : List ℕ) (a b c : LineNow) (at : Phase) (e : AskErr) →
    AddsCalls (Put (LockFile (own_name kind client)) (content_of kind client) ∷ []) []
    false a.trail b.trail →
    a.target.faults ≤ b.target.faults → StandsIn client b.trail (asking kind at) →
    IsRefused client (ListDir Locks) b c e →
    GivesUp (put_calls kind client) client a c e
look_refused kind client a b c at e h later s refused =
    gives_up_on client a b c (Put (LockFile (own_name kind client)) (content_of kind client) ∷ [])
    (ListDir Locks ∷ [])
    (asking kind at) e h later s (asking_unheld kind at)
    (gives_up client b c (ListDir Locks) [] (asking kind at) e s (asking_in_earnest kind at)
    refused)
