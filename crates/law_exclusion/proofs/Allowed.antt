-- Which calls a phase of the lease allows, and that the awaited call is the one that is made.
use Rattle.std.proofs.Common.{◌≡◌, ◌∙◌, refl, sym, ap, ℕ, List, Bool, true, false, cond, bytes_eq, Option, Some, None}
use Rattle.std.proofs.lemmas.Bool.{and_parts, false≢true}
use Rattle.std.proofs.lemmas.Slice.Eq.{bytes_eq-Decides}
use Rattle.jop_base.specs.declared.dir.Dir.TheVariants.{Locks}
use Rattle.jop_base.specs.declared.lock_name.LockKind.TheVariants.{Sync, Exclusive}
use Rattle.jop_base.specs.declared.path.Path.{Path}
use Rattle.jop_base.specs.declared.path.Path.TheVariants.{Info as InfoFile, OldVersion, Item, Lock as LockFile}
use Rattle.jop_target.specs.declared.call.Call.{Call}
use Rattle.jop_target.specs.declared.call.Call.TheVariants.{List as ListDir, Get, Put, Delete, MakeDir, GetBlob}
use Rattle.jop_target.proofs.Files.{same_dir}
use Rattle.lease.specs.Discipline.{keeps_lock_order}
use Rattle.lease.specs.Idle.{is_work}
use Rattle.lease.specs.Phase.{Phase, Free, Looked, Asked, Held, Renewing, Leaving, Over, Broken, Role, MakesLocks, ListsLocks, PutsOwn, DeletesOwn, Plain, Foreign, role_of, allows}
use Rattle.target_upgrade.specs.Course.{is_call, is_file, is_awaited, puts_text}
use Rattle.law_exclusion.specs.Runs.{is_aside, is_sync_phase}

-- ---- which calls a phase allows

-- a call on the folder of locks or on an own lock
abbrev is_lock_role : Role → Bool
is_lock_role MakesLocks = true
is_lock_role ListsLocks = true
is_lock_role (PutsOwn own) = true
is_lock_role (DeletesOwn own) = true
is_lock_role role = false

pub quiet_role : (client : List ℕ) (phase : Phase) (role : Role) → allows client phase role ≡ true →
    is_work phase role ≡ false → is_lock_role role ≡ true
quiet_role client phase MakesLocks a w = refl
quiet_role client phase ListsLocks a w = refl
quiet_role client phase (PutsOwn own) a w = refl
quiet_role client phase (DeletesOwn own) a w = refl
quiet_role client Free Plain a w = cc
quiet_role client (Looked l) Plain a w = cc
quiet_role client (Asked k) Plain a w = cc
quiet_role client (Held k u) Plain a w = cc
quiet_role client (Renewing k u) Plain a w = cc
quiet_role client (Leaving k) Plain a w = cc
quiet_role client Over Plain a w = cc
quiet_role client Broken Plain a w = cc
quiet_role client Free Foreign a w = cc
quiet_role client (Looked l) Foreign a w = cc
quiet_role client (Asked k) Foreign a w = cc
quiet_role client (Held k u) Foreign a w = cc
quiet_role client (Renewing k u) Foreign a w = cc
quiet_role client (Leaving k) Foreign a w = cc
quiet_role client Over Foreign a w = cc
quiet_role client Broken Foreign a w = cc

pub role_aside : (client : List ℕ) (call : Call) → is_lock_role (role_of client call) ≡ true → is_aside
    call ≡ true
role_aside client (ListDir dir) h = refl
role_aside client (Get path) h = refl
role_aside client (GetBlob id) h = refl
role_aside client (MakeDir Locks) h = refl
role_aside client (Put (LockFile name) content) h = refl
role_aside client (Delete (LockFile name)) h = refl
role_aside client call h = cc

-- a call that isn't allowed breaks the order
pub allowed_if : (b : Bool) (next : Phase) → keeps_lock_order (cond b next Broken) ≡ true → b ≡ true
allowed_if true next h = refl
allowed_if false next h = absurd (false≢true h)

-- work in a session that holds no sync lock is done under an exclusive lease
pub exclusive_work : (phase : Phase) (role : Role) → is_work phase role ≡ true → is_sync_phase phase ≡
    false → (stamp : ℕ) × (phase ≡ Held Exclusive stamp)
exclusive_work (Held Exclusive stamp) role w n = (stamp, refl)
exclusive_work (Held Sync stamp) role w n = absurd (false≢true (sym n))
exclusive_work Free role w n = cc
exclusive_work (Looked l) role w n = cc
exclusive_work (Asked k) role w n = cc
exclusive_work (Renewing k u) role w n = cc
exclusive_work (Leaving k) role w n = cc
exclusive_work Over role w n = cc
exclusive_work Broken role w n = cc

-- ---- the awaited call is the one that is made

same_file-is : (p q : Path) → is_file p q ≡ true → p ≡ q
same_file-is InfoFile InfoFile h = refl
same_file-is OldVersion OldVersion h = refl
same_file-is (Item id) (Item other) h = ap Item ((bytes_eq-Decides id other).0 h)
same_file-is p q h = cc

is_call-is : (c d : Call) → is_call c d ≡ true → c ≡ d
is_call-is (ListDir d) (ListDir e) h = ap ListDir (same_dir d e h)
is_call-is (Get p) (Get q) h = ap Get (same_file-is p q h)
is_call-is (Put p x) (Put q y) h =
    let parts = and_parts (is_file p q) (bytes_eq x y) h in
    ap (λ (r : Path). Put r x) (same_file-is p q parts.0) ∙ ap (λ (z : List ℕ). Put q z)
    ((bytes_eq-Decides x y).0 parts.1)
is_call-is (MakeDir d) (MakeDir e) h = ap MakeDir (same_dir d e h)
is_call-is c d h = cc

pub record IsNext (o : Option Call) (call : Call) : Type 0 where
  pub next : o ≡ Some call
  pub text : puts_text call ≡ true

pub awaited-is : (o : Option Call) (call : Call) → is_awaited o call ≡ true → IsNext o call
awaited-is None call h = absurd (false≢true h)
awaited-is (Some next) call h =
    let parts = and_parts (is_call call next) (puts_text call) h in
    record { next = ap Some (sym (is_call-is call next parts.0)); text = parts.1 }
