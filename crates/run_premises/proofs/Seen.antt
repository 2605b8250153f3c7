-- What is seen of a phase goes the same way as the phase.
use Rattle.std.proofs.Common.{◌≡◌, refl, ℕ, List, Bool, true, false, cond, Option, Some, None}
use Rattle.std.specs.Prelude.{is_none}
use Rattle.jop_base.specs.declared.lock_name.LockKind.{LockKind}
use Rattle.jop_base.specs.declared.lock_name.LockKind.TheVariants.{Sync, Exclusive}
use Rattle.jop_target.specs.declared.reply.Reply.{Reply}
use Rattle.jop_target.specs.declared.reply.Reply.TheVariants.{Listed, Done, Failed}
use Rattle.lease.specs.Phase as lease
use Rattle.lease.specs.declared.lock.Lock.{Lock}
use Rattle.run_premises.specs.Seen.{after_reply, listed, may, seen_phase}
use Rattle.run_premises.specs.declared.phase.Phase.{Phase}
use Rattle.run_premises.specs.declared.phase.Phase.TheVariants.{Over, Broken}

pub listed_seen : (client : List ℕ) (kind : LockKind) (shown : Option ℕ) (blocking : Option Lock) →
    listed kind shown (is_none blocking) ≡ seen_phase client (lease.listed_phase kind shown blocking)
listed_seen client kind None blocking = refl
listed_seen client kind (Some stamp) None = refl
listed_seen client kind (Some stamp) (Some lock) = refl

may_seen : (client : List ℕ) (p : lease.Phase) (role : lease.Role) →
    may (seen_phase client p) role ≡ lease.allows client p role
may_seen client (lease.Looked listing) (lease.PutsOwn Sync) = refl
may_seen client (lease.Looked listing) (lease.PutsOwn Exclusive) = refl
may_seen client p role = refl

heard_seen : (client : List ℕ) (p : lease.Phase) (role : lease.Role) (reply : Reply) →
    after_reply client (seen_phase client p) role reply ≡ seen_phase client (lease.heard client p role reply)
heard_seen client p role Failed = refl
heard_seen client lease.Free lease.MakesLocks (Done now) = refl
heard_seen client lease.Free lease.ListsLocks (Listed listing) = refl
heard_seen client (lease.Looked seen) (lease.PutsOwn kind) (Done now) = refl
heard_seen client (lease.Asked kind) lease.ListsLocks (Listed listing) = refl
heard_seen client (lease.Held kind stamp) (lease.PutsOwn own) (Done now) = refl
heard_seen client (lease.Held kind stamp) (lease.DeletesOwn own) reply = refl
heard_seen client (lease.Held kind stamp) lease.MakesLocks reply = refl
heard_seen client (lease.Held kind stamp) lease.Plain reply = refl
heard_seen client (lease.Renewing kind stamp) lease.ListsLocks (Listed listing) = refl
heard_seen client (lease.Leaving kind) (lease.DeletesOwn own) reply = refl
heard_seen client p role reply = refl

pub phase_seen : (client : List ℕ) (phase : Phase) (p : lease.Phase) (role : lease.Role) (reply : Reply) →
    phase ≡ seen_phase client p →
    cond (may phase role) (after_reply client phase role reply) Broken
    ≡ seen_phase client (cond (lease.allows client p role) (lease.heard client p role reply) lease.Broken)
phase_seen client phase p role reply is =
    rw (is, may_seen client p role, heard_seen client p role reply)
    (go (lease.allows client p role))
  where
    go : (b : Bool) → cond b (seen_phase client (lease.heard client p role reply)) Broken
        ≡ seen_phase client (cond b (lease.heard client p role reply) lease.Broken)
    go true = refl
    go false = refl

pub unheard_seen : (client : List ℕ) (phase : Phase) (p : lease.Phase) (role : lease.Role) →
    phase ≡ seen_phase client p →
    cond (may phase role) Over Broken
    ≡ seen_phase client (cond (lease.allows client p role) lease.Over lease.Broken)
unheard_seen client phase p role is =
    rw (is, may_seen client p role) (go (lease.allows client p role))
  where
    go : (b : Bool) → cond b Over Broken ≡ seen_phase client (cond b lease.Over lease.Broken)
    go true = refl
    go false = refl
