-- The lock for which a session gives up is one that a listing of its trail shows in the way.
use Rattle.std.proofs.Common.{◌≡◌, ◌∙◌, refl, sym, ap, subst, arith, inl, inr, ℕ, List, [], ◌∷◌, ◌++◌, append_assoc, length, length-append, Some}
use Rattle.jop_base.specs.declared.dir.Dir.TheVariants.{Locks}
use Rattle.jop_base.specs.declared.lock_name.LockKind.{LockKind}
use Rattle.jop_base.specs.declared.path.Path.TheVariants.{Lock as LockFile}
use Rattle.jop_target.specs.declared.call.Call.{Call}
use Rattle.jop_target.specs.declared.call.Call.TheVariants.{List as ListDir, Delete}
use Rattle.jop_target.specs.declared.event.Event.{Event}
use Rattle.jop_target.specs.declared.event.Event.TheVariants.{Began, Called}
use Rattle.jop_target.specs.declared.reply.Listing.{Listing}
use Rattle.jop_target.specs.declared.reply.Reply.{Reply}
use Rattle.jop_target.specs.declared.reply.Reply.TheVariants.{Listed}
use Rattle.lease.specs.declared.lock.Lock.{Lock}
use Rattle.lease.specs.Blocked.{NamesALiveLock}
use Rattle.lease.specs.Locks.{own_name, blocking_in}
use Rattle.lease.specs.Outcomes.{IsBlocked, IsBlockedAtOnce, IsBlockedAfterwards}
use Rattle.lease.proofs.Shown.{names}

-- ---- the last call stands behind the beginning of the session

ends_behind : (old calls before : List Event) (call : Call) (reply : Reply) →
    old ++ Began ∷ calls ≡ before ++ Called call reply ∷ [] →
    (front : List Event) × (calls ≡ front ++ Called call reply ∷ []) ×
    (old ++ Began ∷ front ≡ before)
ends_behind [] calls [] call reply h = cc
ends_behind [] calls (b ∷ bs) call reply h = (bs, cc, cc)
ends_behind (o ∷ os) calls [] call reply h =
    let none : os ++ Began ∷ calls ≡ [] = cc in
    absurd (omega (arith, ap length none, length-append os (Began ∷ calls)))
ends_behind (o ∷ os) calls (b ∷ bs) call reply h =
    let rest = ends_behind os calls bs call reply cc in
    let first : o ≡ b = cc in
    (rest.0, rest.1, rw (first, rest.2) refl)

-- ---- the two listings

-- a listing of the session, behind whatever the trail went on with
listing_names : (kind : LockKind) (client : List ℕ) (front after calls rest : List Event)
    (listing : Listing) (lock : Lock) (now : ℕ) → listing.now ≡ now →
    blocking_in kind client listing ≡ Some lock → calls ≡ front ++ Called (ListDir Locks)
    (Listed listing) ∷ after → NamesALiveLock kind client (Began ∷ (calls ++ rest)) lock now
listing_names kind client front after calls rest listing lock now at blocks is =
    let whole : Began ∷ front ++ Called (ListDir Locks) (Listed listing) ∷ (after ++ rest) ≡ Began ∷
    (calls ++ rest) = ap (λ (es : List Event). Began ∷ es)
    (sym (ap (λ (es : List Event). es ++ rest) is ∙
    append_assoc front (Called (ListDir Locks) (Listed listing) ∷ after) rest)) in
    subst (λ (m : ℕ). NamesALiveLock kind client (Began ∷ (calls ++ rest)) lock m) at
    (subst (λ (es : List Event). NamesALiveLock kind client es lock listing.now) whole
    (names kind client (Began ∷ front) (after ++ rest) listing lock blocks))

named_at_once : (kind : LockKind) (client : List ℕ) (old calls rest : List Event) (lock : Lock)
    (now : ℕ) → IsBlockedAtOnce kind client (old ++ Began ∷ calls) lock now →
    NamesALiveLock kind client (Began ∷ (calls ++ rest)) lock now
named_at_once kind client old calls rest lock now h =
    let ends = ends_behind old calls h.ends.0 (ListDir Locks) (Listed h.listing) h.ends.1 in
    listing_names kind client ends.0 [] calls rest h.listing lock now h.at h.blocking ends.1

named_afterwards : (kind : LockKind) (client : List ℕ) (old calls rest : List Event) (lock : Lock)
    (now : ℕ) → IsBlockedAfterwards kind client (old ++ Began ∷ calls) lock now →
    NamesALiveLock kind client (Began ∷ (calls ++ rest)) lock now
named_afterwards kind client old calls rest lock now h =
    let left : List Event = Called (Delete (LockFile (own_name kind client))) h.left.reply ∷ [] in
    let last = ends_behind old calls h.left.before (Delete (LockFile (own_name kind client)))
    h.left.reply h.left.ends in
    let listed = ends_behind old last.0 h.left.asked.before (ListDir Locks) (Listed h.listing)
    (last.2 ∙ h.left.asked.ends) in
    let is = last.1 ∙ (ap (λ (es : List Event). es ++ left) listed.1 ∙
    append_assoc listed.0 (Called (ListDir Locks) (Listed h.listing) ∷ []) left) in
    listing_names kind client listed.0 left calls rest h.listing lock now h.at h.blocking is

pub named : (kind : LockKind) (client : List ℕ) (old calls rest : List Event) (lock : Lock)
    (now : ℕ) → IsBlocked kind client (old ++ Began ∷ calls) lock now →
    NamesALiveLock kind client (Began ∷ (calls ++ rest)) lock now
named kind client old calls rest lock now (inl h) =
    named_at_once kind client old calls rest lock now h
named kind client old calls rest lock now (inr h) =
    named_afterwards kind client old calls rest lock now h
