-- The stamp of a client's own lock in a listing.
use Rattle.std.proofs.Common.{◌≡◌, ◌≤◌, ◌<◌, ◌+◌, refl, arith, ℕ, suc, List, [], ◌∷◌, Bool, true, false, cond, nat_lt, find, option_map, Option, Some, None}
use Rattle.std.specs.Prelude.{All}
use Rattle.std.proofs.lemmas.Bool.{and_parts, ltb-true}
use Rattle.jop_base.specs.declared.lock_name.LockKind.{LockKind}
use Rattle.jop_base.specs.declared.path.Path.{Path}
use Rattle.jop_base.specs.declared.path.Path.TheVariants.{Lock as LockFile}
use Rattle.jop_target.specs.declared.reply.Entry.{Entry}
use Rattle.jop_target.specs.declared.reply.Listing.{Listing}
use Rattle.lease.specs.declared.lock.Lock.{Lock}
use Rattle.lease.specs.Locks.{RENEWAL, locks_in, with_lock, is_own_of, own_stamp}
use Rattle.lease.specs.Phase.{is_in_time, stamp_in_time}

-- ---- no stamp is later than those of the listing

chosen : (b : Bool) (most : ℕ) (lock found : Lock) (rest : Option Lock) → lock.stamp ≤ most →
    (rest ≡ Some found → found.stamp ≤ most) → cond b (Some lock) rest ≡ Some found →
    found.stamp ≤ most
chosen true most lock found rest first others is =
    let same : lock.stamp ≡ found.stamp = cc in omega arith
chosen false most lock found rest first others is = others is

behind : (p : Lock → Bool) (most : ℕ) (path : Path) (stamp : ℕ) (locks : List Lock) (found : Lock) →
    stamp ≤ most →
    (find p locks ≡ Some found → found.stamp ≤ most) →
    find p (with_lock path stamp locks) ≡ Some found → found.stamp ≤ most
behind p most (LockFile name) stamp locks found small rest is =
    let lock : Lock = record { name = name; stamp = stamp } in
    chosen (p lock) most lock found (find p locks) small rest is
behind p most path stamp locks found small rest is = rest is

found-le : (p : Lock → Bool) (most : ℕ) (es : List Entry) (found : Lock) →
    All (λ (e : Entry). e.stamp ≤ most) es →
    find p (locks_in es) ≡ Some found → found.stamp ≤ most
found-le p most [] found small is = cc
found-le p most (e ∷ es) found small is =
    behind p most e.path e.stamp (locks_in es) found (small 0 e (omega arith))
    (found-le p most es found (λ i d lt. small (suc i) d (omega arith))) is

stamp_of : (most u : ℕ) (o : Option Lock) → ((found : Lock) → o ≡ Some found → found.stamp ≤ most) →
    option_map (λ (lock : Lock). lock.stamp) o ≡ Some u → u ≤ most
stamp_of most u None small is = cc
stamp_of most u (Some lock) small is =
    let same : lock.stamp ≡ u = cc in omega (arith, small lock refl)

pub own_stamp-le : (kind : LockKind) (client : List ℕ) (listing : Listing) (most stamp : ℕ) →
    All (λ (e : Entry). e.stamp ≤ most) listing.entries →
    own_stamp kind client listing ≡ Some stamp → stamp ≤ most
own_stamp-le kind client listing most stamp small is =
    stamp_of most stamp (find (is_own_of kind client) (locks_in listing.entries))
    (λ found. found-le (is_own_of kind client) most listing.entries found small) is

-- ---- a stamp in time

pub record IsInTime (end : Option ℕ) (now : ℕ) (own : Option ℕ) (stamp : ℕ) : Type 0 where
  pub own_is : own ≡ Some stamp
  pub in_time : is_in_time end now stamp ≡ true

in_time_if : (end : Option ℕ) (now u stamp : ℕ) (b : Bool) → is_in_time end now u ≡ b →
    cond b (Some u) None ≡ Some stamp →
    IsInTime end now (Some u) stamp
in_time_if end now u stamp true is h =
    let same : u ≡ stamp = cc in record { own_is = h; in_time = rw (← same) is }
in_time_if end now u stamp false is h = cc

pub stamp_is_in_time : (end : Option ℕ) (now : ℕ) (own : Option ℕ) (stamp : ℕ) →
    stamp_in_time end now own ≡ Some stamp →
    IsInTime end now own stamp
stamp_is_in_time end now None stamp h = cc
stamp_is_in_time end now (Some u) stamp h = in_time_if end now u stamp (is_in_time end now u) refl h

pub in_time-soon : (end : Option ℕ) (now stamp : ℕ) → is_in_time end now stamp ≡ true →
    now < stamp + RENEWAL
in_time-soon None now stamp h = ltb-true _ _ h
in_time-soon (Some end) now stamp h =
    ltb-true _ _ (and_parts (nat_lt stamp end) (nat_lt now (stamp + RENEWAL)) h).1

pub in_time-before : (end now stamp : ℕ) → is_in_time (Some end) now stamp ≡ true → stamp < end
in_time-before end now stamp h =
    ltb-true _ _ (and_parts (nat_lt stamp end) (nat_lt now (stamp + RENEWAL)) h).0
