-- What unlocking the keys of an info comes to.
use Rattle.std.specs.Prelude.{ℕ, List, Option, Some, None, Result, Ok, Err}
use Rattle.master_keys.specs.Rings.{RingNow, ring_of, shut_active}
use Rattle.master_keys.specs.declared.key_err.KeyErr.{KeyErr}
use Rattle.master_keys.specs.declared.key_err.KeyErr.TheVariants.{BadPassword}
use Rattle.sync_info.specs.declared.info.Info.{Info}

-- the ring, unless the record of its active key is shut
abbrev pub unless_shut : RingNow → Option (List ℕ) → Result RingNow KeyErr
unless_shut ring None = Ok ring
unless_shut ring (Some key) = Err (BadPassword key)

-- without a password no key is open, and none is asked for
abbrev pub unlocked : Info → Option (List ℕ) → Result RingNow KeyErr
unlocked info None = Ok (ring_of info None)
unlocked info (Some password) =
    let ring = ring_of info (Some password) in unless_shut ring (shut_active ring)
