-- What commands on keys do with the outside, beside what other commands do.
use Rattle.std.specs.Prelude.{ℕ, ◌≡◌, List, Option, Result, Ok, Err}
use Rattle.client.specs.Outside.{HasKeeperFailed, OutsideNow}
use Rattle.jed_sealing.specs.Drawing.{IsMadeOfDrawn}
use Rattle.jed_sealing.specs.declared.seal_err.SealErr.{SealErr}
use Rattle.jed_sealing.specs.declared.seal_err.SealErr.TheVariants as seals
use Rattle.jop_outside.specs.Outside.{HasRisen}
use Rattle.jop_outside.specs.Random.{EntropyNow}
use Rattle.keeper.specs.Keepers.{IsBlobOfKept}
use Rattle.keeper.specs.declared.keeper_err.KeeperErr.{KeeperErr}
use Rattle.keeper.specs.declared.keeper_err.KeeperErr.TheVariants as keepers
use Rattle.new_keys.specs.Made.{made_record}
use Rattle.sync_info.specs.declared.key_record.KeyRecord.{KeyRecord}

-- ---- the random source

-- the key is made at a time, of the next 296 bytes of the source
pub record WasMade (password : List ℕ) (now : ℕ) (old : EntropyNow) (key : KeyRecord) (new : EntropyNow)
    : Type 0 where
  pub drawn : IsMadeOfDrawn (made_record password now) 296 old.left key new.left
  pub stays : new.faults ≡ old.faults

abbrev pub MakesKeyOr : List ℕ → ℕ → EntropyNow → Result KeyRecord SealErr → EntropyNow → Type 0
MakesKeyOr password now old (Ok key) new = WasMade password now old key new
MakesKeyOr password now old (Err seals.EntropyFault) new = HasRisen old.faults new.faults
MakesKeyOr password now old (Err seals.NoMemory) new = new.faults ≡ old.faults

-- what the making of a key comes to; all else is as it was
pub record MakesKey (password : List ℕ) (now : ℕ) (old : OutsideNow) (result : Result KeyRecord SealErr)
    (new : OutsideNow) : Type 0 where
  pub makes : MakesKeyOr password now old.entropy result new.entropy
  pub same : new ≡ record old { entropy = new.entropy }

-- ---- the keeper

-- what a look for the bytes of a resource comes to
abbrev pub LoadsBytes : List ℕ → OutsideNow → Result (Option (List ℕ)) KeeperErr → OutsideNow → Type 0
LoadsBytes id old (Ok bytes) new = IsBlobOfKept old.keeper.kept id bytes × (new ≡ old)
LoadsBytes id old (Err keepers.Fault) new = HasKeeperFailed old new
LoadsBytes id old (Err keepers.NoMemory) new = new ≡ old
