-- How a command on keys comes from the tables to a new info: the clock shows the time, the random source
-- perhaps makes a key, and then the info is set.
use Rattle.std.specs.Prelude.{ℕ, ◌≡◌, ◌⊎◌, List, Result, Ok, Err}
use Rattle.client.specs.Outside.{HasKeeperFailed, OutsideNow, TellsTime, with_change}
use Rattle.jed_sealing.specs.declared.seal_err.SealErr.TheVariants as seals
use Rattle.jop_outside.specs.declared.failed.Failed.{Failed}
use Rattle.key_commands.specs.Vaults.{MakesKey}
use Rattle.key_commands.specs.declared.keys_err.KeysErr.{KeysErr}
use Rattle.key_commands.specs.declared.keys_err.KeysErr.TheVariants.{ClockFault, EntropyFault, NoMemory}
use Rattle.local_store.specs.declared.change.Change.TheVariants.{InfoIs}
use Rattle.sync_info.specs.declared.info.Info.{Info}
use Rattle.sync_info.specs.declared.key_record.KeyRecord.{KeyRecord}

-- ---- the clock

-- it failed, and nothing else was used
pub record HasNoTime (old new : OutsideNow) : Type 0 where
  pub failed : Failed
  pub tells : TellsTime old (Err failed) new

-- it showed the time, and nothing else was used
pub record HasTime (old : OutsideNow) (now : ℕ) (new : OutsideNow) : Type 0 where
  pub tells : TellsTime old (Ok now) new

-- ---- the random source

-- it made a key at the time that the clock had shown
pub record HasKey (password : List ℕ) (old : OutsideNow) (key : KeyRecord) (now : ℕ) (new : OutsideNow)
    : Type 0 where
  pub mid : OutsideNow
  pub tells : TellsTime old (Ok now) mid
  pub makes : MakesKey password now mid (Ok key) new

-- it failed then
pub record HasNoKey (password : List ℕ) (old new : OutsideNow) : Type 0 where
  pub now : ℕ
  pub mid : OutsideNow
  pub tells : TellsTime old (Ok now) mid
  pub makes : MakesKey password now mid (Err seals.EntropyFault) new

-- or memory ran out then
pub record HasNoRoomForKey (password : List ℕ) (old new : OutsideNow) : Type 0 where
  pub now : ℕ
  pub mid : OutsideNow
  pub tells : TellsTime old (Ok now) mid
  pub makes : MakesKey password now mid (Err seals.NoMemory) new

-- what the making of a key and its time comes to
abbrev pub MakesDated : List ℕ → OutsideNow → Result (KeyRecord × ℕ) KeysErr → OutsideNow → Type 0
MakesDated password old (Ok dated) new = HasKey password old dated.0 dated.1 new
MakesDated password old (Err ClockFault) new = HasNoTime old new
MakesDated password old (Err EntropyFault) new = HasNoKey password old new
MakesDated password old (Err NoMemory) new = HasNoRoomForKey password old new
MakesDated password old (Err refusal) new = ⊥

-- ---- the info

-- it is set, and that is written down
abbrev pub IsSet : Info → OutsideNow → OutsideNow → Type 0
IsSet info old new = new ≡ with_change (InfoIs info) old
