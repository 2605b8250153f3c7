-- `keys --new`: a new key, which is the active one.
use Rattle.std.specs.Prelude.{ℕ, ◌≡◌, ◌⊎◌, List, Result, Ok, Err}
use Rattle.client.specs.Outside.{HasKeeperFailed, OutsideNow}
use Rattle.key_commands.specs.Stages.{HasKey, HasNoKey, HasNoRoomForKey, HasNoTime, IsSet}
use Rattle.key_commands.specs.declared.keys_err.KeysErr.{KeysErr}
use Rattle.key_commands.specs.declared.keys_err.KeysErr.TheVariants.{KeeperFault, ClockFault, EntropyFault, NoMemory}
use Rattle.local_commands.specs.Lines.{id_line}
use Rattle.new_keys.specs.Infos.{with_new_key}
use Rattle.sync_info.specs.declared.info.Info.{Info}
use Rattle.sync_info.specs.declared.key_record.KeyRecord.{KeyRecord}

-- the key that was made at the time that the clock showed is in the info, and active from then on; its id is printed
pub record IsNew (password : List ℕ) (info : Info) (old : OutsideNow) (text : List ℕ) (new : OutsideNow)
    : Type 0 where
  pub key : KeyRecord
  pub now : ℕ
  pub mid : OutsideNow
  pub made : HasKey password old key now mid
  pub set : IsSet (with_new_key info key now) mid new
  pub prints : text ≡ id_line key.id

-- the keeper failed where the info was to be set
pub record IsKeyLost (password : List ℕ) (old new : OutsideNow) : Type 0 where
  pub key : KeyRecord
  pub now : ℕ
  pub mid : OutsideNow
  pub made : HasKey password old key now mid
  pub failed : HasKeeperFailed mid new

-- memory ran out once the key was made
pub record IsDropped (password : List ℕ) (old new : OutsideNow) : Type 0 where
  pub key : KeyRecord
  pub now : ℕ
  pub made : HasKey password old key now new

abbrev pub MakesNew : List ℕ → Info → OutsideNow → Result (List ℕ) KeysErr → OutsideNow → Type 0
MakesNew password info old (Ok text) new = IsNew password info old text new
MakesNew password info old (Err KeeperFault) new = IsKeyLost password old new
MakesNew password info old (Err ClockFault) new = HasNoTime old new
MakesNew password info old (Err EntropyFault) new = HasNoKey password old new
MakesNew password info old (Err NoMemory) new = HasNoRoomForKey password old new ⊎ IsDropped password old new
MakesNew password info old (Err refusal) new = ⊥
