-- `keys --use`: a key that is here becomes the active one.
use Rattle.std.specs.Prelude.{ℕ, ◌≡◌, List, [], Bool, true, false, Result, Ok, Err}
use Rattle.std.specs.List.{list_any}
use Rattle.client.specs.Outside.{HasKeeperFailed, OutsideNow}
use Rattle.key_commands.specs.Stages.{HasNoTime, HasTime, IsSet}
use Rattle.key_commands.specs.declared.keys_err.KeysErr.{KeysErr}
use Rattle.key_commands.specs.declared.keys_err.KeysErr.TheVariants.{KeeperFault, ClockFault, NotFound, NoMemory}
use Rattle.new_keys.specs.Infos.{with_active_key}
use Rattle.sync_info.specs.Info.{has_id}
use Rattle.sync_info.specs.declared.info.Info.{Info}

-- the key is active from the time on that the clock showed, and nothing is printed
pub record IsActivated (id : List ℕ) (info : Info) (old : OutsideNow) (text : List ℕ) (new : OutsideNow)
    : Type 0 where
  pub now : ℕ
  pub mid : OutsideNow
  pub timed : HasTime old now mid
  pub set : IsSet (with_active_key info id now) mid new
  pub prints : text ≡ []

-- the keeper failed where the info was to be set
pub record IsUnset (old new : OutsideNow) : Type 0 where
  pub now : ℕ
  pub mid : OutsideNow
  pub timed : HasTime old now mid
  pub failed : HasKeeperFailed mid new

-- memory ran out once the clock had shown the time
pub record IsCutOff (old new : OutsideNow) : Type 0 where
  pub now : ℕ
  pub timed : HasTime old now new

-- What it comes to for a key that is here. Any other is not found, and nothing else is used.
abbrev pub UsesKeyIf : Bool → List ℕ → Info → OutsideNow → Result (List ℕ) KeysErr → OutsideNow → Type 0
UsesKeyIf false id info old result new = (result ≡ Err (NotFound id)) × (new ≡ old)
UsesKeyIf true id info old (Ok text) new = IsActivated id info old text new
UsesKeyIf true id info old (Err KeeperFault) new = IsUnset old new
UsesKeyIf true id info old (Err ClockFault) new = HasNoTime old new
UsesKeyIf true id info old (Err NoMemory) new = IsCutOff old new
UsesKeyIf true id info old (Err refusal) new = ⊥

abbrev pub UsesKey : List ℕ → Info → OutsideNow → Result (List ℕ) KeysErr → OutsideNow → Type 0
UsesKey id info old result new = UsesKeyIf (list_any (has_id id) info.keys) id info old result new
