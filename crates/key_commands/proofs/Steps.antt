-- How far a command on keys came.
use Rattle.std.specs.Prelude.{ℕ, ◌≡◌, List, true, Result, Ok, Err, refl}
use Rattle.std.proofs.Common.{sym, subst, inl, inr}
use Rattle.client.specs.Outside.{AreKeptTables, DoesOr, HasKeeperFailed, OutsideNow, ReadsTables, TellsTime, with_change}
use Rattle.jed_sealing.specs.declared.seal_err.SealErr.{SealErr}
use Rattle.jed_sealing.specs.declared.seal_err.SealErr.TheVariants as seals
use Rattle.keeper.specs.declared.keeper_err.KeeperErr.{KeeperErr}
use Rattle.keeper.specs.declared.keeper_err.KeeperErr.TheVariants as keepers
use Rattle.key_commands.specs.Commands.{RunsKeysOn}
use Rattle.key_commands.specs.Commands.New.{MakesNew}
use Rattle.key_commands.specs.Commands.Use.{UsesKeyIf}
use Rattle.key_commands.specs.Refusals.{of_keeping, of_making}
use Rattle.key_commands.specs.Running.{RunsKeys}
use Rattle.key_commands.specs.Stages.{HasKey, HasTime, MakesDated}
use Rattle.key_commands.specs.Vaults.{MakesKey}
use Rattle.key_commands.specs.declared.key_command.KeyCommand.{KeyCommand}
use Rattle.key_commands.specs.declared.keys_err.KeysErr.{KeysErr}
use Rattle.key_commands.specs.declared.keys_err.KeysErr.TheVariants.{KeeperFault, ClockFault, EntropyFault, NotFound, NotOne, Sealed, BadPassword, NoKey, NoMemory}
use Rattle.local_store.specs.declared.change.Change.{Change}
use Rattle.local_store.specs.declared.tables.Tables.{Tables}
use Rattle.sync_info.specs.declared.info.Info.{Info}
use Rattle.sync_info.specs.declared.key_record.KeyRecord.{KeyRecord}

-- ---- the tables

pub unread : (command : KeyCommand) (old new : OutsideNow) (e : KeeperErr) → ReadsTables old (Err e) new
    → RunsKeys command old (Err (of_keeping e)) new
unread command old new keepers.Fault reads = inl reads
unread command old new keepers.NoMemory reads = inl reads

pub read_then : (command : KeyCommand) (t : Tables) (old mid new : OutsideNow) (result : Result (List ℕ) KeysErr)
    → ReadsTables old (Ok t) mid → RunsKeysOn command t mid result new → RunsKeys command old result new
read_then command t old mid new result reads runs =
    inr (record {
      tables = t;
      kept = reads.0;
      ran = subst (λ (o : OutsideNow). RunsKeysOn command t o result new) reads.1 runs;
    })

-- ---- a key

pub unmade : (password : List ℕ) (now : ℕ) (old mid new : OutsideNow) (e : SealErr) → TellsTime old (Ok now) mid
    → MakesKey password now mid (Err e) new → MakesDated password old (Err (of_making e)) new
unmade password now old mid new seals.EntropyFault tells makes =
    record { now = now; mid = mid; tells = tells; makes = makes }
unmade password now old mid new seals.NoMemory tells makes =
    record { now = now; mid = mid; tells = tells; makes = makes }

pub undated : (password : List ℕ) (info : Info) (old new : OutsideNow) (e : KeysErr)
    → MakesDated password old (Err e) new → MakesNew password info old (Err e) new
undated password info old new ClockFault h = h
undated password info old new EntropyFault h = h
undated password info old new NoMemory h = inl h
undated password info old new e h = absurd h

pub dropped : (password : List ℕ) (info : Info) (old new : OutsideNow) (key : KeyRecord) (now : ℕ)
    → HasKey password old key now new → MakesNew password info old (Err NoMemory) new
dropped password info old new key now has = inr (record { key = key; now = now; made = has })

pub new_unkept : (password : List ℕ) (info : Info) (change : Change) (old mid new : OutsideNow) (key : KeyRecord)
    (now : ℕ) (e : KeeperErr) → HasKey password old key now mid → DoesOr (with_change change) mid (Err e) new
    → MakesNew password info old (Err (of_keeping e)) new
new_unkept password info change old mid new key now keepers.Fault has does =
    record { key = key; now = now; mid = mid; made = has; failed = does }
new_unkept password info change old mid new key now keepers.NoMemory has does =
    dropped password info old new key now (subst (λ (o : OutsideNow). HasKey password old key now o) (sym does) has)

-- ---- a key that is used

pub cut_off : (id : List ℕ) (info : Info) (old new : OutsideNow) (now : ℕ) → TellsTime old (Ok now) new
    → UsesKeyIf true id info old (Err NoMemory) new
cut_off id info old new now tells = record { now = now; timed = record { tells = tells } }

pub use_unkept : (id : List ℕ) (info : Info) (change : Change) (old mid new : OutsideNow) (now : ℕ) (e : KeeperErr)
    → TellsTime old (Ok now) mid → DoesOr (with_change change) mid (Err e) new
    → UsesKeyIf true id info old (Err (of_keeping e)) new
use_unkept id info change old mid new now keepers.Fault tells does =
    record { now = now; mid = mid; timed = record { tells = tells }; failed = does }
use_unkept id info change old mid new now keepers.NoMemory tells does =
    cut_off id info old new now (subst (λ (o : OutsideNow). TellsTime old (Ok now) o) (sym does) tells)
