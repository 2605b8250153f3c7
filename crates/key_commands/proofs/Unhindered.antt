-- A command on keys that nothing hinders goes well.
use Rattle.std.specs.Prelude.{ℕ, ◌≡◌, ◌⊎◌, List, Bool, true, false, Option, Some, None, Result, Ok, Err, IsOk, refl}
use Rattle.std.proofs.Common.{sym, ◌∙◌, ap, subst, inl, inr}
use Rattle.std.specs.List.{list_any}
use Rattle.client.specs.Outside.{AreKeptTables, HasKeeperFailed, OutsideNow, TellsTime}
use Rattle.jop_outside.specs.Outside.{HasRisen}
use Rattle.jop_outside.specs.declared.failed.Failed.{Failed}
use Rattle.keeper.specs.Keepers.{IsBlobOfKept, IsOfKept, KeeperNow, Kept, blob_at}
use Rattle.key_commands.specs.Commands.{RunsKeysOn}
use Rattle.key_commands.specs.Commands.Blob.{ShowsKept, ShowsRow, resource_meant, shown_bytes}
use Rattle.key_commands.specs.Commands.Keys.{ListsKeys}
use Rattle.key_commands.specs.Commands.New.{MakesNew}
use Rattle.key_commands.specs.Commands.Use.{UsesKeyIf}
use Rattle.key_commands.specs.Hindering.{AllowsKeys, IsDoneOrMemory, IsKeyUnhindered, shown_kept}
use Rattle.key_commands.specs.Running.{RunsKeys}
use Rattle.key_commands.specs.declared.key_command.KeyCommand.{KeyCommand}
use Rattle.key_commands.specs.declared.key_command.KeyCommand.TheVariants as commands
use Rattle.key_commands.specs.declared.keys_err.KeysErr.{KeysErr}
use Rattle.key_commands.specs.declared.keys_err.KeysErr.TheVariants.{KeeperFault, ClockFault, EntropyFault, NoMemory}
use Rattle.local_store.specs.declared.row.Row.{Row}
use Rattle.local_store.specs.declared.tables.Tables.{Tables}
use Rattle.sync_info.specs.Info.{has_id}
use Rattle.sync_info.specs.declared.info.Info.{Info}

-- ---- faults that would have been counted

-- the counts that a fault raises
record Unfailed (old new : OutsideNow) : Type 0 where
  keeper : ¬ HasRisen old.keeper.faults new.keeper.faults
  clock : ¬ HasRisen old.clock.faults new.clock.faults
  entropy : ¬ HasRisen old.entropy.faults new.entropy.faults

timeless : (old new : OutsideNow) (failed : Failed) → TellsTime old (Err failed) new → Unfailed old new → ⊥
timeless old new failed tells none = none.clock tells.shows

-- the keeper failed behind steps that leave it as it was
late_fault : (old mid new : OutsideNow) → mid.keeper ≡ old.keeper → HasKeeperFailed mid new → Unfailed old new → ⊥
late_fault old mid new same failed none =
    none.keeper (subst (λ (k : KeeperNow). HasRisen k.faults new.keeper.faults) same failed.risen)

-- ---- each command

list_well : (info : Info) (old new : OutsideNow) (answer : Result (List ℕ) KeysErr)
    → ListsKeys info old answer new → IsDoneOrMemory answer
list_well info old new (Ok text) lists = inl refl
list_well info old new (Err NoMemory) lists = inr refl
list_well info old new (Err refusal) lists = absurd lists

new_well : (password : List ℕ) (info : Info) (old new : OutsideNow) (answer : Result (List ℕ) KeysErr)
    → Unfailed old new → MakesNew password info old answer new → IsDoneOrMemory answer
new_well password info old new (Ok text) none is = inl refl
new_well password info old new (Err NoMemory) none is = inr refl
new_well password info old new (Err KeeperFault) none is =
    absurd (late_fault old is.mid new
    (ap (λ (o : OutsideNow). o.keeper) is.made.makes.same ∙ ap (λ (o : OutsideNow). o.keeper) is.made.tells.same)
    is.failed none)
new_well password info old new (Err ClockFault) none is = absurd (timeless old new is.failed is.tells none)
new_well password info old new (Err EntropyFault) none is =
    absurd (none.entropy
    (subst (λ (o : OutsideNow). HasRisen o.entropy.faults new.entropy.faults) is.tells.same is.makes.makes))
new_well password info old new (Err refusal) none is = absurd is

use_well : (there : Bool) (id : List ℕ) (info : Info) (old new : OutsideNow) (answer : Result (List ℕ) KeysErr)
    → Unfailed old new → there ≡ true → UsesKeyIf there id info old answer new → IsDoneOrMemory answer
use_well false id info old new answer none here is = absurd (cc here)
use_well true id info old new (Ok text) none here is = inl refl
use_well true id info old new (Err NoMemory) none here is = inr refl
use_well true id info old new (Err KeeperFault) none here is =
    absurd (late_fault old is.mid new (ap (λ (o : OutsideNow). o.keeper) is.timed.tells.same) is.failed none)
use_well true id info old new (Err ClockFault) none here is = absurd (timeless old new is.failed is.tells none)
use_well true id info old new (Err refusal) none here is = absurd is

-- what is due of the bytes that are told is the answer
due_told : (k : Kept) (password : Option (List ℕ)) (r : Row) (old new : OutsideNow) (answer : Result (List ℕ) KeysErr)
    → old.keeper.kept ≡ Some k → ShowsKept r k.tables.info password old answer new
    → shown_bytes k.tables.info password r (blob_at k r.id) ≡ answer
due_told k password r old new answer told shows =
    let bytes : shows.bytes ≡ blob_at k r.id =
    subst (λ (kept : Option Kept). IsBlobOfKept kept r.id shows.bytes) told shows.told in
    ap (shown_bytes k.tables.info password r) (sym bytes) ∙ shows.due

well_if : (due answer : Result (List ℕ) KeysErr) → IsOk due → due ≡ answer → IsDoneOrMemory answer
well_if due answer well is = inl (subst (λ (a : Result (List ℕ) KeysErr). IsOk a) is well)

row_well : (k : Kept) (password : Option (List ℕ)) (found : Result Row KeysErr) (old new : OutsideNow)
    (answer : Result (List ℕ) KeysErr) → Unfailed old new → old.keeper.kept ≡ Some k
    → IsOk (shown_kept k password found) → ShowsRow found k.tables.info password old answer new → IsDoneOrMemory answer
row_well k password (Err due) old new answer none told well shows = absurd (cc well)
row_well k password (Ok r) old new (Ok text) none told well shows = inl refl
row_well k password (Ok r) old new (Err KeeperFault) none told well shows = absurd (none.keeper shows.risen)
row_well k password (Ok r) old new (Err NoMemory) none told well shows = inr refl
row_well k password (Ok r) old new (Err ClockFault) none told well shows = absurd shows
row_well k password (Ok r) old new (Err EntropyFault) none told well shows = absurd shows
row_well k password (Ok r) old new (Err refusal) none told well shows =
    well_if (shown_bytes k.tables.info password r (blob_at k r.id)) (Err refusal) well
    (due_told k password r old new (Err refusal) told shows)

-- ---- all of them

on_well : (command : KeyCommand) (k : Kept) (old new : OutsideNow) (answer : Result (List ℕ) KeysErr)
    → Unfailed old new → old.keeper.kept ≡ Some k → AllowsKeys k command
    → RunsKeysOn command k.tables old answer new → IsDoneOrMemory answer
on_well (commands.Blob id password) k old new answer none told allowed runs =
    row_well k password (resource_meant k.tables id) old new answer none told allowed runs
on_well commands.List k old new answer none told allowed runs = list_well k.tables.info old new answer runs
on_well (commands.New password) k old new answer none told allowed runs =
    new_well password k.tables.info old new answer none runs
on_well (commands.Use id) k old new answer none told allowed runs =
    use_well (list_any (has_id id) k.tables.info.keys) id k.tables.info old new answer none allowed runs

pub keys_go_well : (command : KeyCommand) (old new : OutsideNow) (answer : Result (List ℕ) KeysErr)
    → RunsKeys command old answer new → IsKeyUnhindered command old new → IsDoneOrMemory answer
keys_go_well command old new (Ok text) runs free = inl refl
keys_go_well command old new (Err KeeperFault) (inl unread) free = absurd (free.keeper unread.risen)
keys_go_well command old new (Err NoMemory) runs free = inr refl
keys_go_well command old new (Err refusal) (inl unread) free = absurd unread
keys_go_well command old new answer (inr ran) free =
    let same : ran.tables ≡ free.kept.tables =
    subst (λ (kept : Option Kept). IsOfKept kept ran.tables) free.told ran.kept.told in
    on_well command free.kept old new answer
    (record { keeper = free.keeper; clock = free.clock; entropy = free.entropy }) free.told free.allowed
    (subst (λ (t : Tables). RunsKeysOn command t old answer new) same ran.ran)
