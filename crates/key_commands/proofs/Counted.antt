-- A fault is counted.
use Rattle.std.specs.Prelude.{ℕ, ◌≡◌, ◌⊎◌, List, Bool, true, false, Option, Result, Ok, Err}
use Rattle.std.proofs.Common.{ap, subst, inl, inr}
use Rattle.std.specs.List.{list_any}
use Rattle.client.specs.Outside.{HasKeeperFailed, OutsideNow}
use Rattle.jop_outside.specs.Outside.{HasRisen}
use Rattle.keeper.specs.Keepers.{KeeperNow}
use Rattle.key_commands.specs.Commands.{RunsKeysOn}
use Rattle.key_commands.specs.Commands.Blob.{ShowsRow, resource_meant}
use Rattle.key_commands.specs.Commands.Use.{UsesKeyIf}
use Rattle.key_commands.specs.Running.{RunsKeys}
use Rattle.key_commands.specs.declared.key_command.KeyCommand.{KeyCommand}
use Rattle.key_commands.specs.declared.key_command.KeyCommand.TheVariants as commands
use Rattle.key_commands.specs.declared.keys_err.KeysErr.{KeysErr}
use Rattle.key_commands.specs.declared.keys_err.KeysErr.TheVariants.{KeeperFault, ClockFault, EntropyFault}
use Rattle.local_store.specs.declared.row.Row.{Row}
use Rattle.local_store.specs.declared.tables.Tables.{Tables}
use Rattle.sync_info.specs.Info.{has_id}
use Rattle.sync_info.specs.declared.info.Info.{Info}

-- ---- the keeper

late : (old mid new : OutsideNow) → mid.keeper ≡ old.keeper → HasKeeperFailed mid new
    → HasRisen old.keeper.faults new.keeper.faults
late old mid new same failed =
    subst (λ (k : KeeperNow). HasRisen k.faults new.keeper.faults) same failed.risen

row_keeper : (found : Result Row KeysErr) (info : Info) (password : Option (List ℕ)) (old new : OutsideNow)
    → ShowsRow found info password old (Err KeeperFault) new → HasRisen old.keeper.faults new.keeper.faults
row_keeper (Err due) info password old new shows = absurd shows
row_keeper (Ok r) info password old new shows = shows.risen

use_keeper : (there : Bool) (id : List ℕ) (info : Info) (old new : OutsideNow)
    → UsesKeyIf there id info old (Err KeeperFault) new → HasRisen old.keeper.faults new.keeper.faults
use_keeper false id info old new is = absurd (cc is.0)
use_keeper true id info old new is =
    late old is.mid new (ap (λ (o : OutsideNow). o.keeper) is.timed.tells.same) is.failed

on_keeper : (command : KeyCommand) (t : Tables) (old new : OutsideNow) → RunsKeysOn command t old (Err KeeperFault) new
    → HasRisen old.keeper.faults new.keeper.faults
on_keeper (commands.Blob id password) t old new runs =
    row_keeper (resource_meant t id) t.info password old new runs
on_keeper commands.List t old new runs = absurd runs
on_keeper (commands.New password) t old new runs =
    let first = ap (λ (o : OutsideNow). o.keeper) runs.made.tells.same in
    late old runs.mid new
    (subst (λ (k : KeeperNow). runs.mid.keeper ≡ k) first (ap (λ (o : OutsideNow). o.keeper) runs.made.makes.same))
    runs.failed
on_keeper (commands.Use id) t old new runs = use_keeper (list_any (has_id id) t.info.keys) id t.info old new runs

pub keeper_counted : (command : KeyCommand) (old new : OutsideNow) → RunsKeys command old (Err KeeperFault) new
    → HasRisen old.keeper.faults new.keeper.faults
keeper_counted command old new (inl unread) = unread.risen
keeper_counted command old new (inr ran) = on_keeper command ran.tables old new ran.ran

-- ---- the clock

row_clock : (found : Result Row KeysErr) (info : Info) (password : Option (List ℕ)) (old new : OutsideNow)
    → ShowsRow found info password old (Err ClockFault) new → HasRisen old.clock.faults new.clock.faults
row_clock (Err due) info password old new shows = absurd shows
row_clock (Ok r) info password old new shows = absurd shows

use_clock : (there : Bool) (id : List ℕ) (info : Info) (old new : OutsideNow)
    → UsesKeyIf there id info old (Err ClockFault) new → HasRisen old.clock.faults new.clock.faults
use_clock false id info old new is = absurd (cc is.0)
use_clock true id info old new is = is.tells.shows

on_clock : (command : KeyCommand) (t : Tables) (old new : OutsideNow) → RunsKeysOn command t old (Err ClockFault) new
    → HasRisen old.clock.faults new.clock.faults
on_clock (commands.Blob id password) t old new runs = row_clock (resource_meant t id) t.info password old new runs
on_clock commands.List t old new runs = absurd runs
on_clock (commands.New password) t old new runs = runs.tells.shows
on_clock (commands.Use id) t old new runs = use_clock (list_any (has_id id) t.info.keys) id t.info old new runs

pub clock_counted : (command : KeyCommand) (old new : OutsideNow) → RunsKeys command old (Err ClockFault) new
    → HasRisen old.clock.faults new.clock.faults
clock_counted command old new (inl unread) = absurd unread
clock_counted command old new (inr ran) = on_clock command ran.tables old new ran.ran

-- ---- the random source

row_random : (found : Result Row KeysErr) (info : Info) (password : Option (List ℕ)) (old new : OutsideNow)
    → ShowsRow found info password old (Err EntropyFault) new → HasRisen old.entropy.faults new.entropy.faults
row_random (Err due) info password old new shows = absurd shows
row_random (Ok r) info password old new shows = absurd shows

use_random : (there : Bool) (id : List ℕ) (info : Info) (old new : OutsideNow)
    → UsesKeyIf there id info old (Err EntropyFault) new → HasRisen old.entropy.faults new.entropy.faults
use_random false id info old new is = absurd (cc is.0)
use_random true id info old new is = absurd is

on_random : (command : KeyCommand) (t : Tables) (old new : OutsideNow) → RunsKeysOn command t old (Err EntropyFault) new
    → HasRisen old.entropy.faults new.entropy.faults
on_random (commands.Blob id password) t old new runs = row_random (resource_meant t id) t.info password old new runs
on_random commands.List t old new runs = absurd runs
on_random (commands.New password) t old new runs =
    subst (λ (o : OutsideNow). HasRisen o.entropy.faults new.entropy.faults) runs.tells.same runs.makes.makes
on_random (commands.Use id) t old new runs = use_random (list_any (has_id id) t.info.keys) id t.info old new runs

pub random_counted : (command : KeyCommand) (old new : OutsideNow) → RunsKeys command old (Err EntropyFault) new
    → HasRisen old.entropy.faults new.entropy.faults
random_counted command old new (inl unread) = absurd unread
random_counted command old new (inr ran) = on_random command ran.tables old new ran.ran
