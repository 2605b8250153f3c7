-- What every command on keys leaves.
use Rattle.std.specs.Prelude.{ℕ, ◌≡◌, ◌⊎◌, List, Bool, true, false, Option, Result, Ok, Err, refl}
use Rattle.std.proofs.Common.{sym, ◌∙◌, ap, inl, inr}
use Rattle.std.specs.List.{list_any}
use Rattle.client.specs.Outside.{HasKeeperFailed, OutsideNow, TellsTime}
use Rattle.jed_sealing.specs.declared.seal_err.SealErr.{SealErr}
use Rattle.jop_outside.specs.Random.{EntropyNow}
use Rattle.jop_outside.specs.Clocks.{ClockNow}
use Rattle.jop_outside.specs.declared.failed.Failed.{Failed}
use Rattle.key_commands.specs.Commands.{RunsKeysOn, asks_clock, draws_bytes}
use Rattle.key_commands.specs.Commands.Blob.{ShowsRow, resource_meant}
use Rattle.key_commands.specs.Commands.Keys.{ListsKeys}
use Rattle.key_commands.specs.Commands.New.{MakesNew}
use Rattle.key_commands.specs.Commands.Use.{UsesKeyIf}
use Rattle.key_commands.specs.Leaving.{ChangesInfo, HasSetInfo, IsEarlyRefusal, IsStill, SparesBeside}
use Rattle.key_commands.specs.Running.{RanOn, RunsKeys}
use Rattle.key_commands.specs.Stages.{HasKey}
use Rattle.key_commands.specs.Vaults.{MakesKey}
use Rattle.key_commands.specs.declared.key_command.KeyCommand.{KeyCommand}
use Rattle.key_commands.specs.declared.key_command.KeyCommand.TheVariants as commands
use Rattle.key_commands.specs.declared.keys_err.KeysErr.{KeysErr}
use Rattle.key_commands.specs.declared.keys_err.KeysErr.TheVariants.{KeeperFault, ClockFault, EntropyFault, NotFound, NotOne, Sealed, BadPassword, NoKey, NoMemory}
use Rattle.keeper.specs.Keepers.{KeeperNow, Kept}
use Rattle.local_commands.specs.Running.{IsUnsaved}
use Rattle.new_keys.specs.Infos.{with_active_key, with_new_key}
use Rattle.local_store.specs.declared.row.Row.{Row}
use Rattle.local_store.specs.declared.tables.Tables.{Tables}
use Rattle.sync_info.specs.Info.{has_id}
use Rattle.sync_info.specs.declared.info.Info.{Info}
use Rattle.sync_info.specs.declared.key_record.KeyRecord.{KeyRecord}

-- ---- steps that save nothing

still_same : (old new : OutsideNow) → new ≡ old → IsStill old new
still_same old new same = record {
  line = ap (λ (o : OutsideNow). o.line) same;
  made = ap (λ (o : OutsideNow). o.made) same;
  kept = ap (λ (o : OutsideNow). o.keeper.kept) same;
  input = ap (λ (o : OutsideNow). o.input) same;
  out = ap (λ (o : OutsideNow). o.out) same;
}

still_timed : (old new : OutsideNow) (result : Result ℕ Failed) → TellsTime old result new → IsStill old new
still_timed old new result tells = record {
  line = ap (λ (o : OutsideNow). o.line) tells.same;
  made = ap (λ (o : OutsideNow). o.made) tells.same;
  kept = ap (λ (o : OutsideNow). o.keeper.kept) tells.same;
  input = ap (λ (o : OutsideNow). o.input) tells.same;
  out = ap (λ (o : OutsideNow). o.out) tells.same;
}

still_made : (password : List ℕ) (now : ℕ) (old new : OutsideNow) (result : Result KeyRecord SealErr)
    → MakesKey password now old result new → IsStill old new
still_made password now old new result makes = record {
  line = ap (λ (o : OutsideNow). o.line) makes.same;
  made = ap (λ (o : OutsideNow). o.made) makes.same;
  kept = ap (λ (o : OutsideNow). o.keeper.kept) makes.same;
  input = ap (λ (o : OutsideNow). o.input) makes.same;
  out = ap (λ (o : OutsideNow). o.out) makes.same;
}

still_failed : (old new : OutsideNow) → HasKeeperFailed old new → IsStill old new
still_failed old new failed = record {
  line = ap (λ (o : OutsideNow). o.line) failed.same;
  made = ap (λ (o : OutsideNow). o.made) failed.same;
  kept = ap (λ (o : OutsideNow). o.keeper.kept) failed.same;
  input = ap (λ (o : OutsideNow). o.input) failed.same;
  out = ap (λ (o : OutsideNow). o.out) failed.same;
}

still_then : (old mid new : OutsideNow) → IsStill old mid → IsStill mid new → IsStill old new
still_then old mid new first then = record {
  line = then.line ∙ first.line;
  made = then.made ∙ first.made;
  kept = then.kept ∙ first.kept;
  input = then.input ∙ first.input;
  out = then.out ∙ first.out;
}

still_key : (password : List ℕ) (old : OutsideNow) (key : KeyRecord) (now : ℕ) (new : OutsideNow)
    → HasKey password old key now new → IsStill old new
still_key password old key now new has =
    still_then old has.mid new (still_timed old has.mid (Ok now) has.tells)
    (still_made password now has.mid new (Ok key) has.makes)

keeper_of_key : (password : List ℕ) (old : OutsideNow) (key : KeyRecord) (now : ℕ) (new : OutsideNow)
    → HasKey password old key now new → new.keeper ≡ old.keeper
keeper_of_key password old key now new has =
    ap (λ (o : OutsideNow). o.keeper) has.makes.same ∙ ap (λ (o : OutsideNow). o.keeper) has.tells.same

-- ---- the info alone is changed

row_changes : (found : Result Row KeysErr) (info : Info) (password : Option (List ℕ)) (old new : OutsideNow)
    (answer : Result (List ℕ) KeysErr) → ShowsRow found info password old answer new → ChangesInfo old new
row_changes (Err due) info password old new (Err (NotFound id)) shows = inl (still_same old new shows.1)
row_changes (Err due) info password old new (Err (NotOne count)) shows = inl (still_same old new shows.1)
row_changes (Err due) info password old new answer shows = absurd shows
row_changes (Ok r) info password old new (Ok text) shows = inl (still_same old new shows.same)
row_changes (Ok r) info password old new (Err KeeperFault) shows = inl (still_failed old new shows)
row_changes (Ok r) info password old new (Err NoMemory) shows = inl (still_same old new shows)
row_changes (Ok r) info password old new (Err ClockFault) shows = absurd shows
row_changes (Ok r) info password old new (Err EntropyFault) shows = absurd shows
row_changes (Ok r) info password old new (Err refusal) shows = inl (still_same old new shows.same)

list_changes : (info : Info) (old new : OutsideNow) (answer : Result (List ℕ) KeysErr)
    → ListsKeys info old answer new → ChangesInfo old new
list_changes info old new (Ok text) lists = inl (still_same old new lists.1)
list_changes info old new (Err NoMemory) lists = inl (still_same old new lists)
list_changes info old new (Err refusal) lists = absurd lists

new_changes : (password : List ℕ) (info : Info) (old new : OutsideNow) (answer : Result (List ℕ) KeysErr)
    → MakesNew password info old answer new → ChangesInfo old new
new_changes password info old new (Ok text) is =
    inr (record {
      info = with_new_key info is.key is.now;
      mid = is.mid;
      still = still_key password old is.key is.now is.mid is.made;
      faults = keeper_of_key password old is.key is.now is.mid is.made;
      set = is.set;
    })
new_changes password info old new (Err KeeperFault) is =
    inl (still_then old is.mid new (still_key password old is.key is.now is.mid is.made)
    (still_failed is.mid new is.failed))
new_changes password info old new (Err ClockFault) is = inl (still_timed old new (Err is.failed) is.tells)
new_changes password info old new (Err EntropyFault) is =
    inl (still_then old is.mid new (still_timed old is.mid (Ok is.now) is.tells)
    (still_made password is.now is.mid new _ is.makes))
new_changes password info old new (Err NoMemory) (inl is) =
    inl (still_then old is.mid new (still_timed old is.mid (Ok is.now) is.tells)
    (still_made password is.now is.mid new _ is.makes))
new_changes password info old new (Err NoMemory) (inr is) = inl (still_key password old is.key is.now new is.made)
new_changes password info old new (Err refusal) is = absurd is

use_changes : (there : Bool) (id : List ℕ) (info : Info) (old new : OutsideNow) (answer : Result (List ℕ) KeysErr)
    → UsesKeyIf there id info old answer new → ChangesInfo old new
use_changes false id info old new answer is = inl (still_same old new is.1)
use_changes true id info old new (Ok text) is =
    inr (record {
      info = with_active_key info id is.now;
      mid = is.mid;
      still = still_timed old is.mid (Ok is.now) is.timed.tells;
      faults = ap (λ (o : OutsideNow). o.keeper) is.timed.tells.same;
      set = is.set;
    })
use_changes true id info old new (Err KeeperFault) is =
    inl (still_then old is.mid new (still_timed old is.mid (Ok is.now) is.timed.tells)
    (still_failed is.mid new is.failed))
use_changes true id info old new (Err ClockFault) is = inl (still_timed old new (Err is.failed) is.tells)
use_changes true id info old new (Err NoMemory) is = inl (still_timed old new (Ok is.now) is.timed.tells)
use_changes true id info old new (Err refusal) is = absurd is

on_changes : (command : KeyCommand) (t : Tables) (old new : OutsideNow) (answer : Result (List ℕ) KeysErr)
    → RunsKeysOn command t old answer new → ChangesInfo old new
on_changes (commands.Blob id password) t old new answer runs =
    row_changes (resource_meant t id) t.info password old new answer runs
on_changes commands.List t old new answer runs = list_changes t.info old new answer runs
on_changes (commands.New password) t old new answer runs = new_changes password t.info old new answer runs
on_changes (commands.Use id) t old new answer runs =
    use_changes (list_any (has_id id) t.info.keys) id t.info old new answer runs

pub changes_info : (command : KeyCommand) (old new : OutsideNow) (answer : Result (List ℕ) KeysErr)
    → RunsKeys command old answer new → ChangesInfo old new
changes_info command old new (Ok text) (inl unread) = absurd unread
changes_info command old new (Err KeeperFault) (inl unread) = inl (still_failed old new unread)
changes_info command old new (Err NoMemory) (inl unread) = inl (still_same old new unread)
changes_info command old new (Err refusal) (inl unread) = absurd unread
changes_info command old new answer (inr ran) = on_changes command ran.tables old new answer ran.ran

-- ---- what is spared

-- neither the clock was asked nor the random source
record IsIdle (old new : OutsideNow) : Type 0 where
  clock : new.clock ≡ old.clock
  random : new.entropy ≡ old.entropy

idle_same : (old new : OutsideNow) → new ≡ old → IsIdle old new
idle_same old new same =
    record { clock = ap (λ (o : OutsideNow). o.clock) same; random = ap (λ (o : OutsideNow). o.entropy) same }

idle_failed : (old new : OutsideNow) → HasKeeperFailed old new → IsIdle old new
idle_failed old new failed = record {
  clock = ap (λ (o : OutsideNow). o.clock) failed.same;
  random = ap (λ (o : OutsideNow). o.entropy) failed.same;
}

row_idle : (found : Result Row KeysErr) (info : Info) (password : Option (List ℕ)) (old new : OutsideNow)
    (answer : Result (List ℕ) KeysErr) → ShowsRow found info password old answer new → IsIdle old new
row_idle (Err due) info password old new (Err (NotFound id)) shows = idle_same old new shows.1
row_idle (Err due) info password old new (Err (NotOne count)) shows = idle_same old new shows.1
row_idle (Err due) info password old new answer shows = absurd shows
row_idle (Ok r) info password old new (Ok text) shows = idle_same old new shows.same
row_idle (Ok r) info password old new (Err KeeperFault) shows = idle_failed old new shows
row_idle (Ok r) info password old new (Err NoMemory) shows = idle_same old new shows
row_idle (Ok r) info password old new (Err ClockFault) shows = absurd shows
row_idle (Ok r) info password old new (Err EntropyFault) shows = absurd shows
row_idle (Ok r) info password old new (Err refusal) shows = idle_same old new shows.same

list_idle : (info : Info) (old new : OutsideNow) (answer : Result (List ℕ) KeysErr)
    → ListsKeys info old answer new → IsIdle old new
list_idle info old new (Ok text) lists = idle_same old new lists.1
list_idle info old new (Err NoMemory) lists = idle_same old new lists
list_idle info old new (Err refusal) lists = absurd lists

undrawn : (old mid new : OutsideNow) (result : Result ℕ Failed) → TellsTime old result mid
    → new.entropy ≡ mid.entropy → new.entropy ≡ old.entropy
undrawn old mid new result tells same = same ∙ ap (λ (o : OutsideNow). o.entropy) tells.same

use_undrawn : (there : Bool) (id : List ℕ) (info : Info) (old new : OutsideNow) (answer : Result (List ℕ) KeysErr)
    → UsesKeyIf there id info old answer new → new.entropy ≡ old.entropy
use_undrawn false id info old new answer is = ap (λ (o : OutsideNow). o.entropy) is.1
use_undrawn true id info old new (Ok text) is =
    undrawn old is.mid new (Ok is.now) is.timed.tells (ap (λ (o : OutsideNow). o.entropy) is.set)
use_undrawn true id info old new (Err KeeperFault) is =
    undrawn old is.mid new (Ok is.now) is.timed.tells (ap (λ (o : OutsideNow). o.entropy) is.failed.same)
use_undrawn true id info old new (Err ClockFault) is = undrawn old new new (Err is.failed) is.tells refl
use_undrawn true id info old new (Err NoMemory) is = undrawn old new new (Ok is.now) is.timed.tells refl
use_undrawn true id info old new (Err refusal) is = absurd is

on_spares : (command : KeyCommand) (t : Tables) (old new : OutsideNow) (answer : Result (List ℕ) KeysErr)
    → RunsKeysOn command t old answer new → SparesBeside command old new
on_spares (commands.Blob id password) t old new answer runs =
    let idle = row_idle (resource_meant t id) t.info password old new answer runs in
    record { clock = idle.clock; random = idle.random }
on_spares commands.List t old new answer runs =
    let idle = list_idle t.info old new answer runs in record { clock = idle.clock; random = idle.random }
on_spares (commands.New password) t old new answer runs = record { clock = tt; random = tt }
on_spares (commands.Use id) t old new answer runs =
    record { clock = tt; random = use_undrawn (list_any (has_id id) t.info.keys) id t.info old new answer runs }

idle_spares : (command : KeyCommand) (old new : OutsideNow) → IsIdle old new → SparesBeside command old new
idle_spares (commands.Blob id password) old new idle = record { clock = idle.clock; random = idle.random }
idle_spares commands.List old new idle = record { clock = idle.clock; random = idle.random }
idle_spares (commands.New password) old new idle = record { clock = tt; random = tt }
idle_spares (commands.Use id) old new idle = record { clock = tt; random = idle.random }

pub spares_beside : (command : KeyCommand) (old new : OutsideNow) (answer : Result (List ℕ) KeysErr)
    → RunsKeys command old answer new → SparesBeside command old new
spares_beside command old new (Ok text) (inl unread) = absurd unread
spares_beside command old new (Err KeeperFault) (inl unread) =
    idle_spares command old new (idle_failed old new unread)
spares_beside command old new (Err NoMemory) (inl unread) = idle_spares command old new (idle_same old new unread)
spares_beside command old new (Err refusal) (inl unread) = absurd unread
spares_beside command old new answer (inr ran) = on_spares command ran.tables old new answer ran.ran

-- ---- refusals

unsaved_same : (old new : OutsideNow) → new ≡ old → IsUnsaved old new
unsaved_same old new same = record {
  keeper = ap (λ (o : OutsideNow). o.keeper) same;
  line = ap (λ (o : OutsideNow). o.line) same;
  made = ap (λ (o : OutsideNow). o.made) same;
}

unsaved_timed : (old new : OutsideNow) (result : Result ℕ Failed) → TellsTime old result new → IsUnsaved old new
unsaved_timed old new result tells = record {
  keeper = ap (λ (o : OutsideNow). o.keeper) tells.same;
  line = ap (λ (o : OutsideNow). o.line) tells.same;
  made = ap (λ (o : OutsideNow). o.made) tells.same;
}

row_unsaved : (found : Result Row KeysErr) (info : Info) (password : Option (List ℕ)) (old new : OutsideNow)
    (answer : Result (List ℕ) KeysErr) → ShowsRow found info password old answer new → IsEarlyRefusal answer
    → IsUnsaved old new
row_unsaved (Err due) info password old new (Err (NotFound id)) shows early = unsaved_same old new shows.1
row_unsaved (Err due) info password old new (Err (NotOne count)) shows early = unsaved_same old new shows.1
row_unsaved (Err due) info password old new answer shows early = absurd shows
row_unsaved (Ok r) info password old new (Ok text) shows early = absurd early
row_unsaved (Ok r) info password old new (Err KeeperFault) shows early = absurd early
row_unsaved (Ok r) info password old new (Err NoMemory) shows early = absurd early
row_unsaved (Ok r) info password old new (Err ClockFault) shows early = absurd shows
row_unsaved (Ok r) info password old new (Err EntropyFault) shows early = absurd shows
row_unsaved (Ok r) info password old new (Err refusal) shows early = unsaved_same old new shows.same

list_unsaved : (info : Info) (old new : OutsideNow) (answer : Result (List ℕ) KeysErr)
    → ListsKeys info old answer new → IsUnsaved old new
list_unsaved info old new (Ok text) lists = unsaved_same old new lists.1
list_unsaved info old new (Err NoMemory) lists = unsaved_same old new lists
list_unsaved info old new (Err refusal) lists = absurd lists

new_unsaved : (password : List ℕ) (info : Info) (old new : OutsideNow) (answer : Result (List ℕ) KeysErr)
    → MakesNew password info old answer new → IsEarlyRefusal answer → IsUnsaved old new
new_unsaved password info old new (Ok text) is early = absurd early
new_unsaved password info old new (Err KeeperFault) is early = absurd early
new_unsaved password info old new (Err NoMemory) is early = absurd early
new_unsaved password info old new (Err ClockFault) is early = unsaved_timed old new (Err is.failed) is.tells
new_unsaved password info old new (Err EntropyFault) is early =
    let first = unsaved_timed old is.mid (Ok is.now) is.tells in
    record {
      keeper = ap (λ (o : OutsideNow). o.keeper) is.makes.same ∙ first.keeper;
      line = ap (λ (o : OutsideNow). o.line) is.makes.same ∙ first.line;
      made = ap (λ (o : OutsideNow). o.made) is.makes.same ∙ first.made;
    }
new_unsaved password info old new (Err refusal) is early = absurd is

use_unsaved : (there : Bool) (id : List ℕ) (info : Info) (old new : OutsideNow) (answer : Result (List ℕ) KeysErr)
    → UsesKeyIf there id info old answer new → IsEarlyRefusal answer → IsUnsaved old new
use_unsaved false id info old new answer is early = unsaved_same old new is.1
use_unsaved true id info old new (Ok text) is early = absurd early
use_unsaved true id info old new (Err KeeperFault) is early = absurd early
use_unsaved true id info old new (Err NoMemory) is early = absurd early
use_unsaved true id info old new (Err ClockFault) is early = unsaved_timed old new (Err is.failed) is.tells
use_unsaved true id info old new (Err refusal) is early = absurd is

on_unsaved : (command : KeyCommand) (t : Tables) (old new : OutsideNow) (answer : Result (List ℕ) KeysErr)
    → RunsKeysOn command t old answer new → IsEarlyRefusal answer → IsUnsaved old new
on_unsaved (commands.Blob id password) t old new answer runs early =
    row_unsaved (resource_meant t id) t.info password old new answer runs early
on_unsaved commands.List t old new answer runs early = list_unsaved t.info old new answer runs
on_unsaved (commands.New password) t old new answer runs early =
    new_unsaved password t.info old new answer runs early
on_unsaved (commands.Use id) t old new answer runs early =
    use_unsaved (list_any (has_id id) t.info.keys) id t.info old new answer runs early

pub unsaved_early : (command : KeyCommand) (old new : OutsideNow) (answer : Result (List ℕ) KeysErr)
    → RunsKeys command old answer new → IsEarlyRefusal answer → IsUnsaved old new
unsaved_early command old new (Ok text) (inl unread) early = absurd unread
unsaved_early command old new (Err KeeperFault) (inl unread) early = absurd early
unsaved_early command old new (Err NoMemory) (inl unread) early = absurd early
unsaved_early command old new (Err refusal) (inl unread) early = absurd unread
unsaved_early command old new answer (inr ran) early = on_unsaved command ran.tables old new answer ran.ran early
