-- What is shown of the bytes of a resource.
use Rattle.std.specs.Prelude.{ℕ, ◌≡◌, List, Option, Result, Ok, Err, refl}
use Rattle.std.proofs.Common.{ap, sym, subst}
use Rattle.std.specs.Borrow.{Bor}
use Rattle.client.specs.Outside.{HasKeeperFailed, OutsideNow}
use Rattle.key_commands.specs.Commands.Blob.{IsNoResource, IsShownOr, ShowsRow, shown_bytes}
use Rattle.key_commands.specs.Refusals.{of_keeping, of_opening, opened_for}
use Rattle.key_commands.specs.Vaults.{LoadsBytes}
use Rattle.key_commands.specs.declared.keys_err.KeysErr.{KeysErr}
use Rattle.key_commands.specs.declared.keys_err.KeysErr.TheVariants.{KeeperFault, ClockFault, EntropyFault, NotFound, NotOne, Sealed, BadPassword, NoKey, NoMemory}
use Rattle.keeper.specs.Keepers.{IsBlobOfKept}
use Rattle.keeper.specs.declared.keeper_err.KeeperErr.{KeeperErr}
use Rattle.keeper.specs.declared.keeper_err.KeeperErr.TheVariants as keepers
use Rattle.local_store.specs.declared.row.Row.{Row}
use Rattle.master_keys.specs.Refusing.{IsMeant}
use Rattle.master_keys.specs.declared.key_err.KeyErr.{KeyErr}
use Rattle.master_keys.specs.declared.key_err.KeyErr.TheVariants as keys
use Rattle.sync_info.specs.declared.info.Info.{Info}

-- the refusal of what is opened is the one that is told
pub opened_or : (id : List ℕ) (meant : Result (List ℕ) KeyErr) (e : KeyErr) → IsMeant meant e
    → IsShownOr (opened_for id meant) (Err (of_opening id e))
opened_or id meant keys.NoMemory is = tt
opened_or id meant (keys.NoKey key) is = ap (opened_for id) is
opened_or id meant (keys.BadPassword key) is = ap (opened_for id) is
opened_or id meant (keys.Jed e) is = ap (opened_for id) is
opened_or id meant keys.BadItem is = ap (opened_for id) is
opened_or id meant keys.EntropyFault is = ap (opened_for id) is

pub row_refused : (e : KeysErr) (info : Info) (password : Option (List ℕ)) (old new : OutsideNow) → IsNoResource e
    → new ≡ old → ShowsRow (Err e) info password old (Err e) new
row_refused (NotFound id) info password old new is same = (refl, same)
row_refused (NotOne count) info password old new is same = (refl, same)
row_refused refusal info password old new is same = absurd is

pub row_shown : (r : Row) (info : Info) (password bytes : Option (List ℕ)) (old new : OutsideNow)
    (result : Result (List ℕ) KeysErr) → IsBlobOfKept old.keeper.kept r.id bytes → new ≡ old
    → IsShownOr (shown_bytes info password r bytes) result → ShowsRow (Ok r) info password old result new
row_shown r info password bytes old new (Ok text) told same due =
    record { bytes = bytes; told = told; due = due; same = same }
row_shown r info password bytes old new (Err NoMemory) told same due = same
row_shown r info password bytes old new (Err KeeperFault) told same due = absurd due
row_shown r info password bytes old new (Err ClockFault) told same due = absurd due
row_shown r info password bytes old new (Err EntropyFault) told same due = absurd due
row_shown r info password bytes old new (Err refusal) told same due =
    record { bytes = bytes; told = told; due = due; same = same }

pub row_unloaded : (r : Row) (info : Info) (password : Option (List ℕ)) (old new : OutsideNow) (e : KeeperErr)
    → LoadsBytes r.id old (Err e) new → ShowsRow (Ok r) info password old (Err (of_keeping e)) new
row_unloaded r info password old new keepers.Fault loads = loads
row_unloaded r info password old new keepers.NoMemory loads = loads

-- the resource that is meant isn't there
pub refused_shows : (found : Result Row KeysErr) (info : Info) (password : Option (List ℕ)) (o : OutsideNow) (e : KeysErr)
    → (found ≡ Err e) × IsNoResource e → ShowsRow found info password o (Err e) o
refused_shows found info password o e is =
    subst (λ (f : Result Row KeysErr). ShowsRow f info password o (Err e) o) (sym is.0)
    (row_refused e info password o o is.1 refl)

-- it is
pub found_shows : (found : Result Row KeysErr) (r : Row) (info : Info) (password : Option (List ℕ)) (old new : OutsideNow)
    (result : Result (List ℕ) KeysErr) → found ≡ Ok r → ShowsRow (Ok r) info password old result new
    → ShowsRow found info password old result new
found_shows found r info password old new result is shows =
    subst (λ (f : Result Row KeysErr). ShowsRow f info password old result new) (sym is) shows
