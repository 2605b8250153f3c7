use Rattle.std.proofs.Common.{◌≡◌, List, [], refl, sym, subst, arith}
use Rattle.std.specs.List.{AllByRecursion}
use Rattle.master_keys.proofs.Locked.{IsValidKey, locked_more}
use Rattle.master_keys.specs.declared.locked_key.LockedKey.{LockedKey}
use Rattle.master_keys.proofs.unlocking.locked_keys.Goals as goal

pub loop-known-init : goal.loop-known-init
loop-known-init c =
    let P : List LockedKey → Type 0 = λ (keys : List LockedKey). (keys ≡ []) × AllByRecursion IsValidKey keys in
    subst P (sym c.new-keys.ensures) (refl, tt)

pub loop-known-preserved : goal.loop-known-preserved
loop-known-preserved c = (
  locked_more c.args.records.now c.loop-known.known-index c.known-item.result c.loop-known.keys c.add_locked.new.keys
      (omega arith) c.known-item.is c.loop-known.invariant.0 c.in_ok-add_locked.ensures.added,
  c.in_ok-add_locked.ensures.valid,
)
