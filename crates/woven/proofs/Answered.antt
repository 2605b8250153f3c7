-- A store in memory never answers that a call failed.
use Rattle.std.proofs.Common.{◌≡◌, ap, arith, refl, ℕ, [], Ok}
use Rattle.std.specs.Prelude.{Result}
use Rattle.std.specs.declared.alloc.AllocError.{AllocError}
use Rattle.jop_outside.specs.Outside.{HasRisen}
use Rattle.jop_target.specs.declared.call.Call.{Call}
use Rattle.jop_target.specs.declared.reply.Reply.{Reply}
use Rattle.jop_target.specs.declared.reply.Reply.TheVariants.{Failed}
use Rattle.jop_target.specs.declared.tree.Tree.{Tree}
use Rattle.jop_target.specs.Store.{Store, reply_of}
use Rattle.jop_target.proofs.Calls.{has_cause}

-- a store of which no call is to fail
abbrev steady : Tree → ℕ → Store
steady tree now = record {
  contents = record { tree = tree; blobs = [] };
  moment = now;
  step = 0;
  plan = record { made = 0; failing = [] };
}

pub answered : (tree : Tree) (now : ℕ) (call : Call) → ¬ (reply_of tree now call ≡ Failed)
answered tree now call is =
    let cause = has_cause (steady tree now) call 0 0 (omega arith) refl in
    let failed : ◌≡◌ {A = Result Reply AllocError} (Ok (reply_of tree now call)) (Ok Failed) = ap Ok is in
    let risen : HasRisen 0 0 = cause.failed failed in
    omega (arith, risen)
