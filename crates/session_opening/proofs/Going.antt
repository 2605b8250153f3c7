-- What a part of an opening leaves, whatever it answers: the session has gone on.
use Rattle.std.specs.Prelude.{◌≡◌, Bool, Result, Ok, Err}
use Rattle.std.proofs.Common.{◌∙◌, ap}
use Rattle.conflicts.specs.declared.error.StepErr.{StepErr}
use Rattle.jop_base.specs.declared.lock_name.LockKind.TheVariants.{Sync}
use Rattle.jop_target.specs.declared.call.Call.{Call}
use Rattle.lease.specs.Standing.{IsSameBut}
use Rattle.lease.specs.declared.lease.Lease.{Lease}
use Rattle.session.proofs.Behind.{went_given_up}
use Rattle.session.specs.Doing.{Ends, Went}
use Rattle.session.specs.Parts.{Part}
use Rattle.session.specs.Sessions.{HearsOr}
use Rattle.session.specs.Work.{WorkNow}

pub went_ends : {R : Type 0} (P : Part) (sort : Call → Bool) (a b : WorkNow)
    (result : Result R StepErr) → Ends P sort a result b → Went sort a b
went_ends P sort a b (Ok value) h = h.went
went_ends P sort a b (Err e) h = went_given_up sort a b e h

pub went_heard : (call : Call) (sort : Call → Bool) (a b : WorkNow)
    (result : Result (Unit {0}) StepErr) → HearsOr call sort a result b → Went sort a b
went_heard call sort a b (Ok done) h = h.does.went
went_heard call sort a b (Err e) h = went_given_up sort a b e h

-- under a lease of the same kind
pub still_sync : (a b : Lease) → IsSameBut a b → a.kind ≡ Sync → b.kind ≡ Sync
still_sync a b same sync = ap (λ (l : Lease). l.kind) same ∙ sync
