use Rattle.std.proofs.Common.{All, Some, take}
use Rattle.download.specs.Downloading.{LeavesOne}
use Rattle.download.specs.Reading.{Lacks}
use Rattle.law_licences.specs.Views.{Shown}
use Rattle.session.specs.Doing.{Does}
use Rattle.session.specs.Parts.{ForEach}
use Rattle.session.specs.Work.{knowing}
use Rattle.download.specs.Taking.{is_taking}
use Rattle.download.proofs.leaving.leave_each.Given as goal

-- those before here are gone
abbrev pub invariant-loop-index : goal.invariant-loop-index
invariant-loop-index g l =
    record {
      does : (known : Shown) → All (Lacks known) l.gone
          → Does (ForEach (LeavesOne l.folders) (take l.index l.gone)) is_taking
          (knowing (Some known) (g.W.Session.now l.fn.s))
          (knowing (Some known) (g.W.Session.now l.s));
    }
