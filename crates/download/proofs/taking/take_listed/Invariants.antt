use Rattle.std.proofs.Common.{All, take, Some}
use Rattle.download.specs.Asked.{PageAsksFor}
use Rattle.download.specs.Taking.{TakesOne, is_taking}
use Rattle.law_licences.specs.Views.{Shown}
use Rattle.session.specs.Doing.{Does}
use Rattle.session.specs.Parts.{ForEach}
use Rattle.session.specs.Work.{knowing}
use Rattle.download.proofs.taking.take_listed.Given as goal

-- those before here are taken
abbrev pub invariant-loop-index : goal.invariant-loop-index
invariant-loop-index g l =
    record {
      does : (known : Shown) → All (PageAsksFor known) l.ids
          → Does (ForEach TakesOne (take l.index l.ids)) is_taking
          (knowing (Some known) (g.W.Session.now l.fn.s))
          (knowing (Some known) (g.W.Session.now l.s));
    }
