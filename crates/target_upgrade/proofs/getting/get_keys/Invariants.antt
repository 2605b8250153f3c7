use Rattle.std.proofs.Common.{drop}
use Rattle.sync_info.specs.Info.{IsInfo}
use Rattle.target_upgrade.specs.Answers.{HasCome, WorkGoesOn}
use Rattle.target_upgrade.specs.Steps.{Gets}
use Rattle.target_upgrade.proofs.getting.get_keys.Given as goal

-- the items from here on are still to be got
abbrev pub invariant-loop-index : goal.invariant-loop-index
invariant-loop-index g l = record {
  come : HasCome l.fn.lease l.lease (Gets (drop l.index l.ids) l.info) (g.L.Line.state l.line);
  valid : IsInfo l.info;
  goes : WorkGoesOn l.fn.lease.client (g.L.Line.state l.fn.line) (g.L.Line.state l.line);
  keeps : g.L.Line.keeps l.fn.line l.line;
}
