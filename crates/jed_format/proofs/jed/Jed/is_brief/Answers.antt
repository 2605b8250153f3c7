use Rattle.jed_format.proofs.Lengths.{IsBrief-chunks, IsJed-IsBrief}
use Rattle.jed_format.proofs.jed.Jed.is_brief.Goals as goal

pub returns-then-self-eq5-clause-exact : goal.returns-then-self-eq5-clause-exact
returns-then-self-eq5-clause-exact c =
    IsBrief-chunks c.args.self.now _ c.are_brief.result c.as_slice.ensures c.if-self-eq5.true c.are_brief.ensures

pub returns-then-self-eq5-clause-writable : goal.returns-then-self-eq5-clause-writable
returns-then-self-eq5-clause-writable c =
    λ t. IsJed-IsBrief c.args.self.now
    ((IsBrief-chunks c.args.self.now _ c.are_brief.result c.as_slice.ensures c.if-self-eq5.true c.are_brief.ensures).0 t)
