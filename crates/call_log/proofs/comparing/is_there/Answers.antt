use Rattle.std.proofs.lemmas.Bool.Decides.{Decides-eqb}
use Rattle.std.proofs.lemmas.List.Elements.{Decides-contains, contains_decides}
use Rattle.std.specs.Prelude.{nat_eq}
use Rattle.call_log.proofs.comparing.is_there.Goals as goal

pub returns : goal.returns
returns c = Decides-contains c.args.ways.now c.args.way c.contains.result
    (contains_decides nat_eq Decides-eqb c.args.ways.now c.args.way c.contains.result c.contains.ensures.cases)
