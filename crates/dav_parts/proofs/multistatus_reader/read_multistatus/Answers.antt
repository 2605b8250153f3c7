use Rattle.dav_parts.proofs.LineLemmas.{read_whole}
use Rattle.dav_parts.proofs.multistatus_reader.read_multistatus.Goals as goal

pub returns-in_ok-found-in-Some : goal.returns-in_ok-found-in-Some
returns-in_ok-found-in-Some c = read_whole c.args.dir c.args.body.now c.in-Some.lines.now
    c.in_ok-found-in-Some.found c.in-Some.ensures.some c.in_ok-found-in-Some.ensures
