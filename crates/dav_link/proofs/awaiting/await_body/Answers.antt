use Rattle.std.proofs.Common.{subst, ℕ, List}
use Rattle.dav_link.proofs.Waiting.{body_comes}
use Rattle.dav_link.proofs.awaiting.await_body.Goals as goal

pub returns-in_ok-came-in-Some : goal.returns-in_ok-came-in-Some
returns-in_ok-came-in-Some g c =
    let m = g.M.Message.reads c.args.message.now in
    let missing = c.in-Some.missing in
    body_comes m (g.L.Link.state c.args.link.now) (g.L.Link.state c.read_on.new.link) c.args.kept.now
    c.read_on.new.kept missing c.in_ok-came-in-Some.came
    (g.met.M.Message.laws c.args.message.now)
    (subst (λ (l : List ℕ). m.misses l missing) c.as_slice.ensures c.in-Some.ensures.some)
    c.in_ok-came-in-Some.ensures
