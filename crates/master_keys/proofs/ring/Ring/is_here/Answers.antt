use Rattle.std.proofs.Common.{sym, ap, is_some, ◌∙◌}
use Rattle.master_keys.proofs.Found.{copied_some, is_here-ring_now}
use Rattle.master_keys.specs.Rings.{RingNow, is_here}
use Rattle.master_keys.proofs.ring.Ring.is_here.Goals as goal

pub returns : goal.returns
returns c =
    let own = c.self.inside in
    let id = c.args.id.now in
    c.is_some.ensures ∙ sym (copied_some c.at.result) ∙ ap is_some c.at.ensures
    ∙ sym (is_here-ring_now own.password own.locked own.active own.seals id)
    ∙ ap (λ (ring : RingNow). is_here ring id) c.self.view_is
