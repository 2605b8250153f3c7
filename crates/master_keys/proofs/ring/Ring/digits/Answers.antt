use Rattle.std.proofs.Common.{sym, ap, ◌∙◌}
use Rattle.master_keys.proofs.Found.{digits_of-ring_now}
use Rattle.master_keys.specs.Rings.{RingNow, digits_of}
use Rattle.master_keys.proofs.ring.Ring.digits.Goals as goal

pub returns-clause-digits : goal.returns-clause-digits
returns-clause-digits c =
    let own = c.self.inside in
    let id = c.args.id.now in
    c.in_ok-found.ensures.digits ∙ sym (digits_of-ring_now own.password own.locked own.active own.seals id)
    ∙ ap (λ (ring : RingNow). digits_of ring id) c.self.view_is
