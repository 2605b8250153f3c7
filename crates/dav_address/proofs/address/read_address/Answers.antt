use Rattle.std.proofs.Common.{subst}
use Rattle.url.specs.Parts.{IsValid}
use Rattle.dav_address.proofs.Visible.{address_visible}
use Rattle.dav_address.proofs.address.read_address.Goals as goal

pub returns-in_ok-address-in-Ok-clause-visible : goal.returns-in_ok-address-in-Ok-clause-visible
returns-in_ok-address-in-Ok-clause-visible c =
    address_visible c.in-Ok.url c.in_ok-address-in-Ok.address
    (subst IsValid c.url.view_is c.url.invariant.valid) c.in_ok-address-in-Ok.ensures
