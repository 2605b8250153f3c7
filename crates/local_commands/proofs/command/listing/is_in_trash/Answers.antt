use Rattle.std.proofs.Common.{refl, sym}
use Rattle.local_commands.proofs.command.listing.is_in_trash.Goals as goal

pub returns-in-None : goal.returns-in-None
returns-in-None c = rw (sym c.prop.ensures) (rw c.in-None.is refl)
