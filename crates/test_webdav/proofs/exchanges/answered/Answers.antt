use Rattle.std.proofs.Common.{refl}
use Rattle.http1.specs.Fields.{known_fields}
use Rattle.http1.specs.Text.{eq_ignore_case}
use Rattle.test_webdav.proofs.exchanges.answered.Goals as goal

pub exchange-requires-clause-plain : goal.exchange-requires-clause-plain
unfolding known_fields eq_ignore_case
exchange-requires-clause-plain c = refl
