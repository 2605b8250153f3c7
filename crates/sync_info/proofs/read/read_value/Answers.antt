use Rattle.std.proofs.Common.{rules}
use Rattle.std.proofs.lemmas.Bool.{iff_false}
use Rattle.serde_json.specs.View.{view}
use Rattle.sync_info.proofs.TextLemmas.{whole_value-read, whole_value-refused}
use Rattle.sync_info.proofs.read.read_value.Goals as goal

pub returns-in-Err-2-clause-bad : goal.returns-in-Err-2-clause-bad
returns-in-Err-2-clause-bad c =
    λ bad. whole_value-refused c.args.text.now
    (c.in-Err.ensures.err (iff_false c.is_memory.ensures c.if-is_memory.false))

pub returns-clause-ok : goal.returns-clause-ok
returns-clause-ok c =
    whole_value-read c.args.text.now (view c.in-Ok.value) c.in-Ok.ensures.ok.0 c.in-Ok.ensures.ok.1
    (search rules)
