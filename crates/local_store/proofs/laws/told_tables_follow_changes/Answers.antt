use Rattle.local_store.proofs.Telling.{tables_behind}
use Rattle.local_store.proofs.laws.told_tables_follow_changes.Goals as goal

pub returns : goal.returns
returns c = tables_behind
