use Rattle.std.proofs.Common.{codes, sym}
use Rattle.serde_json.specs.View.{view}
use Rattle.sync_info.proofs.MemberLemmas.{whole-get}
use Rattle.sync_info.proofs.keys.keys_in.Goals as goal

pub keys_of-requires : goal.keys_of-requires
keys_of-requires c =
    whole-get (codes "masterKeys") (view c.args.value.now) _ c.requires (sym c.in-Some.ensures)
