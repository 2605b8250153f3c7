use Rattle.std.proofs.Common.{◌≡◌, ap, ◌∙◌, arith, rules}
use Rattle.serde_json.specs.Data.{put}
use Rattle.serde_json.specs.View.{members_view}
use Rattle.sync_info.specs.Json.{value_in}
use Rattle.sync_info.proofs.JsonLemmas.{members_of-more}
use Rattle.sync_info.proofs.write.members_of.Goals as goal

pub loop-member-preserved : goal.loop-member-preserved
loop-member-preserved c =
    let l = c.loop-member in
    let m = c.member-item.result in
    let stored : members_view c.put.new.map.entries
    ≡ put m.name (value_in m.json) (members_view l.members.entries) = search rules in
    stored ∙ ap (put m.name (value_in m.json)) l.invariant
    ∙ members_of-more c.args.kept.now l.member-index m
    (omega arith) c.member-item.is c.requires.sorted
