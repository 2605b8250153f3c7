use Rattle.std.proofs.Common.{◌≡◌, take}
use Rattle.serde_json.specs.View.{members_view}
use Rattle.sync_info.specs.Json.{members_of}
use Rattle.sync_info.proofs.write.members_of.Given as goal

abbrev pub invariant-loop-member : goal.invariant-loop-member
invariant-loop-member l = members_view l.members.entries ≡ members_of (take l.member-index l.kept)
