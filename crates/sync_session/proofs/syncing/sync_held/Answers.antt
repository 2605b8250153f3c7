use Rattle.std.proofs.Common.{rules, refl}
use Rattle.sync_session.proofs.Left.{ends_held, went_worked}
use Rattle.sync_session.proofs.Ordered.{left_held}
use Rattle.sync_session.proofs.Wanted.{key_left}
use Rattle.sync_session.proofs.syncing.sync_held.Goals as goal

pub returns-clause-ends : goal.returns-clause-ends
returns-clause-ends g c =
    let worked = c.work-worked in
    let stays = (went_worked _ _ worked.result worked.ensures.ends).place in
    let left = ends_held _ _ worked.result c.leave.result (g.S.Client.site c.leave.new.site)
    worked.ensures.ends refl refl worked.ensures.lawful worked.ensures.merges
    worked.ensures.emptied in
    search rules

pub returns-clause-order : goal.returns-clause-order
returns-clause-order g c =
    let worked = c.work-worked in
    let stays = (went_worked _ _ worked.result worked.ensures.ends).place in
    let left = left_held _ _ worked.result c.leave.result (g.S.Client.site c.leave.new.site)
    worked.ensures.ends worked.ensures.order in
    search rules

pub returns-clause-key : goal.returns-clause-key
returns-clause-key g c =
    let worked = c.work-worked in
    let stays = (went_worked _ _ worked.result worked.ensures.ends).place in
    let left = key_left _ _ worked.result c.leave.result (g.S.Client.site c.leave.new.site)
    worked.ensures.ends worked.ensures.key in
    search rules
