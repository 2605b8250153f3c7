use Rattle.std.proofs.Common.{rules}
use Rattle.session.proofs.Behind.{lease_behind, place_behind, ready_behind}
use Rattle.session.proofs.Recast.{ends_nowhere}
use Rattle.upload.proofs.Deleted.{none_behind}
use Rattle.upload.specs.Deleting.{Deletes, is_deletion}
use Rattle.upload.proofs.deleting.delete_all.Goals as goal

pub returns-clause-ready : goal.returns-clause-ready
returns-clause-ready g c =
    let ends = c.delete_listed.ensures.ends in
    let stays = place_behind Deletes is_deletion _ _ c.delete_listed.result ends in
    let ready = ready_behind Deletes is_deletion _ _ c.delete_listed.result ends in
    search rules

pub returns-clause-lease : goal.returns-clause-lease
returns-clause-lease g c =
    let ends = c.delete_listed.ensures.ends in
    let stays = place_behind Deletes is_deletion _ _ c.delete_listed.result ends in
    let same = lease_behind Deletes is_deletion _ _ c.delete_listed.result ends in
    search rules

pub returns-clause-none : goal.returns-clause-none
returns-clause-none g c =
    let ends = c.delete_listed.ensures.ends in
    let stays = place_behind Deletes is_deletion _ _ c.delete_listed.result ends in
    let none = none_behind _ _ c.delete_listed.result ends in
    search rules

pub returns-clause-deletes : goal.returns-clause-deletes
returns-clause-deletes g c =
    let ends = c.delete_listed.ensures.ends in
    let stays = place_behind Deletes is_deletion _ _ c.delete_listed.result ends in
    let here = ends_nowhere Deletes is_deletion _ _ c.delete_listed.result ends in
    search rules

pub returns-clause-stays : goal.returns-clause-stays
returns-clause-stays g c =
    let stays = place_behind Deletes is_deletion _ _ c.delete_listed.result
    c.delete_listed.ensures.ends in
    search rules
