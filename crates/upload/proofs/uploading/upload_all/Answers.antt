use Rattle.std.proofs.Common.{rules}
use Rattle.session.proofs.Behind.{lease_behind, place_behind, ready_behind}
use Rattle.session.proofs.Recast.{ends_nowhere}
use Rattle.upload.specs.Uploading.{Uploads, is_upload}
use Rattle.upload.proofs.uploading.upload_all.Goals as goal

pub returns-clause-ready : goal.returns-clause-ready
returns-clause-ready g c =
    let P = Uploads (g.S.Client.site c.args.site.now).keeper.kept in
    let ends = c.upload_waiting.ensures.ends in
    let stays = place_behind P is_upload _ _ c.upload_waiting.result ends in
    let ready = ready_behind P is_upload _ _ c.upload_waiting.result ends in
    search rules

pub returns-clause-lease : goal.returns-clause-lease
returns-clause-lease g c =
    let P = Uploads (g.S.Client.site c.args.site.now).keeper.kept in
    let ends = c.upload_waiting.ensures.ends in
    let stays = place_behind P is_upload _ _ c.upload_waiting.result ends in
    let same = lease_behind P is_upload _ _ c.upload_waiting.result ends in
    search rules

pub returns-clause-settled : goal.returns-clause-settled
returns-clause-settled g c =
    let P = Uploads (g.S.Client.site c.args.site.now).keeper.kept in
    let stays = place_behind P is_upload _ _ c.upload_waiting.result
    c.upload_waiting.ensures.ends in
    search rules

pub returns-clause-ends : goal.returns-clause-ends
returns-clause-ends g c =
    let P = Uploads (g.S.Client.site c.args.site.now).keeper.kept in
    let ends = c.upload_waiting.ensures.ends in
    let stays = place_behind P is_upload _ _ c.upload_waiting.result ends in
    let here = ends_nowhere P is_upload _ _ c.upload_waiting.result ends in
    search rules

pub returns-clause-stays : goal.returns-clause-stays
returns-clause-stays g c =
    let P = Uploads (g.S.Client.site c.args.site.now).keeper.kept in
    let stays = place_behind P is_upload _ _ c.upload_waiting.result
    c.upload_waiting.ensures.ends in
    search rules
