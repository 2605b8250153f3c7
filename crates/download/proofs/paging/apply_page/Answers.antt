use Rattle.std.proofs.Common.{rules}
use Rattle.download.proofs.Paged.{download_nowhere, lease_download, place_download, ready_download}
use Rattle.download.proofs.paging.apply_page.Goals as goal

pub returns-clause-ready : goal.returns-clause-ready
returns-clause-ready g c =
    let ends = c.apply_listed.ensures.ends in
    let stays = place_download _ _ c.apply_listed.result ends in
    let ready = ready_download _ _ c.apply_listed.result ends in
    search rules

pub returns-clause-lease : goal.returns-clause-lease
returns-clause-lease g c =
    let ends = c.apply_listed.ensures.ends in
    let stays = place_download _ _ c.apply_listed.result ends in
    let same = lease_download _ _ c.apply_listed.result ends in
    search rules

pub returns-clause-ends : goal.returns-clause-ends
returns-clause-ends g c =
    let ends = c.apply_listed.ensures.ends in
    let stays = place_download _ _ c.apply_listed.result ends in
    let here = download_nowhere _ _ c.apply_listed.result ends in
    search rules

pub returns-clause-stays : goal.returns-clause-stays
returns-clause-stays g c =
    let stays = place_download _ _ c.apply_listed.result c.apply_listed.ensures.ends in
    search rules

pub returns-clause-emptied : goal.returns-clause-emptied
returns-clause-emptied g c =
    let emptied = c.apply_listed.ensures.emptied in
    let stays = place_download _ _ c.apply_listed.result c.apply_listed.ensures.ends in
    search rules
