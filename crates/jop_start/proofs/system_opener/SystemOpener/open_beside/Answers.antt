-- What a box tells is what is in it tells, which was just made.
use Rattle.std.proofs.Common.{◌≡◌, ◌∙◌, Some, ap, refl, sym}
use Rattle.jop_start.proofs.Opened.{opens_as, untold_target}
use Rattle.jop_start.specs.Opening.{new_target}
use Rattle.jop_target.specs.Memory.{Memory}
use Rattle.jop_target.specs.Replies.{TargetNow}
use denote.Param.Object.{read_made}
use Rattle.jop_start.proofs.system_opener.SystemOpener.open_beside.OwnLists.{own-1, at-1-1, at-1-2, at-1-3, at-1-4}
use Rattle.jop_start.proofs.system_opener.SystemOpener.open_beside.Goals as goal

pub returns-in_ok-new-in-Mem-clause-works : goal.returns-in_ok-new-in-Mem-clause-works
returns-in_ok-new-in-Mem-clause-works g c =
    let boxed = read_made own-1 (own-1.entry at-1-1) at-1-1 refl TargetNow (λ j v. j.1.state v)
    _ _ _ c.into_dyn_box.ensures.1 in
    let made = ap (λ (m : Memory). record { store = Some m.store; faults = m.faults })
    (c.in_ok-new-in-Mem.ensures.ok ∙ c.new.ensures) in
    opens_as _ _ _ _ (boxed ∙ made ∙ ap new_target (sym c.in-Mem.is)) c.lend.ensures

pub returns-in_ok-new-in-Dir-clause-works : goal.returns-in_ok-new-in-Dir-clause-works
returns-in_ok-new-in-Dir-clause-works g c =
    let boxed = read_made own-1 (own-1.entry at-1-2) at-1-2 refl TargetNow (λ j v. j.1.state v)
    _ _ _ c.into_dyn_box-in_ok-new-in-Dir.ensures.1 in
    let faults : c.in_ok-new-in-Dir.field-0.value.faults ≡ 0 =
    cc (c.in_ok-new-in-Dir.ensures.ok, c.new-in-Dir-2.ensures) in
    opens_as _ _ _ _ (boxed ∙ ap untold_target faults ∙ ap new_target (sym c.in-Dir.is)) c.lend-in-Dir.ensures

pub returns-in_ok-new-in-Dav-clause-works : goal.returns-in_ok-new-in-Dav-clause-works
returns-in_ok-new-in-Dav-clause-works g c =
    let boxed = read_made own-1 (own-1.entry at-1-3) at-1-3 refl TargetNow (λ j v. j.1.state v)
    _ _ _ c.into_dyn_box-in_ok-new-in-Dav.ensures.1 in
    let faults : c.in_ok-new-in-Dav.field-0.value.faults ≡ 0 =
    cc (c.in_ok-new-in-Dav.ensures.ok, c.in_ok-server_target-in-Dav.ensures.2) in
    opens_as _ _ _ _ (boxed ∙ ap untold_target faults ∙ ap new_target (sym c.in-Dav.is)) c.lend-in-Dav.ensures

pub returns-in_ok-new-in-WebDav-clause-works : goal.returns-in_ok-new-in-WebDav-clause-works
returns-in_ok-new-in-WebDav-clause-works g c =
    let boxed = read_made own-1 (own-1.entry at-1-4) at-1-4 refl TargetNow (λ j v. j.1.state v)
    _ _ _ c.into_dyn_box-in_ok-new-in-WebDav.ensures.1 in
    let faults : c.in_ok-new-in-WebDav.field-0.value.faults ≡ 0 =
    cc (c.in_ok-new-in-WebDav.ensures.ok, c.in_ok-site_target-in-WebDav.ensures.2) in
    opens_as _ _ _ _ (boxed ∙ ap untold_target faults ∙ ap new_target (sym c.in-WebDav.is))
    c.lend-in-WebDav.ensures
