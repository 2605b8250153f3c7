use Rattle.std.proofs.Common.{sym, ◌∙◌, ◌++◌}
use Rattle.dav_parts.specs.Targets.{dir_target}
use Rattle.dav_parts.specs.Multistatus.{heading, href_open, folder_close}
use Rattle.dav_parts.proofs.LineLemmas.{if_none, same_front}
use Rattle.dav_parts.proofs.multistatus_reader.after_folder.Goals as goal

pub returns-in-Some-clause-none : goal.returns-in-Some-clause-none
returns-in-Some-clause-none c =
    if_none c.after_both-in-Some.result _ _ (λ none rest e.
    none rest (same_front heading href_open _ _ c.args.text.now c.in-Some.text.now
    (dir_target c.args.dir ++ (folder_close ++ rest)) c.heading.ensures c.href_open.ensures
    c.in-Some.ensures.some e ∙ (λ i. sym c.dir_target.ensures i ++ (sym c.folder_close.ensures i
    ++ rest)))) c.after_both-in-Some.ensures.none
