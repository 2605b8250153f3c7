use Rattle.std.proofs.Common.{sym}
use Rattle.local_changes.proofs.Links.{link_added, one_more_allowed}
use Rattle.local_changes.proofs.Unsealed.{note_tag_may}
use Rattle.local_changes.proofs.tag.add_link.Goals as goal

pub returns-clause-added : goal.returns-clause-added
returns-clause-added c =
    link_added c.args.changes.now c.push.new.self c.args.rows.now c.args.id c.args.note.now
    c.args.tag.now c.args.now c.in_ok-link.link (sym c.if-has_link.ensures)
    c.in_ok-link.ensures.made c.in_ok-push.ensures.ok

pub returns-clause-allowed : goal.returns-clause-allowed
returns-clause-allowed c =
    let made = c.in_ok-link.ensures in
    one_more_allowed c.args.changes.now c.push.new.self c.args.id c.in_ok-link.link
    c.in_ok-push.ensures.ok
    (note_tag_may c.args.id c.args.note.now c.args.tag.now c.args.now c.in_ok-link.link
    made.made made.valid made.id)
