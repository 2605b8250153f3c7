use Rattle.std.specs.Prelude.{ℕ, List, option_map}
use Rattle.std.proofs.Common.{◌∙◌, ap}
use Rattle.std.specs.List.{find}
use Rattle.local_store.specs.declared.row.Row.{Row}
use Rattle.local_changes.specs.Tagging.{is_tag_of}
use Rattle.local_changes.proofs.Links.{tag_added, one_more_allowed}
use Rattle.local_changes.proofs.Unsealed.{tag_may}
use Rattle.local_changes.proofs.tag.tag_or_new.Goals as goal

pub returns-clause-added : goal.returns-clause-added
returns-clause-added c =
    tag_added (find (is_tag_of c.args.title) c.args.rows.now) c.args.id c.args.title c.args.now
    c.args.changes.now c.push.new.self c.in_ok-tag.tag
    (c.in_default.ensures
    ∙ ap (λ (t : List ℕ). option_map (λ (r : Row). r.id) (find (is_tag_of t) c.args.rows.now))
    c.as_str.ensures)
    c.in_ok-tag.ensures.made c.in_ok-push.ensures.ok

pub returns-clause-allowed : goal.returns-clause-allowed
returns-clause-allowed c =
    let made = c.in_ok-tag.ensures in
    one_more_allowed c.args.changes.now c.push.new.self c.args.id c.in_ok-tag.tag
    c.in_ok-push.ensures.ok
    (tag_may c.args.id c.args.title c.args.now c.in_ok-tag.tag made.made made.valid made.id)
