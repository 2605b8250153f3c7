use Rattle.std.proofs.Common.{sym, ◌∙◌}
use Rattle.target_upgrade.proofs.Infos.{key_more-valid}
use Rattle.target_upgrade.proofs.key.add_key.Goals as goal

pub returns-in_ok-push-clause-valid : goal.returns-in_ok-push-clause-valid
returns-in_ok-push-clause-valid c = key_more-valid c.args.info.now c.in-Some.key c.push.new.self
    c.requires.info (rw c.in-Some.is at c.requires.key) (sym c.has_key.ensures ∙
    c.if-not-has_key.true) c.in_ok-push.ensures.ok
