use Rattle.std.proofs.Common.{subst}
use Rattle.std.proofs.lemmas.Result.{err_from_is_err_and}
use Rattle.key_commands.proofs.Steps.{dropped, new_unkept, undated}
use Rattle.key_commands.specs.Stages.{IsSet}
use Rattle.local_store.specs.declared.change.Change.TheVariants.{InfoIs}
use Rattle.sync_info.specs.declared.info.Info.{Info}
use Rattle.key_commands.proofs.command.new.new_key.Goals as goal

pub returns-in_err-key-clause-makes : goal.returns-in_err-key-clause-makes
returns-in_err-key-clause-makes g c =
    let p = err_from_is_err_and c.from_residual.result c.from_residual.ensures.1 in
    rw (p.1, p.2) (undated c.args.password.now c.args.info.now _ _ _ c.in_err-key.ensures.makes)

pub returns-in_err-text-clause-makes : goal.returns-in_err-text-clause-makes
returns-in_err-text-clause-makes g c =
    let p = err_from_is_err_and c.from_residual-in_err-text.result c.from_residual-in_err-text.ensures.1 in
    rw (p.1, p.2) (dropped c.args.password.now c.args.info.now _ _ _ _ c.in_ok-key.ensures.makes)

pub returns-in_err-info-clause-makes : goal.returns-in_err-info-clause-makes
returns-in_err-info-clause-makes g c =
    let p = err_from_is_err_and c.from_residual-in_err-info.result c.from_residual-in_err-info.ensures.1 in
    rw (p.1, p.2) (dropped c.args.password.now c.args.info.now _ _ _ _ c.in_ok-key.ensures.makes)

pub returns-in_err-commit-clause-makes : goal.returns-in_err-commit-clause-makes
returns-in_err-commit-clause-makes g c =
    let p = err_from_is_err_and c.from_residual-in_err-commit.result c.from_residual-in_err-commit.ensures.1 in
    rw (p.1, p.2)
    (new_unkept c.args.password.now c.args.info.now (InfoIs c.in_ok-info.info) (g.V.Outside.now c.args.vault.now)
    (g.V.Outside.now c.make_dated.new.vault) (g.V.Outside.now c.commit.new.self) _ _ _ c.in_ok-key.ensures.makes
    c.in_err-commit.ensures.commits)

pub returns-clause-makes : goal.returns-clause-makes
returns-clause-makes g c = record {
  key = _;
  now = _;
  mid = g.V.Outside.now c.make_dated.new.vault;
  made = c.in_ok-key.ensures.makes;
  set = subst (λ (i : Info). IsSet i (g.V.Outside.now c.make_dated.new.vault) (g.V.Outside.now c.commit.new.self))
      c.in_ok-info.ensures.made c.in_ok-commit.ensures.commits;
  prints = c.in_ok-text.ensures;
}
