use Rattle.std.proofs.Common.{subst}
use Rattle.std.proofs.lemmas.Result.{err_from_is_err_and}
use Rattle.key_commands.proofs.Steps.{cut_off, use_unkept}
use Rattle.key_commands.specs.Stages.{IsSet}
use Rattle.local_store.specs.declared.change.Change.TheVariants.{InfoIs}
use Rattle.sync_info.specs.declared.info.Info.{Info}
use Rattle.key_commands.proofs.command.use_key.activate.Goals as goal

pub returns-in_err-now-clause-uses : goal.returns-in_err-now-clause-uses
returns-in_err-now-clause-uses g c =
    let p = err_from_is_err_and c.from_residual.result c.from_residual.ensures.1 in
    rw (p.1, p.2) (record { failed = c.in_err-now.field-0.0; tells = c.in_err-now.ensures.tells })

pub returns-in_err-info-clause-uses : goal.returns-in_err-info-clause-uses
returns-in_err-info-clause-uses g c =
    let p = err_from_is_err_and c.from_residual-in_err-info.result c.from_residual-in_err-info.ensures.1 in
    rw (p.1, p.2) (cut_off c.args.id.now c.args.info.now _ _ _ c.in_ok-now.ensures.tells)

pub returns-in_err-commit-clause-uses : goal.returns-in_err-commit-clause-uses
returns-in_err-commit-clause-uses g c =
    let p = err_from_is_err_and c.from_residual-in_err-commit.result c.from_residual-in_err-commit.ensures.1 in
    rw (p.1, p.2)
    (use_unkept c.args.id.now c.args.info.now (InfoIs c.in_ok-info.info) (g.V.Outside.now c.args.vault.now)
    (g.V.Outside.now c.time.new.self) (g.V.Outside.now c.commit.new.self) _ _ c.in_ok-now.ensures.tells
    c.in_err-commit.ensures.commits)

pub returns-clause-uses : goal.returns-clause-uses
returns-clause-uses g c = record {
  now = c.in_ok-now.now;
  mid = g.V.Outside.now c.time.new.self;
  timed = record { tells = c.in_ok-now.ensures.tells };
  set = subst (λ (i : Info). IsSet i (g.V.Outside.now c.time.new.self) (g.V.Outside.now c.commit.new.self))
      c.in_ok-info.ensures.made c.in_ok-commit.ensures.commits;
  prints = c.new.ensures;
}
