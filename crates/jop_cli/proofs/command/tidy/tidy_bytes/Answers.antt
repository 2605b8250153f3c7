use Rattle.std.proofs.Common.{◌∙◌, ◌++◌, ap, refl, Ok, Err}
use Rattle.jop_cli.proofs.Tidied.{early_tidy, refused}
use Rattle.jop_cli.specs.Commands.Tidy.{item_err, tidy_status}
use Rattle.jop_cli.proofs.command.tidy.tidy_bytes.Goals as goal

pub returns-in-Ok-clause-tidies : goal.returns-in-Ok-clause-tidies
returns-in-Ok-clause-tidies g c = record {
  text = Ok (c.as_slice.result.now ++ (c.as_bytes.result.now ++ c.as_slice-in-Ok.result.now));
  tidies = rw (c.as_slice.ensures, c.as_bytes.ensures.value, c.as_slice-in-Ok.ensures) c.in-Ok.ensures;
  emits = c.emit_three.ensures.emits;
}

pub returns-in-Err-clause-tidies : goal.returns-in-Err-clause-tidies
returns-in-Err-clause-tidies g c = record {
  text = Err c.in-Err.error;
  tidies = refused _ _ c.in-Err.ensures;
  emits = record {
    emits = (
      c.from-in-Err.ensures ∙ ap tidy_status c.from.ensures,
      early_tidy (item_err c.in-Err.error),
      refl,
    );
    same = refl;
  };
}
