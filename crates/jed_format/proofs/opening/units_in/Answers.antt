use Rattle.std.proofs.Common.{◌≡◌, true, false, Some, ap, ◌∙◌}
use Rattle.std.proofs.lemmas.Bool.{false_from_ne_true}
use Rattle.std.proofs.lemmas.Str.{is_utf8-from_IsUtf8, IsUtf8-from_is_utf8}
use Rattle.std.specs.Str.{is_utf8}
use Rattle.jed_format.specs.Opening.{units_under}
use Rattle.jed_format.proofs.opening.units_in.Goals as goal

pub returns-in_ok-units-in-Ok : goal.returns-in_ok-units-in-Ok
returns-in_ok-units-in-Ok c =
    let piece = c.args.piece.now in
    let test : is_utf8 piece ≡ true = is_utf8-from_IsUtf8 piece c.in-Ok.ensures.cases.1 in
    rw test (ap Some (c.in_ok-units-in-Ok.ensures ∙ ap (units_under c.args.method) c.in-Ok.ensures.cases.0))

pub returns-in-Err : goal.returns-in-Err
returns-in-Err c =
    let piece = c.args.piece.now in
    let test : is_utf8 piece ≡ false =
    false_from_ne_true (is_utf8 piece) (λ e. c.in-Err.ensures.cases.0 (IsUtf8-from_is_utf8 piece e)) in
    rw test
