use Rattle.std.proofs.Common.{◌≡◌, true, false, ap, ◌∙◌}
use Rattle.std.proofs.lemmas.Bool.{false_from_ne_true}
use Rattle.std.proofs.lemmas.Str.{is_utf8-from_IsUtf8, IsUtf8-from_is_utf8}
use Rattle.std.specs.Str.{is_utf8}
use Rattle.jed_text.specs.Units.{units_of}
use Rattle.jed_text.proofs.units.units_in.Goals as goal

pub returns-in_ok-units-in-Ok : goal.returns-in_ok-units-in-Ok
returns-in_ok-units-in-Ok c =
    let bytes = c.args.bytes.now in
    let test : is_utf8 bytes ≡ true = is_utf8-from_IsUtf8 bytes c.in-Ok.ensures.cases.1 in
    rw test (c.in_ok-units-in-Ok.ensures ∙ ap units_of c.in-Ok.ensures.cases.0)

pub returns-in_ok-units-in-Err : goal.returns-in_ok-units-in-Err
returns-in_ok-units-in-Err c =
    let bytes = c.args.bytes.now in
    let test : is_utf8 bytes ≡ false =
    false_from_ne_true (is_utf8 bytes) (λ e. c.in-Err.ensures.cases.0 (IsUtf8-from_is_utf8 bytes e)) in
    rw test c.in_ok-units-in-Err.ensures
