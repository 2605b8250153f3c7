use Rattle.std.proofs.Common.{◌∷◌, [], ◌∙◌, ap, refl}
use Rattle.std.proofs.lemmas.Str.{is_utf8-from_IsUtf8}
use Rattle.std.specs.Str.{is_utf8}
use Rattle.jop_base.proofs.DecimalLaws.{digits_utf8}
use Rattle.target_upgrade.proofs.step.Step.call.Goals as goal

pub returns-in_ok-bytes_of-in-PutsOne-clause-text :
    goal.returns-in_ok-bytes_of-in-PutsOne-clause-text
returns-in_ok-bytes_of-in-PutsOne-clause-text c =
    ap is_utf8 c.in_ok-bytes_of-in-PutsOne.ensures
    ∙ is_utf8-from_IsUtf8 (49 ∷ []) (digits_utf8 (49 ∷ []) refl)

pub returns-in_ok-bytes_of-in-PutsTwo-clause-text :
    goal.returns-in_ok-bytes_of-in-PutsTwo-clause-text
returns-in_ok-bytes_of-in-PutsTwo-clause-text c =
    ap is_utf8 c.in_ok-bytes_of-in-PutsTwo.ensures
    ∙ is_utf8-from_IsUtf8 (50 ∷ []) (digits_utf8 (50 ∷ []) refl)
