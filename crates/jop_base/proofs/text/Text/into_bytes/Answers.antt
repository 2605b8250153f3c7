use Rattle.std.proofs.Common.{◌≡◌, ℕ, List, sym, subst}
use Rattle.std.specs.Prelude.{string_bytes}
use Rattle.std.specs.Str.{IsUtf8}
use Rattle.std.proofs.lemmas.Str.{IsUtf8-string_bytes}
use Rattle.jop_base.proofs.text.Text.into_bytes.Goals as goal

pub returns-clause-utf8 : goal.returns-clause-utf8
returns-clause-utf8 c =
    let same : c.from_vec.result ≡ string_bytes c.self.inside.letters =
    cc (c.into_bytes.ensures.value, c.from_vec.ensures) in
    let P : List ℕ → Type 0 = λ bytes. IsUtf8 bytes in
    subst P (sym same) (IsUtf8-string_bytes c.self.inside.letters)
