-- Ids of one digit alone.
use Rattle.std.specs.Prelude.{ℕ, ◌≡◌, true, refl}
use Rattle.std.proofs.Math.ListN.{replicate}
use Rattle.std.proofs.lemmas.List.Elements.{All-replicate}
use Rattle.jop_base.specs.Id.{IsIdText, is_digit}

pub repeated_id : (digit : ℕ) → is_digit digit ≡ true → IsIdText (replicate 32 digit)
repeated_id digit is = record {
  long = refl;
  digits = All-replicate (λ d. is_digit d ≡ true) 32 digit is;
}
