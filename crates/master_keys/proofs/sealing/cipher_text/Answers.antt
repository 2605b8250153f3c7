use Rattle.std.proofs.Common.{refl, ap}
use Rattle.jed_format.specs.declared.jed.Jed.{Jed}
use Rattle.master_keys.proofs.Ciphers.{cipher_drawn, cipher_opens}
use Rattle.master_keys.proofs.sealing.cipher_text.Goals as goal

pub returns-clause-cipher : goal.returns-clause-cipher
returns-clause-cipher g c =
    cipher_drawn c.args.item.now c.args.key.now c.args.digits.now c.args.digits.now c.in_ok-text.text c.in_ok-cipher.cipher
    c.in_ok-jed.jed _ _ refl c.in_ok-text.ensures c.in_ok-cipher.ensures.text c.in_ok-jed.ensures.text

pub returns-clause-opens : goal.returns-clause-opens
returns-clause-opens g c =
    cipher_opens c.args.item.now c.args.key.now c.args.digits.now c.args.digits.now c.in_ok-text.text c.in_ok-cipher.cipher
    c.in_ok-jed.jed (ap (λ (jed : Jed). jed.key) c.in_ok-jed.ensures.text.is) refl c.in_ok-text.ensures
    c.in_ok-cipher.ensures.reads_back c.in_ok-jed.ensures.sealed
