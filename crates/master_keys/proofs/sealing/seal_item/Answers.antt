use Rattle.std.proofs.Common.{List, ℕ, sym, ap, subst, ◌∙◌}
use Rattle.item_text.specs.Valid.{IsItem}
use Rattle.master_keys.proofs.Ciphers.{sealed_opens}
use Rattle.master_keys.proofs.Framed.{frame_sealed, frame_valid}
use Rattle.master_keys.specs.Opening.{says_sealed}
use Rattle.master_keys.specs.Rings.{HasActive}
use Rattle.master_keys.proofs.sealing.seal_item.Goals as goal

pub returns-clause-valid : goal.returns-clause-valid
returns-clause-valid g c =
    subst IsItem (sym c.in_ok-outer.ensures)
    (frame_valid c.args.item.now c.in_ok-cipher.cipher c.requires c.in_ok-cipher.ensures.visible)

pub returns-clause-sealed : goal.returns-clause-sealed
returns-clause-sealed g c =
    ap says_sealed c.in_ok-outer.ensures ∙ frame_sealed c.args.item.now c.in_ok-cipher.cipher

pub returns-clause-opens : goal.returns-clause-opens
returns-clause-opens g c = λ other key id active same named clear.
    let ring = c.args.ring.now in
    let P : List ℕ → Type 0 = HasActive ring c.in_ok-key.key in
    sealed_opens ring other c.args.item.now c.in_ok-outer.outer c.in_ok-key.key c.as_slice.result.now c.in_ok-cipher.cipher
    key id c.requires (subst P (sym c.as_slice.ensures) c.in_ok-key.ensures.ok) c.in_ok-cipher.ensures.opens
    c.in_ok-outer.ensures active same named clear
