-- The cipher text of an item.
use Rattle.std.proofs.Common.{◌≡◌, ℕ, ◌*◌, false, codes, List, length, Option, Some, Ok, sym, ap, ◌∙◌}
use Rattle.item_text.specs.Grammar.{written}
use Rattle.item_text.specs.Props.{value_of}
use Rattle.item_text.specs.Valid.{IsItem}
use Rattle.item_text.specs.declared.item.Item.{Item}
use Rattle.jed_format.proofs.SealedTexts.{text_in-sealed}
use Rattle.jed_format.specs.Jed.{jed_in}
use Rattle.jed_format.specs.Opening.{opened_text}
use Rattle.jed_format.specs.Sealed.{IsSealedText}
use Rattle.jed_format.specs.Write.{jed_text}
use Rattle.jed_format.specs.declared.jed.Jed.{Jed}
use Rattle.jed_sealing.specs.Drawing.{IsMadeOfDrawn}
use Rattle.jed_sealing.specs.Sealing.{sealed_text}
use Rattle.jed_text.specs.Escape.{pieces_of}
use Rattle.std.specs.Str.{IsUtf8}
use Rattle.std.proofs.Common.{subst}
use Rattle.master_keys.proofs.Opened.{opens_again}
use Rattle.master_keys.specs.Frames.{framed}
use Rattle.master_keys.specs.Opening.{open_by, says_sealed}
use Rattle.master_keys.specs.Rings.{HasActive, RingNow, digits_of}
use Rattle.master_keys.specs.SealedUnder.{OpensUnder, cipher_text}

pub cipher_drawn : (item : Item) (key slice digits text cipher : List ℕ) (jed : Jed) (before after : Option (List ℕ))
    → slice ≡ digits → text ≡ written item → cipher ≡ jed_text jed
    → IsMadeOfDrawn (sealed_text key slice text) (24 * length (pieces_of text)) before jed after
    → IsMadeOfDrawn (cipher_text key digits item) (24 * length (pieces_of (written item))) before cipher after
cipher_drawn item key slice digits text cipher jed before after same own out drawn = record {
  bytes = drawn.bytes;
  long = drawn.long ∙ ap (λ (t : List ℕ). 24 * length (pieces_of t)) own;
  given = drawn.given;
  is = out ∙ ap jed_text (drawn.is ∙ ap (λ (d : List ℕ). sealed_text key d text drawn.bytes) same
      ∙ ap (λ (t : List ℕ). sealed_text key digits t drawn.bytes) own);
}

pub cipher_opens : (item : Item) (key slice digits text cipher : List ℕ) (jed : Jed) → jed.key ≡ key
    → slice ≡ digits → text ≡ written item → jed_in cipher ≡ Ok jed → IsSealedText slice text jed
    → OpensUnder key digits item cipher
cipher_opens item key slice digits text cipher jed named same own reads sealed = record {
  jed = jed;
  reads = reads;
  names = named;
  opens = ap (λ (d : List ℕ). opened_text d jed) (sym same)
      ∙ text_in-sealed slice text jed sealed.escaped sealed.utf8 sealed.valid sealed.sealed ∙ ap Ok own;
  utf8 = subst IsUtf8 own sealed.utf8;
}

-- a ring that has the digits of the active key opens what was sealed under it
pub sealed_opens : (ring other : RingNow) (item outer : Item) (key digits cipher own id : List ℕ) → IsItem item
    → HasActive ring key digits → OpensUnder key digits item cipher → outer ≡ framed item cipher
    → ring.active ≡ Some own → digits_of other own ≡ digits_of ring own → value_of (codes "id") item.props ≡ Some id
    → says_sealed item ≡ false → open_by other outer ≡ Ok item
sealed_opens ring other item outer key digits cipher own id valid has opens out active same named clear =
    let known : Some own ≡ Some key = sym active ∙ has.active in
    let own_is : own ≡ key = cc in
    let found : digits_of other opens.jed.key ≡ Some digits =
    ap (digits_of other) (opens.names ∙ sym own_is) ∙ same ∙ ap (digits_of ring) own_is ∙ has.opened in
    ap (open_by other) out
    ∙ opens_again other item id cipher digits opens.jed valid opens.utf8 clear named opens.reads found opens.opens
