-- An item that was sealed is opened again.
use Rattle.std.proofs.Common.{◌≡◌, ℕ, Bool, true, false, ◌&&◌, not, codes, List, [], Option, Some, None, Result, Ok, Err, unwrap_or, if◌then◌else◌, sym, ap, ◌∙◌}
use Rattle.std.specs.Str.{IsUtf8}
use Rattle.item_text.proofs.Again.{reads_again}
use Rattle.item_text.proofs.Parted.{item_in-reads}
use Rattle.item_text.specs.Grammar.{item_in, written}
use Rattle.item_text.specs.Props.{is_text, value_of}
use Rattle.item_text.specs.Valid.{IsItem}
use Rattle.item_text.specs.declared.item.Item.{Item}
use Rattle.jed_format.specs.Jed.{jed_in}
use Rattle.jed_format.specs.Opening.{opened_text}
use Rattle.jed_format.specs.declared.jed.Jed.{Jed as Cipher}
use Rattle.jed_format.specs.declared.jed_err.JedErr.{JedErr}
use Rattle.jop_base.proofs.KeyedLaws.{bytes_eq-refl}
use Rattle.master_keys.proofs.Framed.{frame_cipher, frame_id}
use Rattle.master_keys.specs.Frames.{cipher_of, framed}
use Rattle.master_keys.specs.Opening.{has_id_of, inside, is_inside, open_by, opened_with, says_sealed}
use Rattle.master_keys.specs.Refusing.{by_jed, then_with}
use Rattle.master_keys.specs.Rings.{RingNow, digits_of}
use Rattle.master_keys.specs.declared.key_err.KeyErr.{KeyErr}
use Rattle.master_keys.specs.declared.key_err.KeyErr.TheVariants.{BadItem, NoKey}

inside_is : (outer inner : Item) (id : List ℕ) → value_of (codes "id") outer.props ≡ Some id
    → value_of (codes "id") inner.props ≡ Some id → says_sealed inner ≡ false
    → inside outer (Some inner) ≡ Ok inner
inside_is outer inner id out own clear =
    let named : has_id_of (value_of (codes "id") outer.props) inner ≡ true =
    ap (λ (v : Option (List ℕ)). has_id_of v inner) out ∙ ap (is_text id) own ∙ bytes_eq-refl id in
    let test : is_inside outer inner ≡ true =
    ap (λ (b : Bool). b && not (says_sealed inner)) named ∙ ap (λ (b : Bool). true && not b) clear in
    ap (λ (b : Bool). if b then Ok inner else Err BadItem) test

read_again : (item : Item) → IsItem item → IsUtf8 (written item) → item_in (written item) ≡ Some item
read_again item valid utf8 =
    let again = reads_again item valid utf8 in
    item_in-reads (written item) item again.0 again.1

-- what comes of a cipher text
abbrev pub with_cipher : RingNow → Item → Cipher → Result Item KeyErr
with_cipher ring outer cipher = opened_with outer cipher (digits_of ring cipher.key)

abbrev pub with_text : Item → List ℕ → Result Item KeyErr
with_text outer text = inside outer (item_in text)

pub opens_again : (ring : RingNow) (item : Item) (id cipher digits : List ℕ) (jed : Cipher)
    → IsItem item → IsUtf8 (written item) → says_sealed item ≡ false → value_of (codes "id") item.props ≡ Some id
    → jed_in cipher ≡ Ok jed → digits_of ring jed.key ≡ Some digits → opened_text digits jed ≡ Ok (written item)
    → open_by ring (framed item cipher) ≡ Ok item
opens_again ring item id cipher digits jed valid utf8 clear has read key opens =
    let outer : Item = framed item cipher in
    let same : cipher_of outer ≡ cipher =
    ap (λ (v : Option (List ℕ)). unwrap_or v []) (frame_cipher item cipher) in
    ap (λ (c : List ℕ). then_with (with_cipher ring outer) (by_jed (jed_in c))) same
    ∙ ap (λ (r : Result Cipher JedErr). then_with (with_cipher ring outer) (by_jed r)) read
    ∙ ap (opened_with outer jed) key
    ∙ ap (λ (r : Result (List ℕ) JedErr). then_with (with_text outer) (by_jed r)) opens
    ∙ ap (inside outer) (read_again item valid utf8)
    ∙ inside_is outer item id (frame_id item cipher id has) has clear

-- ---- how far opening comes

pub lacks_key : (ring : RingNow) (outer : Item) (cipher : Cipher) → jed_in (cipher_of outer) ≡ Ok cipher
    → None ≡ digits_of ring cipher.key → open_by ring outer ≡ Err (NoKey (Some cipher.key))
lacks_key ring outer cipher read key =
    ap (λ (r : Result Cipher JedErr). then_with (with_cipher ring outer) (by_jed r)) read
    ∙ ap (opened_with outer cipher) (sym key)

pub opens_text : (ring : RingNow) (outer : Item) (cipher : Cipher) (digits : List ℕ)
    → jed_in (cipher_of outer) ≡ Ok cipher → Some digits ≡ digits_of ring cipher.key
    → open_by ring outer ≡ then_with (with_text outer) (by_jed (opened_text digits cipher))
opens_text ring outer cipher digits read key =
    ap (λ (r : Result Cipher JedErr). then_with (with_cipher ring outer) (by_jed r)) read
    ∙ ap (opened_with outer cipher) (sym key)

pub opens_inside : (ring : RingNow) (outer : Item) (cipher : Cipher) (digits text : List ℕ)
    → jed_in (cipher_of outer) ≡ Ok cipher → Some digits ≡ digits_of ring cipher.key
    → opened_text digits cipher ≡ Ok text → open_by ring outer ≡ inside outer (item_in text)
opens_inside ring outer cipher digits text read key opens =
    opens_text ring outer cipher digits read key
    ∙ ap (λ (r : Result (List ℕ) JedErr). then_with (with_text outer) (by_jed r)) opens
