-- What the tests on items say, and that a file's content is sound.
use Rattle.std.specs.Prelude.{ℕ, ◌≡◌, List, Bool, true, false, codes, if◌then◌else◌, Option, Some, None, IfSome, option_map, refl}
use Rattle.std.proofs.Common.{sym, ap, ◌∙◌}
use Rattle.jop_base.proofs.KeyedLaws.{same_text, bytes_eq-refl}
use Rattle.jop_base.specs.Id.{IsIdText}
use Rattle.item_text.specs.Props.{value_of, is_text}
use Rattle.item_text.specs.Valid.{IsItem}
use Rattle.item_text.specs.declared.item.Item.{Item}
use Rattle.law_licences.specs.Items.{content_without_keys, says}
use Rattle.local_store.specs.Sound.{IsContentOf, IsItemOf}
use Rattle.local_store.specs.declared.content.Content.TheVariants.{Plain, Sealed}

is_text-true : (text : List ℕ) (value : Option (List ℕ)) → is_text text value ≡ true
    → value ≡ Some text
is_text-true text None h = absurd cc
is_text-true text (Some other) h = ap (λ (t : List ℕ). Some t) (same_text other text h)

is_text-false : (text : List ℕ) (value : Option (List ℕ)) → is_text text value ≡ false
    → value ≡ Some text → ⊥
is_text-false text value h is =
    let e : true ≡ false =
    sym (bytes_eq-refl text) ∙ (ap (is_text text) (sym is) ∙ h) in
    cc

sound_if : (sealed : Bool) (id : List ℕ) (item : Item)
    → is_text (codes "1") (value_of (codes "encryption_applied") item.props) ≡ sealed
    → IsItemOf id item → IsContentOf id (if sealed then Sealed item else Plain item)
sound_if true id item h of_id =
    (of_id, is_text-true (codes "1") (value_of (codes "encryption_applied") item.props) h)
sound_if false id item h of_id =
    (of_id, is_text-false (codes "1") (value_of (codes "encryption_applied") item.props) h)

sound_of : (same : Bool) (id : List ℕ) (item : Item)
    → is_text id (value_of (codes "id") item.props) ≡ same → IsItem item → IsIdText id
    → IfSome (option_map content_without_keys (if same then Some item else None)) (IsContentOf id)
sound_of true id item h valid digits =
    let has : value_of (codes "id") item.props ≡ Some id =
    is_text-true id (value_of (codes "id") item.props) h in
    sound_if (says (codes "encryption_applied") (codes "1") item) id item refl
    (record { valid = valid; has_id = (has, digits) })
sound_of false id item h valid digits = tt
