-- The conflict note of a number.
use Rattle.std.specs.Prelude.{ℕ, ◌≡◌, List, [], ◌∷◌, All, Bool, true, false, ◌||◌, Option, Some, None, if◌then◌else◌}
use Rattle.std.specs.Borrow.{Bor}
use Rattle.std.specs.List.{find, list_any}
use Rattle.std.specs.Option.{option_copied}
use Rattle.std.proofs.Common.{sym, ◌∙◌, ap, subst, refl}
use Rattle.std.proofs.lemmas.List.Elements.{All-head, All-tail}
use Rattle.item_text.specs.Valid.{IsItem}
use Rattle.local_store.specs.Sound.{IsSoundNote}
use Rattle.local_store.specs.declared.conflict_note.ConflictNote.{ConflictNote}
use Rattle.local_commands.specs.Commands.Clear.{ChecksNumber, has_number}
use Rattle.local_commands.specs.declared.local_err.LocalErr.TheVariants.{NoConflict}

-- the note that is found is one of them
sound_of : (number : ℕ) (notes : List ConflictNote) (n : ConflictNote) → All IsSoundNote notes
    → find (has_number number) notes ≡ Some n → IsItem n.item
sound_of number [] n sound is = absurd (cc is)
sound_of number (first ∷ notes) n sound is =
    by (has_number number first) is (sound_of number notes n (All-tail IsSoundNote first notes sound)) where
      by : (b : Bool) → (if b then Some first else find (has_number number) notes) ≡ Some n
          → (find (has_number number) notes ≡ Some n → IsItem n.item) → IsItem n.item
      by true is later =
          let same : first ≡ n = cc is in
          subst (λ (m : ConflictNote). IsItem m.item) same (All-head IsSoundNote first notes sound)
      by false is later = later is

pub found_sound : (number : ℕ) (notes lent : List ConflictNote) (n : Bor ConflictNote)
    (found : Option (Bor ConflictNote)) → All IsSoundNote notes → lent ≡ notes
    → option_copied found ≡ find (has_number number) lent → found ≡ Some n → IsItem n.now.item
found_sound number notes lent n found sound same finds is =
    sound_of number notes n.now sound
    (ap (λ (ns : List ConflictNote). find (has_number number) ns) (sym same)
    ∙ (sym finds ∙ ap (λ (o : Option (Bor ConflictNote)). option_copied o) is))

-- where one has the number, one is found
any_found : (number : ℕ) (notes : List ConflictNote) → list_any (has_number number) notes ≡ true
    → find (has_number number) notes ≡ None → ⊥
any_found number [] some none = cc some
any_found number (first ∷ notes) some none =
    by (has_number number first) some none (any_found number notes) where
      by : (b : Bool) → (b || list_any (has_number number) notes) ≡ true
          → (if b then Some first else find (has_number number) notes) ≡ None
          → (list_any (has_number number) notes ≡ true → find (has_number number) notes ≡ None → ⊥) → ⊥
      by true some none later = cc none
      by false some none later = later some none

has_some : (b : Bool) (number : ℕ) → None ≡ (if b then None else Some (NoConflict number)) → b ≡ true
has_some true number passed = refl
has_some false number passed = absurd (cc passed)

pub none_found : (number : ℕ) (notes lent : List ConflictNote) (found : Option (Bor ConflictNote))
    → ChecksNumber notes number None → lent ≡ notes
    → option_copied found ≡ find (has_number number) lent → found ≡ None → ⊥
none_found number notes lent found passed same finds is =
    any_found number notes (has_some (list_any (has_number number) notes) number passed)
    (ap (λ (ns : List ConflictNote). find (has_number number) ns) (sym same)
    ∙ (sym finds ∙ ap (λ (o : Option (Bor ConflictNote)). option_copied o) is))
