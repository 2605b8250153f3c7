-- What the parts of the reader say together.
use Rattle.std.proofs.Common.{◌≡◌, ℕ, ◌+◌, ◌-◌, ◌≤◌, List, ◌∷◌, length, map, true, Option, Some, None, Ok, Err, Bor, refl, sym, ap, ◌∙◌, subst, arith, inl, inr}
use Rattle.std.specs.List.{list_all}
use Rattle.std.specs.Str.{IsUtf8, is_utf8}
use Rattle.std.proofs.lemmas.Str.{is_utf8-from_IsUtf8, IsUtf8-from_is_utf8}
use Rattle.std.proofs.lemmas.Bool.{cond-true, cond-false, false_from_ne_true}
use Rattle.std.proofs.lemmas.List.{length-append}
use Rattle.item_text.specs.declared.item.Item.{Item}
use Rattle.item_text.specs.declared.bad_item.BadItem.{BadItem}
use Rattle.item_text.specs.declared.bad_item.BadWhy.TheVariants.{NotText}
use Rattle.item_text.specs.declared.bad_item.ItemErr.TheVariants as errors
use Rattle.item_text.specs.Lines.{has, lines}
use Rattle.item_text.specs.Grammar.{AreParts, pair_of, item_of_lines, ReadsAs, block, or_else, type_fault, block_fault, lines_fault, first_fault}
use Rattle.item_text.specs.Answers.{ReadsOrRefuses}
use Rattle.item_text.specs.Steps.{lines_of, IsBlock}
use Rattle.item_text.proofs.Walked.{block_of_parts, colon_none}

pub fault_text : (bytes : List ℕ) → IsUtf8 bytes → first_fault bytes ≡ lines_fault (lines bytes)
unfolding first_fault
fault_text bytes utf8 =
    cond-true (is_utf8 bytes) (lines_fault (lines bytes))
    (Some (record { line = 0; why = NotText })) (is_utf8-from_IsUtf8 bytes utf8)

pub fault_bytes : (bytes : List ℕ) → (IsUtf8 bytes → ⊥)
    → first_fault bytes ≡ Some (record { line = 0; why = NotText })
unfolding first_fault
fault_bytes bytes h =
    cond-false (is_utf8 bytes) (lines_fault (lines bytes))
    (Some (record { line = 0; why = NotText }))
    (false_from_ne_true (is_utf8 bytes) (λ yes. h (IsUtf8-from_is_utf8 bytes yes)))

length_parts : (all above below : List (List ℕ)) → AreParts all above below
    → length below ≤ length all
length_parts all above below parts =
    elim parts.1 [
      | inl cut ↦ omega
          (arith, ap (λ (x : List (List ℕ)). length x) cut.2, length-append above (cut.0 ∷ below))
      | inr whole ↦ omega (arith, ap (λ (x : List (List ℕ)). length x) whole.1)
    ]

pub length_block : (all : List (List ℕ)) (above block : Option (Bor (List ℕ)))
    → IsBlock all above block
    → length (lines_of block) ≤ length all
length_block all above block b = length_parts all (lines_of above) (lines_of block) b.0

-- once each line has a colon, only the type can be refused
pub fault_parts : (all above below : List (List ℕ)) → AreParts all above below
    → list_all (has 58) below ≡ true
    → lines_fault all ≡ type_fault (length all - length below + 1) (map pair_of below)
unfolding lines_fault block_fault
fault_parts all above below parts colons =
    let n : ℕ = length all - length below + 1 in
    ap (λ (x : List (List ℕ)). block_fault (length all - length x + 1) x)
    (block_of_parts all above below parts)
    ∙ ap (λ (o : Option BadItem). or_else o (type_fault n (map pair_of below)))
    (colon_none n below colons)

-- a text of lines that nothing refuses
pub reads_parts : (bytes : List ℕ) (above block : Option (Bor (List ℕ))) → IsUtf8 bytes
    → IsBlock (lines bytes) above block
    → ReadsAs bytes (item_of_lines (lines_of above) (lines_of block))
unfolding ReadsAs
reads_parts bytes above block utf8 b = (utf8, (lines_of above, lines_of block, b.0, refl))

-- the refusal of the type, whatever it is, is that of the text
pub fault_type : (bytes : List ℕ) (above block : Option (Bor (List ℕ))) (bad : Option BadItem)
    → IsUtf8 bytes
    → IsBlock (lines bytes) above block
    → bad ≡ type_fault (length (lines bytes) - length (lines_of block) + 1)
    (map pair_of (lines_of block))
    → first_fault bytes ≡ bad
fault_type bytes above block bad utf8 b is =
    fault_text bytes utf8 ∙ fault_parts (lines bytes) (lines_of above) (lines_of block) b.0 b.1
    ∙ sym is

pub answered_bad : (bytes : List ℕ) (bad : BadItem) → IsUtf8 bytes
    → lines_fault (lines bytes) ≡ Some bad
    → ReadsOrRefuses bytes (Err (errors.Bad bad))
unfolding ReadsOrRefuses
answered_bad bytes bad utf8 h = fault_text bytes utf8 ∙ h

pub answered_ok : (bytes : List ℕ) (above block : Option (Bor (List ℕ))) (item : Item)
    → IsUtf8 bytes
    → IsBlock (lines bytes) above block → item ≡ item_of_lines (lines_of above) (lines_of block)
    → first_fault bytes ≡ None
    → ReadsOrRefuses bytes (Ok item)
unfolding ReadsOrRefuses
answered_ok bytes above block item utf8 b is good =
    let P : Item → Type 0 = ReadsAs bytes in
    (subst P (sym is) (reads_parts bytes above block utf8 b), good)
