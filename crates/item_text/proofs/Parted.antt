-- The item that bytes read to, beside what they read as.
use Rattle.std.proofs.Common.{◌≡◌, ℕ, Bool, true, false, List, [], ◌∷◌, Option, Some, None, Result, Ok, Err, IfOk, refl, sym, ap, ◌∙◌, subst, inl, inr}
use Rattle.std.specs.List.{list_all}
use Rattle.std.specs.Str.{IsUtf8, is_utf8}
use Rattle.std.proofs.lemmas.Bool.{and_from, cases_Bool, cond-false, false≢true}
use Rattle.std.proofs.lemmas.Str.{IsUtf8-from_is_utf8}
use Rattle.item_text.specs.declared.bad_item.BadItem.{BadItem}
use Rattle.item_text.specs.declared.bad_item.ItemErr.{ItemErr}
use Rattle.item_text.specs.declared.item.Item.{Item}
use Rattle.item_text.specs.Answers.{ReadsOrRefuses}
use Rattle.item_text.specs.Lines.{lines, has_text}
use Rattle.item_text.specs.Grammar.{AreParts, item_of_lines, ReadsAs, block, above_block, first_fault, unless_bad, item_in}
use Rattle.item_text.proofs.Walked.{block_whole}
use Rattle.item_text.proofs.One.{reads_one}

abbrev Lines : Type 0
Lines = List (List ℕ)

abbrev PartsOf : Lines → Type 0
PartsOf ls = AreParts ls (above_block ls) (block ls)

-- a line above an empty one is above the block
above_more : (line : List ℕ) (ls : Lines) → list_all has_text ls ≡ false → PartsOf ls
    → AreParts (line ∷ ls) (line ∷ above_block ls) (block ls)
above_more line ls some parts = (
  parts.0,
  elim parts.1 [
    | inl cut ↦ inl (cut.0, cut.1, ap (λ (x : Lines). line ∷ x) cut.2)
    | inr whole ↦ absurd (false≢true (sym some ∙ ap (list_all has_text) whole.1 ∙ parts.0))
  ],
)

one_more : (line : List ℕ) (ls : Lines) (text all : Bool) → has_text line ≡ text
    → list_all has_text ls ≡ all → PartsOf ls → PartsOf (line ∷ ls)
unfolding block above_block
one_more line ls true true text all parts =
    rw (text, all) (and_from (has_text line) (list_all has_text ls) text all, inr (refl, refl))
one_more line ls false true text all parts =
    let P : Lines → Type 0 = AreParts (line ∷ ls) [] in
    rw (text, all) (subst P (sym (block_whole ls all)) (all, inl (line, text, refl)))
one_more line ls true false text all parts = rw (text, all) (above_more line ls all parts)
one_more line ls false false text all parts = rw (text, all) (above_more line ls all parts)

pub parts_of : (ls : Lines) → PartsOf ls
unfolding block above_block
parts_of [] = (refl, inr (refl, refl))
parts_of (line ∷ ls) =
    one_more line ls (has_text line) (list_all has_text ls) refl refl (parts_of ls)

bytes_are_text : (bytes : List ℕ) → first_fault bytes ≡ None → IsUtf8 bytes
unfolding first_fault
bytes_are_text bytes good =
    elim (cases_Bool (is_utf8 bytes)) [
      | inl is ↦ IsUtf8-from_is_utf8 bytes is
      | inr isnt ↦ absurd (let bad = sym (cond-false (is_utf8 bytes) _ _ isnt) ∙ good in cc)
    ]

-- the parts of the text make an item that it reads as
abbrev whole_of : List ℕ → Item
whole_of bytes = item_of_lines (above_block (lines bytes)) (block (lines bytes))

whole : (bytes : List ℕ) → first_fault bytes ≡ None → ReadsAs bytes (whole_of bytes)
unfolding ReadsAs
whole bytes good =
    let ls : Lines = lines bytes in
    (bytes_are_text bytes good, (above_block ls, block ls, parts_of ls, refl))

unless_some : (bad : Option BadItem) (made item : Item) → unless_bad bad made ≡ Some item
    → (bad ≡ None) × (made ≡ item)
unless_some None made item is = (refl, cc)
unless_some (Some bad) made item is = absurd (cc)

pub reads_from_item_in : (bytes : List ℕ) (item : Item) → item_in bytes ≡ Some item
    → ReadsAs bytes item × (first_fault bytes ≡ None)
unfolding item_in
reads_from_item_in bytes item is =
    let parts = unless_some (first_fault bytes) (whole_of bytes) item is in
    let P : Item → Type 0 = ReadsAs bytes in
    (subst P parts.1 (whole bytes parts.0), parts.0)

pub item_in-reads : (bytes : List ℕ) (item : Item) → ReadsAs bytes item → first_fault bytes ≡ None
    → item_in bytes ≡ Some item
unfolding item_in
item_in-reads bytes item reads good =
    ap (λ bad. unless_bad bad (whole_of bytes)) good
    ∙ ap Some (reads_one bytes _ item (whole bytes good) reads)

pub item_in-refused : (bytes : List ℕ) (bad : BadItem) → first_fault bytes ≡ Some bad
    → item_in bytes ≡ None
unfolding item_in
item_in-refused bytes bad is = ap (λ o. unless_bad o (whole_of bytes)) is

pub answer_item : (bytes : List ℕ) (result : Result Item ItemErr) → ReadsOrRefuses bytes result
    → IfOk result (λ item. item_in bytes ≡ Some item)
unfolding ReadsOrRefuses
answer_item bytes (Ok item) h = item_in-reads bytes item h.0 h.1
answer_item bytes (Err e) h = tt
