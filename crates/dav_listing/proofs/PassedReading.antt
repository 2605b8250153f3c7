-- Text, entities, and elements that are passed over.
use Rattle.std.proofs.Common.{◌≡◌, ◌∙◌, refl, sym, ap, arith, ℕ, suc, ◌+◌, ◌-◌, ◌≤◌, List, [], ◌∷◌, ◌++◌, length, false, None, append-nil, append_assoc, length-append}
use Rattle.std.specs.Prelude.{◌==◌, ◌||◌, nat_lt}
use Rattle.std.specs.List.{list_any}
use Rattle.std.proofs.lemmas.Bool.{cond-true, cond-false}
use Rattle.std.proofs.lemmas.Bool.Decides.{nat_tests}
use Rattle.dav_listing.specs.Lexing.{effect_of}
use Rattle.dav_listing.specs.Multistatus.{Progress, after_effect, back_in_text, element_begun, done_with, entity_ended, gone_wrong, one_on, passed_deeper, progress_behind, reached, text_on, unmarked}
use Rattle.dav_listing.specs.Tags.{PassOver, Passed, calls, ends, passed_text, passed_texts, says, stands, starts}
use Rattle.dav_listing.specs.declared.mode.Mode.TheVariants as modes
use Rattle.dav_listing.specs.declared.mode.Effect.{Effect}
use Rattle.dav_listing.specs.declared.mode.Effect.TheVariants as effects
use Rattle.dav_listing.specs.declared.multistatus_reader.MultistatusReader.{MultistatusReader}
use Rattle.dav_listing.proofs.TagReading.{at_tag, empty_reads, end_reads, named, or_parts, start_reads, tagging, then_rest}

-- a reader in text, with so many elements open that are passed over
abbrev pub over_at : Progress → ℕ → Progress
over_at p n = record {
  reader = record (p.reader) { mode = modes.Text; mark = []; over = n; ended = None };
  members = p.members;
}

begun_over : (r : MultistatusReader) (d : ℕ) → r.over ≡ d → 1 ≤ d → d ≤ 99
    → element_begun r ≡ record r { over = suc d }
begun_over r d is some few =
    cond-true (nat_lt 0 r.over) (passed_deeper r) _ (grind (arith, nat_tests))
    ∙ cond-true (nat_lt r.over 100) (record r { over = r.over + 1 }) (gone_wrong r)
    (grind (arith, nat_tests))
    ∙ ap (λ (n : ℕ). record r { over = n }) (omega (arith, is))

done_over : (r : MultistatusReader) (n : ℕ) → r.over ≡ suc n → done_with r ≡ record r { over = n }
done_over r n is =
    cond-true (nat_lt 0 r.over) (record r { over = r.over - 1 }) _ (grind (arith, nat_tests))
    ∙ ap (λ (m : ℕ). record r { over = m }) (omega (arith, is))

-- ---- one byte of text

pub text_stepped : (p : Progress) (r : MultistatusReader) (b : ℕ) → r.mode ≡ modes.Text
    → (b == 60) ≡ false → (b == 38) ≡ false
    → reached p (one_on r b) ≡ reached p (text_on (record r { ended = None }) b)
unfolding one_on
text_stepped p r b at less and =
    ap (λ m. reached p (after_effect (record r { ended = None }) b (effect_of m b))) at
    ∙ ap (λ (x : Effect). reached p (after_effect (record r { ended = None }) b x))
    (cond-false (b == 60) _ _ less ∙ cond-false (b == 38) _ _ and)

text_over : (r : MultistatusReader) (b d : ℕ) → r.over ≡ d → 1 ≤ d → text_on r b ≡ back_in_text r
text_over r b d is some =
    cond-true (nat_lt 0 r.over) (back_in_text r) _ (grind (arith, nat_tests))

-- ---- one entity

entity_begins : (p : Progress) (rest : List ℕ) → p.reader.mode ≡ modes.Text
    → progress_behind p (38 ∷ rest) ≡ progress_behind (tagging p modes.Entity []) rest
unfolding progress_behind one_on
entity_begins p rest at =
    ap (λ m. progress_behind (reached p (after_effect (record (p.reader) { ended = None }) 38
    (effect_of m 38))) rest) at

entity_takes : (b : ℕ) → (b == 59) ≡ false → (b == 60) ≡ false
    → effect_of modes.Entity b ≡ effects.Add modes.Entity
entity_takes b end less = cond-false (b == 59) _ _ end ∙ cond-false (b == 60) _ _ less

entity_names : (p : Progress) (mark name : List ℕ)
    → list_any (λ b. b == 59 || b == 60) name ≡ false → length mark + length name ≤ 64
    → progress_behind (tagging p modes.Entity mark) name ≡ tagging p modes.Entity (mark ++ name)
unfolding progress_behind
entity_names p mark [] none short = ap (tagging p modes.Entity) (sym (append-nil mark))
entity_names p mark (b ∷ name) none short =
    let parts = or_parts (b == 59 || b == 60) (list_any (λ b. b == 59 || b == 60) name) none in
    let two = or_parts (b == 59) (b == 60) parts.0 in
    ap (λ (q : Progress). progress_behind q name)
    (named p modes.Entity modes.Entity mark b (entity_takes b two.0 two.1) (omega arith))
    ∙ entity_names p (mark ++ b ∷ []) name parts.1 (omega (arith, length-append mark (b ∷ [])))
    ∙ ap (tagging p modes.Entity) (append_assoc mark (b ∷ []) name)

-- the reader at the end of an entity of this name
abbrev pub at_entity : MultistatusReader → List ℕ → MultistatusReader
at_entity r name = record r { mode = modes.Entity; mark = name; ended = None }

pub entity_reads : (p : Progress) (name : List ℕ)
    → list_any (λ b. b == 59 || b == 60) name ≡ false → length name ≤ 64
    → p.reader.mode ≡ modes.Text
    → progress_behind p (38 ∷ (name ++ 59 ∷ []))
    ≡ reached p (unmarked (entity_ended (at_entity p.reader name)))
unfolding progress_behind one_on
entity_reads p name none short at =
    entity_begins p (name ++ 59 ∷ []) at
    ∙ then_rest (tagging p modes.Entity []) (tagging p modes.Entity name) name (59 ∷ [])
    (entity_names p [] name none (omega (arith, short)))

entity_over : (r : MultistatusReader) (d : ℕ) → r.over ≡ d → 1 ≤ d
    → entity_ended r ≡ back_in_text r
entity_over r d is some =
    cond-true (nat_lt 0 r.over) (back_in_text r) _ (grind (arith, nat_tests))

-- ---- pieces

goes_on_over : (p : Progress) (d next : ℕ) (piece : List ℕ) (rest : List ℕ)
    → progress_behind (over_at p d) piece ≡ over_at p next
    → progress_behind (over_at p next) rest ≡ over_at p 0
    → progress_behind (over_at p d) (piece ++ rest) ≡ over_at p 0
goes_on_over p d next piece rest first later =
    then_rest (over_at p d) (over_at p next) piece rest first ∙ later

pub passes_over : (p : Progress) (d : ℕ) (pieces : List Passed) → PassOver d pieces
    → progress_behind (over_at p d) (passed_texts pieces) ≡ over_at p 0
unfolding progress_behind passed_texts
passes_over p d [] none = ap (over_at p) none
passes_over p d (starts tag name ∷ pieces) (some, few, sound, later) =
    goes_on_over p d (suc d) (passed_text (starts tag name)) (passed_texts pieces)
    (start_reads (over_at p d) tag name sound.0 sound.1 refl
    ∙ ap (λ (r : MultistatusReader). reached p (unmarked r))
    (begun_over (at_tag (over_at p d).reader name) d refl some few))
    (passes_over p (suc d) pieces later)
passes_over p d (ends tag name ∷ pieces) (before, is, sound, later) =
    goes_on_over p d before (passed_text (ends tag name)) (passed_texts pieces)
    (end_reads (over_at p d) tag name sound.0 sound.1 refl
    ∙ ap (λ (r : MultistatusReader). reached p (unmarked r))
    (done_over (at_tag (over_at p d).reader name) before is))
    (passes_over p before pieces later)
passes_over p d (stands tag name ∷ pieces) (some, few, sound, later) =
    goes_on_over p d d (passed_text (stands tag name)) (passed_texts pieces)
    (empty_reads (over_at p d) tag name sound.0 sound.1 refl
    ∙ ap (λ (r : MultistatusReader). reached p (unmarked (done_with r)))
    (begun_over (at_tag (over_at p d).reader name) d refl some few)
    ∙ ap (λ (r : MultistatusReader). reached p (unmarked r))
    (done_over (record (at_tag (over_at p d).reader name) { over = suc d }) d refl))
    (passes_over p d pieces later)
passes_over p d (says b ∷ pieces) (some, few, sound, later) =
    let parts = or_parts (b == 60) (b == 38) sound in
    goes_on_over p d d (b ∷ []) (passed_texts pieces)
    (text_stepped (over_at p d) (over_at p d).reader b refl parts.0 parts.1
    ∙ ap (reached p) (text_over (over_at p d).reader b d refl some))
    (passes_over p d pieces later)
passes_over p d (calls name ∷ pieces) (some, few, sound, later) =
    goes_on_over p d d (passed_text (calls name)) (passed_texts pieces)
    (entity_reads (over_at p d) name sound.0 sound.1 refl
    ∙ ap (λ (r : MultistatusReader). reached p (unmarked r))
    (entity_over (at_entity (over_at p d).reader name) d refl some))
    (passes_over p d pieces later)
