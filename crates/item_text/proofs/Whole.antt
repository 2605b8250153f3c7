-- The canonical text, part by part.
use Rattle.std.proofs.Common.{◌≡◌, ℕ, List, [], ◌∷◌, ◌++◌, drop, Option, refl, sym, ap, ◌∙◌, append_assoc}
use Rattle.item_text.specs.Lines.{lines, joined}
use Rattle.item_text.specs.Grammar.{title_text, gap_behind, body_text, prop_text, pair_of, written, title_of, item_of_lines}
use Rattle.item_text.specs.Steps.{block_text}
use Rattle.item_text.proofs.Cut.{some_first}

abbrev line_text : List ℕ → List ℕ
line_text line = prop_text (pair_of line)

last_line_text : (line : List ℕ) → block_text (line ∷ []) ≡ line_text line
unfolding joined
last_line_text line = refl

more_text : (line next : List ℕ) (ls : List (List ℕ))
    → block_text (line ∷ next ∷ ls) ≡ line_text line ++ 10 ∷ block_text (next ∷ ls)
unfolding joined
more_text line next ls = refl

-- a line that isn't the last has a line feed behind it
line_more : (line below : List ℕ)
    → block_text (line ∷ lines below) ≡ line_text line ++ 10 ∷ block_text (lines below)
unfolding lines
line_more line below =
    let first = some_first below in
    ap (λ (ls : List (List ℕ)). block_text (line ∷ ls)) first.2
    ∙ more_text line first.0 first.1
    ∙ sym (ap (λ (ls : List (List ℕ)). line_text line ++ 10 ∷ block_text ls) first.2)

-- one line more is written
pub lines_step : (out mid new whole line more : List ℕ) (ls : List (List ℕ))
    → mid ≡ out ++ line_text line
    → new ≡ mid ++ 10 ∷ [] → ls ≡ line ∷ lines more → out ++ block_text ls ≡ whole
    → new ++ block_text (lines more) ≡ whole
lines_step out mid new whole line more ls a b cut so_far =
    let rest : List ℕ = block_text (lines more) in
    ap (λ (x : List ℕ). x ++ rest) (b ∙ ap (λ (x : List ℕ). x ++ 10 ∷ []) a)
    ∙ append_assoc (out ++ line_text line) (10 ∷ []) rest
    ∙ append_assoc out (line_text line) (10 ∷ rest)
    ∙ ap (λ (x : List ℕ). out ++ x) (sym (ap block_text cut ∙ line_more line more))
    ∙ so_far

pub lines_last : (out new whole line : List ℕ) (ls : List (List ℕ)) → new ≡ out ++ line_text line
    → ls ≡ line ∷ []
    → out ++ block_text ls ≡ whole → new ≡ whole
lines_last out new whole line ls a cut so_far =
    a ∙ ap (λ (x : List ℕ). out ++ x) (sym (ap block_text cut ∙ last_line_text line)) ∙ so_far

pub no_lines_text : block_text [] ≡ []
unfolding joined
no_lines_text = refl

gap : (body rest : List ℕ) → body ++ (gap_behind body ++ rest) ≡ body_text body ++ rest
gap [] rest = refl
gap (b ∷ bs) rest = sym (append_assoc (b ∷ bs) (10 ∷ 10 ∷ []) rest)

-- the three parts are the text
pub written_parts : (before body behind : List ℕ) (title : Option (List ℕ))
    (above below : List (List ℕ))
    → before ≡ title_text title → title ≡ title_of above → body ≡ joined (drop 2 above)
    → behind ≡ gap_behind body ++ block_text below
    → before ++ (body ++ behind) ≡ written (item_of_lines above below)
unfolding written item_of_lines
written_parts before body behind title above below a b d e =
    ap (λ (x : List ℕ). x ++ (body ++ behind)) (a ∙ ap title_text b)
    ∙ ap (λ (x : List ℕ). title_text (title_of above) ++ x)
    (ap (λ (x : List ℕ). body ++ x) e ∙ gap body (block_text below)
    ∙ ap (λ (x : List ℕ). body_text x ++ block_text below) d)
