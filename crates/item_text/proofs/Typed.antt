-- The topmost `type_` among property lines.
use Rattle.std.proofs.Common.{◌≡◌, ℕ, ◌+◌, ◌-◌, ◌≤◌, true, false, List, [], ◌∷◌, length, map, Some, None, Bor, sym, ap, ◌∙◌, arith}
use Rattle.std.specs.Prelude.{bytes_eq}
use Rattle.std.proofs.lemmas.Bool.{cond-true, cond-false}
use Rattle.item_text.specs.Lines.{lines}
use Rattle.item_text.specs.Props.{type_key}
use Rattle.item_text.specs.Grammar.{pair_of, type_fault}
use Rattle.item_text.specs.Steps.{line_fault, IsFromType}

abbrev Lines : Type 0
Lines = List (List ℕ)

-- above these lines none has the key
pub record IsUntyped (all rest : Lines) : Type 0 where
  pub within : length rest ≤ length all
  pub same : (n : ℕ)
      → type_fault n (map pair_of all)
      ≡ type_fault (n + (length all - length rest)) (map pair_of rest)

type_later : (n : ℕ) (line : List ℕ) (ls : Lines) → bytes_eq (pair_of line).key type_key ≡ false
    → type_fault n (map pair_of (line ∷ ls)) ≡ type_fault (n + 1) (map pair_of ls)
unfolding type_fault
type_later n line ls other = cond-false (bytes_eq (pair_of line).key type_key) _ _ other

type_here : (n : ℕ) (line : List ℕ) (ls : Lines) → bytes_eq (pair_of line).key type_key ≡ true
    → type_fault n (map pair_of (line ∷ ls)) ≡ line_fault n (line ∷ ls)
unfolding type_fault
type_here n line ls same = cond-true (bytes_eq (pair_of line).key type_key) _ _ same

pub untyped_more : (all rest below : Lines) (line : List ℕ) → IsUntyped all rest
    → rest ≡ line ∷ below
    → bytes_eq (pair_of line).key type_key ≡ false → IsUntyped all below
untyped_more all rest below line u cut other =
    let shorter = ap (λ (x : Lines). length x) cut in
    let within = u.within in
    record {
      within = omega arith;
      same = λ n.
          let next : (n + (length all - length rest)) + 1 ≡ n + (length all - length below) =
          omega arith in
          u.same n
          ∙ ap (λ (x : Lines). type_fault (n + (length all - length rest)) (map pair_of x)) cut
          ∙ type_later (n + (length all - length rest)) line below other
          ∙ ap (λ (k : ℕ). type_fault k (map pair_of below)) next;
    }

pub from_here : (all below : Lines) (line : List ℕ) (rest : Bor (List ℕ))
    → IsUntyped all (lines rest.now)
    → lines rest.now ≡ line ∷ below → bytes_eq (pair_of line).key type_key ≡ true
    → IsFromType all (Some rest)
from_here all below line rest u cut same = (
  u.within,
  λ n.
      let at : ℕ = n + (length all - length (lines rest.now)) in
      u.same n
      ∙ ap (λ (x : Lines). type_fault at (map pair_of x)) cut
      ∙ type_here at line below same
      ∙ ap (line_fault at) (sym cut),
)

pub from_nowhere : (all : Lines) → IsUntyped all [] → IsFromType all None
unfolding type_fault
from_nowhere all u = u.same
