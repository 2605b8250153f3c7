use Rattle.std.proofs.Common.{ℕ, List, Option, Bor, sym, ap, ◌∙◌, subst}
use Rattle.std.specs.Prelude.{bytes_eq}
use Rattle.item_text.specs.Props.{type_key}
use Rattle.item_text.specs.Steps.{lines_of, IsFromType}
use Rattle.item_text.proofs.Typed.{IsUntyped, untyped_more, from_here, from_nowhere}
use Rattle.item_text.proofs.type_value.from_type.Goals as goal

pub returns-then-eq : goal.returns-then-eq
returns-then-eq c =
    let all = lines_of c.args.block in
    let P : Option (Bor (List ℕ)) → Type 0 = λ rest. IsUntyped all (lines_of rest) in
    let Q : Option (Bor (List ℕ)) → Type 0 = λ rest. IsFromType all rest in
    let same = ap (λ key. bytes_eq key type_key) (sym c.pair_in.ensures.key)
    ∙ sym c.if-eq.ensures in
    subst Q (sym c.in-Some.is)
    (from_here all _ _ c.in-Some.part
    (subst P c.in-Some.is c.loop-rest.invariant) c.first_line.ensures.cut same)

pub loop-rest-preserved : goal.loop-rest-preserved
loop-rest-preserved c =
    let all = lines_of c.args.block in
    let P : Option (Bor (List ℕ)) → Type 0 = λ rest. IsUntyped all (lines_of rest) in
    let other = ap (λ key. bytes_eq key type_key) (sym c.pair_in.ensures.key)
    ∙ sym c.if-eq.ensures in
    untyped_more all _ _ _
    (subst P c.in-Some.is c.loop-rest.invariant) c.first_line.ensures.cut other

pub returns : goal.returns
returns c =
    let all = lines_of c.args.block in
    let P : Option (Bor (List ℕ)) → Type 0 = λ rest. IsUntyped all (lines_of rest) in
    from_nowhere all (subst P c.in_default.is c.loop-rest.invariant)
