use Rattle.std.proofs.Common.{◌≡◌, ◌++◌, ◌-◌, ◌∙◌, sym, ap, arith, List, ℕ, get_or, take, drop, length, length-drop, codes}
use Rattle.std.proofs.lemmas.List.{take_all}
use Rattle.jop_base.proofs.lock_name.LockName.read.Goals as goal

pub returns-in_err-client_type-clause-none : goal.returns-in_err-client_type-clause-none
returns-in_err-client_type-clause-none c =
    rw c.from_residual-in_err-client_type.ensures (λ name ok is.
    let digit = ap (λ (t : List ℕ). get_or t 2 0) is in
    c.in_err-client_type.ensures.none name.client_type ok.client_type digit)

pub returns-in_err-client-clause-none : goal.returns-in_err-client-clause-none
returns-in_err-client-clause-none c = rw c.from_residual-in_err-client.ensures (λ name ok is.
    let text = c.args.text.now in
    let rest : name.client ++ codes ".json" ≡ drop 4 text = ap (λ (t : List ℕ). drop 4 t) is in
    let whole : take (length text - 4) (drop 4 text) ≡ drop 4 text =
    take_all _ _ (omega (arith, length-drop 4 text)) in
    c.in_err-client.ensures.none name.client ok.client (rest ∙ sym whole))
