use Rattle.std.proofs.Common.{◌≡◌, ◌<◌, ◌-◌, ◌/◌, List, ℕ, [], length, take, drop, arith, refl, sym, ap, ◌∙◌, rules}
use Rattle.std.proofs.lemmas.Bool.{eqb-true}
use Rattle.std.proofs.lemmas.List.{nil_from_length, take_rest}
use Rattle.aes_ccm.specs.Aes.{aes}
use Rattle.aes_ccm.specs.Ccm.{chained, header}
use Rattle.aes_ccm.proofs.Chained.{chained-header}
use Rattle.aes_ccm.proofs.chain.chain_header.Goals as goal

pub returns-then-is_empty : goal.returns-then-is_empty
unfolding chained
returns-then-is_empty c =
    let none : c.args.adata.now ≡ [] = nil_from_length c.args.adata.now (eqb-true (length c.args.adata.now) 0 (sym c.is_empty.ensures ∙ c.if-is_empty.true)) in
    rw none refl

pub returns : goal.returns
returns c =
    let adata : List ℕ = c.args.adata.now in
    let cut : take (length adata - c.min.result) (drop c.min.result adata) ≡ drop c.min.result adata = take_rest adata c.min.result in
    let block = rw (c.xor_from.ensures, c.to_be_bytes.ensures) at c.xor_from-2.ensures in
    let enciphered = c.encrypt.ensures ∙ ap (aes c.args.key.now) c.of.ensures in
    let out = rw (cut, c.min.ensures, enciphered) at c.chain.ensures in
    let some : 0 < length adata = grind (arith, c.is_empty.ensures, c.if-is_empty.false) in
    chained-header c.args.key.now c.bytes-block.result adata c.xor_from-2.new.text c.chain.result (search rules) some block out
    ∙ ap (λ (s : List ℕ). chained c.args.key.now s (header adata) (length (header adata) / 16)) c.bytes-block.ensures
