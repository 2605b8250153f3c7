use Rattle.std.proofs.Common.{◌≡◌, List, ℕ, length, sym, ◌∙◌, ap, rules}
use Rattle.std.proofs.lemmas.Bool.Decides.{Decides-eqb}
use Rattle.std.proofs.lemmas.Slice.Eq.{slice_eq-Decides}
use Rattle.aes_ccm.specs.Ccm.{ciphered, headed, tag_of}
use Rattle.aes_ccm.proofs.Chained.{ciphered-ciphered}
use Rattle.aes_ccm.proofs.Params.{good_lengths}
use Rattle.aes_ccm.proofs.Tag.{tag_built, take-tag}
use Rattle.aes_ccm.proofs.ccm.ccm_open.Goals as goal

pub returns-then-eq-clause-tag : goal.returns-then-eq-clause-tag
returns-then-eq-clause-tag c =
    let good = good_lengths (length c.args.nonce.now) (length c.args.tag.now) (length c.args.adata.now) (length c.args.text.now) c.are_good.result c.are_good.ensures c.if-not-are_good.false in
    let same : length c.args.text.now ≡ length c.open_text-chain.new.text = search rules in
    let start = c.headed-start.ensures ∙ ap (λ p. headed c.args.key.now c.args.nonce.now c.args.adata.now p (length c.args.tag.now)) same in
    let built = tag_built c.args.key.now c.args.nonce.now c.args.adata.now c.open_text-chain.new.text c.headed-start.result c.open_text-chain.result c.tag_behind-own.result (length c.args.tag.now)
    good.nonce good.tag start c.open_text-chain.ensures.chain c.tag_behind-own.ensures in
    let own = take-tag c.args.key.now c.args.nonce.now c.args.adata.now c.open_text-chain.new.text c.tag_behind-own.result (length c.args.tag.now) good.tag built in
    sym ((slice_eq-Decides Decides-eqb _ _ _ c.eq.ensures).0 c.if-eq.true) ∙ own

pub returns-clause-differs : goal.returns-clause-differs
returns-clause-differs c = λ _ same.
    let good = good_lengths (length c.args.nonce.now) (length c.args.tag.now) (length c.args.adata.now) (length c.args.text.now) c.are_good.result c.are_good.ensures c.if-not-are_good.false in
    let long : length c.args.text.now ≡ length c.open_text-chain.new.text = search rules in
    let start = c.headed-start.ensures ∙ ap (λ p. headed c.args.key.now c.args.nonce.now c.args.adata.now p (length c.args.tag.now)) long in
    let built = tag_built c.args.key.now c.args.nonce.now c.args.adata.now c.open_text-chain.new.text c.headed-start.result c.open_text-chain.result c.tag_behind-own.result (length c.args.tag.now)
    good.nonce good.tag start c.open_text-chain.ensures.chain c.tag_behind-own.ensures in
    let own = take-tag c.args.key.now c.args.nonce.now c.args.adata.now c.open_text-chain.new.text c.tag_behind-own.result (length c.args.tag.now) good.tag built in
    let opened : tag_of c.args.key.now c.args.nonce.now c.args.adata.now c.open_text-chain.new.text (length c.args.tag.now) ≡ c.args.tag.now =
    ap (λ (text : List ℕ). tag_of c.args.key.now c.args.nonce.now c.args.adata.now text (length c.args.tag.now)) c.open_text-chain.ensures.text ∙ sym same in
    let yes = (slice_eq-Decides Decides-eqb _ _ _ c.eq.ensures).1 (own ∙ opened) in
    cc

pub returns-clause-err : goal.returns-clause-err
returns-clause-err c =
    c.seal_text.ensures.text ∙ ap (ciphered c.args.key.now c.args.nonce.now) c.open_text-chain.ensures.text ∙ ciphered-ciphered c.args.key.now c.args.nonce.now c.args.text.now
