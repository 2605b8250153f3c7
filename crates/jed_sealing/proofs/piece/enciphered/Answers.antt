use Rattle.std.proofs.Common.{◌≡◌, ◌++◌, [], ℕ, List, length, take, ap, ◌∙◌, arith}
use Rattle.std.proofs.lemmas.List.{take_at}
use Rattle.aes_ccm.specs.Ccm.{ciphered, tag_of}
use Rattle.jed_sealing.proofs.OnePiece.{length_ciphered, tag_front}
use Rattle.jed_sealing.proofs.piece.enciphered.Goals as goal

pub returns : goal.returns
returns c =
    let key = c.args.key.now in
    let nonce = c.args.nonce.now in
    let piece = c.args.piece.now in
    let old : c.deref_mut.result.now ≡ piece = c.deref_mut.ensures.value ∙ c.in_ok-ct.ensures.items in
    let front : c.ccm_seal.new.text ≡ ciphered key nonce piece =
    c.in-Ok.ensures.text ∙ ap (λ (t : List ℕ). ciphered key nonce t) old in
    let back : take 8 c.in-Ok.tag ≡ tag_of key nonce [] piece 8 =
    tag_front key nonce c.deref_mut.result.now c.in-Ok.tag c.in-Ok.ensures.tag
    ∙ ap (λ (t : List ℕ). tag_of key nonce [] t 8) old in
    let size : length c.ccm_seal.new.text ≡ c.in_ok-ct.ct.len =
    omega (arith, ap length front, length_ciphered key nonce piece, c.in_ok-ct.ensures.len) in
    c.in_ok-extend_from_slice-in-Ok.ensures.items
    ∙ ap (λ (xs : List ℕ). xs ++ take 8 c.in-Ok.tag)
    (take_at c.ccm_seal.new.text _ c.in_ok-ct.ct.len size ∙ front)
    ∙ ap (λ (ys : List ℕ). ciphered key nonce piece ++ ys) back
