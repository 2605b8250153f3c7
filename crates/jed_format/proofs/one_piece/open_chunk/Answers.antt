use Rattle.std.proofs.Common.{◌≡◌, length, ap, ◌∙◌, sym, Err, Some, rules}
use Rattle.std.proofs.lemmas.Bool.{false≢true}
use Rattle.aes_ccm.specs.Ccm.{ciphered}
use Rattle.aes_ccm.specs.declared.ccm_err.CcmErr.TheVariants.{BadParams, BadTag}
use Rattle.jed_format.proofs.Sealing.{cut_of, cut_good, written_back, length-plain, opened_right, opened_wrong}
use Rattle.jed_format.proofs.one_piece.open_chunk.Goals as goal

pub unreachable-requires : goal.unreachable-requires
unreachable-requires c =
    let cut = cut_of c.args.password.now c.args.chunk.now c.key_of-key.result c.nonce_of-nonce.result.now
    c.deref_mut.result.now c.in_ok-text.text.items c.as_slice-ct.result.now c.as_slice.result.now c.from.result
    c.requires c.as_slice-ct.ensures c.as_slice.ensures c.from.ensures c.key_of-key.ensures
    c.nonce_of-nonce.ensures c.deref_mut.ensures.value c.in_ok-text.ensures.items in
    let good = cut_good c.args.password.now c.args.chunk.now _ _ _ _ _ c.requires cut in
    let is : c.in-Err-BadParams.field-0 ≡ BadParams = search rules in
    false≢true (sym (c.in-Err-BadParams.ensures.params.0 (ap Err is)) ∙ good)

pub returns-in-Ok : goal.returns-in-Ok
returns-in-Ok c =
    let cut = cut_of c.args.password.now c.args.chunk.now c.key_of-key.result c.nonce_of-nonce.result.now
    c.deref_mut.result.now c.in_ok-text.text.items c.as_slice-ct.result.now c.as_slice.result.now c.from.result
    c.requires c.as_slice-ct.ensures c.as_slice.ensures c.from.ensures c.key_of-key.ensures
    c.nonce_of-nonce.ensures c.deref_mut.ensures.value c.in_ok-text.ensures.items in
    let plain : c.ccm_open.new.text ≡ ciphered c.key_of-key.result c.nonce_of-nonce.result.now c.deref_mut.result.now =
    c.in-Ok.ensures.text in
    let size : length c.ccm_open.new.text ≡ length c.deref_mut.result.now =
    length-plain c.key_of-key.result c.nonce_of-nonce.result.now c.deref_mut.result.now c.ccm_open.new.text plain in
    let len : c.in_ok-text.text.len ≡ length c.ccm_open.new.text =
    c.in_ok-text.ensures.len ∙ sym (ap length c.in_ok-text.ensures.items)
    ∙ sym (ap length c.deref_mut.ensures.value) ∙ sym size in
    ap Some (c.from_vec.ensures ∙ written_back c.ccm_open.new.text c.in_ok-text.text.items c.in_ok-text.text.len len)
    ∙ opened_right c.args.password.now c.args.chunk.now c.key_of-key.result c.nonce_of-nonce.result.now
    c.deref_mut.result.now _ c.ccm_open.new.text _ cut plain c.in-Ok.ensures.tag

pub returns-in-Err-BadTag : goal.returns-in-Err-BadTag
returns-in-Err-BadTag c =
    let cut = cut_of c.args.password.now c.args.chunk.now c.key_of-key.result c.nonce_of-nonce.result.now
    c.deref_mut.result.now c.in_ok-text.text.items c.as_slice-ct.result.now c.as_slice.result.now c.from.result
    c.requires c.as_slice-ct.ensures c.as_slice.ensures c.from.ensures c.key_of-key.ensures
    c.nonce_of-nonce.ensures c.deref_mut.ensures.value c.in_ok-text.ensures.items in
    let is : c.in-Err-BadTag.field-0 ≡ BadTag = search rules in
    opened_wrong c.args.password.now c.args.chunk.now c.key_of-key.result c.nonce_of-nonce.result.now
    c.deref_mut.result.now _ _ cut (c.in-Err-BadTag.ensures.differs (ap Err is))
