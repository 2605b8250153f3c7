-- The tag of CCM.
use Rattle.std.proofs.Common.{◌≡◌, ℕ, zero, suc, ◌-◌, ◌*◌, ◌/◌, ◌≤◌, List, ◌++◌, length, take, drop, replicate, refl, ap, ◌∙◌, arith}
use Rattle.std.proofs.lemmas.List.{length-take-le, take_at}
use Rattle.aes_ccm.specs.Aes.{aes}
use Rattle.aes_ccm.specs.Ccm.{blocks_in, chained, chain_of, counter, formatted, headed, tag_of}
use Rattle.aes_ccm.specs.Lists.{xored}
use Rattle.aes_ccm.proofs.Chained.{length-aes, chained-headed}
use Rattle.aes_ccm.proofs.Xored.{length-xored, take-xored}

length-chained : (key start text : List ℕ) (n : ℕ) → length start ≡ 16 → length (chained key start text n) ≡ 16
unfolding chained
length-chained key start text zero h = h
length-chained key start text (suc n) h = length-aes key (xored (chained key start text n) (take 16 (drop (16 * n) text)))

pub length-tag_of : (key nonce adata text : List ℕ) (t : ℕ) → t ≤ 16 → length (tag_of key nonce adata text t) ≡ t
unfolding tag_of
length-tag_of key nonce adata text t h =
    let whole : List ℕ = formatted nonce adata text t in
    let chain : List ℕ = chained key (replicate 16 0) whole (length whole / 16) in
    let long : length chain ≡ 16 = length-chained key (replicate 16 0) whole (length whole / 16) refl in
    length-xored (take t chain) (aes key (counter nonce 0)) ∙ length-take-le t chain (omega arith)

-- the first bytes of a block, and zeros behind them
pub tag_filled : (whole sum out : List ℕ) (t : ℕ) → length whole ≡ 16 → t ≤ 16 → whole ≡ sum
    → out ≡ take t whole ++ replicate (16 - length (take t whole)) 0 → out ≡ take t sum ++ replicate (16 - t) 0
tag_filled whole sum out t l h e made =
    let long : length (take t whole) ≡ t = length-take-le t whole (omega arith) in
    rw (ap (λ (k : ℕ). replicate {A = ℕ} (16 - k) 0) long, e) at made

-- the tag, as the code makes it
pub tag_built : (key nonce adata text start chain out : List ℕ) (t : ℕ) → length nonce ≤ 14 → t ≤ 16
    → start ≡ headed key nonce adata (length text) t → chain ≡ chained key start text (blocks_in (length text))
    → out ≡ take t (xored chain (aes key (counter nonce 0))) ++ replicate (16 - t) 0
    → out ≡ tag_of key nonce adata text t ++ replicate (16 - t) 0
unfolding tag_of
tag_built key nonce adata text start chain out t fits h es ec eo =
    let whole : chain ≡ chain_of key (formatted nonce adata text t) =
    ec ∙ ap (λ (s : List ℕ). chained key s text (blocks_in (length text))) es ∙ chained-headed key nonce adata text t fits in
    eo ∙ ap (λ (tag : List ℕ). tag ++ replicate (16 - t) 0)
    (take-xored t chain (aes key (counter nonce 0)) ∙ ap (λ (c : List ℕ). xored (take t c) (aes key (counter nonce 0))) whole)

-- its first bytes are the tag
pub take-tag : (key nonce adata text out : List ℕ) (t : ℕ) → t ≤ 16 → out ≡ tag_of key nonce adata text t ++ replicate (16 - t) 0
    → take t out ≡ tag_of key nonce adata text t
take-tag key nonce adata text out t h e = rw e (take_at (tag_of key nonce adata text t) (replicate (16 - t) 0) t (length-tag_of key nonce adata text t h))
