-- The turns of PBKDF2.
use Rattle.std.proofs.Common.{◌≡◌, ℕ, zero, suc, ◌+◌, ◌-◌, ◌≤◌, List, [], ◌∷◌, ◌++◌, replicate, refl, ap, ◌∙◌, arith, append_assoc}
use Rattle.sha2.specs.Sha256.{sha256}
use Rattle.aes_ccm.specs.Hmac.{digest_behind, hmac_of, key_block, turn, turns}
use Rattle.aes_ccm.specs.Lists.{xored}

-- the HMAC, by the block of its key
pub hmac_by_block : (block key text : List ℕ) → block ≡ key_block key → digest_behind block 0x5c (digest_behind block 0x36 text) ≡ hmac_of key text
unfolding hmac_of
hmac_by_block block key text e = rw e refl

pub first_turn : (block password salt out : List ℕ) → block ≡ key_block password
    → out ≡ sha256 (xored block (replicate 64 0x5c) ++ sha256 ((xored block (replicate 64 0x36) ++ salt) ++ 0 ∷ 0 ∷ 0 ∷ 1 ∷ []))
    → out ≡ turn password salt 0
unfolding turn
first_turn block password salt out eb eo =
    (rw append_assoc at eo) ∙ hmac_by_block block password (salt ++ 0 ∷ 0 ∷ 0 ∷ 1 ∷ []) eb

pub next_turn : (block password salt last out : List ℕ) (n : ℕ) → 1 ≤ n → block ≡ key_block password → last ≡ turn password salt (n - 1)
    → out ≡ digest_behind block 0x5c (digest_behind block 0x36 last)
    → out ≡ turn password salt (n + 1 - 1)
unfolding turn
next_turn block password salt last out zero some eb el eo = absurd (omega arith)
next_turn block password salt last out (suc n) some eb el eo =
    let before : suc n - 1 ≡ n = omega arith in
    let after : suc n + 1 - 1 ≡ suc n = omega arith in
    let same : last ≡ turn password salt n = rw before at el in
    rw after (eo ∙ hmac_by_block block password last eb ∙ ap (hmac_of password) same)

pub next_sum : (password salt sum turned out : List ℕ) (n : ℕ) → 1 ≤ n → sum ≡ turns password salt (n - 1) → turned ≡ turn password salt (n + 1 - 1)
    → out ≡ xored sum turned → out ≡ turns password salt (n + 1 - 1)
unfolding turns
next_sum password salt sum turned out zero some es et eo = absurd (omega arith)
next_sum password salt sum turned out (suc n) some es et eo =
    let before : suc n - 1 ≡ n = omega arith in
    let after : suc n + 1 - 1 ≡ suc n = omega arith in
    let sums : sum ≡ turns password salt n = rw before at es in
    let last : turned ≡ turn password salt (suc n) = rw after at et in
    rw (after, eo, sums, last) refl
