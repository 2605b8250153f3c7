-- The chain of blocks that CCM authenticates.
use Rattle.std.proofs.Common.{◌≡◌, ℕ, zero, suc, ◌+◌, ◌-◌, ◌*◌, ◌/◌, ◌%◌, ◌<◌, ◌≤◌, List, [], ◌∷◌, ◌++◌, length, take, drop, replicate, min, refl, sym, ap, ◌∙◌, arith, inl, inr, length-append, length-drop, take-append-drop}
use Rattle.std.proofs.lemmas.Bool.{cases_lt}
use Rattle.std.proofs.lemmas.List.{drop-append-le, take-append-le, drop-drop, drop_at, length-replicate, length-take-le}
use Rattle.std.specs.Int.{to_be_bytes, w16, w128}
use Rattle.aes_ccm.specs.Aes.{aes, shift_rows, sub_bytes, state_after, schedule, rounds_of, round_key}
use Rattle.aes_ccm.specs.Ccm.{blocks_in, padded, numbered, adata_flag, first_block, header, formatted, chained, headed, chain_of, counter, stream, ciphered}
use Rattle.aes_ccm.specs.Lists.{xored}
use Rattle.aes_ccm.proofs.Xored.{length-xored, xored-append, xored-take_rest, xored-take_zeros, xored-xored, drop-xored}

pub length-aes : (key block : List ℕ) → length (aes key block) ≡ 16
unfolding aes
length-aes key block =
    length-xored (shift_rows (sub_bytes (state_after (schedule key) block (rounds_of key - 1)))) (round_key (schedule key) (rounds_of key))

-- ---- chains

-- blocks of the first list don't see what stands behind it
chained-front : (key start a b : List ℕ) (n : ℕ) → 16 * n ≤ length a → chained key start (a ++ b) n ≡ chained key start a n
unfolding chained
chained-front key start a b zero h = refl
chained-front key start a b (suc n) h =
    let fits : 16 ≤ length (drop (16 * n) a) = omega (arith, length-drop (16 * n) a) in
    let block : take 16 (drop (16 * n) (a ++ b)) ≡ take 16 (drop (16 * n) a) =
    rw (drop-append-le (16 * n) a b (omega arith)) (take-append-le 16 (drop (16 * n) a) b fits) in
    rw (block, chained-front key start a b n (omega arith)) refl

-- a list of whole blocks, and then another
pub chained-append : (key start a b : List ℕ) (m n : ℕ) → length a ≡ 16 * m → chained key start (a ++ b) (m + n) ≡ chained key (chained key start a m) b n
unfolding chained
chained-append key start a b m zero h =
    let e : m + 0 ≡ m = omega arith in
    rw e (chained-front key start a b m (omega arith))
chained-append key start a b m (suc n) h =
    let e : m + suc n ≡ suc (m + n) = omega arith in
    let place : 16 * (m + n) ≡ 16 * m + 16 * n = omega arith in
    let block : drop (16 * m + 16 * n) (a ++ b) ≡ drop (16 * n) b =
    sym (drop-drop (16 * n) (16 * m) (a ++ b)) ∙ ap (drop (16 * n)) (drop_at a b (16 * m) h) in
    rw (e, place, block, chained-append key start a b m n h) refl

-- zeros behind a list don't matter
pub chained-zeros : (key start text : List ℕ) (k n : ℕ) → n ≤ blocks_in (length text) → chained key start (text ++ replicate k 0) n ≡ chained key start text n
unfolding chained
chained-zeros key start text k zero h = refl
chained-zeros key start text k (suc n) h =
    let before : List ℕ = chained key start text n in
    let block : xored before (take 16 (drop (16 * n) (text ++ replicate k 0))) ≡ xored before (take 16 (drop (16 * n) text)) =
    rw (drop-append-le (16 * n) text (replicate k 0) (omega arith)) (xored-take_zeros before (drop (16 * n) text) 16 k) in
    rw (chained-zeros key start text k n (omega arith), block) refl

-- the first block, and then the others
chained-first : (key start text : List ℕ) (n : ℕ) → chained key start text (suc n) ≡ chained key (aes key (xored start (take 16 text))) (drop 16 text) n
unfolding chained
chained-first key start text zero = refl
chained-first key start text (suc n) =
    let place : 16 * suc n ≡ 16 + 16 * n = omega arith in
    let block : drop (16 * suc n) text ≡ drop (16 * n) (drop 16 text) =
    ap (λ (k : ℕ). drop k text) place ∙ sym (drop-drop (16 * n) 16 text) in
    ap (λ (b : List ℕ). aes key (xored (chained key start text (suc n)) (take 16 b))) block
    ∙ ap (λ (b : List ℕ). aes key (xored b (take 16 (drop (16 * n) (drop 16 text))))) (chained-first key start text n)

-- one block more
pub chained_step : (key start text block next part : List ℕ) (n : ℕ) → block ≡ chained key start text n → part ≡ take 16 (drop (16 * n) text)
    → next ≡ aes key (xored block part) → next ≡ chained key start text (n + 1)
unfolding chained
chained_step key start text block next part n held cut made =
    let e : n + 1 ≡ suc n = omega arith in
    rw (e, made, held, cut) refl

-- ---- whole blocks

pub length-padded : (text : List ℕ) → length (padded text) ≡ 16 * blocks_in (length text)
length-padded text =
    omega (arith, length-append text (replicate ((16 - length text % 16) % 16) 0), length-replicate {A = ℕ} ((16 - length text % 16) % 16) 0)

pub length-numbered : (flags : ℕ) (nonce : List ℕ) (n : ℕ) → length nonce ≤ 15 → length (numbered flags nonce n) ≡ 16
length-numbered flags nonce n h =
    let whole : length (to_be_bytes w128 n) ≡ 16 = refl in
    omega (arith, length-append nonce (drop (length nonce + 1) (to_be_bytes w128 n)), length-drop (length nonce + 1) (to_be_bytes w128 n), whole)

-- ---- the associated data

-- what a header adds to a block, first its two bytes of length and then what fits of the data
header_first : (start pre adata : List ℕ) (k : ℕ) → length start ≡ 16 → length pre ≡ 2
    → xored start (take 16 ((pre ++ adata) ++ replicate k 0)) ≡ take 2 (xored start pre) ++ xored (drop 2 (xored start pre)) adata
header_first start pre adata k ls lp =
    xored-take_zeros start (pre ++ adata) 16 k ∙ xored-take_rest start (pre ++ adata) 16 (omega arith)
    ∙ rw lp at (xored-append start pre adata (omega arith))

-- the data behind the header's first block
header_rest : (key start d : List ℕ) (k m : ℕ) → m ≡ blocks_in (length d - 14)
    → chained key start (drop (min (length d) 14) d) (blocks_in (length (drop (min (length d) 14) d))) ≡ chained key start (drop 14 (d ++ replicate k 0)) m
unfolding chained
header_rest key start d k m em =
    elim (cases_lt (length d) 14) [
      | inl short ↦
          let none : m ≡ 0 = omega arith in
          let zero_blocks : blocks_in (length (drop (min (length d) 14) d)) ≡ 0 = omega (arith, length-drop (min (length d) 14) d) in
          rw (none, zero_blocks) refl
      | inr long ↦
          let place : min (length d) 14 ≡ 14 = omega arith in
          let count : blocks_in (length (drop 14 d)) ≡ m = omega (arith, length-drop 14 d) in
          rw (place, count, drop-append-le 14 d (replicate k 0) long) (sym (chained-zeros key start (drop 14 d) k m (omega (arith, count))))
    ]

-- the associated data behind their length, where there are any
pub chained-header : (key start adata block out : List ℕ) → length start ≡ 16 → 0 < length adata
    → block ≡ take 2 (xored start (to_be_bytes w16 (length adata))) ++ xored (drop 2 (xored start (to_be_bytes w16 (length adata)))) adata
    → out ≡ chained key (aes key block) (drop (min (length adata) 14) adata) (blocks_in (length (drop (min (length adata) 14) adata)))
    → out ≡ chained key start (header adata) (length (header adata) / 16)
chained-header key start [] block out ls some eb eo = absurd (omega arith)
chained-header key start (a ∷ adata) block out ls some eb eo =
    let d : List ℕ = a ∷ adata in
    let pre : List ℕ = to_be_bytes w16 (length d) in
    let k : ℕ = (16 - length (pre ++ d) % 16) % 16 in
    let m : ℕ = blocks_in (length d - 14) in
    let lens : length (pre ++ d) ≡ 2 + length d = length-append pre d in
    let count : length (padded (pre ++ d)) / 16 ≡ suc m = omega (arith, length-padded (pre ++ d), lens) in
    let first : xored start (take 16 (padded (pre ++ d))) ≡ block = header_first start pre d k ls refl ∙ sym eb in
    eo ∙ header_rest key (aes key block) d k m refl
    ∙ sym (ap (λ (n : ℕ). chained key start (padded (pre ++ d)) n) count
    ∙ chained-first key start (padded (pre ++ d)) m
    ∙ ap (λ (b : List ℕ). chained key (aes key b) (drop 16 (padded (pre ++ d))) m) first)

length-header : (adata : List ℕ) → length (header adata) ≡ 16 * (length (header adata) / 16)
length-header [] = refl
length-header (a ∷ adata) =
    let whole : length (padded (to_be_bytes w16 (length (a ∷ adata)) ++ a ∷ adata)) ≡ 16 * blocks_in (length (to_be_bytes w16 (length (a ∷ adata)) ++ a ∷ adata)) =
    length-padded (to_be_bytes w16 (length (a ∷ adata)) ++ a ∷ adata) in
    omega (arith, whole)

-- ---- all that is authenticated

-- the chain over the first block and the header, as the code makes it
pub headed_built : (key nonce adata zeros block first out : List ℕ) (p t : ℕ) → zeros ≡ replicate 16 0 → length block ≡ 16
    → block ≡ first_block nonce adata p t → first ≡ chained key zeros block (blocks_in (length block))
    → out ≡ chained key first (header adata) (length (header adata) / 16) → out ≡ headed key nonce adata p t
headed_built key nonce adata zeros block first out p t ez lb eb ef eo =
    let one : blocks_in (length block) ≡ 1 = omega arith in
    let begun : first ≡ chained key (replicate 16 0) (first_block nonce adata p t) 1 = rw (one, ez, eb) at ef in
    eo ∙ ap (λ (s : List ℕ). chained key s (header adata) (length (header adata) / 16)) begun

-- the text's blocks behind them end the chain
pub chained-headed : (key nonce adata text : List ℕ) (t : ℕ) → length nonce ≤ 14
    → chained key (headed key nonce adata (length text) t) text (blocks_in (length text)) ≡ chain_of key (formatted nonce adata text t)
chained-headed key nonce adata text t fits =
    let b : List ℕ = first_block nonce adata (length text) t in
    let h : List ℕ = header adata in
    let nh : ℕ = length h / 16 in
    let nt : ℕ = blocks_in (length text) in
    let lb : length b ≡ 16 = length-numbered (adata_flag adata + 8 * ((t - 2) / 2) + (14 - length nonce)) nonce (length text) (omega arith) in
    let lh : length h ≡ 16 * nh = length-header adata in
    let lbh : length (b ++ h) ≡ 16 * (1 + nh) = omega (arith, length-append b h, lh) in
    let count : length ((b ++ h) ++ padded text) / 16 ≡ 1 + nh + nt = omega (arith, length-append (b ++ h) (padded text), length-padded text, lbh) in
    let split : chained key (replicate 16 0) ((b ++ h) ++ padded text) (1 + nh + nt) ≡ chained key (chained key (chained key (replicate 16 0) b 1) h nh) (padded text) nt =
    chained-append key (replicate 16 0) (b ++ h) (padded text) (1 + nh) nt lbh
    ∙ ap (λ (s : List ℕ). chained key s (padded text) nt) (chained-append key (replicate 16 0) b h 1 nh lb) in
    sym (ap (λ (n : ℕ). chained key (replicate 16 0) ((b ++ h) ++ padded text) n) count ∙ split
    ∙ chained-zeros key (chained key (chained key (replicate 16 0) b 1) h nh) text ((16 - length text % 16) % 16) nt (omega arith))

-- ---- the stream

length-stream : (key nonce : List ℕ) (n : ℕ) → length (stream key nonce n) ≡ 16 * n
unfolding stream
length-stream key nonce zero = refl
length-stream key nonce (suc n) =
    omega (arith, length-append (stream key nonce n) (aes key (counter nonce (suc n))), length-stream key nonce n, length-aes key (counter nonce (suc n)))

-- what the stream hasn't reached yet stays
pub drop-ciphered : (key nonce old text : List ℕ) (n : ℕ) → text ≡ xored old (stream key nonce n) → drop (16 * n) text ≡ drop (16 * n) old
drop-ciphered key nonce old text n held =
    rw held (drop-xored old (stream key nonce n) (16 * n) (omega (arith, length-stream key nonce n)))

-- a chain doesn't see what is changed behind its blocks
pub chained-take : (key start text more : List ℕ) (n : ℕ) → 16 * n ≤ length text → chained key start (take (16 * n) text ++ more) n ≡ chained key start text n
chained-take key start text more n h =
    let front : List ℕ = take (16 * n) text in
    let long : 16 * n ≤ length front = omega (arith, length-take-le (16 * n) text h) in
    chained-front key start front more n long ∙ sym (chained-front key start front (drop (16 * n) text) n long)
    ∙ ap (λ (ts : List ℕ). chained key start ts n) (take-append-drop (16 * n) text)

-- one block more of the stream is added
pub cipher_step : (key nonce old text block : List ℕ) (n : ℕ) → text ≡ xored old (stream key nonce n) → 16 * n ≤ length old → block ≡ aes key (counter nonce (n + 1))
    → take (16 * n) text ++ xored (drop (16 * n) text) block ≡ xored old (stream key nonce (n + 1))
unfolding stream
cipher_step key nonce old text block n held fits made =
    let e : n + 1 ≡ suc n = omega arith in
    let len = length-stream key nonce n in
    let both = rw len at (xored-append old (stream key nonce n) (aes key (counter nonce (suc n))) (omega (arith, len))) in
    rw (held, made, e) (sym both)

-- the stream's block after next
pub next_ahead : (key nonce block out : List ℕ) (n : ℕ) → block ≡ counter nonce (n + 2) → out ≡ aes key block → out ≡ aes key (counter nonce (n + 1 + 1))
next_ahead key nonce block out n eb eo =
    let e : n + 1 + 1 ≡ n + 2 = omega arith in
    rw e (eo ∙ ap (aes key) eb)

-- what is ciphered twice is what it was
pub ciphered-ciphered : (key nonce text : List ℕ) → ciphered key nonce (ciphered key nonce text) ≡ text
unfolding ciphered
ciphered-ciphered key nonce text =
    rw (length-xored text (stream key nonce (blocks_in (length text)))) (xored-xored text (stream key nonce (blocks_in (length text))))
