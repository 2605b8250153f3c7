-- CCM, by NIST SP 800-38C with the formatting of its appendix A, for associated data of at most
-- 65,279 bytes.
use Rattle.std.specs.Prelude.{ℕ, zero, suc, ◌+◌, ◌-◌, ◌*◌, ◌/◌, ◌%◌, ◌^◌, Bool, ◌&&◌, nat_le, nat_lt, ◌==◌, List, [], ◌∷◌, ◌++◌, length, take, drop, replicate}
use Rattle.std.specs.Int.{to_be_bytes, w16, w128}
use Rattle.aes_ccm.specs.Aes.{aes}
use Rattle.aes_ccm.specs.Lists.{xored}

-- how many blocks of 16 bytes so many bytes fill, the last perhaps in part
abbrev pub blocks_in : ℕ → ℕ
blocks_in n = (n + 15) / 16

-- with zeros behind it up to a whole number of blocks
abbrev pub padded : List ℕ → List ℕ
padded text = text ++ replicate ((16 - length text % 16) % 16) 0

-- ---- which parameters are good (5.3, A.1): a nonce of n bytes, a tag of t, associated data of a, and a
-- text of p

-- a text's length is written in as many bytes as the nonce leaves of 15
abbrev pub are_good : ℕ → ℕ → ℕ → ℕ → Bool
are_good n t a p =
    nat_le 7 n && nat_le n 13 && nat_le 4 t && nat_le t 16 && t % 2 == 0
    && nat_lt a 65280 && nat_lt p (2 ^ (8 * (15 - n)))

-- ---- blocks that are made of a nonce

-- a byte of flags, the nonce, and a number in the bytes that are left of 16, the highest first
abbrev pub numbered : ℕ → List ℕ → ℕ → List ℕ
numbered flags nonce number = flags ∷ nonce ++ drop (length nonce + 1) (to_be_bytes w128 number)

-- 64 where there are associated data
abbrev pub adata_flag : List ℕ → ℕ
adata_flag [] = 0
adata_flag (a ∷ adata) = 64

-- the first block, of a text of p bytes under a tag of t (A.2.1)
abbrev pub first_block : List ℕ → List ℕ → ℕ → ℕ → List ℕ
first_block nonce adata p t =
    numbered (adata_flag adata + 8 * ((t - 2) / 2) + (14 - length nonce)) nonce p

-- counter block j (A.3)
abbrev pub counter : List ℕ → ℕ → List ℕ
counter nonce j = numbered (14 - length nonce) nonce j

-- ---- the tag (6.1)

-- the associated data behind their length, in whole blocks (A.2.2)
abbrev pub header : List ℕ → List ℕ
header [] = []
header (a ∷ adata) = padded (to_be_bytes w16 (length (a ∷ adata)) ++ a ∷ adata)

-- all blocks that are authenticated
abbrev pub formatted : List ℕ → List ℕ → List ℕ → ℕ → List ℕ
formatted nonce adata text t =
    first_block nonce adata (length text) t ++ header adata ++ padded text

-- The first n blocks of a text chained on from a block: each is added to the block before it, and
-- enciphered. A block that isn't whole stands for one with zeros behind it.
unfoldable pub chained : List ℕ → List ℕ → List ℕ → ℕ → List ℕ
chained key start text zero = start
chained key start text (suc n) =
    aes key (xored (chained key start text n) (take 16 (drop (16 * n) text)))

-- the chain over the first block and the header, of a text of p bytes under a tag of t
abbrev pub headed : List ℕ → List ℕ → List ℕ → ℕ → ℕ → List ℕ
headed key nonce adata p t =
    chained key (chained key (replicate 16 0) (first_block nonce adata p t) 1)
    (header adata) (length (header adata) / 16)

-- the last block of the chain over the whole blocks of a text
abbrev pub chain_of : List ℕ → List ℕ → List ℕ
chain_of key text = chained key (replicate 16 0) text (length text / 16)

-- the first t bytes of the chain, enciphered under counter block 0
unfoldable pub tag_of : List ℕ → List ℕ → List ℕ → List ℕ → ℕ → List ℕ
tag_of key nonce adata text t =
    xored (take t (chain_of key (formatted nonce adata text t))) (aes key (counter nonce 0))

-- ---- the text (6.1, 6.2)

-- counter blocks 1 to n, enciphered
unfoldable pub stream : List ℕ → List ℕ → ℕ → List ℕ
stream key nonce zero = []
stream key nonce (suc n) = stream key nonce n ++ aes key (counter nonce (suc n))

-- the text added to that stream: a sealed text from a plain one, and the plain one from the sealed
unfoldable pub ciphered : List ℕ → List ℕ → List ℕ → List ℕ
ciphered key nonce text = xored text (stream key nonce (blocks_in (length text)))
