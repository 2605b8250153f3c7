-- HMAC (RFC 2104) and PBKDF2 (RFC 8018, 5.2) over SHA-256.
use Rattle.std.specs.Prelude.{ℕ, zero, suc, ◌-◌, nat_le, List, [], ◌∷◌, ◌++◌, length, replicate, if◌then◌else◌}
use Rattle.sha2.specs.Sha256.{sha256}
use Rattle.aes_ccm.specs.Lists.{xored}

-- the key, or its digest where it is longer than a block of 64 bytes, with zeros behind it up to a block
abbrev pub key_block : List ℕ → List ℕ
key_block key =
    if nat_le (length key) 64 then key ++ replicate (64 - length key) 0
    else sha256 key ++ replicate 32 0

-- the digest of a text behind a key's block, to each byte of which a byte is added
abbrev pub digest_behind : List ℕ → ℕ → List ℕ → List ℕ
digest_behind block pad text = sha256 (xored block (replicate 64 pad) ++ text)

unfoldable pub hmac_of : List ℕ → List ℕ → List ℕ
hmac_of key text = digest_behind (key_block key) 0x5c (digest_behind (key_block key) 0x36 text)

-- the HMAC under the password of the salt and the number 1, and so many times that of the result
unfoldable pub turn : List ℕ → List ℕ → ℕ → List ℕ
turn password salt zero = hmac_of password (salt ++ 0 ∷ 0 ∷ 0 ∷ 1 ∷ [])
turn password salt (suc n) = hmac_of password (turn password salt n)

-- the first turn and so many more, added up
unfoldable pub turns : List ℕ → List ℕ → ℕ → List ℕ
turns password salt zero = turn password salt 0
turns password salt (suc n) = xored (turns password salt n) (turn password salt (suc n))

-- the first block of PBKDF2
abbrev pub pbkdf2_of : List ℕ → List ℕ → ℕ → List ℕ
pbkdf2_of password salt iter = turns password salt (iter - 1)
