-- One piece that is sealed.
use Rattle.std.proofs.Common.{◌≡◌, ℕ, ◌+◌, ◌-◌, ◌/◌, ◌^◌, ◌<◌, Bool, true, ◌&&◌, nat_le, nat_lt, List, [], ◌++◌, length, take, replicate, refl, ap, ◌∙◌, arith}
use Rattle.std.proofs.lemmas.Bool.{le-leb, lt-ltb}
use Rattle.std.proofs.lemmas.List.{length-append}
use Rattle.aes_ccm.proofs.Tag.{length-tag_of, take-tag}
use Rattle.aes_ccm.proofs.Xored.{length-xored}
use Rattle.aes_ccm.specs.Ccm.{blocks_in, ciphered, stream, tag_of}
use Rattle.jed_format.specs.Chunk.{is_chunk, is_ct, is_iter, is_iv, is_key_size, is_salt, is_tag_size}
use Rattle.jed_format.specs.Opening.{nonce_of}
use Rattle.jed_format.specs.Write.{is_brief}
use Rattle.jed_format.specs.declared.sjcl_chunk.SjclChunk.{SjclChunk}
use Rattle.jed_sealing.specs.Sealing.{bits_of, turns_of}
use Rattle.jed_sealing.specs.declared.grain.Grain.{Grain}
use Rattle.jed_sealing.specs.declared.strength.Strength.{Strength}
use Rattle.jed_sealing.specs.declared.strength.Strength.TheVariants.{OfText, OfKey}

-- a tag of 8 bytes, without the zeros behind it
pub tag_front : (key nonce text out : List ℕ)
    → out ≡ tag_of key nonce [] text 8 ++ replicate (16 - 8) 0
    → take 8 out ≡ tag_of key nonce [] text 8
tag_front key nonce text out is = take-tag key nonce [] text out 8 (omega arith) is

-- the nonce of a short piece has 13 bytes
pub short_nonce : (iv : List ℕ) (n : ℕ) → length iv ≡ 16 → n < 65536 → nonce_of iv n ≡ take 13 iv
short_nonce iv n size short =
    let small : nat_lt n (256 ^ 2) ≡ true = lt-ltb n (256 ^ 2) (omega arith) in
    rw (small, size) refl

pub length_ciphered : (key nonce text : List ℕ) → length (ciphered key nonce text) ≡ length text
unfolding ciphered
length_ciphered key nonce text = length-xored text (stream key nonce (blocks_in (length text)))

-- ---- it may be written

both : (a b : Bool) → a ≡ true → b ≡ true → (a && b) ≡ true
both a b p q = rw (p, q) refl

right_turns : (strength : Strength) → is_iter (turns_of strength) ≡ true
right_turns OfText = refl
right_turns OfKey = refl

right_bits : (strength : Strength) → is_key_size (bits_of strength) ≡ true
right_bits OfText = refl
right_bits OfKey = refl

right_iv : (iv : List ℕ) → length iv ≡ 16 → is_iv iv ≡ true
right_iv iv long = rw long refl

right_salt : (salt : List ℕ) → length salt ≡ 8 → is_salt salt ≡ true
right_salt salt long = rw long refl

abbrev pub made : Grain → Strength → List ℕ → SjclChunk
made grain strength ct = record {
  iv = grain.iv;
  iter = turns_of strength;
  ks = bits_of strength;
  ts = 64;
  salt = grain.salt;
  ct = ct;
}

-- a chunk of a short text and a tag of 64 bits
brief_chunk : (c : SjclChunk) (n : ℕ) → is_iv c.iv ≡ true → is_iter c.iter ≡ true → is_key_size c.ks ≡ true
    → c.ts ≡ 64 → is_salt c.salt ≡ true → length c.ct ≡ n + 8 → n < 65536 → is_brief c ≡ true
brief_chunk c n iv iter ks ts salt size short =
    let tag : is_tag_size c.ts ≡ true = rw ts refl in
    let eighth : c.ts / 8 ≡ 8 = rw ts refl in
    let low : nat_le (c.ts / 8) (length c.ct) ≡ true = le-leb (c.ts / 8) (length c.ct) (omega arith) in
    let high : nat_le (length c.ct) (2 ^ 24 + c.ts / 8) ≡ true =
    le-leb (length c.ct) (2 ^ 24 + c.ts / 8) (omega arith) in
    let ct : is_ct c.ts c.ct ≡ true =
    both (nat_le (c.ts / 8) (length c.ct)) (nat_le (length c.ct) (2 ^ 24 + c.ts / 8)) low high in
    let few : nat_le (length c.ct) 12000000 ≡ true = le-leb (length c.ct) 12000000 (omega arith) in
    let first = both (is_iv c.iv) (is_iter c.iter) iv iter in
    let second = both (is_iv c.iv && is_iter c.iter) (is_key_size c.ks) first ks in
    let third = both (is_iv c.iv && is_iter c.iter && is_key_size c.ks) (is_tag_size c.ts) second tag in
    let fourth = both (is_iv c.iv && is_iter c.iter && is_key_size c.ks && is_tag_size c.ts) (is_salt c.salt) third salt in
    let valid = both (is_iv c.iv && is_iter c.iter && is_key_size c.ks && is_tag_size c.ts && is_salt c.salt)
    (is_ct c.ts c.ct) fourth ct in
    both (is_chunk c) (nat_le (length c.ct) 12000000) valid few

pub brief_piece : (strength : Strength) (piece key nonce ct : List ℕ) (grain : Grain) (c : SjclChunk)
    → c ≡ made grain strength ct → ct ≡ ciphered key nonce piece ++ tag_of key nonce [] piece 8
    → length grain.iv ≡ 16 → length grain.salt ≡ 8 → length piece < 65536 → is_brief c ≡ true
brief_piece strength piece key nonce ct grain c is enciphered iv salt short =
    let size : length ct ≡ length piece + 8 =
    omega (
      arith,
      ap length enciphered,
      length-append (ciphered key nonce piece) (tag_of key nonce [] piece 8),
      length_ciphered key nonce piece,
      length-tag_of key nonce [] piece 8 (omega arith),
    ) in
    ap is_brief is
    ∙ brief_chunk (made grain strength ct) (length piece) (right_iv grain.iv iv) (right_turns strength) (right_bits strength)
    refl (right_salt grain.salt salt) size short
