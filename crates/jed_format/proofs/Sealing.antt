-- The parameters of a valid chunk are good, and what was sealed is opened.
use Rattle.std.proofs.Common.{◌≡◌, ℕ, ◌-◌, ◌*◌, ◌/◌, ◌%◌, ◌^◌, ◌<◌, ◌≤◌, max, true, false, ◌==◌, nat_le, nat_lt, bytes_eq, List, [], ◌++◌, length, take, drop, Some, None, refl, sym, ap, ◌∙◌, arith, inl, inr, length-append, length-drop, if◌then◌else◌}
use Rattle.std.proofs.Math.Pow.{pow_mono}
use Rattle.std.proofs.lemmas.Bool.{cases_lt, le-leb, lt-ltb, false_from_ne_true}
use Rattle.std.proofs.lemmas.Bool.Decides.{nat_tests}
use Rattle.std.proofs.lemmas.List.{take_at, take_rest, drop_at, length-take-le}
use Rattle.std.proofs.lemmas.Slice.Eq.{bytes_eq-Decides}
use Rattle.aes_ccm.specs.Aes.{is_key_len}
use Rattle.aes_ccm.specs.Ccm.{ciphered, tag_of, are_good, stream, blocks_in}
use Rattle.aes_ccm.proofs.Chained.{ciphered-ciphered}
use Rattle.aes_ccm.proofs.Tag.{length-tag_of}
use Rattle.aes_ccm.proofs.Xored.{length-xored}
use Rattle.jed_format.specs.Chunk.{is_chunk, is_key_size, is_tag_size}
use Rattle.jed_format.specs.Opening.{key_of_password, length_size, nonce_of, sealed_len, sealed_in, tag_in, plain_of, right_tag, opened_piece}
use Rattle.jed_format.specs.Sealed.{IsSealed}
use Rattle.jed_format.specs.declared.sjcl_chunk.SjclChunk.{SjclChunk}
use Rattle.jed_format.proofs.Valid.{key_size_of, tag_size_of, limits_of}

-- ---- sizes

pub is_key_len-eighth : (ks : ℕ) → is_key_size ks ≡ true → is_key_len (ks / 8) ≡ true
is_key_len-eighth ks is = key_size_of (λ n. is_key_len (n / 8) ≡ true) refl refl refl ks is

record IsTagLen (t : ℕ) : Type 0 where
  low : nat_le 4 t ≡ true
  high : nat_le t 16 ≡ true
  even : (t % 2 == 0) ≡ true
  small : t ≤ 16

tag_len : (ts : ℕ) → is_tag_size ts ≡ true → IsTagLen (ts / 8)
tag_len ts is =
    let each : (n : ℕ) → nat_le 4 n ≡ true → nat_le n 16 ≡ true → (n % 2 == 0) ≡ true → n ≤ 16 → IsTagLen n =
    λ n a b d e. record { low = a; high = b; even = d; small = e } in
    tag_size_of (λ n. IsTagLen (n / 8)) (each 8 refl refl refl (omega arith)) (each 12 refl refl refl (omega arith))
    (each 16 refl refl refl (omega arith)) ts is

pub tag_len-le : (ts : ℕ) → is_tag_size ts ≡ true → ts / 8 ≤ 16
tag_len-le ts is = (tag_len ts is).small

-- ---- the nonce

record IsSize (s n : ℕ) : Type 0 where
  low : 2 ≤ s
  high : s ≤ 4
  fits : n < 2 ^ (8 * s)

length_size-fits : (n : ℕ) → n ≤ 2 ^ 24 → IsSize (length_size n) n
length_size-fits n small = elim (cases_lt n (256 ^ 2)) [
  | inl two ↦
      let a : nat_lt n (256 ^ 2) ≡ true = lt-ltb n (256 ^ 2) two in
      rw a (record { low = omega arith; high = omega arith; fits = omega arith })
  | inr more ↦ elim (cases_lt n (256 ^ 3)) [
    | inl three ↦
        let a : nat_lt n (256 ^ 2) ≡ false = grind (arith, nat_tests) in
        let b : nat_lt n (256 ^ 3) ≡ true = lt-ltb n (256 ^ 3) three in
        rw (a, b) (record { low = omega arith; high = omega arith; fits = omega arith })
    | inr four ↦
        let a : nat_lt n (256 ^ 2) ≡ false = grind (arith, nat_tests) in
        let b : nat_lt n (256 ^ 3) ≡ false = grind (arith, nat_tests) in
        rw (a, b) (record { low = omega arith; high = omega arith; fits = omega arith })
  ]
]

pub nonce_within : (iv : List ℕ) (n : ℕ) → 7 ≤ length iv → n ≤ 2 ^ 24
    → 15 - max (length_size n) (15 - length iv) ≤ length iv
nonce_within iv n long small =
    let size = length_size-fits n small in
    omega (arith, size.low, size.high)

pub good_params : (iv : List ℕ) (ts n : ℕ) → 7 ≤ length iv → is_tag_size ts ≡ true → n ≤ 2 ^ 24
    → are_good (length (nonce_of iv n)) (ts / 8) 0 n ≡ true
good_params iv ts n long is small =
    let size = length_size-fits n small in
    let tag = tag_len ts is in
    let l : ℕ = 15 - max (length_size n) (15 - length iv) in
    let same : length (nonce_of iv n) ≡ l = length-take-le l iv (nonce_within iv n long small) in
    let places : 8 * length_size n ≤ 8 * (15 - l) = omega (arith, size.low, size.high) in
    let fits : n < 2 ^ (8 * (15 - l)) = omega (arith, size.fits, pow_mono places) in
    let low : nat_le 7 l ≡ true = le-leb 7 l (omega (arith, size.low, size.high)) in
    let high : nat_le l 13 ≡ true = le-leb l 13 (omega (arith, size.low, size.high)) in
    let room : nat_lt n (2 ^ (8 * (15 - l))) ≡ true = lt-ltb n (2 ^ (8 * (15 - l))) fits in
    rw (same, low, high, tag.low, tag.high, tag.even, room) refl

-- ---- what was sealed is opened

length-ciphered : (key nonce text : List ℕ) → length (ciphered key nonce text) ≡ length text
unfolding ciphered
length-ciphered key nonce text = length-xored text (stream key nonce (blocks_in (length text)))

pub opened-sealed : (password : List ℕ) (c : SjclChunk) (piece : List ℕ) → c.ts / 8 ≤ 16
    → IsSealed password c piece → opened_piece password c ≡ Some piece
unfolding opened_piece
opened-sealed password c piece short is =
    let key : List ℕ = key_of_password password c in
    let nonce : List ℕ = nonce_of c.iv (length piece) in
    let text : List ℕ = ciphered key nonce piece in
    let tag : List ℕ = tag_of key nonce [] piece (c.ts / 8) in
    let text_len : length text ≡ length piece = length-ciphered key nonce piece in
    let tag_len : length tag ≡ c.ts / 8 = length-tag_of key nonce [] piece (c.ts / 8) short in
    let len : sealed_len c ≡ length piece = omega (arith, ap length is, length-append text tag, text_len, tag_len) in
    let front : sealed_in c ≡ text =
    ap (λ k. take k c.ct) (len ∙ sym text_len) ∙ ap (take (length text)) is ∙ take_at text tag (length text) refl in
    let end : tag_in c ≡ tag =
    ap (λ k. drop k c.ct) (len ∙ sym text_len) ∙ ap (drop (length text)) is ∙ drop_at text tag (length text) refl in
    let plain : plain_of password c ≡ piece =
    ap (λ k. ciphered key (nonce_of c.iv k) (sealed_in c)) len ∙ ap (ciphered key nonce) front
    ∙ ciphered-ciphered key nonce piece in
    let right : right_tag password c (plain_of password c) ≡ tag =
    ap (λ (p : List ℕ). right_tag password c p) plain
    ∙ ap (λ k. tag_of key (nonce_of c.iv k) [] piece (c.ts / 8)) len in
    let test : bytes_eq (tag_in c) (right_tag password c (plain_of password c)) ≡ true =
    (bytes_eq-Decides (tag_in c) (right_tag password c (plain_of password c))).1 (end ∙ sym right) in
    ap (λ b. if b then Some (plain_of password c) else None) test ∙ ap Some plain

-- ---- what the code finds

-- the values of the code: a key, a nonce, the sealed bytes, and the tag behind them
pub record Cut (password : List ℕ) (c : SjclChunk) (key nonce sealed tag : List ℕ) (end : ℕ) : Type 0 where
  pub is_end : end ≡ sealed_len c
  pub is_key : key ≡ key_of_password password c
  pub is_nonce : nonce ≡ nonce_of c.iv end
  pub is_sealed : sealed ≡ take end c.ct
  pub is_tag : tag ≡ drop end c.ct
  pub fits : c.ts / 8 ≤ length c.ct

pub cut_of : (password : List ℕ) (c : SjclChunk) (key nonce sealed items ct iv : List ℕ) (eighth : ℕ)
    → is_chunk c ≡ true → ct ≡ c.ct → iv ≡ c.iv → eighth ≡ c.ts / 8
    → key ≡ key_of_password password c
    → nonce ≡ nonce_of iv (length ct - eighth) → sealed ≡ items → items ≡ take (length ct - eighth) ct
    → Cut password c key nonce sealed
    (take (length ct - (length ct - eighth)) (drop (length ct - eighth) ct)) (length ct - eighth)
cut_of password c key nonce sealed items ct iv eighth valid ect eiv ets ekey enonce esealed eitems =
    let limits = limits_of c valid in
    let end : ℕ = length ct - eighth in
    record {
      is_end = omega (arith, ap length ect, ets);
      is_key = ekey;
      is_nonce = enonce ∙ ap (λ (v : List ℕ). nonce_of v end) eiv;
      is_sealed = esealed ∙ eitems ∙ ap (λ (v : List ℕ). take end v) ect;
      is_tag = take_rest ct end ∙ ap (λ (v : List ℕ). drop end v) ect;
      fits = limits.has_tag;
    }

-- the text that is left where a slice was written back over it
pub written_back : (new old : List ℕ) (len : ℕ) → len ≡ length new → take len (new ++ drop (length new) old) ≡ new
written_back new old len e = take_at new (drop (length new) old) len (sym e)

pub length-plain : (key nonce sealed new : List ℕ) → new ≡ ciphered key nonce sealed → length new ≡ length sealed
length-plain key nonce sealed new e = ap length e ∙ length-ciphered key nonce sealed

pub cut_good : (password : List ℕ) (c : SjclChunk) (key nonce sealed tag : List ℕ) (end : ℕ) → is_chunk c ≡ true
    → Cut password c key nonce sealed tag end
    → are_good (length nonce) (length tag) 0 (length sealed) ≡ true
cut_good password c key nonce sealed tag end valid cut =
    let limits = limits_of c valid in
    let within : end ≤ length c.ct = omega (arith, cut.is_end) in
    let small : end ≤ 2 ^ 24 = omega (arith, cut.is_end, limits.short) in
    let tag_size : length tag ≡ c.ts / 8 =
    omega (arith, ap length cut.is_tag, length-drop end c.ct, cut.is_end, cut.fits) in
    let sealed_size : length sealed ≡ end = ap length cut.is_sealed ∙ length-take-le end c.ct within in
    ap (λ (n : List ℕ). are_good (length n) (length tag) 0 (length sealed)) cut.is_nonce
    ∙ ap (λ t. are_good (length (nonce_of c.iv end)) t 0 (length sealed)) tag_size
    ∙ ap (λ p. are_good (length (nonce_of c.iv end)) (c.ts / 8) 0 p) sealed_size
    ∙ good_params c.iv c.ts end limits.long_iv limits.is_tag_size small

cut_plain : (password : List ℕ) (c : SjclChunk) (key nonce sealed tag : List ℕ) (end : ℕ)
    → Cut password c key nonce sealed tag end → ciphered key nonce sealed ≡ plain_of password c
cut_plain password c key nonce sealed tag end cut =
    ap (λ (k : List ℕ). ciphered k nonce sealed) cut.is_key
    ∙ ap (λ (n : List ℕ). ciphered (key_of_password password c) n sealed) (cut.is_nonce ∙ ap (nonce_of c.iv) cut.is_end)
    ∙ ap (ciphered (key_of_password password c) (nonce_of c.iv (sealed_len c))) (cut.is_sealed ∙ ap (λ k. take k c.ct) cut.is_end)

cut_tag : (password : List ℕ) (c : SjclChunk) (key nonce sealed tag : List ℕ) (end : ℕ)
    → Cut password c key nonce sealed tag end
    → tag_of key nonce [] (ciphered key nonce sealed) (length tag) ≡ right_tag password c (plain_of password c)
cut_tag password c key nonce sealed tag end cut =
    let size : length tag ≡ c.ts / 8 =
    omega (arith, ap length cut.is_tag, length-drop end c.ct, cut.is_end, cut.fits) in
    ap (λ t. tag_of key nonce [] (ciphered key nonce sealed) t) size
    ∙ ap (λ (p : List ℕ). tag_of key nonce [] p (c.ts / 8)) (cut_plain password c key nonce sealed tag end cut)
    ∙ ap (λ (k : List ℕ). tag_of k nonce [] (plain_of password c) (c.ts / 8)) cut.is_key
    ∙ ap (λ (n : List ℕ). tag_of (key_of_password password c) n [] (plain_of password c) (c.ts / 8))
    (cut.is_nonce ∙ ap (nonce_of c.iv) cut.is_end)

pub opened_right : (password : List ℕ) (c : SjclChunk) (key nonce sealed tag plain : List ℕ) (end : ℕ)
    → Cut password c key nonce sealed tag end → plain ≡ ciphered key nonce sealed
    → tag ≡ tag_of key nonce [] plain (length tag) → Some plain ≡ opened_piece password c
unfolding opened_piece
opened_right password c key nonce sealed tag plain end cut is right =
    let own : tag_in c ≡ tag = sym (cut.is_tag ∙ ap (λ k. drop k c.ct) cut.is_end) in
    let same : tag_in c ≡ right_tag password c (plain_of password c) =
    own ∙ right ∙ ap (λ (p : List ℕ). tag_of key nonce [] p (length tag)) is ∙ cut_tag password c key nonce sealed tag end cut in
    let test : bytes_eq (tag_in c) (right_tag password c (plain_of password c)) ≡ true =
    (bytes_eq-Decides (tag_in c) (right_tag password c (plain_of password c))).1 same in
    ap Some (is ∙ cut_plain password c key nonce sealed tag end cut)
    ∙ sym (ap (λ b. if b then Some (plain_of password c) else None) test)

pub opened_wrong : (password : List ℕ) (c : SjclChunk) (key nonce sealed tag : List ℕ) (end : ℕ)
    → Cut password c key nonce sealed tag end
    → (tag ≡ tag_of key nonce [] (ciphered key nonce sealed) (length tag) → ⊥) → None ≡ opened_piece password c
unfolding opened_piece
opened_wrong password c key nonce sealed tag end cut wrong =
    let own : tag ≡ tag_in c = cut.is_tag ∙ ap (λ k. drop k c.ct) cut.is_end in
    let test : bytes_eq (tag_in c) (right_tag password c (plain_of password c)) ≡ false =
    false_from_ne_true (bytes_eq (tag_in c) (right_tag password c (plain_of password c)))
    (λ e. wrong (own ∙ (bytes_eq-Decides (tag_in c) (right_tag password c (plain_of password c))).0 e
    ∙ sym (cut_tag password c key nonce sealed tag end cut))) in
    sym (ap (λ b. if b then Some (plain_of password c) else None) test)
