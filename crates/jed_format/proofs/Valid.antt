-- What a valid chunk has.
use Rattle.std.proofs.Common.{◌≡◌, ℕ, ◌+◌, ◌/◌, ◌≤◌, ◌^◌, true, ◌&&◌, ◌||◌, ◌==◌, nat_le, length, sym, subst, inl, inr, arith}
use Rattle.std.proofs.lemmas.Bool.{cases_Bool, and_parts, eqb-true, leb-true}
use Rattle.jed_format.specs.Chunk.{is_chunk, is_iv, is_iter, is_key_size, is_tag_size, is_salt, is_ct}
use Rattle.jed_format.specs.declared.sjcl_chunk.SjclChunk.{SjclChunk}

-- one of three numbers
one_of : (P : ℕ → Type 0) (x y z : ℕ) → P x → P y → P z → (n : ℕ) → (n == x || n == y || n == z) ≡ true → P n
one_of P x y z a b d n h = elim (cases_Bool (n == x)) [
  | inl first ↦ subst P (sym (eqb-true n x first)) a
  | inr other ↦ elim (cases_Bool (n == y)) [
    | inl second ↦ subst P (sym (eqb-true n y second)) b
    | inr neither ↦
        let third : n == z ≡ true = rw (other, neither) at h in
        subst P (sym (eqb-true n z third)) d
  ]
]

pub key_size_of : (P : ℕ → Type 0) → P 128 → P 192 → P 256 → (n : ℕ) → is_key_size n ≡ true → P n
key_size_of P a b d n h = one_of P 128 192 256 a b d n h

pub tag_size_of : (P : ℕ → Type 0) → P 64 → P 96 → P 128 → (n : ℕ) → is_tag_size n ≡ true → P n
tag_size_of P a b d n h = one_of P 64 96 128 a b d n h

pub record Limits (c : SjclChunk) : Type 0 where
  pub is_iter : is_iter c.iter ≡ true
  pub is_key_size : is_key_size c.ks ≡ true
  pub is_tag_size : is_tag_size c.ts ≡ true
  pub long_iv : 7 ≤ length c.iv
  pub brief_iv : length c.iv ≤ 64
  pub brief_salt : length c.salt ≤ 64
  pub some_turns : 1 ≤ c.iter
  pub few_turns : c.iter ≤ 100000
  pub small_key : c.ks ≤ 256
  pub small_tag : c.ts ≤ 128
  pub has_tag : c.ts / 8 ≤ length c.ct
  pub short : length c.ct ≤ 2 ^ 24 + c.ts / 8

pub limits_of : (c : SjclChunk) → is_chunk c ≡ true → Limits c
limits_of c valid =
    let a = and_parts (is_iv c.iv && is_iter c.iter && is_key_size c.ks && is_tag_size c.ts && is_salt c.salt) (is_ct c.ts c.ct) valid in
    let b = and_parts (is_iv c.iv && is_iter c.iter && is_key_size c.ks && is_tag_size c.ts) (is_salt c.salt) a.0 in
    let d = and_parts (is_iv c.iv && is_iter c.iter && is_key_size c.ks) (is_tag_size c.ts) b.0 in
    let e = and_parts (is_iv c.iv && is_iter c.iter) (is_key_size c.ks) d.0 in
    let f = and_parts (is_iv c.iv) (is_iter c.iter) e.0 in
    let iv = and_parts (nat_le 7 (length c.iv)) (nat_le (length c.iv) 64) f.0 in
    let iter = and_parts (nat_le 1 c.iter) (nat_le c.iter 100000) f.1 in
    let ct = and_parts (nat_le (c.ts / 8) (length c.ct)) (nat_le (length c.ct) (2 ^ 24 + c.ts / 8)) a.1 in
    record {
      is_iter = f.1;
      is_key_size = e.1;
      is_tag_size = d.1;
      long_iv = leb-true 7 (length c.iv) iv.0;
      brief_iv = leb-true (length c.iv) 64 iv.1;
      brief_salt = leb-true (length c.salt) 64 b.1;
      some_turns = leb-true 1 c.iter iter.0;
      few_turns = leb-true c.iter 100000 iter.1;
      small_key = key_size_of (λ n. n ≤ 256) (omega arith) (omega arith) (omega arith) c.ks e.1;
      small_tag = tag_size_of (λ n. n ≤ 128) (omega arith) (omega arith) (omega arith) c.ts d.1;
      has_tag = leb-true (c.ts / 8) (length c.ct) ct.0;
      short = leb-true (length c.ct) (2 ^ 24 + c.ts / 8) ct.1;
    }
