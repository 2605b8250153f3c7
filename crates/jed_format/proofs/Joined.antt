-- What the pieces of a sealed text give, one after the other.
use Rattle.std.proofs.Common.{◌≡◌, ℕ, ◌+◌, ◌<◌, List, [], ◌∷◌, ◌++◌, length, drop, get_or, Option, Ok, refl, sym, ap, ◌∙◌, arith, append-nil}
use Rattle.std.proofs.lemmas.List.{drop_more, drop_all}
use Rattle.jed_format.specs.Jed.{behind}
use Rattle.jed_format.specs.Opening.{part, opened_piece, then_joined, joined_pieces}
use Rattle.jed_format.specs.Refusals.{Refuses}
use Rattle.jed_format.specs.declared.jed_err.JedErr.{JedErr}
use Rattle.jed_format.specs.declared.sjcl_chunk.SjclChunk.{SjclChunk}
use Rattle.jed_format.proofs.Chunks.{behind-behind, behind-nil, refuses_first}

pub joined_one : (read : List ℕ → Option (List ℕ)) (password : List ℕ) (n : ℕ) (c : SjclChunk) (more : List SjclChunk)
    → joined_pieces read password n (c ∷ more)
    ≡ then_joined (part read n (opened_piece password c)) (joined_pieces read password (n + 1) more)
unfolding joined_pieces
joined_one read password n c more = refl

pub joined_none : (read : List ℕ → Option (List ℕ)) (password : List ℕ) (n : ℕ) → joined_pieces read password n [] ≡ Ok []
unfolding joined_pieces
joined_none read password n = refl

-- the chunks up to a place gave this; the rest is to come
pub record Joins (read : List ℕ → Option (List ℕ)) (password : List ℕ) (chunks : List SjclChunk)
    (out : List ℕ) (at : ℕ) : Type 0 where
  pub whole : joined_pieces read password 1 chunks ≡ behind out (joined_pieces read password (at + 1) (drop at chunks))

pub joins_first : (read : List ℕ → Option (List ℕ)) (password : List ℕ) (chunks : List SjclChunk) (out : List ℕ)
    → out ≡ [] → Joins read password chunks out 0
joins_first read password chunks out none = record {
  whole = sym (behind-nil (joined_pieces read password 1 chunks))
      ∙ ap (λ (xs : List ℕ). behind xs (joined_pieces read password 1 chunks)) (sym none);
}

at_place : (read : List ℕ → Option (List ℕ)) (password : List ℕ) (chunks : List SjclChunk) (at : ℕ) (c : SjclChunk)
    → at < length chunks → c ≡ get_or chunks at c
    → joined_pieces read password (at + 1) (drop at chunks)
    ≡ then_joined (part read (at + 1) (opened_piece password c)) (joined_pieces read password (at + 1 + 1) (drop (at + 1) chunks))
at_place read password chunks at c lt is =
    ap (joined_pieces read password (at + 1)) (drop_more chunks at c lt ∙ ap (λ (x : SjclChunk). x ∷ drop (at + 1) chunks) (sym is))
    ∙ joined_one read password (at + 1) c (drop (at + 1) chunks)

pub joins_next : {read : List ℕ → Option (List ℕ)} {password : List ℕ} {chunks : List SjclChunk}
    {out : List ℕ} {at : ℕ} (c : SjclChunk) (xs new : List ℕ)
    → Joins read password chunks out at → at < length chunks → c ≡ get_or chunks at c
    → part read (at + 1) (opened_piece password c) ≡ Ok xs → new ≡ out ++ xs
    → Joins read password chunks new (at + 1)
joins_next {read} {password} {chunks} {out} {at} c xs new held lt is gave put =
    let rest = joined_pieces read password (at + 1 + 1) (drop (at + 1) chunks) in
    record {
      whole = held.whole
          ∙ ap (behind out) (at_place read password chunks at c lt is ∙ ap (λ r. then_joined r rest) gave)
          ∙ behind-behind out xs rest ∙ ap (λ (ys : List ℕ). behind ys rest) (sym put);
    }

pub joins_refused : {read : List ℕ → Option (List ℕ)} {password : List ℕ} {chunks : List SjclChunk}
    {out : List ℕ} {at : ℕ} (c : SjclChunk) (e : JedErr)
    → Joins read password chunks out at → at < length chunks → c ≡ get_or chunks at c
    → Refuses (part read (at + 1) (opened_piece password c)) e
    → Refuses (joined_pieces read password 1 chunks) e
joins_refused {read} {password} {chunks} {out} {at} c e held lt is refused =
    let rest = joined_pieces read password (at + 1 + 1) (drop (at + 1) chunks) in
    refuses_first (part read (at + 1) (opened_piece password c))
    (joined_pieces read password 1 chunks)
    (λ e gave. held.whole
    ∙ ap (behind out) (at_place read password chunks at c lt is ∙ ap (λ r. then_joined r rest) gave))
    e refused

pub joins_all : {read : List ℕ → Option (List ℕ)} {password : List ℕ} {chunks : List SjclChunk}
    {out : List ℕ} {at : ℕ}
    → Joins read password chunks out at → length chunks ≡ at → joined_pieces read password 1 chunks ≡ Ok out
joins_all {read} {password} {chunks} {out} {at} held end =
    held.whole ∙ ap (λ cs. behind out (joined_pieces read password (at + 1) cs)) (drop_all at chunks (omega arith))
    ∙ ap (behind out) (joined_none read password (at + 1)) ∙ ap Ok (append-nil out)
