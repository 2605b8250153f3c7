-- Bytes that are written piece by piece.
use Rattle.std.proofs.Common.{◌≡◌, ◌≤◌, ◌<◌, ◌+◌, suc, length, get_or, add-one, drop-cons, ◌∙◌, refl, sym, ap, subst, arith, ℕ, List, [], ◌++◌, take, drop, append_assoc, append-nil, take-append-drop, Option, Some, None, Ok, Err}
use Rattle.std.specs.List.{flat_map}
use Rattle.std.proofs.lemmas.List.Concat.{flat_map-cons}
use Rattle.jop_outside.specs.Outside.{SinkNow, Writes, HasRisen}
use Rattle.jop_outside.specs.Writing.{Appends, WasWritten, WasCut}
use Rattle.jop_outside.specs.declared.failed.Failed.{Failed}

-- so much of the bytes was written, without a fault, and the rest is still to be written
pub record IsAt (old : SinkNow) (bytes : List ℕ) (new : SinkNow) (rest : List ℕ) : Type 0 where
  pub start : List ℕ
  pub split : start ++ rest ≡ bytes
  pub written : Appends old.written start new.written
  pub stays : new.faults ≡ old.faults

Appends-nil : (a : Option (List ℕ)) → Appends a [] a
Appends-nil None = refl
Appends-nil (Some w) = ap (λ (l : List ℕ). Some l) (sym (append-nil w))

Appends-append : (a b c : Option (List ℕ)) (first second : List ℕ)
    → Appends a first b → Appends b second c → Appends a (first ++ second) c
Appends-append None None c first second h k = k
Appends-append None (Some w) c first second h k = cc
Appends-append (Some v) None c first second h k = cc
Appends-append (Some v) (Some w) c first second h k = let joined = append_assoc v first second in cc

Appends-taken : (a b : Option (List ℕ)) (from : List ℕ) (count : ℕ)
    → Writes a from (Ok count) b → Appends a (take count from) b
Appends-taken None b from count h = h
Appends-taken (Some v) b from count h = h

Appends-failed : (a b : Option (List ℕ)) (from : List ℕ) (e : Failed)
    → Writes a from (Err e) b → Appends a [] b
Appends-failed None b from e h = h
Appends-failed (Some v) b from e h = let alone = append-nil v in cc

pub at_start : (old : SinkNow) (bytes : List ℕ) → IsAt old bytes old bytes
at_start old bytes =
    record { start = []; split = refl; written = Appends-nil old.written; stays = refl }

-- a part more was written whole
pub at_next : (old mid new : SinkNow) (bytes part rest : List ℕ)
    → IsAt old bytes mid (part ++ rest) → WasWritten mid part new → IsAt old bytes new rest
at_next old mid new bytes part rest at more = record {
  start = at.start ++ part;
  split = append_assoc at.start part rest ∙ at.split;
  written = Appends-append old.written mid.written new.written at.start part at.written more.whole;
  stays = more.stays ∙ at.stays;
}

-- a write took a piece
pub at_taken : (old mid new : SinkNow) (bytes rest : List ℕ) (count : ℕ)
    → IsAt old bytes mid rest → Writes mid.written rest (Ok count) new.written
    → new.faults ≡ mid.faults
    → IsAt old bytes new (drop count rest)
at_taken old mid new bytes rest count at writes stays =
    let pieces : rest ≡ take count rest ++ drop count rest = sym (take-append-drop count rest) in
    at_next old mid new bytes (take count rest) (drop count rest)
    (subst (λ (l : List ℕ). IsAt old bytes mid l) pieces at)
    (record { whole = Appends-taken mid.written new.written rest count writes; stays = stays })

-- a part was cut
pub at_cut : (old mid new : SinkNow) (bytes part rest : List ℕ)
    → IsAt old bytes mid (part ++ rest) → WasCut mid part new → WasCut old bytes new
at_cut old mid new bytes part rest at cut = record {
  start = at.start ++ cut.start;
  rest = cut.rest ++ rest;
  split =
      let outer = append_assoc at.start cut.start (cut.rest ++ rest) in
      let inner = append_assoc cut.start cut.rest rest in
      let same = cut.split in
      cc (at.split);
  written =
      Appends-append old.written mid.written new.written at.start cut.start at.written cut.written;
  later = omega (arith, cut.later, at.stays);
  rose = let rose = cut.rose in let same = at.stays in omega arith;
}

-- a write failed
pub at_failed : (old mid new : SinkNow) (bytes rest : List ℕ) (e : Failed)
    → IsAt old bytes mid rest → Writes mid.written rest (Err e) new.written
    → mid.faults ≤ new.faults → HasRisen mid.faults new.faults → WasCut old bytes new
at_failed old mid new bytes rest e at writes later rose = record {
  start = at.start ++ [];
  rest = rest;
  split = let alone = append-nil at.start in cc (at.split);
  written = Appends-append old.written mid.written new.written at.start [] at.written
      (Appends-failed mid.written new.written rest e writes);
  later = omega (arith, at.stays);
  rose = let same = at.stays in omega arith;
}

flat_map-drop : {X : Type 0} (f : X → List ℕ) (xs : List X) (i : ℕ) (d : X) → i < length xs
    → flat_map f (drop i xs) ≡ f (get_or xs i d) ++ flat_map f (drop (i + 1) xs)
flat_map-drop f xs i d within =
    rw (add-one, drop-cons xs i d) (flat_map-cons f (get_or xs i d) (drop (suc i) xs))

-- the next of many parts
pub at_part : {X : Type 0} (f : X → List ℕ) (old mid : SinkNow) (parts : List X) (i : ℕ) (d : X)
    → i < length parts → IsAt old (flat_map f parts) mid (flat_map f (drop i parts))
    → IsAt old (flat_map f parts) mid (f (get_or parts i d) ++ flat_map f (drop (i + 1) parts))
at_part f old mid parts i d within at =
    subst (λ (rest : List ℕ). IsAt old (flat_map f parts) mid rest)
    (flat_map-drop f parts i d within) at

pub at_end : (old new : SinkNow) (bytes : List ℕ) → IsAt old bytes new [] → WasWritten old bytes new
at_end old new bytes at =
    let whole : at.start ≡ bytes = sym (append-nil at.start) ∙ at.split in
    record {
      whole = subst (λ (l : List ℕ). Appends old.written l new.written) whole at.written;
      stays = at.stays;
    }
