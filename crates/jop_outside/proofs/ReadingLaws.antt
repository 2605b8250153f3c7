-- A source that is read piece by piece.
use Rattle.std.proofs.Common.{◌≡◌, ◌≤◌, ◌<◌, ◌+◌, ◌∙◌, refl, ap, arith, ℕ, List, [], ◌++◌, length, take, drop, append_assoc, append-nil, take-append-drop, length-append, Option, Some, None, Ok, Err}
use Rattle.std.proofs.Math.Seq.{drop-append_seam}
use Rattle.jop_outside.specs.Outside.{SourceNow, Reads}
use Rattle.jop_outside.specs.Reading.{IsAllOf, IsPastLimit, IsRestOf, SoFar, IsAt}
use Rattle.jop_outside.specs.declared.failed.Failed.{Failed}

SoFar-nil : (a : Option (List ℕ)) → SoFar a [] a
SoFar-nil None = refl
SoFar-nil (Some before) = (before, refl, refl)

pub at_start : (limit : ℕ) (old : SourceNow) → IsAt limit old [] old
at_start limit old = record { so_far = SoFar-nil old.left; within = omega arith; stays = refl }

pub SoFar-more : (a b c : Option (List ℕ)) (bytes into : List ℕ) (count : ℕ)
    → SoFar a bytes b → Reads b (Ok count) into c → SoFar a (bytes ++ take count into) c
SoFar-more None None c bytes into count h k = k
SoFar-more None (Some w) c bytes into count h k = cc
SoFar-more (Some v) None c bytes into count h k = cc
SoFar-more (Some v) (Some w) c bytes into count h k =
    let rest : w ≡ h.0 = cc in
    let parts = take-append-drop count w in
    let joined = append_assoc bytes (take count w) (drop count w) in
    let given = k.given in
    (drop count w, cc (h.1), k.left)

pub SoFar-failed : (a b c : Option (List ℕ)) (bytes into : List ℕ) (e : Failed)
    → SoFar a bytes b → Reads b (Err e) into c → SoFar a bytes c
SoFar-failed None None c bytes into e h k = k
SoFar-failed None (Some w) c bytes into e h k = cc
SoFar-failed (Some v) None c bytes into e h k = cc
SoFar-failed (Some v) (Some w) c bytes into e h k = (h.0, h.1, k ∙ h.2)

pub SoFar-rest : (limit : ℕ) (a b : Option (List ℕ)) (bytes : List ℕ)
    → length bytes ≤ limit + 1 → SoFar a bytes b → IsRestOf limit a b
SoFar-rest limit None b bytes within h = h
SoFar-rest limit (Some v) b bytes within h =
    let seam = drop-append_seam bytes h.0 in
    (length bytes, within, cc (h.1, h.2))

pub SoFar-past : (limit : ℕ) (a b : Option (List ℕ)) (bytes : List ℕ)
    → length bytes ≡ limit + 1 → SoFar a bytes b → IsPastLimit limit a b
SoFar-past limit None b bytes is h = h
SoFar-past limit (Some v) b bytes is h =
    let seam = drop-append_seam bytes h.0 in
    let long : length v ≡ length bytes + length h.0 = ap length h.1 ∙ length-append bytes h.0 in
    (omega (arith, long, is), cc (h.1, h.2))

pub SoFar-ended : (a b c : Option (List ℕ)) (bytes into : List ℕ)
    → 0 < length into → SoFar a bytes b → Reads b (Ok 0) into c → IsAllOf a bytes c
SoFar-ended None None c bytes into room h k = k
SoFar-ended None (Some w) c bytes into room h k = cc
SoFar-ended (Some v) None c bytes into room h k = cc
SoFar-ended (Some v) (Some w) c bytes into room h k =
    let rest : w ≡ h.0 = cc in
    let none : w ≡ [] = k.ended room refl in
    let alone = append-nil bytes in
    (cc (h.1), k.left ∙ ap (λ (l : List ℕ). Some (drop 0 l)) none)
